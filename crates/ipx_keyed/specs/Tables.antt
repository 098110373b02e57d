-- Who is a client, and who is remembered because he registered: after each event, from what was before it.
use Rattle.std.specs.Prelude.{ℕ, Bool, true, false, ◌&&◌, ◌||◌, if◌then◌else◌, List, [], ◌∷◌, ◌++◌, map}
use Rattle.std.specs.List.{filter}
use Rattle.ipx_tunnel.specs.Numbers.{answer_lasts, trust_lasts}
use Rattle.ipx_tunnel.specs.Places.{same_node}
use Rattle.ipx_keyed.specs.declared.client.Client.{Client}
use Rattle.ipx_keyed.specs.declared.said.Said.{Said}
use Rattle.ipx_keyed.specs.declared.said.Said.TheVariants.{Nothing, Registers, Answers, Speaks}
use Rattle.ipx_keyed.specs.declared.sender.Sender.{Sender}
use Rattle.ipx_keyed.specs.declared.setting.Setting.{Setting}
use Rattle.ipx_keyed.specs.Numbers.{waits}
use Rattle.ipx_keyed.specs.Events.{Event, Datagram, Second, Send, History}
use Rattle.ipx_keyed.specs.Says.{said, node_in}
use Rattle.ipx_keyed.specs.Members.{is_it, is_remembered, stays, later, fresh, is_open, is_welcome, is_kept}

pub record Tables : Type 0 where
  -- the clients
  pub clients : List Client
  -- those who are remembered
  pub waiting : List Client

-- ---- what counts

-- what lets a newcomer in: the answer to a cookie, a word by the node that he was given a few seconds ago, or any word of a trusted place.
-- A registration doesn't
abbrev pub proves : Sender → List Client → Said → Bool
proves from waiting Nothing = false
proves from waiting Registers = false
proves from waiting (Answers node) = true
proves from waiting (Speaks header) =
    from.is_trusted || (same_node header.source.node from.node && is_remembered from.place from.node waiting)

-- what keeps a client in: the answer to a cookie, or whatever a trusted place says
abbrev pub prolongs : Sender → Said → Bool
prolongs from Nothing = false
prolongs from Registers = from.is_trusted
prolongs from (Answers node) = true
prolongs from (Speaks header) = from.is_trusted

-- for how many seconds it does
abbrev pub lasts : Sender → ℕ
lasts from = if from.is_trusted then trust_lasts else answer_lasts

-- ---- clients

-- a client after a datagram: it, or another one
abbrev pub refreshed : Sender → Said → Client → Client
refreshed from said c = if prolongs from said && is_it from.place (node_in from said) c then fresh from c.node (lasts from) else c

-- the clients after a datagram: those that there were, and who comes in where there is room
abbrev pub admitted : Setting → Sender → Said → Tables → List Client
admitted setting from said before =
    map (refreshed from said) before.clients
    ++ (if proves from before.waiting said && is_open setting from.place (node_in from said) before.clients then fresh from (node_in from said) (lasts from) ∷ [] else [])

-- ---- who is remembered

abbrev pub registers : Said → Bool
registers Nothing = false
registers Registers = true
registers (Answers node) = false
registers (Speaks header) = false

-- those who are remembered after a datagram: those who were, and who registers and is welcome, where there is room. First is first: a list
-- that is full takes nobody, and who is remembered isn't remembered anew
abbrev pub remembered : Setting → Sender → Said → List Client → List Client → List Client
remembered setting from said clients waiting =
    waiting
    ++ (if registers said && is_welcome setting from clients && is_kept setting from.place waiting then fresh from from.node waits ∷ [] else [])

-- ---- events

abbrev pub heard : Setting → Sender → Said → Tables → Tables
heard setting from said before = record {
  clients = admitted setting from said before;
  waiting = remembered setting from said (admitted setting from said before) before.waiting;
}

-- with a second, clients that have none left leave. Who is remembered is so for nine seconds, and still when none is left
abbrev pub second_later : Tables → Tables
second_later before = record {
  clients = filter stays (map later before.clients);
  waiting = map later (filter stays before.waiting);
}

abbrev pub after : Setting → Event → Tables → Tables
after setting (Datagram from bytes) before = heard setting from (said setting.network from bytes) before
after setting Second before = second_later before
after setting (Send to bytes) before = before

module _ (setting : Setting) where
  abbrev pub tables : History → Tables
  tables [] = record { clients = []; waiting = [] }
  tables (event ∷ earlier) = after setting event (tables earlier)

  abbrev pub clients : History → List Client
  clients history = (tables history).clients

  abbrev pub waiting : History → List Client
  waiting history = (tables history).waiting
