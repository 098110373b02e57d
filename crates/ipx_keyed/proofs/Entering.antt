-- What becomes of the tables with one event more.
use Rattle.std.proofs.Common.{◌≡◌, ◌∙◌, refl, sym, ap, ap₂, ℕ, Bool, true, false, ◌&&◌, ◌||◌, not, nat_lt, if◌then◌else◌, List, [], ◌∷◌, ◌++◌, map, length}
use Rattle.std.proofs.lemmas.List.{append-nil, length-map}
use Rattle.std.proofs.lemmas.List.Folds.{list_any-append}
use Rattle.std.proofs.Math.Bool.{or-true}
use Rattle.ipx_wire.specs.declared.node.Node.{Node}
use Rattle.ipx_tunnel.specs.Places.{same_node, broadcast, is_among, of_address}
use Rattle.ipx_keyed.specs.declared.client.Client.{Client}
use Rattle.ipx_keyed.specs.declared.said.Said.{Said}
use Rattle.ipx_keyed.specs.declared.said.Said.TheVariants.{Registers}
use Rattle.ipx_keyed.specs.declared.sender.Sender.{Sender}
use Rattle.ipx_keyed.specs.declared.setting.Setting.{Setting}
use Rattle.ipx_keyed.specs.Numbers.{waits}
use Rattle.ipx_keyed.specs.Events.{Datagram, History}
use Rattle.ipx_keyed.specs.Says.{said, node_in}
use Rattle.ipx_keyed.specs.Members.{places_of, nodes_of, is_client_as, is_open, is_welcome, is_kept, fresh}
use Rattle.ipx_keyed.specs.Tables.{Tables, proves, lasts, refreshed, registers, admitted, remembered, tables, clients, waiting}
use Rattle.ipx_keyed.specs.Laws.{Remembers}
use Rattle.ipx_keyed.proofs.At.{kept_as, it_itself}
use Rattle.ipx_keyed.proofs.Counting.{kept_places, kept_nodes}

-- ---- room stays as it is

-- room by the places and nodes that there are
open_by : Setting → Node → Node → List Node → List Node → ℕ → Bool
open_by setting place node places nodes count =
    not (is_among place places) && not (same_node node setting.node || same_node node broadcast || is_among node nodes)
    && nat_lt count setting.capacity && nat_lt (of_address place places) setting.share

pub kept_open : (setting : Setting) (place node : Node) (from : Sender) (s : Said) (list : List Client)
    → is_open setting place node (map (refreshed from s) list) ≡ is_open setting place node list
unfolding open_by
kept_open setting place node from s list =
    ap (λ (l : List Node). open_by setting place node l (nodes_of (map (refreshed from s) list)) (length (map (refreshed from s) list))) (kept_places from s list)
    ∙ ap (λ (l : List Node). open_by setting place node (places_of list) l (length (map (refreshed from s) list))) (kept_nodes from s list)
    ∙ ap (λ (n : ℕ). open_by setting place node (places_of list) (nodes_of list) n) (length-map list (refreshed from s))

-- what doesn't prove brings nobody
pub nobody_comes : (setting : Setting) (from : Sender) (s : Said) (before : Tables) → proves from before.waiting s ≡ false
    → admitted setting from s before ≡ map (refreshed from s) before.clients
nobody_comes setting from s before none = rw none (append-nil (map (refreshed from s) before.clients))

pub welcome_kept : (setting : Setting) (from : Sender) (before : Tables)
    → is_welcome setting from (admitted setting from Registers before) ≡ is_welcome setting from before.clients
welcome_kept setting from before =
    ap (is_welcome setting from) (nobody_comes setting from Registers before refl)
    ∙ ap₂ (λ (a b : Bool). a || b) (kept_as from.place from.node from Registers before.clients) (kept_open setting from.place from.node from Registers before.clients)

-- ---- who is remembered

remembers_by : (setting : Setting) (from : Sender) (s : Said) (clients list : List Client) → s ≡ Registers → is_welcome setting from clients ≡ true
    → is_kept setting from.place list ≡ true → remembered setting from s clients list ≡ list ++ fresh from from.node waits ∷ []
remembers_by setting from s clients list registers welcome kept =
    ap (λ s. remembered setting from s clients list) registers ∙ rw (welcome, kept) refl

module _ (setting : Setting) where
  pub welcome_after : (from : Sender) (bytes : List ℕ) (earlier : History) → said setting.network from bytes ≡ Registers
      → is_welcome setting from (clients setting (Datagram from bytes ∷ earlier)) ≡ is_welcome setting from (clients setting earlier)
  welcome_after from bytes earlier registers =
      ap (λ s. is_welcome setting from (admitted setting from s (tables setting earlier))) registers
      ∙ welcome_kept setting from (tables setting earlier)

  pub remembers_more : (from : Sender) (bytes : List ℕ) (earlier : History) → Remembers setting from bytes earlier
      → waiting setting (Datagram from bytes ∷ earlier) ≡ waiting setting earlier ++ fresh from from.node waits ∷ []
  remembers_more from bytes earlier r =
      remembers_by setting from (said setting.network from bytes) (clients setting (Datagram from bytes ∷ earlier)) (waiting setting earlier)
      r.registers (welcome_after from bytes earlier r.registers ∙ r.welcome) r.kept

  -- ---- who comes

  pub comes : (from : Sender) (bytes : List ℕ) (earlier : History) → proves from (waiting setting earlier) (said setting.network from bytes) ≡ true
      → is_open setting from.place (node_in from (said setting.network from bytes)) (clients setting earlier) ≡ true
      → is_client_as from.place (node_in from (said setting.network from bytes)) (clients setting (Datagram from bytes ∷ earlier)) ≡ true
  comes from bytes earlier proved room =
      let s = said setting.network from bytes in
      let node = node_in from s in
      let kept = map (refreshed from s) (clients setting earlier) in
      let new = fresh from node (lasts from) in
      ap (λ (b : Bool). is_client_as from.place node (kept ++ (if b then new ∷ [] else []))) (ap₂ (λ (a b : Bool). a && b) proved room)
      ∙ list_any-append _ kept (new ∷ [])
      ∙ ap (λ (b : Bool). is_client_as from.place node kept || (b || false)) (it_itself new)
      ∙ or-true (is_client_as from.place node kept)

  -- the same, of the node that he names
  pub comes_as : (from : Sender) (bytes : List ℕ) (earlier : History) (node : Node) → proves from (waiting setting earlier) (said setting.network from bytes) ≡ true
      → node_in from (said setting.network from bytes) ≡ node → is_open setting from.place node (clients setting earlier) ≡ true
      → is_client_as from.place node (clients setting (Datagram from bytes ∷ earlier)) ≡ true
  comes_as from bytes earlier node proved named room =
      ap (λ n. is_client_as from.place n (clients setting (Datagram from bytes ∷ earlier))) (sym named)
      ∙ comes from bytes earlier proved (ap (λ n. is_open setting from.place n (clients setting earlier)) named ∙ room)
