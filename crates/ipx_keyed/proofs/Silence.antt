-- After how many seconds a client is pinged.
use Rattle.std.proofs.Common.{◌≡◌, ◌∙◌, refl, ap, ap₂, arith, ℕ, ◌+◌, ◌%◌, ◌==◌, Bool, false, ◌&&◌, not, if◌then◌else◌, inl, inr, List, [], ◌∷◌, map, filter}
use Rattle.std.proofs.lemmas.Bool.{cases_Bool}
use Rattle.ipx_wire.specs.declared.node.Node.{Node}
use Rattle.ipx_tunnel.specs.declared.own.Own.{Own}
use Rattle.ipx_tunnel.specs.Numbers.{ping_every}
use Rattle.ipx_tunnel.specs.Own.{ping_to}
use Rattle.ipx_tunnel.specs.Places.{same_node, is_among}
use Rattle.ipx_tunnel.proofs.Lists.{filter-map}
use Rattle.ipx_keyed.specs.declared.client.Client.{Client}
use Rattle.ipx_keyed.specs.declared.sender.Sender.{Sender}
use Rattle.ipx_keyed.specs.declared.setting.Setting.{Setting}
use Rattle.ipx_keyed.specs.Events.{Second, History}
use Rattle.ipx_keyed.specs.Members.{places_of}
use Rattle.ipx_keyed.specs.Tables.{lasts, clients, waiting}
use Rattle.ipx_keyed.specs.Own.{pings_now, pings_of}
use Rattle.ipx_keyed.specs.Laws.{seconds, at_place, own_to, LastHeard, is_there}
use Rattle.ipx_keyed.proofs.At.{filter-swap, none_at}

-- the pings to a place are those of its clients
pub pings_at : (setting : Setting) (place : Node) (list waits : List Client)
    → own_to place (pings_of setting list waits) ≡ pings_of setting (at_place place list) waits
pings_at setting place list waits =
    let ping = λ (c : Client). ping_to setting.network c.place c.cookie in
    filter-map (λ (o : Own). same_node o.place place) ping (filter (pings_now waits) list)
    ∙ ap (map ping) (filter-swap (λ (c : Client). same_node c.place place) (pings_now waits) list)

pub no_pings : (setting : Setting) (history : History) (place : Node) → is_there setting place history ≡ false
    → own_to place (pings_of setting (clients setting history) (waiting setting history)) ≡ []
no_pings setting history place none =
    pings_at setting place (clients setting history) (waiting setting history)
    ∙ ap (λ (l : List Client). pings_of setting l (waiting setting history)) (none_at place (clients setting history) none)

fives_of : (from : Sender) → lasts from % ping_every ≡ 0
fives_of from = grind arith

left_in_fives : (n passed left : ℕ) → n % ping_every ≡ 0 → left + passed ≡ n → (left % ping_every == 0) ≡ (passed % ping_every == 0)
left_in_fives n passed left fives is = grind arith

one_ping : (ping : Client → Own) (test : Client → Bool) (c : Client) → map ping (filter test (c ∷ [])) ≡ (if test c then ping c ∷ [] else [])
one_ping ping test c = elim (cases_Bool (test c)) [ inl is ↦ rw is refl | inr other ↦ rw other refl ]

pub exact : (setting : Setting) (history : History) (c : Client) (last : LastHeard setting c (Second ∷ history)) → let now = Second ∷ history in
    at_place c.place (clients setting now) ≡ c ∷ []
    → own_to c.place (pings_of setting (clients setting now) (waiting setting now))
    ≡ (if (seconds last.later % ping_every == 0) && not (is_among c.place (places_of (waiting setting now)))
    then ping_to setting.network c.place last.from.cookies.current ∷ [] else [])
exact setting history c last alone =
    let now = Second ∷ history in
    let waits = waiting setting now in
    let ping = λ (d : Client). ping_to setting.network d.place d.cookie in
    let free = not (is_among c.place (places_of waits)) in
    pings_at setting c.place (clients setting now) waits
    ∙ ap (λ (l : List Client). pings_of setting l waits) alone
    ∙ one_ping ping (pings_now waits) c
    ∙ ap₂ (λ (b : Bool) (k : Node). if b && free then ping_to setting.network c.place k ∷ [] else [])
    (left_in_fives (lasts last.from) (seconds last.later) c.seconds_left (fives_of last.from) last.left) last.cookie
