-- Answers with a service that is nearer than so many hops.
use Rattle.std.proofs.Common.{◌≡◌, ◌∙◌, refl, ap, arith, ℕ, ◌<◌, ◌≤◌, ◌&&◌, nat_le, Bool, true, false, List, [], ◌∷◌, slice_get, Some, Result, Ok, Err}
use Rattle.std.specs.List.{list_all}
use Rattle.std.proofs.lemmas.Bool.{lt-leb, leb-true, le-leb, false≢true}
use Rattle.std.proofs.lemmas.List.Folds.{list_all_at}
use Rattle.std.proofs.lemmas.Option.{get_or_from_slice_get, slice_get_within}
use Rattle.ipx_wire.specs.Packet.{Parts, packet_of}
use Rattle.ipx_wire.specs.Sap.{sap_of}
use Rattle.ipx_wire.specs.declared.packet.PacketFault.{PacketFault}
use Rattle.ipx_wire.specs.declared.sap.Sap.{Sap}
use Rattle.ipx_wire.specs.declared.sap.Sap.TheVariants.{Query, Response}
use Rattle.ipx_wire.specs.declared.sap.SapFault.{SapFault}
use Rattle.ipx_wire.specs.declared.sap_entries.SapEntry.{SapEntry}
use Rattle.ipx_router.specs.Port.{Port}
use Rattle.ipx_edge.specs.Filtered.{is_advertising}
use Rattle.ipx_edge.specs.Needless.{is_no_nearer, is_needless_in, is_needless}
use Rattle.ipx_edge.specs.declared.rule.Way.TheVariants.{Out}

-- all are so many hops away, or more
abbrev pub all_from : ℕ → List SapEntry → Bool
all_from hops entries = list_all (λ e. nat_le hops e.hops) entries

pub one_nearer : (hops k : ℕ) (entries : List SapEntry) (entry : SapEntry) → slice_get entries k ≡ Some entry → entry.hops < hops → all_from hops entries ≡ false
one_nearer hops k entries entry is nearer =
    let is_far = λ (e : SapEntry). nat_le hops e.hops in
    list_all_at is_far entries k entry (slice_get_within entries k entry is)
    (ap is_far (get_or_from_slice_get entries k entry entry is) ∙ lt-leb hops entry.hops nearer)

neither : (a : Bool) → (a && false) ≡ false
neither true = refl
neither false = refl

pub nearer : (port : Port) (hops k : ℕ) (bytes : List ℕ) (p : Parts) (nearest : Bool) (entries : List SapEntry) (entry : SapEntry) → packet_of bytes ≡ Ok p
    → sap_of p.payload ≡ Ok (Response nearest entries) → slice_get entries k ≡ Some entry → entry.hops < hops → is_needless port hops bytes ≡ false
nearer port hops k bytes p nearest entries entry is read at below =
    ap (is_needless_in port hops) is
    ∙ ap (λ (r : Result Sap SapFault). is_advertising Out port p.header && is_no_nearer hops r) read
    ∙ ap (λ (b : Bool). is_advertising Out port p.header && (nearest && b)) (one_nearer hops k entries entry at below)
    ∙ ap (λ (b : Bool). is_advertising Out port p.header && b) (neither nearest)
    ∙ neither (is_advertising Out port p.header)

-- ---- fewer hops

both : (a b : Bool) → (a && b) ≡ true → (a ≡ true) × (b ≡ true)
both true b e = (refl, e)
both false b e = absurd (false≢true e)

join : (a b : Bool) → a ≡ true → b ≡ true → (a && b) ≡ true
join a b first second = ap (λ (x : Bool). x && b) first ∙ second

from_fewer : (few many n : ℕ) → few ≤ many → nat_le many n ≡ true → nat_le few n ≡ true
from_fewer few many n less e = le-leb few n (omega (arith, less, leb-true many n e))

all_from_fewer : (few many : ℕ) (entries : List SapEntry) → few ≤ many → all_from many entries ≡ true → all_from few entries ≡ true
all_from_fewer few many [] less e = refl
all_from_fewer few many (x ∷ entries) less e =
    let parts = both (nat_le many x.hops) (all_from many entries) e in
    join (nat_le few x.hops) (all_from few entries) (from_fewer few many x.hops less parts.0) (all_from_fewer few many entries less parts.1)

fewer_said : (few many : ℕ) (r : Result Sap SapFault) → few ≤ many → is_no_nearer many r ≡ true → is_no_nearer few r ≡ true
fewer_said few many (Ok (Query nearest kind)) less e = absurd (false≢true e)
fewer_said few many (Ok (Response nearest entries)) less e =
    let parts = both nearest (all_from many entries) e in join nearest (all_from few entries) parts.0 (all_from_fewer few many entries less parts.1)
fewer_said few many (Err fault) less e = absurd (false≢true e)

fewer_in : (port : Port) (few many : ℕ) (r : Result Parts PacketFault) → few ≤ many → is_needless_in port many r ≡ true → is_needless_in port few r ≡ true
fewer_in port few many (Err fault) less e = absurd (false≢true e)
fewer_in port few many (Ok p) less e =
    let parts = both (is_advertising Out port p.header) (is_no_nearer many (sap_of p.payload)) e in
    join (is_advertising Out port p.header) (is_no_nearer few (sap_of p.payload)) parts.0 (fewer_said few many (sap_of p.payload) less parts.1)

pub fewer : (port : Port) (few many : ℕ) (bytes : List ℕ) → few ≤ many → is_needless port many bytes ≡ true → is_needless port few bytes ≡ true
fewer port few many bytes less e = fewer_in port few many (packet_of bytes) less e
