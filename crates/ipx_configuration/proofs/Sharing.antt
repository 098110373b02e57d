-- Links on one carrier share a rate.
use Rattle.std.proofs.Common.{◌≡◌, ℕ, ◌<◌, ◌≤◌, Bool, true, false, not, ◌==◌, ◌&&◌, nat_eq, nat_lt, if◌then◌else◌, List, length, get_or, refl, sym, ap, ◌∙◌, arith, rules, Some, None, inl, inr, true≢false}
use Rattle.std.specs.Prelude.{slice_get}
use Rattle.std.specs.Cmp.Lexicographic.{pointwise}
use Rattle.std.specs.List.{position, position_or_len}
use Rattle.std.specs.Str.{bytes_eq}
use Rattle.std.proofs.lemmas.Bool.{cases_Bool, cases_lt, lt-ltb, le-ltb, and_parts, eqb-true}
use Rattle.std.proofs.lemmas.List.Sums.{fails_before_first}
use Rattle.std.proofs.lemmas.Option.{slice_get_within, slice_get-get_or, get_or_from_slice_get}
use Rattle.ipx_configuration.specs.Carriers.{tunnel, is_fixed, same_carrier, carrier_at}
use Rattle.ipx_configuration.specs.Configured.{rate_or_usual}
use Rattle.ipx_configuration.specs.Endpoints.{same_endpoint, endpoint_at, is_of_one_kind}
use Rattle.ipx_configuration.specs.Lines.{shares_rate, rate_of}
use Rattle.ipx_configuration.specs.declared.carrier.Carrier.{Carrier}
use Rattle.ipx_configuration.specs.declared.endpoint.Endpoint.{Endpoint}
use Rattle.ipx_configuration.specs.declared.said.LinkSetting.{LinkSetting}
use Rattle.ipx_configuration.specs.declared.said.RateSaid.{RateSaid}

both : (a b : Bool) → a && b ≡ true → (a ≡ true) × (b ≡ true)
both true true e = (refl, refl)
both true false e = absurd (true≢false (sym e))
both false b e = absurd (true≢false (sym e))

same_list : (xs ys : List ℕ) → pointwise nat_eq xs ys ≡ true → xs ≡ ys
same_list xs ys e = search (rules, and_parts, eqb-true)

same_flag : (a b : Bool) → (if a then b else not b) ≡ true → a ≡ b
same_flag true true e = refl
same_flag true false e = absurd (true≢false (sym e))
same_flag false true e = absurd (true≢false (sym e))
same_flag false false e = refl

endpoints : (a b : Endpoint) → same_endpoint a b ≡ true → a ≡ b
endpoints a b e =
    let four_eq = pointwise nat_eq a.four b.four in
    let six_eq = pointwise nat_eq a.six b.six in
    let port_eq = a.port == b.port in
    let kind = both (four_eq && six_eq && port_eq) (is_of_one_kind a b) e in
    let port = both (four_eq && six_eq) port_eq kind.0 in
    let hosts = both four_eq six_eq port.0 in
    ap (λ v. endpoint_at v a.six a.port a.is_six) (same_list a.four b.four hosts.0)
    ∙ ap (λ v. endpoint_at b.four v a.port a.is_six) (same_list a.six b.six hosts.1)
    ∙ ap (λ v. endpoint_at b.four b.six v a.is_six) (eqb-true a.port b.port port.1)
    ∙ ap (λ v. endpoint_at b.four b.six b.port v) (same_flag a.is_six b.is_six kind.1)

-- the same but for the kind of frames
abbrev but_for_frames : Carrier → ℕ → Carrier
but_for_frames a frames = carrier_at a.number frames a.local a.remote a.host a.name

carriers : (a b : Carrier) → same_carrier a b ≡ true → (but_for_frames a b.frames ≡ b) × (is_fixed a ≡ true)
carriers a b e =
    let number_eq = a.number == b.number in
    let name_eq = bytes_eq a.name b.name in
    let host_eq = bytes_eq a.host b.host in
    let remote_eq = same_endpoint a.remote b.remote in
    let local_eq = same_endpoint a.local b.local in
    let fixed = both (number_eq && name_eq && host_eq && remote_eq && local_eq) (is_fixed a) e in
    let local = both (number_eq && name_eq && host_eq && remote_eq) local_eq fixed.0 in
    let remote = both (number_eq && name_eq && host_eq) remote_eq local.0 in
    let host = both (number_eq && name_eq) host_eq remote.0 in
    let name = both number_eq name_eq host.0 in (
      ap (λ v. carrier_at v b.frames a.local a.remote a.host a.name) (eqb-true a.number b.number name.0)
          ∙ ap (λ v. carrier_at b.number b.frames v a.remote a.host a.name) (endpoints a.local b.local local.1)
          ∙ ap (λ v. carrier_at b.number b.frames b.local v a.host a.name) (endpoints a.remote b.remote remote.1)
          ∙ ap (λ v. carrier_at b.number b.frames b.local b.remote v a.name) (same_list a.host b.host host.1)
          ∙ ap (λ v. carrier_at b.number b.frames b.local b.remote b.host v) (same_list a.name b.name name.1),
      fixed.1,
    )

-- ---- what is the same for both

module _ (a b : LinkSetting) (links : List LinkSetting) (same : same_carrier a.carrier b.carrier ≡ true) where
  alike : but_for_frames a.carrier b.carrier.frames ≡ b.carrier
  alike = (carriers a.carrier b.carrier same).0

  places : position (shares_rate a.carrier) links ≡ position (shares_rate b.carrier) links
  places = ap (λ (v : Carrier). position (shares_rate v) links) alike

  -- each is like itself
  of_first : same_carrier a.carrier a.carrier ≡ true
  of_first = ap (λ (v : Carrier). same_carrier a.carrier v) alike ∙ same

  of_second : same_carrier b.carrier b.carrier ≡ true
  of_second = sym (ap (λ (v : Carrier). same_carrier v b.carrier) alike) ∙ same

-- a link that nothing is found for says no rate itself
says_none : (a : LinkSetting) (links : List LinkSetting) (i : ℕ) → slice_get links i ≡ Some a → (a.carrier.number == tunnel) ≡ false
    → same_carrier a.carrier a.carrier ≡ true → length links ≤ position_or_len (shares_rate a.carrier) links → nat_lt 0 a.rate.line ≡ false
says_none a links i there no_tunnel same past =
    let within : i < length links = slice_get_within links i a there in
    let fails : shares_rate a.carrier (get_or links i a) ≡ false = fails_before_first (shares_rate a.carrier) links i a (omega (arith, within, past)) in
    let not_this : shares_rate a.carrier a ≡ false = ap (shares_rate a.carrier) (sym (get_or_from_slice_get links i a a there)) ∙ fails in
    elim (cases_Bool (nat_lt 0 a.rate.line)) [
      | inl said ↦
          let is : shares_rate a.carrier a ≡ true = rw (no_tunnel, said, same) refl in
          absurd (true≢false (sym is ∙ not_this))
      | inr none ↦ none
    ]

abbrev usual_of : LinkSetting → List LinkSetting → RateSaid
usual_of a links = rate_or_usual (rate_of a links)

pub same_rate : (a b : LinkSetting) (links : List LinkSetting) (i j : ℕ) → slice_get links i ≡ Some a → slice_get links j ≡ Some b
    → (a.carrier.number == tunnel) ≡ false → same_carrier a.carrier b.carrier ≡ true → usual_of a links ≡ usual_of b links
same_rate a b links i j at_i at_j no_tunnel same =
    let n = position_or_len (shares_rate b.carrier) links in
    let first : position (shares_rate a.carrier) links ≡ position (shares_rate b.carrier) links = places a b links same in
    elim (cases_lt n (length links)) [
      | inl below ↦
          let at : slice_get links n ≡ Some (get_or links n a) = slice_get-get_or links n a below in
          let found : position (shares_rate b.carrier) links ≡ Some n = rw (lt-ltb n (length links) below) refl in
          rw (first, found, at) refl
      | inr past ↦
          let none : position (shares_rate b.carrier) links ≡ None = rw (le-ltb n (length links) past) refl in
          let place : position_or_len (shares_rate a.carrier) links ≡ n = ap (λ (v : Carrier). position_or_len (shares_rate v) links) (alike a b links same) in
          let other_no_tunnel : (b.carrier.number == tunnel) ≡ false = sym (ap (λ (v : Carrier). v.number == tunnel) (alike a b links same)) ∙ no_tunnel in
          let nothing_a = says_none a links i at_i no_tunnel (of_first a b links same) (omega (arith, place, past)) in
          let nothing_b = says_none b links j at_j other_no_tunnel (of_second a b links same) past in
          rw (first, none, nothing_a, nothing_b) refl
    ]
