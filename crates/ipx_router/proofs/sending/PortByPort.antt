-- What is sent on one port after another, to all nodes of its network.
use Rattle.std.proofs.lemmas.Grind.{common_steps}
use Rattle.std.proofs.Common.{◌≡◌, ℕ, ◌<◌, List, [], ◌++◌, get_or, length, arith}
use Rattle.std.specs.List.{AllByRecursion}
use Rattle.ipx_router.specs.Outbox.{Contents, Fits, Appends}
use Rattle.ipx_router.specs.Relays.{Sent}
use Rattle.ipx_router.specs.inside.Owed.{owed}
use Rattle.ipx_router.specs.declared.advertising.envelope.Envelope.{Envelope}
use Rattle.ipx_router.proofs.sending.OneAfterAnother.{fits_front, fits_then, appends_then}

-- items of a port in an envelope of that port
pub in_envelope : {X : Type 0} (n : ℕ) (packet : Envelope → List X → Sent) (items : ℕ → List X) {envelope to : Envelope} {all : List X}
    → envelope ≡ to → items to.port ≡ all → owed n (packet envelope) [] (items envelope.port) ≡ owed n (packet to) [] all
in_envelope n packet items {envelope} {to} {all} is same = grind arith

-- what holds of all holds at each place
pub each_at : {X : Type 0} (P : X → Type 0) (xs : List X) (k : ℕ) (d : X) → AllByRecursion P xs → k < length xs → P (get_or xs k d)
each_at P xs k d all below = grind (arith, common_steps)

-- four sendings, one after the other
module _ {o : Contents} (a b c d : List Sent) (fits : Fits o (a ++ b ++ c ++ d)) where
  three : Fits o (a ++ b ++ c)
  three = fits_front (a ++ b ++ c) d fits

  two : Fits o (a ++ b)
  two = fits_front (a ++ b) c three

  pub first_of_four : Fits o a
  first_of_four = fits_front a b two

  pub second_of_four : {p : Contents} → Appends o p a → Fits p b
  second_of_four {p} one = fits_then a b two one

  pub third_of_four : {p q : Contents} → Appends o p a → Appends p q b → Fits q c
  third_of_four {p} {q} one next = fits_then (a ++ b) c three (appends_then one next)

  pub fourth_of_four : {p q r : Contents} → Appends o p a → Appends p q b → Appends q r c → Fits r d
  fourth_of_four {p} {q} {r} one next last = fits_then (a ++ b ++ c) d fits (appends_then (appends_then one next) last)
