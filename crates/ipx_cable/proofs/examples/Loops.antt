-- Three links of a network, of which the second and the third are one cable.
use Rattle.std.proofs.Common.{◌≡◌, refl, true, false, [], ◌∷◌, ◌++◌, replicate}
use Rattle.ipx_cable.specs.declared.loops.Probed.TheVariants.{Late, Nothing, Here, There}
use Rattle.ipx_cable.specs.Loops.{is_late, probed}
use Rattle.ipx_cable.specs.Probing.{Probe, Second, History, lefts}

-- in second 60 the second's probe comes on the third, which is shut; or the third's comes on the second first
abbrev probes : History
probes = Probe 2 1 60 60 ∷ []

pub later_is_shut : lefts 3 probes ≡ 0 ∷ 0 ∷ 6 ∷ []
later_is_shut = refl

pub whichever_comes_first : lefts 3 (Probe 1 2 60 60 ∷ []) ≡ 0 ∷ 0 ∷ 6 ∷ []
whichever_comes_first = refl

-- after five seconds without a probe it is shut still, after six it is open
pub shut_still : lefts 3 (replicate 5 Second ++ probes) ≡ 0 ∷ 0 ∷ 1 ∷ []
shut_still = refl

pub open_again : lefts 3 (replicate 6 Second ++ probes) ≡ 0 ∷ 0 ∷ 0 ∷ []
open_again = refl

-- the next probe of the second shuts it for as long again; one of its own, which was under way, doesn't
pub shut_anew : lefts 3 (Probe 2 1 61 61 ∷ Second ∷ probes) ≡ 0 ∷ 0 ∷ 6 ∷ []
shut_anew = refl

pub its_own_was_under_way : lefts 3 (Probe 1 2 60 61 ∷ Second ∷ probes) ≡ 0 ∷ 0 ∷ 5 ∷ []
its_own_was_under_way = refl

-- one that is four seconds old is too old, one of three isn't; nor does one count that says it comes from the future
pub ages : (is_late 60 63 ≡ false) × (is_late 60 64 ≡ true) × (is_late 61 60 ≡ true)
ages = (refl, refl, refl)

pub too_old : lefts 3 (Probe 2 1 60 64 ∷ []) ≡ 0 ∷ 0 ∷ 0 ∷ []
too_old = refl

-- what is told
pub told : (probed 2 1 60 60 0 0 ≡ Here) × (probed 2 1 61 61 6 0 ≡ Nothing) × (probed 1 2 60 60 0 0 ≡ There) × (probed 1 2 60 60 0 6 ≡ Nothing) × (probed 2 1 60 64 0 0 ≡ Late)
told = (refl, refl, refl, refl, refl)
