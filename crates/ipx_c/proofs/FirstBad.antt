-- The first of some values that are no port's, found one after the other.
use Rattle.std.proofs.Common.{ℕ, ◌+◌, ◌<◌, List, length, drop, get_or, inl, inr, sym, subst}
use Rattle.std.proofs.lemmas.List.{drop_more}
use Rattle.ipx_router.specs.Port.{IsPort}
use Rattle.ipx_router.specs.declared.port.PortFault.{PortFault}
use Rattle.ipx_c.specs.Makes.{IsBad, IsFirstBad}
use Rattle.ipx_c.specs.Values.{port_of}
use Rattle.ipx_c.specs.declared.values.PortValues.{PortValues}

-- the next one is it
pub bad_here : (values : List PortValues) (i : ℕ) (d : PortValues) (fault : PortFault) → i < length values
    → IsBad (get_or values i d) fault → IsFirstBad (drop i values) fault
bad_here values i d fault within bad = subst (λ rest. IsFirstBad rest fault) (sym (drop_more values i d within)) (inl bad)

-- the next one is a port's, so it is behind
pub bad_later : (values : List PortValues) (i : ℕ) (d : PortValues) (fault : PortFault) → i < length values
    → IsPort (port_of (get_or values i d)) → IsFirstBad (drop (i + 1) values) fault → IsFirstBad (drop i values) fault
bad_later values i d fault within is later = subst (λ rest. IsFirstBad rest fault) (sym (drop_more values i d within)) (inr (is, later))
