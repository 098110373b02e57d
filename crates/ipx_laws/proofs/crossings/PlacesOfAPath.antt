-- The ports of a path, with one more behind them.
use Rattle.std.proofs.Common.{◌≡◌, refl, ap, List, [], ◌∷◌, ◌++◌}
use Rattle.ipx_wire.specs.declared.header.Header.{Header}
use Rattle.ipx_internet.specs.Internet.{Place}
use Rattle.ipx_internet.specs.Tree.{Router}
use Rattle.ipx_laws.specs.Crossings.{end_of, Crosses, Leads}

-- the ports that a path goes through before its last
abbrev pub passed : Place → List Place → List Place
passed at [] = []
passed at (next ∷ path) = at ∷ passed next path

pub whole : (at : Place) (path : List Place) → at ∷ path ≡ passed at path ++ end_of at path ∷ []
whole at [] = refl
whole at (next ∷ path) = ap (λ (places : List Place). at ∷ places) (whole next path)

pub end_more : (at : Place) (path : List Place) (next : Place) → end_of at (path ++ next ∷ []) ≡ next
end_more at [] next = refl
end_more at (first ∷ path) next = end_more first path next

pub passed_more : (at : Place) (path : List Place) (next : Place) → passed at (path ++ next ∷ []) ≡ passed at path ++ end_of at path ∷ []
passed_more at [] next = refl
passed_more at (first ∷ path) next = ap (λ (places : List Place). at ∷ places) (passed_more first path next)

-- a path is empty, or has a last port
pub data IsLast (path : List Place) : Type 0 where
  none : path ≡ [] → IsLast path
  one : (front : List Place) (next : Place) → path ≡ front ++ next ∷ [] → IsLast path

pub last_of : (path : List Place) → IsLast path
last_of [] = none refl
last_of (first ∷ path) = by (last_of path)
  where
    by : IsLast path → IsLast (first ∷ path)
    by (none e) = one [] first (ap (λ (places : List Place). first ∷ places) e)
    by (one front next e) = one (first ∷ front) next (ap (λ (places : List Place). first ∷ places) e)

module _ (routers : List Router) (h : Header) where
  pub leads_more : (at : Place) (path : List Place) (next : Place) → Leads routers h at path → Crosses routers h (end_of at path) next
      → Leads routers h at (path ++ next ∷ [])
  leads_more at [] next leads crosses = (crosses, tt)
  leads_more at (first ∷ path) next leads crosses = (leads.0, leads_more first path next leads.1 crosses)

  pub leads_less : (at : Place) (path : List Place) (next : Place) → Leads routers h at (path ++ next ∷ [])
      → Leads routers h at path × Crosses routers h (end_of at path) next
  leads_less at [] next leads = (tt, leads.0)
  leads_less at (first ∷ path) next leads = let (front, last) = leads_less first path next leads.1 in ((leads.0, front), last)
