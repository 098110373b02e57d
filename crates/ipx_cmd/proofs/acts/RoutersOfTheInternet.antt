-- The routers of an internet that stands for what happened to them.
use Rattle.std.proofs.Common.{◌≡◌, ℕ, zero, suc, ◌+◌, ◌<◌, ◌≤◌, List, [], ◌∷◌, ◌++◌, length, map, take, slice_get, Option, None, Some, option_map, refl, sym, ap, subst, ◌∙◌, arith}
use Rattle.std.proofs.lemmas.List.{length-map, map-append, take_all}
use Rattle.std.proofs.lemmas.Option.{get_or_from_slice_get, slice_get-map}
use Rattle.ipx_router.specs.History.{History}
use Rattle.ipx_router.specs.Port.{Port, numbers}
use Rattle.ipx_router.specs.Stands.{State, StandsFor as RouterStandsFor}
use Rattle.ipx_internet.specs.Internet.{ports_of}
use Rattle.ipx_internet.specs.Moment.{Moment, StandsFor, net_at}
use Rattle.ipx_internet.specs.Queue.{Queued, history_of}
use Rattle.ipx_internet.specs.Traced.{router_of, routers_of}
use Rattle.ipx_internet.specs.Tree.{router_now}
use Rattle.ipx_cmd.specs.EventText.{most_routes, most_services}
use Rattle.ipx_cmd.specs.InternetMachine.{routers_now}
use Rattle.ipx_cmd.proofs.acts.EventsOneAfterAnother.{numbers_more}
use Rattle.ipx_cmd.proofs.written.GrowsByItems.{listed_next, not_past}

-- ---- items by their numbers

pub mapped_at : {X Y : Type 0} (f : X → Y) (xs : List X) (k : ℕ) (x : X) → slice_get xs k ≡ Some x → slice_get (map f xs) k ≡ Some (f x)
mapped_at f xs k x e = slice_get-map f xs k ∙ ap (option_map f) e

module _ {X Y : Type 0} (f : X → Y) (g : ℕ → Y) (xs : List X) (same : (k : ℕ) (x : X) → slice_get xs k ≡ Some x → f x ≡ g k) where
  numbered_next : (k : ℕ) (o : Option X) → slice_get xs k ≡ o → k < length xs → map f (take k xs) ≡ map g (numbers k) → map f (take (k + 1) xs) ≡ map g (numbers (k + 1))
  numbered_next k None e below before = absurd (not_past xs k e below)
  numbered_next k (Some x) e below before =
      ap (map f) (listed_next xs k x e) ∙ map-append f (take k xs) (x ∷ []) ∙ ap (λ (l : List Y). l ++ f x ∷ []) before
      ∙ ap (λ (y : Y). map g (numbers k) ++ y ∷ []) (same k x e) ∙ sym (map-append g (numbers k) (k ∷ [])) ∙ ap (map g) (sym (numbers_more k))

  numbered_to : (k : ℕ) → k ≤ length xs → map f (take k xs) ≡ map g (numbers k)
  numbered_to zero within = refl
  numbered_to (suc k) within =
      let next : k + 1 ≡ suc k = omega arith in
      subst (λ (n : ℕ). map f (take n xs) ≡ map g (numbers n)) next (numbered_next k (slice_get xs k) refl (omega (arith, within)) (numbered_to k (omega (arith, within))))

  pub numbered : map f xs ≡ map g (numbers (length xs))
  numbered = ap (map f) (sym (take_all (length xs) xs (omega arith))) ∙ numbered_to (length xs) (omega arith)

-- ---- routers

-- the ports of the router with a number
pub ports_at : (m : Moment) (number : ℕ) (s : State) → slice_get m.routers number ≡ Some s → ports_of (net_at m) number ≡ s.ports
ports_at m number s there = get_or_from_slice_get (net_at m) number s.ports [] (mapped_at (λ (r : State). r.ports) m.routers number s there)

same_router : (s : State) (ports : List Port) (h : History) → ports ≡ s.ports → RouterStandsFor most_routes most_services s h → router_of s ≡ router_now ports most_routes h
same_router s ports h is stands = grind arith

pub routers_are : (m : Moment) (q : Queued) → StandsFor most_routes most_services m q → routers_of m.routers ≡ routers_now (net_at m) q
routers_are m q stands =
    numbered router_of (λ (number : ℕ). router_now (ports_of (net_at m) number) most_routes (history_of q.histories number)) m.routers
    (λ number s there. same_router s (ports_of (net_at m) number) (history_of q.histories number) (ports_at m number s there) (stands.routers number s there))
    ∙ ap (λ (n : ℕ). map (λ (number : ℕ). router_now (ports_of (net_at m) number) most_routes (history_of q.histories number)) (numbers n))
    (sym (length-map m.routers (λ (r : State). r.ports)))
