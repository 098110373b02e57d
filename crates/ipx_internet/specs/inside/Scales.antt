-- How weights are counted: up to the greatest number of a word, from what is the same for all deliveries of an internet.
-- Only clauses inside the crate speak of it; what an internet weighs is said by `InternetWeight`.
use Rattle.std.specs.Prelude.{◌≡◌, ℕ, ◌-◌, ◌/◌, ◌^◌, ◌<◌, min, max}
use Rattle.ipx_router.specs.Numbers.{entries_a_page}
use Rattle.ipx_router.specs.Pages.{sheets}
use Rattle.ipx_internet.specs.Internet.{Internet}
use Rattle.ipx_internet.specs.InternetWeight.{most_hearers, most_answered, entries_a_service}
use Rattle.ipx_internet.specs.Most.{most_on_network}
use Rattle.ipx_internet.specs.declared.scale.Scale.{Scale}

-- a number, or the greatest of a word, where it is greater
abbrev pub saturated : ℕ → ℕ
saturated n = min n (2 ^ 64 - 1)

-- a scale is that of an internet whose routers have room for that many routes and services
pub record IsScale (net : Internet) (most_routes most_services : ℕ) (s : Scale) : Type 0 where
  pub hearers : s.hearers ≡ saturated (most_hearers net)
  pub receivers : s.receivers ≡ max 1 (most_on_network net - 1)
  pub entries : s.entries ≡ saturated (most_answered net most_routes)
  pub misread : s.misread ≡ saturated (most_answered net most_routes / entries_a_service)
  pub pages : s.pages ≡ sheets entries_a_page (most_answered net most_routes)
  pub services : s.services ≡ most_services
  pub few : most_services < 2 ^ 64
