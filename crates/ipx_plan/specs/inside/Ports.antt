-- How the ports of two routers are compared, one after the other.
use Rattle.std.specs.Prelude.{◌≡◌, ℕ, ◌<◌, ◌≤◌, Bool, true, false, List, length, drop, Option, None, Some, option_map}
use Rattle.std.specs.List.{slice_get}
use Rattle.ipx_plan.specs.declared.link.Link.{Link}
use Rattle.ipx_plan.specs.Routing.{ports, same_port}

-- link k is the first of its network, or none is left
abbrev pub IsPort : List Link → ℕ → Type 0
IsPort links k = k < length links → option_map (λ l. l.is_first) (slice_get links k) ≡ Some true

-- the next link from that one on that is the first of its network, or how many links there are
pub record IsNextPort (links : List Link) (from next : ℕ) : Type 0 where
  pub within : next ≤ length links
  pub same : ports (drop from links) ≡ ports (drop next links)
  pub first : IsPort links next

-- it is there, with a port as that one's was
abbrev pub is_port_like : Link → Option Link → Bool
is_port_like before None = false
is_port_like before (Some link) = same_port before link
