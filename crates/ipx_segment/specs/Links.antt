-- The links of a segment: which are up, and as what.
use Rattle.std.specs.Prelude.{ℕ, Bool, true, false, List, [], ◌∷◌, replicate, get_or, set}
use Rattle.ipx_segment.specs.declared.link.Link.{Link}
use Rattle.ipx_segment.specs.declared.link.Link.TheVariants.{Down, Cable, Sure}
use Rattle.ipx_segment.specs.declared.setting.Setting.{Setting}
use Rattle.ipx_segment.specs.Events.{Changes, Heard, Comes, Leaves, Second, Sends, History}

-- packets go there, and come from there
abbrev pub is_up : Link → Bool
is_up Down = false
is_up (Cable share) = true
is_up (Sure share) = true

-- the link of that number; one that the segment doesn't have is down
abbrev pub link_at : ℕ → List Link → Link
link_at link links = get_or links link Down

-- all links: at first down, then as each changed last
abbrev pub links : Setting → History → List Link
links setting [] = replicate setting.links Down
links setting (Changes link to ∷ earlier) = set (links setting earlier) link to
links setting (Heard link source destination ∷ earlier) = links setting earlier
links setting (Comes link node ∷ earlier) = links setting earlier
links setting (Leaves link node ∷ earlier) = links setting earlier
links setting (Second ∷ earlier) = links setting earlier
links setting (Sends destination ∷ earlier) = links setting earlier
