-- The words of the router's own network.
use Rattle.std.specs.Prelude.{ℕ, Bool, true, false, if◌then◌else◌, List, Option, Some, None, Result, Ok, Err, codes}
use Rattle.ipx_settings.specs.Links.{said, is_the}
use Rattle.ipx_settings.specs.Networks.{last_network}
use Rattle.ipx_settings.specs.Nodes.{node_of}
use Rattle.ipx_settings.specs.Numbers.{hexadecimal_of}
use Rattle.ipx_settings.specs.declared.expected.Expected.{Expected}
use Rattle.ipx_settings.specs.declared.expected.Expected.TheVariants as expected
use Rattle.ipx_settings.specs.declared.internal.InternalBegun.{InternalBegun}
use Rattle.ipx_settings.specs.declared.internal.InternalBegun.TheVariants as internal

-- a word more: the number of the network, and a node behind its word
abbrev pub internal_step : InternalBegun → List ℕ → Result InternalBegun Expected
internal_step internal.Nothing word = said expected.Network internal.Number (hexadecimal_of 8 1 last_network word)
internal_step (internal.Number number) word =
    if is_the word (codes "node") then Ok (internal.Node number) else Err expected.NodeWord
internal_step (internal.Node number) word = said expected.Node (internal.Whole number) (node_of word)
internal_step (internal.Whole number node) word = Err expected.Nothing

-- the line may end before the word of a node, and behind the node
abbrev pub internal_ends : InternalBegun → Bool
internal_ends internal.Nothing = false
internal_ends (internal.Number number) = true
internal_ends (internal.Node number) = false
internal_ends (internal.Whole number node) = true

-- what was read: its number, and the node
abbrev pub internal_number : InternalBegun → Option ℕ
internal_number internal.Nothing = None
internal_number (internal.Number number) = Some number
internal_number (internal.Node number) = Some number
internal_number (internal.Whole number node) = Some number

abbrev pub internal_node : InternalBegun → Option (List ℕ)
internal_node (internal.Whole number node) = Some node
internal_node other = None
