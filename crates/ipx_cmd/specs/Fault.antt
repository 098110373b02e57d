-- The words of what is wrong with a line.
use Rattle.std.specs.Prelude.{ℕ, List, codes}
use Rattle.ipx_cmd.specs.declared.lines.fault.LineFault.{LineFault}
use Rattle.ipx_cmd.specs.declared.lines.fault.LineFault.TheVariants.{Long, Text, Command, Words, Late, Many, Network, Node, Number, Hex, Longest, Cost, None, Same, Port, Router, Routers, SameNode}

-- the word that stands for a fault of a line
abbrev pub fault_word : LineFault → List ℕ
fault_word Long = codes "long"
fault_word Text = codes "text"
fault_word Command = codes "command"
fault_word Words = codes "words"
fault_word Late = codes "late"
fault_word Many = codes "many"
fault_word Network = codes "network"
fault_word Node = codes "node"
fault_word Number = codes "number"
fault_word Hex = codes "hex"
fault_word Longest = codes "longest"
fault_word Cost = codes "cost"
fault_word None = codes "none"
fault_word Same = codes "same"
fault_word Port = codes "port"
fault_word Router = codes "router"
fault_word Routers = codes "routers"
fault_word SameNode = codes "samenode"
