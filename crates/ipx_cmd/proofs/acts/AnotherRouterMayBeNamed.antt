-- Where a line names a router or a port, another one may be named.
use Rattle.std.proofs.Common.{◌≡◌, ℕ, ◌<◌, true, false, not, Bool, if◌then◌else◌, List, [], ◌∷◌, codes, refl, sym, ap, arith, Option, None, Some, Result, Ok, Err}
use Rattle.std.proofs.lemmas.Bool.{true≢false}
use Rattle.std.specs.Str.{bytes_eq}
use Rattle.ipx_cmd.specs.Line.{◌>>=◌, no_more, line_words}
use Rattle.ipx_cmd.specs.OrderLine.{order_meaning, words_meaning, command_meaning, later_command, router_command, router_meaning, port_meaning, router_allowed, port_allowed, in_meaning, trace_meaning}
use Rattle.ipx_cmd.specs.OrderMeaning.{OrderMeaning, NextRouter, NextPort, next_port}
use Rattle.ipx_cmd.specs.declared.lines.command.NamedPort.{NamedPort}
use Rattle.ipx_cmd.specs.declared.lines.order.OrderStage.{OrderStage}
use Rattle.ipx_cmd.specs.declared.lines.fault.LineFault.{LineFault}

-- ---- the naming of a router, or of a port

-- an order names a router, or a port
abbrev is_named : Bool → OrderMeaning → Bool
is_named router NextRouter = router
is_named router (NextPort values) = not router
is_named router r = false

abbrev names : Bool → Result OrderMeaning LineFault → Bool
names router (Ok r) = is_named router r
names router (Err fault) = false

abbrev names_some : Bool → Result (Option OrderMeaning) LineFault → Bool
names_some router (Ok (Some r)) = is_named router r
names_some router (Ok None) = false
names_some router (Err fault) = false

bind_never : {A : Type 0} (router : Bool) (x : Result A LineFault) (next : A → Result OrderMeaning LineFault)
    → ((a : A) → names router (next a) ≡ false) → names router (x >>= next) ≡ false
bind_never router x next never = grind arith

if_never : (router b : Bool) (x y : Result OrderMeaning LineFault) → names router x ≡ false → names router y ≡ false
    → names router (if b then x else y) ≡ false
if_never router b x y one other = grind arith

-- ---- no other line names them

router_never : (r : Bool) (name : List ℕ) (arguments : List (List ℕ)) → names r (router_command name arguments) ≡ false
router_never r name arguments = grind arith

later_never : (r : Bool) (name : List ℕ) (arguments : List (List ℕ)) → names r (later_command name arguments) ≡ false
later_never r name arguments = grind (arith, if_never, bind_never, router_never)

in_never : (r : Bool) (arguments : List (List ℕ)) → names r (in_meaning arguments) ≡ false
in_never r arguments = grind arith

trace_never : (r : Bool) (arguments : List (List ℕ)) → names r (trace_meaning arguments) ≡ false
trace_never r arguments = grind arith

other_never : (r : Bool) (name : List ℕ) (arguments : List (List ℕ)) → names r (
    if bytes_eq name (codes "in") then in_meaning arguments
    else if bytes_eq name (codes "trace") then trace_meaning arguments
    else later_command name arguments
    ) ≡ false
other_never r name arguments = grind (arith, if_never, in_never, trace_never, later_never)

port_names : (stage : OrderStage) (arguments : List (List ℕ)) → names true (port_meaning stage arguments) ≡ false
port_names stage arguments = grind (arith, bind_never)

router_names : (stage : OrderStage) (arguments : List (List ℕ)) → names false (router_meaning stage arguments) ≡ false
router_names stage arguments = bind_never false (no_more arguments) _ (λ none. bind_never false (router_allowed stage) _ (λ allowed. refl))

-- ---- the line that does

allowed_inside : {A : Type 0} (r : Bool) (x : Result A LineFault) (allowed : Result (Unit {0}) LineFault) (next : A → Unit {0} → Result OrderMeaning LineFault)
    → names r (x >>= (λ a. allowed >>= next a)) ≡ true → allowed ≡ Ok tt
allowed_inside r x allowed next e = grind arith

first_or_other : (r b : Bool) (x y : Result OrderMeaning LineFault) → names r y ≡ false → names r (if b then x else y) ≡ true → names r x ≡ true
first_or_other r b x y never e = grind arith

behind_first : (r b : Bool) (x y : Result OrderMeaning LineFault) → names r x ≡ false → names r (if b then x else y) ≡ true → names r y ≡ true
behind_first r b x y never e = grind arith

router_command_allowed : (stage : OrderStage) (name : List ℕ) (arguments : List (List ℕ)) → names true (command_meaning stage name arguments) ≡ true
    → router_allowed stage ≡ Ok tt
router_command_allowed stage name arguments e = grind (arith, allowed_inside, first_or_other, if_never, port_names, other_never)

port_command_allowed : (stage : OrderStage) (name : List ℕ) (arguments : List (List ℕ)) → names false (command_meaning stage name arguments) ≡ true
    → port_allowed stage ≡ Ok tt
port_command_allowed stage name arguments e = grind (arith, allowed_inside, first_or_other, other_never, behind_first, router_names)

some_names : (router : Bool) (r : Result OrderMeaning LineFault) → names_some router (r >>= (λ i. Ok (Some i))) ≡ true → names router r ≡ true
some_names router r e = grind arith

router_words : (stage : OrderStage) (found : Result (List (List ℕ)) LineFault) → names_some true (found >>= words_meaning stage) ≡ true → router_allowed stage ≡ Ok tt
router_words stage (Ok []) e = absurd (true≢false (sym e))
router_words stage (Ok (name ∷ arguments)) e = router_command_allowed stage name arguments (some_names true (command_meaning stage name arguments) e)
router_words stage (Err fault) e = absurd (true≢false (sym e))

port_words_allowed : (stage : OrderStage) (found : Result (List (List ℕ)) LineFault) → names_some false (found >>= words_meaning stage) ≡ true → port_allowed stage ≡ Ok tt
port_words_allowed stage (Ok []) e = absurd (true≢false (sym e))
port_words_allowed stage (Ok (name ∷ arguments)) e = port_command_allowed stage name arguments (some_names false (command_meaning stage name arguments) e)
port_words_allowed stage (Err fault) e = absurd (true≢false (sym e))

early_router : (made : Bool) (routers ports : ℕ) → router_allowed (record { made = made; routers = routers; ports = ports }) ≡ Ok tt → (made ≡ false) × (routers < 32)
early_router made routers ports e = grind arith

early_port : (made : Bool) (routers ports : ℕ) → port_allowed (record { made = made; routers = routers; ports = ports }) ≡ Ok tt
    → (made ≡ false) × (0 < routers) × (ports < 8)
early_port made routers ports e = grind arith

-- nothing is made, and there are fewer than 32 routers
pub router_line : (stage : OrderStage) (line : List ℕ) → order_meaning stage line ≡ Ok (Some NextRouter) → (stage.made ≡ false) × (stage.routers < 32)
router_line stage line e = early_router stage.made stage.routers stage.ports (router_words stage (line_words line) (ap (names_some true) e))

-- nothing is made, there is a router, and it has fewer than eight ports
pub port_line : (stage : OrderStage) (line : List ℕ) (named : NamedPort) → order_meaning stage line ≡ Ok (Some (next_port named))
    → (stage.made ≡ false) × (0 < stage.routers) × (stage.ports < 8)
port_line stage line named e = early_port stage.made stage.routers stage.ports (port_words_allowed stage (line_words line) (ap (names_some false) e))
