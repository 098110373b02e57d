-- What a line makes of a machine, by what was read of it.
use Rattle.std.proofs.Common.{◌≡◌, ℕ, true, false, Bool, List, [], ◌∷◌, ◌++◌, refl, sym, ap, subst, ◌∙◌, Option, None, Some, is_some, Result, Ok, Err, append-nil, arith}
use Rattle.std.proofs.KnownBytes.{Appends-nil}
use Rattle.ipx_wire.specs.Ends.{Output}
use Rattle.ipx_router.specs.History.{History}
use Rattle.ipx_router.specs.Port.{Port}
use Rattle.ipx_router.specs.Stands.{State}
use Rattle.ipx_cmd.specs.inside.Acted.{Acted, Halted}
use Rattle.ipx_cmd.specs.CommandMeaning.{CommandMeaning, command_says, next_port, values_of}
use Rattle.ipx_cmd.specs.Line.{◌>>=◌, Stops}
use Rattle.ipx_cmd.specs.Machine.{Standing, Led, acts, does, obeys, past_of, stage_of}
use Rattle.ipx_cmd.specs.inside.MachineStands.{Machine, RouterStands, IsSame, IsStanding, Leads, Makes, reached}
use Rattle.ipx_cmd.specs.Making.{named_port}
use Rattle.ipx_cmd.specs.Script.{line_meaning}
use Rattle.ipx_cmd.specs.declared.lines.command.Command.{Command}
use Rattle.ipx_cmd.specs.declared.lines.command.Command.TheVariants.{Port as PortCommand}
use Rattle.ipx_cmd.specs.declared.lines.command.NamedPort.{NamedPort}
use Rattle.ipx_cmd.specs.declared.lines.command.Stage.{Stage}
use Rattle.ipx_cmd.specs.declared.ended.RunFault.{RunFault}
use Rattle.ipx_cmd.specs.declared.ended.RunFault.TheVariants.{Memory}
use Rattle.ipx_cmd.specs.declared.lines.fault.LineFault.{LineFault}
use Rattle.ipx_cmd.specs.declared.lines.halt.Halt.{Halt}
use Rattle.ipx_cmd.specs.declared.lines.halt.Halt.TheVariants.{Line, Run}
use Rattle.ipx_cmd.proofs.acts.AnotherPortMayBeNamed.{port_line}
use Rattle.ipx_cmd.proofs.written.AddedOneAfterAnother.{added_kept}

-- ---- what a line does, by its meaning

same_stage : (m : Machine) (s : Standing) → IsStanding m s → reached m ≡ stage_of s
same_stage m s is = grind arith

meaning_there : (m : Machine) (s : Standing) (line : List ℕ) (meant : Result (Option CommandMeaning) LineFault) → IsStanding m s → line_meaning (reached m) line ≡ meant
    → line_meaning (stage_of s) line ≡ meant
meaning_there m s line meant is e = ap (λ (stage : Stage). line_meaning stage line) (sym (same_stage m s is)) ∙ e

pub acts_by : (m : Machine) (s : Standing) (line : List ℕ) (meant : Result (Option CommandMeaning) LineFault) → IsStanding m s → line_meaning (reached m) line ≡ meant
    → acts s line ≡ (meant >>= does s)
unfolding acts
acts_by m s line meant is e = ap (λ (r : Result (Option CommandMeaning) LineFault). r >>= does s) (meaning_there m s line meant is e)

-- it is still what the lines led to
pub still : (m n : Machine) (s : Standing) → IsSame m n → IsStanding m s → IsStanding n s
still m n s same is = record { ports = same.ports ∙ is.ports; router = subst (λ (x : Option State). RouterStands s.ports x s.past) (sym same.router) is.router }

-- what a port's line and one for the router lead to
abbrev port_led : Standing → Result Port LineFault → Led
port_led s made = made >>= (λ port. Ok (record { ports = s.ports ++ port ∷ []; past = s.past }, []))

abbrev router_led : Standing → CommandMeaning → Result History LineFault → Led
router_led s i past = past >>= (λ h. obeys s.ports h i)

-- ---- a line that is wrong, or that memory was wanting for
stopped : (o : Output) (text : List ℕ) (led : Led) (why : RunFault) → o.failed ≡ false → why ≡ Memory → Halted led o o text text (Run why)
stopped o text led why fine e = grind (arith, Appends-nil)

pub refused_line : (m : Machine) (s : Standing) (line : List ℕ) (o : Output) (text : List ℕ) (halt : Halt) → o.failed ≡ false → IsStanding m s → Stops (line_meaning (reached m) line) halt
    → Halted (acts s line) o o text text halt
refused_line m s line o text halt fine is stops = grind (arith, acts_by, stopped)

-- ---- a line that is skipped
pub skipped : (m n : Machine) (s : Standing) (line : List ℕ) (o : Output) (text : List ℕ) → o.failed ≡ false → IsStanding m s → IsSame m n → line_meaning (reached m) line ≡ Ok None
    → Acted acts (IsStanding n) s line o o text text
skipped m n s line o text fine is same e = grind (arith, acts_by, still, added_kept, append-nil)

-- ---- a line that names a port

still_bare : (ports more : List Port) (router : Option State) (past : Option History) → is_some router ≡ false → RouterStands ports router past → RouterStands more router past
still_bare ports more router past none s = grind arith

pub named_line : (m n p : Machine) (s : Standing) (line : List ℕ) (named : NamedPort) (o : Output) (text : List ℕ) → o.failed ≡ false → IsStanding m s → IsSame m n
    → line_meaning (reached m) line ≡ Ok (Some (next_port named)) → named_port (values_of named) ≡ Ok (values_of named)
    → p.ports ≡ n.ports ++ values_of named ∷ [] → p.router ≡ n.router → Acted acts (IsStanding p) s line o o text text
named_line m n p s line named o text fine is same e makes ports router = record {
  after = record { ports = s.ports ++ values_of named ∷ []; past = s.past };
  said = [];
  does = acts_by m s line (Ok (Some (next_port named))) is e ∙ ap (port_led s) makes;
  now = record {
    ports = ports ∙ ap (λ (l : List Port). l ++ values_of named ∷ []) (same.ports ∙ is.ports);
    router = subst (λ (x : Option State). RouterStands (s.ports ++ values_of named ∷ []) x s.past) (sym (router ∙ same.router))
        (still_bare s.ports (s.ports ++ values_of named ∷ []) m.router s.past (port_line (reached m) line named e).0 is.router);
  };
  added = added_kept o text text [] fine (sym (append-nil text));
}

pub unnamed_line : (m : Machine) (s : Standing) (line : List ℕ) (named : NamedPort) (o : Output) (text : List ℕ) (fault : LineFault) → IsStanding m s
    → line_meaning (reached m) line ≡ Ok (Some (next_port named)) → named_port (values_of named) ≡ Err fault → Halted (acts s line) o o text text (Line fault)
unnamed_line m s line named o text fault is e makes = (acts_by m s line (Ok (Some (next_port named))) is e ∙ ap (port_led s) makes, refl, refl)

-- ---- a line for the router

abbrev is_port : Command → Bool
is_port (PortCommand named) = true
is_port command = false

router_does : (s : Standing) (buffer : List ℕ) (c : Command) → is_port c ≡ false → does s (Some (command_says buffer c)) ≡ router_led s (command_says buffer c) (past_of s)
router_does s buffer c unlike = grind arith

-- what the line does, where its router has this history
router_line : (m : Machine) (s : Standing) (line buffer : List ℕ) (c : Command) (past : Result History LineFault) → is_port c ≡ false → IsStanding m s
    → line_meaning (reached m) line ≡ Ok (Some (command_says buffer c)) → past_of s ≡ past → acts s line ≡ router_led s (command_says buffer c) past
router_line m s line buffer c past unlike is e made = grind (arith, acts_by, router_does)

pub unmade_line : (m : Machine) (s : Standing) (line buffer : List ℕ) (c : Command) (o : Output) (text : List ℕ) (fault : LineFault) → is_port c ≡ false → IsStanding m s
    → line_meaning (reached m) line ≡ Ok (Some (command_says buffer c)) → past_of s ≡ Err fault → Halted (acts s line) o o text text (Line fault)
unmade_line m s line buffer c o text fault unlike is e made = (router_line m s line buffer c (Err fault) unlike is e made, refl, refl)

-- the machine whose router is made obeyed
obeyed_is : (m k : Machine) (s : Standing) (line buffer : List ℕ) (c : Command) → is_port c ≡ false → IsStanding m s
    → line_meaning (reached m) line ≡ Ok (Some (command_says buffer c)) → (made : Makes k s) → k.buffer ≡ buffer → acts s line ≡ obeys s.ports made.past (command_says k.buffer c)
obeyed_is m k s line buffer c unlike is e made same =
    router_line m s line buffer c (Ok made.past) unlike is e made.is ∙ ap (λ (b : List ℕ). obeys s.ports made.past (command_says b c)) (sym same)

pub obeyed_line : {m k p : Machine} {s : Standing} {line buffer : List ℕ} (c : Command) {from to : Output} {old new : List ℕ} → is_port c ≡ false → IsStanding m s
    → line_meaning (reached m) line ≡ Ok (Some (command_says buffer c)) → Makes k s → k.buffer ≡ buffer
    → ((ports : List Port) (h : History) → IsStanding k (record { ports = ports; past = Some h }) → Leads p (obeys ports h (command_says k.buffer c)) from to old new)
    → Acted acts (IsStanding p) s line from to old new
obeyed_line {m = m} {k = k} {s = s} {line = line} {buffer = buffer} c unlike is e made same obeyed = grind (arith, obeyed_is)

pub halted_line : {m k : Machine} {s : Standing} (line : List ℕ) {buffer : List ℕ} (c : Command) (from to : Output) (old new : List ℕ) (halt : Halt) → is_port c ≡ false → IsStanding m s
    → line_meaning (reached m) line ≡ Ok (Some (command_says buffer c)) → Makes k s → k.buffer ≡ buffer
    → ((ports : List Port) (h : History) → IsStanding k (record { ports = ports; past = Some h }) → Halted (obeys ports h (command_says k.buffer c)) from to old new halt)
    → Halted (acts s line) from to old new halt
halted_line {m = m} {k = k} {s = s} line {buffer = buffer} c from to old new halt unlike is e made same obeyed = grind (arith, obeyed_is)

-- ---- what the last call of a line leaves

pub unlike_port : (c : Command) → ((named : NamedPort) → c ≡ PortCommand named → ⊥) → is_port c ≡ false
unlike_port c differs = grind arith
