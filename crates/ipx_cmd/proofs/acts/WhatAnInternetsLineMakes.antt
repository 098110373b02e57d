-- What a line makes of the machine of an internet, by what was read of it.
use Rattle.std.proofs.Common.{◌≡◌, ℕ, ◌<◌, true, false, Bool, List, [], ◌∷◌, ◌++◌, length, refl, sym, ap, subst, ◌∙◌, Option, None, Some, is_some, Result, Ok, append-nil, arith}
use Rattle.std.proofs.KnownBytes.{Appends-nil}
use Rattle.ipx_wire.specs.Ends.{Output}
use Rattle.ipx_router.specs.Port.{Port}
use Rattle.ipx_internet.specs.Internet.{Internet}
use Rattle.ipx_internet.specs.Moment.{Moment, StandsFor, net_at}
use Rattle.ipx_internet.specs.Queue.{Queued}
use Rattle.ipx_cmd.specs.inside.Acted.{Acted, Added, Halted}
use Rattle.ipx_cmd.specs.CommandMeaning.{values_of}
use Rattle.ipx_cmd.specs.EventText.{most_routes, most_services}
use Rattle.ipx_cmd.specs.InternetMachine.{Standing, Led, acts, does, internet_made, latest, obeys, order_fault, order_text, ordered, past_of, stage_of, untouched, with_port}
use Rattle.ipx_cmd.specs.inside.InternetStands.{InternetMachine, InternetStands, IsSame, IsStanding, Leads, Makes, reached}
use Rattle.ipx_cmd.specs.Line.{◌>>=◌, Stops}
use Rattle.ipx_cmd.specs.Making.{named_port}
use Rattle.ipx_cmd.specs.OrderLine.{order_meaning}
use Rattle.ipx_cmd.specs.OrderMeaning.{OrderMeaning, NextRouter, next_port, order_says}
use Rattle.ipx_cmd.specs.declared.lines.command.NamedPort.{NamedPort}
use Rattle.ipx_cmd.specs.declared.ended.RunFault.{RunFault}
use Rattle.ipx_cmd.specs.declared.ended.RunFault.TheVariants.{Memory}
use Rattle.ipx_cmd.specs.declared.lines.fault.LineFault.{LineFault}
use Rattle.ipx_cmd.specs.declared.lines.halt.Halt.{Halt}
use Rattle.ipx_cmd.specs.declared.lines.halt.Halt.TheVariants.{Line, Run}
use Rattle.ipx_cmd.specs.declared.lines.order.Order.{Order}
use Rattle.ipx_cmd.specs.declared.lines.order.Order.TheVariants.{Router as RouterOrder, Port as PortOrder}
use Rattle.ipx_cmd.specs.declared.lines.order.OrderStage.{OrderStage}
use Rattle.ipx_cmd.proofs.acts.AnotherRouterMayBeNamed.{port_line, router_line}
use Rattle.ipx_cmd.proofs.written.AddedOneAfterAnother.{added_kept}

-- ---- what a line does, by its meaning

same_stage : (m : InternetMachine) (s : Standing) → IsStanding m s → reached m ≡ stage_of s
same_stage m s is = grind arith

meaning_there : (m : InternetMachine) (s : Standing) (line : List ℕ) (meant : Result (Option OrderMeaning) LineFault) → IsStanding m s → order_meaning (reached m) line ≡ meant
    → order_meaning (stage_of s) line ≡ meant
meaning_there m s line meant is e = ap (λ (stage : OrderStage). order_meaning stage line) (sym (same_stage m s is)) ∙ e

pub acts_by : (m : InternetMachine) (s : Standing) (line : List ℕ) (meant : Result (Option OrderMeaning) LineFault) → IsStanding m s → order_meaning (reached m) line ≡ meant
    → acts s line ≡ (meant >>= does s)
unfolding acts
acts_by m s line meant is e = ap (λ (r : Result (Option OrderMeaning) LineFault). r >>= does s) (meaning_there m s line meant is e)

-- it is still what the lines led to
pub still : (m n : InternetMachine) (s : Standing) → IsSame m n → IsStanding m s → IsStanding n s
still m n s same is = record { net = same.net ∙ is.net; internet = subst (λ (x : Option Moment). InternetStands s.net x s.past) (sym same.internet) is.internet }

-- what a port's line and one for the internet lead to
abbrev port_led : Standing → Result Port LineFault → Led
port_led s made = made >>= (λ port. Ok (record { net = with_port s.net port; past = s.past }, []))

abbrev order_led : Standing → OrderMeaning → Result Queued LineFault → Led
order_led s r past = past >>= (λ q. obeys s.net q r)

-- ---- a line that is wrong, or that memory was wanting for
stopped : (o : Output) (text : List ℕ) (led : Led) (why : RunFault) → o.failed ≡ false → why ≡ Memory → Halted led o o text text (Run why)
stopped o text led why fine e = grind (arith, Appends-nil)

-- what stops what comes before stops the line
stops_line : (o : Output) (text : List ℕ) {A : Type 0} (before : Result A LineFault) (next : A → Led) (halt : Halt) → o.failed ≡ false → Stops before halt
    → Halted (before >>= next) o o text text halt
stops_line o text before next halt fine stops = grind (arith, stopped)

pub refused_line : (m : InternetMachine) (s : Standing) (line : List ℕ) (o : Output) (text : List ℕ) (halt : Halt) → o.failed ≡ false → IsStanding m s
    → Stops (order_meaning (reached m) line) halt → Halted (acts s line) o o text text halt
refused_line m s line o text halt fine is stops = grind (arith, acts_by, stops_line)

-- ---- a line that is skipped
pub skipped : (m n : InternetMachine) (s : Standing) (line : List ℕ) (o : Output) (text : List ℕ) → o.failed ≡ false → IsStanding m s → IsSame m n
    → order_meaning (reached m) line ≡ Ok None → Acted acts (IsStanding n) s line o o text text
skipped m n s line o text fine is same e = grind (arith, acts_by, still, added_kept, append-nil)

-- ---- a line that names a router or a port

-- the machine has other routers, and no internet yet
renamed : (m n p : InternetMachine) (s : Standing) (more : Internet → Internet) → IsStanding m s → IsSame m n → is_some m.internet ≡ false → p.net ≡ more n.net
    → p.internet ≡ n.internet → IsStanding p (record { net = more s.net; past = s.past })
renamed m n p s more is same none net internet = grind arith

pub router_named : (m n p : InternetMachine) (s : Standing) (line : List ℕ) (o : Output) (text : List ℕ) → o.failed ≡ false → IsStanding m s → IsSame m n
    → order_meaning (reached m) line ≡ Ok (Some NextRouter) → p.net ≡ n.net ++ [] ∷ [] → p.internet ≡ n.internet → Acted acts (IsStanding p) s line o o text text
router_named m n p s line o text fine is same e net internet = record {
  after = record { net = s.net ++ [] ∷ []; past = s.past };
  said = [];
  does = acts_by m s line (Ok (Some NextRouter)) is e;
  now = renamed m n p s (λ (l : Internet). l ++ [] ∷ []) is same (router_line (reached m) line e).0 net internet;
  added = added_kept o text text [] fine (sym (append-nil text));
}

pub port_named : (m n p : InternetMachine) (s : Standing) (line : List ℕ) (named : NamedPort) (o : Output) (text : List ℕ) → o.failed ≡ false → IsStanding m s → IsSame m n
    → order_meaning (reached m) line ≡ Ok (Some (next_port named)) → named_port (values_of named) ≡ Ok (values_of named)
    → p.net ≡ with_port n.net (values_of named) → p.internet ≡ n.internet → Acted acts (IsStanding p) s line o o text text
port_named m n p s line named o text fine is same e makes net internet = record {
  after = record { net = with_port s.net (values_of named); past = s.past };
  said = [];
  does = acts_by m s line (Ok (Some (next_port named))) is e ∙ ap (port_led s) makes;
  now = renamed m n p s (λ (l : Internet). with_port l (values_of named)) is same (port_line (reached m) line named e).0 net internet;
  added = added_kept o text text [] fine (sym (append-nil text));
}

pub port_unnamed : (m : InternetMachine) (s : Standing) (line : List ℕ) (named : NamedPort) (o : Output) (text : List ℕ) (halt : Halt) → o.failed ≡ false → IsStanding m s
    → order_meaning (reached m) line ≡ Ok (Some (next_port named)) → Stops (named_port (values_of named)) halt → Halted (acts s line) o o text text halt
port_unnamed m s line named o text halt fine is e stops = grind (arith, acts_by, stops_line)

pub some_router : (m n : InternetMachine) (line : List ℕ) (named : NamedPort) → IsSame m n → order_meaning (reached m) line ≡ Ok (Some (next_port named)) → 0 < length n.net
some_router m n line named same e = subst (λ (l : Internet). 0 < length l) (sym same.net) (port_line (reached m) line named e).1

-- ---- a line for the internet

abbrev is_naming : Order → Bool
is_naming RouterOrder = true
is_naming (PortOrder named) = true
is_naming order = false

order_does : (s : Standing) (buffer : List ℕ) (o : Order) → is_naming o ≡ false → does s (Some (order_says buffer o)) ≡ order_led s (order_says buffer o) (past_of s)
order_does s buffer o unlike = grind arith

-- what the line does, where this is what happened
order_line : (m : InternetMachine) (s : Standing) (line buffer : List ℕ) (o : Order) (past : Result Queued LineFault) → is_naming o ≡ false → IsStanding m s
    → order_meaning (reached m) line ≡ Ok (Some (order_says buffer o)) → past_of s ≡ past → acts s line ≡ order_led s (order_says buffer o) past
order_line m s line buffer o past unlike is e made = grind (arith, acts_by, order_does)

pub unmade_line : (m : InternetMachine) (s : Standing) (line buffer : List ℕ) (r : Order) (o : Output) (text : List ℕ) (halt : Halt) → o.failed ≡ false → is_naming r ≡ false
    → IsStanding m s → order_meaning (reached m) line ≡ Ok (Some (order_says buffer r)) → Stops (past_of s) halt → Halted (acts s line) o o text text halt
unmade_line m s line buffer r o text halt fine unlike is e stops =
    subst (λ (led : Led). Halted led o o text text halt) (sym (order_line m s line buffer r (past_of s) unlike is e refl))
    (stops_line o text (past_of s) (λ q. obeys s.net q (order_says buffer r)) halt fine stops)

-- the machine whose internet is made obeyed
obeyed_is : (m k : InternetMachine) (s : Standing) (line buffer : List ℕ) (r : Order) → is_naming r ≡ false → IsStanding m s
    → order_meaning (reached m) line ≡ Ok (Some (order_says buffer r)) → (made : Makes k s) → k.buffer ≡ buffer → acts s line ≡ obeys s.net made.past (order_says k.buffer r)
obeyed_is m k s line buffer r unlike is e made same =
    order_line m s line buffer r (Ok made.past) unlike is e made.is ∙ ap (λ (b : List ℕ). obeys s.net made.past (order_says b r)) (sym same)

pub obeyed_line : {m k p : InternetMachine} {s : Standing} {line buffer : List ℕ} (r : Order) {from to : Output} {old new : List ℕ} → is_naming r ≡ false → IsStanding m s
    → order_meaning (reached m) line ≡ Ok (Some (order_says buffer r)) → Makes k s → k.buffer ≡ buffer
    → ((net : Internet) (q : Queued) → IsStanding k (record { net = net; past = Some q }) → Leads p (obeys net q (order_says k.buffer r)) from to old new)
    → Acted acts (IsStanding p) s line from to old new
obeyed_line {m = m} {k = k} {s = s} {line = line} {buffer = buffer} r unlike is e made same obeyed = grind (arith, obeyed_is)

pub halted_line : {m k : InternetMachine} {s : Standing} (line : List ℕ) {buffer : List ℕ} (r : Order) (from to : Output) (old new : List ℕ) (halt : Halt) → is_naming r ≡ false → IsStanding m s
    → order_meaning (reached m) line ≡ Ok (Some (order_says buffer r)) → Makes k s → k.buffer ≡ buffer
    → ((net : Internet) (q : Queued) → IsStanding k (record { net = net; past = Some q }) → Halted (obeys net q (order_says k.buffer r)) from to old new halt)
    → Halted (acts s line) from to old new halt
halted_line {m = m} {k = k} {s = s} line {buffer = buffer} r from to old new halt unlike is e made same obeyed = grind (arith, obeyed_is)

-- ---- what the last call of a line leaves

pub unlike_naming : (o : Order) → (o ≡ RouterOrder → ⊥) → ((named : NamedPort) → o ≡ PortOrder named → ⊥) → is_naming o ≡ false
unlike_naming o router port = grind arith

-- ---- the internet is made, or was

made_by : (m : InternetMachine) (s : Standing) (past : Option Queued) → s.past ≡ past → is_some m.internet ≡ true → IsStanding m s → Makes m s
made_by m s past e made is = grind arith

pub was_made : (m : InternetMachine) (s : Standing) → is_some m.internet ≡ true → IsStanding m s → Makes m s
was_made m s made is = made_by m s s.past refl made is

-- where nothing was made yet, what happened is what the making leaves
pub past_made : (m : InternetMachine) (s : Standing) → is_some m.internet ≡ false → IsStanding m s → past_of s ≡ internet_made m.net
past_made m s none is = grind arith

pub now_made : (m n : InternetMachine) (s : Standing) (made : Moment) → is_some m.internet ≡ false → IsStanding m s → n.net ≡ m.net → n.internet ≡ Some made
    → internet_made m.net ≡ Ok (untouched m.net) → net_at made ≡ m.net → StandsFor most_routes most_services made (untouched m.net) → Makes n s
now_made m n s made none is same internet makes net stands = grind (arith, past_made)

pub not_made : (m : InternetMachine) (s : Standing) (halt : Halt) → is_some m.internet ≡ false → IsStanding m s → Stops (internet_made m.net) halt → Stops (past_of s) halt
not_made m s halt none is stops = subst (λ r. Stops r halt) (sym (past_made m s none is)) stops

-- ---- an order of the internet

-- the order did what it asks for
pub ordered_leads : (m p : InternetMachine) (old now : Moment) (net : Internet) (q : Queued) (r : OrderMeaning) (from to : Output) (before after : List ℕ) → m.internet ≡ Some old
    → IsStanding m (record { net = net; past = Some q }) → p.net ≡ m.net → p.internet ≡ Some now → order_fault (net_at old) r ≡ None → net_at now ≡ net_at old
    → ((q : Queued) → StandsFor most_routes most_services old q → StandsFor most_routes most_services now (ordered (net_at old) q r))
    → ((q : Queued) → StandsFor most_routes most_services old q → Added from to before after (order_text (net_at old) q r))
    → Leads p (obeys net q r) from to before after
ordered_leads m p old now net q r from to before after internet is same new there kept stands says =
    let was : InternetStands net (Some old) (Some q) = subst (λ (x : Option Moment). InternetStands net x (Some q)) internet is.internet in
    let here : order_fault net r ≡ None = subst (λ (n : Internet). order_fault n r ≡ None) was.0 there in
    record {
      after = record { net = net; past = Some (ordered net q r) };
      said = order_text net q r;
      does = rw (here, obeys) refl;
      now = record {
        net = same ∙ is.net;
        internet = subst (λ (x : Option Moment). InternetStands net x (Some (ordered net q r))) (sym new)
            (kept ∙ was.0, subst (λ (n : Internet). StandsFor most_routes most_services now (ordered n q r)) was.0 (stands q was.1));
      };
      added = subst (λ (n : Internet). Added from to before after (order_text n q r)) was.0 (says q was.1);
    }

-- what it names isn't there
pub order_wrong : (m : InternetMachine) (old : Moment) (net : Internet) (q : Queued) (r : OrderMeaning) (o : Output) (text : List ℕ) (fault : LineFault) → m.internet ≡ Some old
    → IsStanding m (record { net = net; past = Some q }) → order_fault (net_at old) r ≡ Some fault → Halted (obeys net q r) o o text text (Line fault)
order_wrong m old net q r o text fault internet is wrong = grind arith

-- the same of an order whose bytes lie in a buffer
pub obey_leads : (m p : InternetMachine) (old now : Moment) (o : Order) (bytes : List ℕ) (from to : Output) (before after : List ℕ) → m.internet ≡ Some old → bytes ≡ m.buffer
    → p.net ≡ m.net → p.internet ≡ Some now → ((buffer : List ℕ) → order_fault (net_at old) (order_says buffer o) ≡ None) → net_at now ≡ net_at old
    → ((q : Queued) → StandsFor most_routes most_services old q → StandsFor most_routes most_services now (ordered (net_at old) q (order_says bytes o)))
    → ((q : Queued) → StandsFor most_routes most_services old q → Added from to before after (order_text (net_at old) q (order_says bytes o)))
    → (net : Internet) (q : Queued) → IsStanding m (record { net = net; past = Some q }) → Leads p (obeys net q (order_says m.buffer o)) from to before after
obey_leads m p old now o bytes from to before after internet same net new there kept stands says = grind arith

-- ---- how far the script has come

abbrev stage_by : Bool → ℕ → ℕ → OrderStage
stage_by made routers ports = record { made = made; routers = routers; ports = ports }

pub reached_is : (m : InternetMachine) (made : Bool) (routers ports : ℕ) → made ≡ is_some m.internet → routers ≡ length m.net → ports ≡ length (latest m.net)
    → stage_by made routers ports ≡ reached m
reached_is m made routers ports a b c = rw (a, b, c) refl

-- the run ends since memory is missing
pub no_memory : (s : Standing) (line : List ℕ) (o : Output) (text : List ℕ) (halt : Halt) → o.failed ≡ false → halt ≡ Run Memory → Halted (acts s line) o o text text halt
no_memory s line o text halt fine e = subst (λ (h : Halt). Halted (acts s line) o o text text h) (sym e) (stopped o text (acts s line) Memory fine refl)
