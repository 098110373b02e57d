-- What follows from what is known of an answer, whichever way it went.
use Rattle.std.proofs.Common.{IfErr, IfOk, OnErr, OnOk, ◌≡◌, false, Bool, Result, Ok, Err, arith}
use Rattle.std.specs.Result.{IsErrAnd}
use Rattle.ipx_cmd.specs.WroteFront.{IsFaultOf}
use Rattle.ipx_cmd.specs.declared.ended.Ended.{Ended}
use Rattle.ipx_cmd.specs.declared.ended.RunFault.{RunFault}
use Rattle.ipx_cmd.specs.declared.ended.RunFault.TheVariants.{Read, Write, Memory}

pub err_by : {T E : Type 0} (P : E → Type 0) (why : E) (r : Result T E) → IsErrAnd r (λ met. met ≡ why) → P why → IfErr r P
err_by P why r e p = grind arith

pub no_read : {X : Type 0} (intake outlet : Bool) (why : RunFault) (r : Result Ended RunFault) → IsErrAnd r (λ met. met ≡ why) → IsFaultOf intake outlet why → intake ≡ false
    → r ≡ Err Read → X
no_read intake outlet Read r e fault fine is = absurd cc
no_read intake outlet Write (Ok ended) e fault fine is = absurd e
no_read intake outlet Write (Err met) e fault fine is = absurd cc
no_read intake outlet Memory (Ok ended) e fault fine is = absurd e
no_read intake outlet Memory (Err met) e fault fine is = absurd cc

-- what follows from what holds of an answer
pub if_ok : {T E : Type 0} {P Q : T → Type 0} (r : Result T E) → IfOk r P → ((x : T) → P x → Q x) → IfOk r Q
if_ok r p next = grind arith

pub on_ok : {T E P Q : Type 0} (r : Result T E) → OnOk r P → (P → Q) → OnOk r Q
on_ok r p next = grind arith

pub on_both : {A E P Q X : Type 0} (r : Result A E) → OnOk r P → OnOk r Q → (P → Q → X) → OnOk r X
on_both r p q next = grind arith

pub if_err : {T E : Type 0} {P Q : E → Type 0} (r : Result T E) → IfErr r P → ((e : E) → P e → Q e) → IfErr r Q
if_err r p next = grind arith

pub on_err : {T E Q : Type 0} {P : E → Type 0} (r : Result T E) → IfErr r P → ((e : E) → P e → Q) → OnErr r Q
on_err r p next = grind arith

pub on_err_always : {T E P : Type 0} (r : Result T E) → P → OnErr r P
on_err_always r p = grind arith

-- an error of which something holds in whatever stands, where it is known what stands
pub if_err_at : {T E A : Type 0} (Q : A → Type 0) (P : E → Type 0) (r : Result T E) (a : A) → Q a → IfErr r (λ e. (x : A) → Q x → P e) → IfErr r P
if_err_at Q P r a q h = grind arith
