use Rattle.std.proofs.Common.{◌≡◌, ℕ, ◌+◌, ◌<◌, ◌≤◌, true, List, [], length, take, drop, refl, sym, ap, ◌∙◌, inl, inr, arith, Some, None}
use Rattle.std.proofs.lemmas.Bool.{cases_Bool, cases_lt}
use Rattle.std.proofs.lemmas.List.{take_all, take-append-drop}
use Rattle.std.specs.Option.{unwrap_or}
use Rattle.ipx_settings.specs.Beginnings.{said_by, IsLine, BeginLine}
use Rattle.ipx_settings.specs.Lines.{line_step, line_ends, ended, fault_of, read_from}
use Rattle.ipx_settings.specs.declared.expected.Expected.{Expected}
use Rattle.ipx_settings.specs.declared.line.Context.{Context}
use Rattle.ipx_settings.specs.declared.line.Line.{Line}
use Rattle.ipx_settings.specs.declared.line.Line.TheVariants.{Nothing}
use Rattle.ipx_settings.proofs.Begun.{Front, front, said-append, wrong-append}
use Rattle.ipx_settings.proofs.Endings.{can_end, refuses}

-- a line that is open still isn't without a fault
ended_none : (c : Context) (l : Line) → ended c l ≡ None → line_ends l ≡ true
ended_none c l none =
    elim (cases_Bool (line_ends l)) [
      | inl is ↦ is
      | inr other ↦
          let why = refuses c l other in
          let at_end : ended c l ≡ fault_of (line_step c l []) = rw other refl in
          absurd (some_isnt why.0 (sym why.1 ∙ sym at_end ∙ none))
    ]
  where
    some_isnt : (e : Expected) → Some e ≡ None → ⊥
    some_isnt e bad = cc

none_ended : (c : Context) (l : Line) → line_ends l ≡ true → ended c l ≡ None
none_ended c l is = rw is refl

-- all words of a reading without a fault are right
all_right : (c : Context) (ws : List (List ℕ)) → (read_from c Nothing 0 ws).fault ≡ None → (front c Nothing 0 ws).right ≡ length ws
all_right c ws none =
    let f = front c Nothing 0 ws in
    elim (cases_lt f.right (length ws)) [
      | inl below ↦ absurd (f.there below none)
      | inr past ↦ omega (arith, past, f.within)
    ]

pub right : (c : Context) (ws : List (List ℕ)) → (read_from c Nothing 0 ws).fault ≡ None → IsLine c (read_from c Nothing 0 ws).line ws
right c ws none =
    let f = front c Nothing 0 ws in
    let all = all_right c ws none in
    let whole : take f.right ws ≡ ws = take_all f.right ws (omega (arith, all)) in
    (ap (said_by c Nothing) (sym whole) ∙ f.said, ended_none c (read_from c Nothing 0 ws).line (sym (f.fault all) ∙ none))

one_line : (l m : Line) → Some l ≡ Some m → l ≡ m
one_line l m e = ap (λ o. unwrap_or o l) e

none_some : (l : Line) → None ≡ Some l → ⊥
none_some l bad = cc

-- words that are all right are read to their end
read_whole : (c : Context) (l : Line) (ws : List (List ℕ)) → said_by c Nothing ws ≡ Some l → (front c Nothing 0 ws).right ≡ length ws
read_whole c l ws said =
    let f = front c Nothing 0 ws in
    elim (cases_lt f.right (length ws)) [
      | inl below ↦ absurd (broken f below)
      | inr past ↦ omega (arith, past, f.within)
    ]
  where
    broken : (f : Front c Nothing 0 ws (read_from c Nothing 0 ws)) → f.right < length ws → ⊥
    broken f below =
        none_some l (sym (wrong-append c Nothing (take (f.right + 1) ws) (drop (f.right + 1) ws) (f.wrong below)) ∙ ap (said_by c Nothing) (take-append-drop (f.right + 1) ws) ∙ said)

pub read : (c : Context) (l : Line) (ws : List (List ℕ)) → IsLine c l ws
    → ((read_from c Nothing 0 ws).fault ≡ None) × ((read_from c Nothing 0 ws).line ≡ l)
read c l ws is =
    let f = front c Nothing 0 ws in
    let all = read_whole c l ws is.0 in
    let whole : take f.right ws ≡ ws = take_all f.right ws (omega (arith, all)) in
    let same : (read_from c Nothing 0 ws).line ≡ l = one_line _ l (sym f.said ∙ ap (said_by c Nothing) whole ∙ is.0) in
    (f.fault all ∙ none_ended c (read_from c Nothing 0 ws).line (ap line_ends same ∙ is.1), same)

-- and so many they are
pub read_all : (c : Context) (l : Line) (ws : List (List ℕ)) → IsLine c l ws → (read_from c Nothing 0 ws).read ≡ length ws
read_all c l ws is =
    let f = front c Nothing 0 ws in
    omega (arith, f.read, read_whole c l ws is.0)

pub before : (c : Context) (ws : List (List ℕ)) → 1 ≤ c.most_clients → BeginLine c (take (read_from c Nothing 0 ws).read ws)
before c ws some =
    let f = front c Nothing 0 ws in
    let e : (read_from c Nothing 0 ws).read ≡ f.right = omega (arith, f.read) in
    let end = can_end c (read_from c Nothing 0 ws).line some in
    rw e (end.0, (end.1.0, (said-append c Nothing (read_from c Nothing 0 ws).line (take f.right ws) end.0 f.said ∙ end.1.1.0, end.1.1.1)))

pub wrong : (c : Context) (e : Expected) (ws : List (List ℕ)) → (read_from c Nothing 0 ws).fault ≡ Some e
    → (read_from c Nothing 0 ws).read < length ws → BeginLine c (take ((read_from c Nothing 0 ws).read + 1) ws) → ⊥
wrong c e ws fault below begun =
    let f = front c Nothing 0 ws in
    let at : (read_from c Nothing 0 ws).read ≡ f.right = omega (arith, f.read) in
    let none : said_by c Nothing (take ((read_from c Nothing 0 ws).read + 1) ws) ≡ None = rw at (f.wrong (omega (arith, below, at))) in
    none_some begun.1.0 (sym (wrong-append c Nothing (take ((read_from c Nothing 0 ws).read + 1) ws) begun.0 none) ∙ begun.1.1.0)

pub at_end : (c : Context) (e : Expected) (l : Line) (ws : List (List ℕ)) → (read_from c Nothing 0 ws).fault ≡ Some e → IsLine c l ws → ⊥
at_end c e l ws fault is = some_isnt (sym fault ∙ (read c l ws is).0)
  where
    some_isnt : Some e ≡ None → ⊥
    some_isnt bad = cc
