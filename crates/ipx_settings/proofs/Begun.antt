use Rattle.std.proofs.Common.{◌≡◌, ℕ, suc, ◌+◌, ◌<◌, ◌≤◌, List, [], ◌∷◌, ◌++◌, length, take, refl, ap, arith, Option, Some, None}
use Rattle.std.specs.Prelude.{Result, Ok, Err}
use Rattle.ipx_settings.specs.Beginnings.{if_right, said_by}
use Rattle.ipx_settings.specs.Lines.{line_step, ended, read_from, read_to, on_step}
use Rattle.ipx_settings.specs.declared.expected.Expected.{Expected}
use Rattle.ipx_settings.specs.declared.line.Context.{Context}
use Rattle.ipx_settings.specs.declared.line.Line.{Line}
use Rattle.ipx_settings.specs.declared.reading.Reading.{Reading}

-- words behind words
pub said-append : (c : Context) (l m : Line) (xs ys : List (List ℕ)) → said_by c l xs ≡ Some m → said_by c l (xs ++ ys) ≡ said_by c m ys
said-append c l m [] ys e = ap (λ o. if_some o ys) e
  where
    if_some : Option Line → List (List ℕ) → Option Line
    if_some None ys = None
    if_some (Some n) ys = said_by c n ys
said-append c l m (x ∷ xs) ys e = behind (λ next f. said-append c next m xs ys f) (line_step c l x) e
  where
    behind : ((next : Line) → said_by c next xs ≡ Some m → said_by c next (xs ++ ys) ≡ said_by c m ys) → (r : Result Line Expected) → if_right r (λ next. said_by c next xs) ≡ Some m → if_right r (λ next. said_by c next (xs ++ ys)) ≡ said_by c m ys
    behind each (Ok next) e = each next e
    behind each (Err why) e = absurd cc

-- nothing is right behind a wrong word
pub wrong-append : (c : Context) (l : Line) (xs ys : List (List ℕ)) → said_by c l xs ≡ None → said_by c l (xs ++ ys) ≡ None
wrong-append c l [] ys e = absurd cc
wrong-append c l (x ∷ xs) ys e = behind (λ next f. wrong-append c next xs ys f) (line_step c l x) e
  where
    behind : ((next : Line) → said_by c next xs ≡ None → said_by c next (xs ++ ys) ≡ None) → (r : Result Line Expected) → if_right r (λ next. said_by c next xs) ≡ None → if_right r (λ next. said_by c next (xs ++ ys)) ≡ None
    behind each (Ok next) e = each next e
    behind each (Err why) e = refl

-- what is known of a reading
pub record Front (c : Context) (l : Line) (n : ℕ) (ws : List (List ℕ)) (r : Reading) : Type 0 where
  pub right : ℕ
  pub read : r.read ≡ n + right
  pub within : right ≤ length ws
  pub said : said_by c l (take right ws) ≡ Some r.line
  pub wrong : right < length ws → said_by c l (take (right + 1) ws) ≡ None
  pub fault : right ≡ length ws → r.fault ≡ ended c r.line
  pub there : right < length ws → r.fault ≡ None → ⊥

pub front : (c : Context) (l : Line) (n : ℕ) (ws : List (List ℕ)) → Front c l n ws (read_from c l n ws)
front c l n [] = record {
  right = 0;
  read = omega arith;
  within = omega arith;
  said = refl;
  wrong = λ below. absurd (omega (arith, below));
  fault = λ _. refl;
  there = λ below _. omega (arith, below);
}
front c l n (w ∷ ws) = by (λ next. front c next (n + 1) ws) (line_step c l w) refl
  where
    by : ((next : Line) → Front c next (n + 1) ws (read_from c next (n + 1) ws)) → (s : Result Line Expected) → line_step c l w ≡ s → Front c l n (w ∷ ws) (on_step s (λ next. read_from c next (n + 1) ws) (λ e. read_to l n (Some e)))
    by each (Ok next) is =
        let f = each next in
        let more : suc f.right ≡ f.right + 1 = omega arith in
        record {
          right = suc f.right;
          read = omega (arith, f.read);
          within = omega (arith, f.within);
          said = rw is f.said;
          wrong = λ below. (let e : suc f.right + 1 ≡ suc (f.right + 1) = omega arith in rw (e, is) (f.wrong (omega (arith, below))));
          fault = λ all. f.fault (omega (arith, all));
          there = λ below none. f.there (omega (arith, below)) none;
        }
    by each (Err e) is = record {
      right = 0;
      read = omega arith;
      within = omega arith;
      said = refl;
      wrong = λ below. rw is refl;
      fault = λ all. absurd (omega (arith, all));
      there = λ below none. absurd cc;
    }
