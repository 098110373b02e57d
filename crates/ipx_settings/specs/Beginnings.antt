-- What words begin, and what makes a line of them.
use Rattle.std.specs.Prelude.{◌≡◌, ℕ, true, List, [], ◌∷◌, ◌++◌, Option, Some, None, Result, Ok, Err}
use Rattle.ipx_settings.specs.Lines.{line_step, line_ends}
use Rattle.ipx_settings.specs.Links.{link_step}
use Rattle.ipx_settings.specs.declared.expected.Expected.{Expected}
use Rattle.ipx_settings.specs.declared.line.Context.{Context}
use Rattle.ipx_settings.specs.declared.line.Line.{Line}
use Rattle.ipx_settings.specs.declared.line.Line.TheVariants as line
use Rattle.ipx_settings.specs.declared.link.Cards.{Cards}
use Rattle.ipx_settings.specs.declared.link.LinkBegun.{LinkBegun}

abbrev pub if_right : Result Line Expected → (Line → Option Line) → Option Line
if_right (Ok next) on = on next
if_right (Err e) on = None

-- what is said, where these words come behind it and all of them are right
abbrev pub said_by : Context → Line → List (List ℕ) → Option Line
said_by c l [] = Some l
said_by c l (word ∷ more) = if_right (line_step c l word) (λ next. said_by c next more)

-- words that are right, and may end
abbrev pub IsLine : Context → Line → List (List ℕ) → Type 0
IsLine c l words = (said_by c line.Nothing words ≡ Some l) × (line_ends l ≡ true)

-- words that a line begins with: these alone, or with others behind them
abbrev pub BeginLine : Context → List (List ℕ) → Type 0
BeginLine c words = (more : List (List ℕ)) × ((l : Line) × IsLine c l (words ++ more))

abbrev pub if_goes_on : Result LinkBegun Expected → (LinkBegun → Option LinkBegun) → Option LinkBegun
if_goes_on (Ok next) on = on next
if_goes_on (Err e) on = None

-- what is said of a link, where these words come behind that and all of them are right
abbrev pub link_said : Cards → LinkBegun → List (List ℕ) → Option LinkBegun
link_said cards begun [] = Some begun
link_said cards begun (word ∷ more) = if_goes_on (link_step cards begun word) (λ next. link_said cards next more)
