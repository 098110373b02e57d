-- What a limit lets pass in some time, and what the limits of the router let pass.
use Rattle.std.specs.Prelude.{◌≡◌, ℕ, ◌+◌, ◌≤◌, ◌⊎◌, Bool, true, false, ◌&&◌, if◌then◌else◌, List, [], ◌∷◌}
use Rattle.ipx_fair.specs.declared.meter.Meter.{Meter}
use Rattle.ipx_fair.specs.States.{State}
use Rattle.ipx_fair.specs.Serving.{Passed}
use Rattle.ipx_fair.specs.Meters.{lets, used_after}
use Rattle.ipx_limits.specs.declared.decision.Decision.{Decision}
use Rattle.ipx_limits.specs.declared.kind.Kind.{Kind}
use Rattle.ipx_limits.specs.declared.limits.Limit.{Limit}
use Rattle.ipx_limits.specs.declared.limits.Limits.{Limits}
use Rattle.ipx_limits.specs.declared.uses.Address.{Address}
use Rattle.ipx_limits.specs.declared.uses.Client.{Client}
use Rattle.ipx_limits.specs.Deciding.{is_ping, is_question, later, passes, Account, Pinged, PingedInFrame, Answered, Paged, Handed, FramesHanded}

-- ---- one limit

-- what happens to what is used of a limit: some time passes, or one comes that counts or doesn't
pub data Use : Type 0 where
  Time : ℕ → Use
  Comes : (counts : Bool) → Use

-- one that counts found room for what it weighs, which is no less than the limit says
pub record Came (limit : Limit) (counts : Bool) (old new : Meter) : Type 0 where
  pub weight : ℕ
  pub least : limit.each ≤ weight
  pub found : counts ≡ true → lets old limit.burst weight ≡ true
  pub used : new ≡ used_after old weight counts

abbrev pub Step : Limit → Use → Meter → Meter → Type 0
Step limit (Time nanoseconds) old new = new ≡ later nanoseconds old
Step limit (Comes counts) old new = Came limit counts old new

abbrev pub Runs : Limit → Meter → List Use → Meter → Type 0
Runs limit old [] new = new ≡ old
Runs limit old (use_of ∷ uses) new = (next : Meter) × Step limit use_of old next × Runs limit next uses new

abbrev pub elapsed : List Use → ℕ
elapsed [] = 0
elapsed (Time nanoseconds ∷ uses) = nanoseconds + elapsed uses
elapsed (Comes counts ∷ uses) = elapsed uses

-- how many counted
abbrev pub counted : List Use → ℕ
counted [] = 0
counted (Time nanoseconds ∷ uses) = counted uses
counted (Comes counts ∷ uses) = (if counts then 1 else 0) + counted uses

-- ---- decisions, one after the other

-- some time passes, or something of a kind comes, and this becomes of it
pub data Event : Type 0 where
  Passing : ℕ → Event
  Decided : (kind : Kind) (decision : Decision) → Event

-- what all decisions are to one of the limits: so many nanoseconds pass, and of what comes counts what passes and is of that kind
abbrev pub uses_by : (Kind → Bool) → List Event → List Use
uses_by is_of [] = []
uses_by is_of (Passing nanoseconds ∷ events) = Time nanoseconds ∷ uses_by is_of events
uses_by is_of (Decided kind decision ∷ events) = Comes (is_of kind && passes decision) ∷ uses_by is_of events

abbrev pub any : Kind → Bool
any kind = true

-- nanoseconds that passed
abbrev pub time_of : List Event → ℕ
time_of [] = 0
time_of (Passing nanoseconds ∷ events) = nanoseconds + time_of events
time_of (Decided kind decision ∷ events) = time_of events

-- how many of a kind passed
abbrev pub passed : (Kind → Bool) → List Event → ℕ
passed is_of [] = 0
passed is_of (Passing nanoseconds ∷ events) = passed is_of events
passed is_of (Decided kind decision ∷ events) = (if is_of kind && passes decision then 1 else 0) + passed is_of events

-- ---- an address hands packets to the router: which client it is doesn't matter, nor how many it has just now, if they are no more than so many

pub record Handing : Type 0 where
  pub address : Address
  pub account : Account

abbrev pub address_later : ℕ → Address → Address
address_later nanoseconds address =
    record { asked = later nanoseconds address.asked; answered = later nanoseconds address.answered; paged = later nanoseconds address.paged }

abbrev pub account_later : ℕ → Account → Account
account_later nanoseconds account = record { handed = later nanoseconds account.handed; advertised = later nanoseconds account.advertised }

abbrev pub HandingStep : Limits → ℕ → Event → Handing → Handing → Type 0
HandingStep limits clients (Passing nanoseconds) old new =
    (new.address ≡ address_later nanoseconds old.address) × (new.account ≡ account_later nanoseconds old.account)
HandingStep limits clients (Decided kind decision) old new =
    (now : ℕ) × ((now ≤ clients) × ((client : Client) × ((client_then : Client)
    × Handed limits now kind decision client client_then old.address new.address old.account new.account)))

abbrev pub HandingRuns : Limits → ℕ → Handing → List Event → Handing → Type 0
HandingRuns limits clients old [] new = new ≡ old
HandingRuns limits clients old (event ∷ events) new =
    (next : Handing) × HandingStep limits clients event old next × HandingRuns limits clients next events new

-- ---- all clients of a network ping, and whoever is behind its frames

abbrev pub PingingStep : Limits → Event → Meter → Meter → Type 0
PingingStep limits (Passing nanoseconds) old new = new ≡ later nanoseconds old
PingingStep limits (Decided kind decision) old new =
    ((client : Client) × ((client_then : Client) × Pinged limits kind decision client client_then old new))
    ⊎ PingedInFrame limits kind decision old new

abbrev pub PingingRuns : Limits → Meter → List Event → Meter → Type 0
PingingRuns limits old [] new = new ≡ old
PingingRuns limits old (event ∷ events) new = (next : Meter) × PingingStep limits event old next × PingingRuns limits next events new

-- ---- the gateway answers clients of an address, which has no more than so many at any time

abbrev pub AnsweringStep : Limits → ℕ → Event → Address → Address → Type 0
AnsweringStep limits clients (Passing nanoseconds) old new = new ≡ address_later nanoseconds old
AnsweringStep limits clients (Decided kind decision) old new =
    (now : ℕ) × ((now ≤ clients) × ((client : Client) × ((client_then : Client) × Answered limits now decision client client_then old new)))

abbrev pub AnsweringRuns : Limits → ℕ → Address → List Event → Address → Type 0
AnsweringRuns limits clients old [] new = new ≡ old
AnsweringRuns limits clients old (event ∷ events) new =
    (next : Address) × AnsweringStep limits clients event old next × AnsweringRuns limits clients next events new

-- ---- the router answers clients of an address, which has no more than so many at any time

abbrev pub PagingStep : Limits → ℕ → Event → Address → Address → Type 0
PagingStep limits clients (Passing nanoseconds) old new = new ≡ address_later nanoseconds old
PagingStep limits clients (Decided kind decision) old new =
    (now : ℕ) × ((now ≤ clients) × ((client : Client) × ((client_then : Client) × Paged limits now decision client client_then old new)))

abbrev pub PagingRuns : Limits → ℕ → Address → List Event → Address → Type 0
PagingRuns limits clients old [] new = new ≡ old
PagingRuns limits clients old (event ∷ events) new = (next : Address) × PagingStep limits clients event old next × PagingRuns limits clients next events new

-- ---- a network of frames hands packets to the router, whatever other such networks tell it

pub record FramesHanding : Type 0 where
  pub asked : Meter
  pub advertised : Meter

abbrev pub FramesStep : Limits → Event → FramesHanding → FramesHanding → Type 0
FramesStep limits (Passing nanoseconds) old new = (new.asked ≡ later nanoseconds old.asked) × (new.advertised ≡ later nanoseconds old.advertised)
FramesStep limits (Decided kind decision) old new =
    (link : ℕ) × ((links : State) × ((links_then : State)
    × FramesHanded limits link kind decision old.asked new.asked old.advertised new.advertised links links_then))

abbrev pub FramesRuns : Limits → FramesHanding → List Event → FramesHanding → Type 0
FramesRuns limits old [] new = new ≡ old
FramesRuns limits old (event ∷ events) new = (next : FramesHanding) × FramesStep limits event old next × FramesRuns limits next events new

-- ---- one client, whatever others do, and whatever address it has

pub data OfClient : Type 0 where
  Later : ℕ → OfClient
  Says : (kind : Kind) (decision : Decision) → OfClient
  Hands : (kind : Kind) (decision : Decision) → OfClient
  IsAnswered : (decision : Decision) → OfClient
  IsPaged : (decision : Decision) → OfClient

pub record SaidBy (limits : Limits) (kind : Kind) (decision : Decision) (old new : Client) : Type 0 where
  pub all : Meter
  pub all_then : Meter
  pub said : Pinged limits kind decision old new all all_then

pub record HandedBy (limits : Limits) (kind : Kind) (decision : Decision) (old new : Client) : Type 0 where
  pub clients : ℕ
  pub address : Address
  pub address_then : Address
  pub account : Account
  pub account_then : Account
  pub handed : Handed limits clients kind decision old new address address_then account account_then

pub record AnsweredBy (limits : Limits) (decision : Decision) (old new : Client) : Type 0 where
  pub clients : ℕ
  pub address : Address
  pub address_then : Address
  pub answered : Answered limits clients decision old new address address_then

pub record PagedBy (limits : Limits) (decision : Decision) (old new : Client) : Type 0 where
  pub clients : ℕ
  pub address : Address
  pub address_then : Address
  pub paged : Paged limits clients decision old new address address_then

abbrev pub client_later : ℕ → Client → Client
client_later nanoseconds client = record {
  pinged = later nanoseconds client.pinged;
  asked = later nanoseconds client.asked;
  answered = later nanoseconds client.answered;
  paged = later nanoseconds client.paged;
}

abbrev pub ClientStep : Limits → OfClient → Client → Client → Type 0
ClientStep limits (Later nanoseconds) old new = new ≡ client_later nanoseconds old
ClientStep limits (Says kind decision) old new = SaidBy limits kind decision old new
ClientStep limits (Hands kind decision) old new = HandedBy limits kind decision old new
ClientStep limits (IsAnswered decision) old new = AnsweredBy limits decision old new
ClientStep limits (IsPaged decision) old new = PagedBy limits decision old new

abbrev pub ClientRuns : Limits → Client → List OfClient → Client → Type 0
ClientRuns limits old [] new = new ≡ old
ClientRuns limits old (event ∷ events) new = (next : Client) × ClientStep limits event old next × ClientRuns limits next events new

-- its pings, its questions, answers to it and packets of the router's answers, that pass
abbrev pub pings_of : OfClient → Bool
pings_of (Says kind decision) = is_ping kind && passes decision
pings_of _ = false

abbrev pub questions_of : OfClient → Bool
questions_of (Hands kind decision) = is_question kind && passes decision
questions_of _ = false

abbrev pub answers_to : OfClient → Bool
answers_to (IsAnswered decision) = passes decision
answers_to _ = false

abbrev pub pages_to : OfClient → Bool
pages_to (IsPaged decision) = passes decision
pages_to _ = false

-- what all that is to one of its limits
abbrev pub uses_of : (OfClient → Bool) → List OfClient → List Use
uses_of which [] = []
uses_of which (Later nanoseconds ∷ events) = Time nanoseconds ∷ uses_of which events
uses_of which (Says kind decision ∷ events) = Comes (which (Says kind decision)) ∷ uses_of which events
uses_of which (Hands kind decision ∷ events) = Comes (which (Hands kind decision)) ∷ uses_of which events
uses_of which (IsAnswered decision ∷ events) = Comes (which (IsAnswered decision)) ∷ uses_of which events
uses_of which (IsPaged decision ∷ events) = Comes (which (IsPaged decision)) ∷ uses_of which events

-- ---- all networks of frames hand packets to the router, each with limits of its own

pub record LinkHanded (kind : Kind) (decision : Decision) (old new : State) : Type 0 where
  pub limits : Limits
  pub link : ℕ
  pub asked : Meter
  pub asked_then : Meter
  pub told : Meter
  pub told_then : Meter
  pub handed : FramesHanded limits link kind decision asked asked_then told told_then old new

abbrev pub LinksStep : Event → State → State → Type 0
LinksStep (Passing nanoseconds) old new = Passed nanoseconds old new
LinksStep (Decided kind decision) old new = LinkHanded kind decision old new

abbrev pub LinksRun : State → List Event → State → Type 0
LinksRun old [] new = new ≡ old
LinksRun old (event ∷ events) new = (next : State) × LinksStep event old next × LinksRun next events new
