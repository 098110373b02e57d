-- What one client does, and what is done to it, within its own limits.
use Rattle.std.proofs.Common.{◌≡◌, ◌∙◌, sym, ap, ℕ, true, List, [], ◌∷◌}
use Rattle.std.proofs.lemmas.Bool.{and_parts}
use Rattle.ipx_limits.specs.declared.kind.Kind.{Kind}
use Rattle.ipx_limits.specs.declared.kind.Kind.TheVariants.{Ping, Answer, Question, Told, Other}
use Rattle.ipx_limits.specs.declared.limits.Limits.{Limits}
use Rattle.ipx_limits.specs.declared.uses.Address.{Address}
use Rattle.ipx_limits.specs.declared.uses.Client.{Client}
use Rattle.ipx_limits.specs.Limits.{of_clients}
use Rattle.ipx_limits.specs.Deciding.{has_room, passes, is_ping, is_question, may_ask}
use Rattle.ipx_limits.specs.Metered.{Runs, OfClient, Later, Says, Hands, IsAnswered, IsPaged, ClientRuns, pings_of, questions_of, answers_to, pages_to, uses_of}
use Rattle.ipx_limits.proofs.Limited.{so, came, rooms, both_answer, both_ping}

asks_within : (limits : Limits) (now : ℕ) (kind : Kind) (client : Client) (address : Address) → is_question kind ≡ true
    → may_ask limits now kind client address ≡ true → has_room limits.questions client.asked ≡ true
asks_within limits now Question client address is e =
    (and_parts (has_room limits.questions client.asked) (has_room (of_clients now limits.questions) address.asked) e).0
asks_within limits now Ping client address is e = so _ is
asks_within limits now Answer client address is e = so _ is
asks_within limits now Told client address is e = so _ is
asks_within limits now Other client address is e = so _ is

module _ (limits : Limits) where
  pub client_pings : (old new : Client) (events : List OfClient) → ClientRuns limits old events new
      → Runs limits.pings old.pinged (uses_of pings_of events) new.pinged
  client_pings old new [] run = ap (λ (c : Client). c.pinged) run
  client_pings old new (Later ns ∷ events) run = (run.0.pinged, ap (λ (c : Client). c.pinged) run.1, client_pings run.0 new events run.2)
  client_pings old new (Says kind decision ∷ events) run = (
    run.0.pinged,
    came limits.pings (pings_of (Says kind decision)) old.pinged run.0.pinged (
        λ counts. (
        both_ping (is_ping kind) (has_room limits.pings old.pinged) (has_room limits.all_pings run.1.all)
        (and_parts (is_ping kind) (passes decision) counts).0
        (sym (ap passes run.1.said.decided) ∙ (and_parts (is_ping kind) (passes decision) counts).1)
        ).0
        ) (ap (λ (c : Client). c.pinged) run.1.said.of_client),
    client_pings run.0 new events run.2,
  )
  client_pings old new (Hands kind decision ∷ events) run = (
    run.0.pinged,
    came limits.pings (pings_of (Hands kind decision)) old.pinged run.0.pinged (λ counts. so _ counts) (ap (λ (c : Client). c.pinged) run.1.handed.of_client),
    client_pings run.0 new events run.2,
  )
  client_pings old new (IsAnswered decision ∷ events) run = (
    run.0.pinged,
    came limits.pings (pings_of (IsAnswered decision)) old.pinged run.0.pinged (λ counts. so _ counts) (ap (λ (c : Client). c.pinged) run.1.answered.of_client),
    client_pings run.0 new events run.2,
  )
  client_pings old new (IsPaged decision ∷ events) run = (
    run.0.pinged,
    came limits.pings (pings_of (IsPaged decision)) old.pinged run.0.pinged (λ counts. so _ counts) (ap (λ (c : Client). c.pinged) run.1.paged.of_client),
    client_pings run.0 new events run.2,
  )

  pub client_asks : (old new : Client) (events : List OfClient) → ClientRuns limits old events new
      → Runs limits.questions old.asked (uses_of questions_of events) new.asked
  client_asks old new [] run = ap (λ (c : Client). c.asked) run
  client_asks old new (Later ns ∷ events) run = (run.0.asked, ap (λ (c : Client). c.asked) run.1, client_asks run.0 new events run.2)
  client_asks old new (Says kind decision ∷ events) run = (
    run.0.asked,
    came limits.questions (questions_of (Says kind decision)) old.asked run.0.asked (λ counts. so _ counts) (ap (λ (c : Client). c.asked) run.1.said.of_client),
    client_asks run.0 new events run.2,
  )
  client_asks old new (Hands kind decision ∷ events) run = (
    run.0.asked,
    came limits.questions (questions_of (Hands kind decision)) old.asked run.0.asked (
        λ counts. asks_within limits run.1.clients kind old run.1.address (and_parts (is_question kind) (passes decision) counts).0
        (
        rooms limits run.1.clients kind decision old run.0 run.1.address run.1.address_then run.1.account run.1.account_then run.1.handed
        (and_parts (is_question kind) (passes decision) counts).1
        ).0
        ) (ap (λ (c : Client). c.asked) run.1.handed.of_client),
    client_asks run.0 new events run.2,
  )
  client_asks old new (IsAnswered decision ∷ events) run = (
    run.0.asked,
    came limits.questions (questions_of (IsAnswered decision)) old.asked run.0.asked (λ counts. so _ counts) (ap (λ (c : Client). c.asked) run.1.answered.of_client),
    client_asks run.0 new events run.2,
  )
  client_asks old new (IsPaged decision ∷ events) run = (
    run.0.asked,
    came limits.questions (questions_of (IsPaged decision)) old.asked run.0.asked (λ counts. so _ counts) (ap (λ (c : Client). c.asked) run.1.paged.of_client),
    client_asks run.0 new events run.2,
  )

  pub client_answered : (old new : Client) (events : List OfClient) → ClientRuns limits old events new
      → Runs limits.answers old.answered (uses_of answers_to events) new.answered
  client_answered old new [] run = ap (λ (c : Client). c.answered) run
  client_answered old new (Later ns ∷ events) run = (run.0.answered, ap (λ (c : Client). c.answered) run.1, client_answered run.0 new events run.2)
  client_answered old new (Says kind decision ∷ events) run = (
    run.0.answered,
    came limits.answers (answers_to (Says kind decision)) old.answered run.0.answered (λ counts. so _ counts) (ap (λ (c : Client). c.answered) run.1.said.of_client),
    client_answered run.0 new events run.2,
  )
  client_answered old new (Hands kind decision ∷ events) run = (
    run.0.answered,
    came limits.answers (answers_to (Hands kind decision)) old.answered run.0.answered (λ counts. so _ counts) (ap (λ (c : Client). c.answered) run.1.handed.of_client),
    client_answered run.0 new events run.2,
  )
  client_answered old new (IsAnswered decision ∷ events) run = (
    run.0.answered,
    came limits.answers (answers_to (IsAnswered decision)) old.answered run.0.answered (
        λ counts. (
        both_answer (has_room limits.answers old.answered) (has_room (of_clients run.1.clients limits.answers) run.1.address.answered)
        (sym (ap passes run.1.answered.decided) ∙ counts)
        ).0
        ) (ap (λ (c : Client). c.answered) run.1.answered.of_client),
    client_answered run.0 new events run.2,
  )
  client_answered old new (IsPaged decision ∷ events) run = (
    run.0.answered,
    came limits.answers (answers_to (IsPaged decision)) old.answered run.0.answered (λ counts. so _ counts) (ap (λ (c : Client). c.answered) run.1.paged.of_client),
    client_answered run.0 new events run.2,
  )

  pub client_paged : (old new : Client) (events : List OfClient) → ClientRuns limits old events new
      → Runs limits.pages old.paged (uses_of pages_to events) new.paged
  client_paged old new [] run = ap (λ (c : Client). c.paged) run
  client_paged old new (Later ns ∷ events) run = (run.0.paged, ap (λ (c : Client). c.paged) run.1, client_paged run.0 new events run.2)
  client_paged old new (Says kind decision ∷ events) run = (
    run.0.paged,
    came limits.pages (pages_to (Says kind decision)) old.paged run.0.paged (λ counts. so _ counts) (ap (λ (c : Client). c.paged) run.1.said.of_client),
    client_paged run.0 new events run.2,
  )
  client_paged old new (Hands kind decision ∷ events) run = (
    run.0.paged,
    came limits.pages (pages_to (Hands kind decision)) old.paged run.0.paged (λ counts. so _ counts) (ap (λ (c : Client). c.paged) run.1.handed.of_client),
    client_paged run.0 new events run.2,
  )
  client_paged old new (IsAnswered decision ∷ events) run = (
    run.0.paged,
    came limits.pages (pages_to (IsAnswered decision)) old.paged run.0.paged (λ counts. so _ counts) (ap (λ (c : Client). c.paged) run.1.answered.of_client),
    client_paged run.0 new events run.2,
  )
  client_paged old new (IsPaged decision ∷ events) run = (
    run.0.paged,
    came limits.pages (pages_to (IsPaged decision)) old.paged run.0.paged (
        λ counts. (
        both_answer (has_room limits.pages old.paged) (has_room (of_clients run.1.clients limits.pages) run.1.address.paged)
        (sym (ap passes run.1.paged.decided) ∙ counts)
        ).0
        ) (ap (λ (c : Client). c.paged) run.1.paged.of_client),
    client_paged run.0 new events run.2,
  )
