use Rattle.std.proofs.Common.{◌≡◌, ◌∙◌, refl, ap, true, false, Bool, nat_lt, ◌≢◌}
use Rattle.ipx_tunnel.specs.declared.said.Said.{Said}
use Rattle.ipx_tunnel.specs.declared.said.Said.TheVariants.{Nothing, Registers, Answers, Speaks}
use Rattle.ipx_tunnel.specs.Says.{said}
use Rattle.ipx_tunnel.specs.Clients.{lasts_by}
use Rattle.ipx_tunnel.proofs.Clients.{once, capacity, share, comes}
use Rattle.ipx_tunnel.proofs.Standing.{lasts_own}
use Rattle.ipx_tunnel.proofs.laws.room.Goals as goal

counts_answered : (is_trusted : Bool) → nat_lt 0 (lasts_by is_trusted Answers) ≡ true
counts_answered true = refl
counts_answered false = refl

counts_trusted : (s : Said) → s ≢ Nothing → nat_lt 0 (lasts_by true s) ≡ true
counts_trusted Nothing some = absurd (some refl)
counts_trusted Registers some = refl
counts_trusted Answers some = refl
counts_trusted (Speaks header) some = refl

pub returns-clause-answers : goal.returns-clause-answers
returns-clause-answers c = λ setting history from bytes answers few fewer.
    comes setting from bytes history
    (ap (nat_lt 0) (lasts_own setting from bytes ∙ ap (lasts_by from.is_trusted) answers) ∙ counts_answered from.is_trusted) few fewer

pub returns-clause-trusted : goal.returns-clause-trusted
returns-clause-trusted c = λ setting history from bytes trusted some few fewer.
    comes setting from bytes history
    (ap (nat_lt 0) (lasts_own setting from bytes ∙ ap (λ (b : Bool). lasts_by b (said setting.network from bytes)) trusted) ∙ counts_trusted (said setting.network from bytes) some) few fewer

pub returns-clause-capacity : goal.returns-clause-capacity
returns-clause-capacity c = λ setting history. capacity setting history

pub returns-clause-share : goal.returns-clause-share
returns-clause-share c = λ setting history place. share setting history place

pub returns-clause-once : goal.returns-clause-once
returns-clause-once c = λ setting history place. once setting history place
