use Rattle.std.proofs.Common.{refl, sym, ap, ◌∙◌, is_ok}
use Rattle.hex.proofs.HexLemmas.{IsOk-decode_sized}
use Rattle.ipx_wire.proofs.network.Network.from_hex.Goals as goal

pub returns-in-Ok-clause-found : goal.returns-in-Ok-clause-found
returns-in-Ok-clause-found c =
    (λ _. (IsOk-decode_sized c.args.text.now 4).0 (ap is_ok (sym c.from_hex.ensures ∙ c.in-Ok.is)), λ _. refl)

pub returns-in-Err-clause-found : goal.returns-in-Err-clause-found
returns-in-Err-clause-found c =
    (λ bad. absurd (cc), λ digits. ap is_ok (sym c.in-Err.is ∙ c.from_hex.ensures) ∙ (IsOk-decode_sized c.args.text.now 4).1 digits)
