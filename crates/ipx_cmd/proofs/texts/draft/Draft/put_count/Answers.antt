use Rattle.std.proofs.Common.{rules}
use Rattle.std.proofs.lemmas.Fmt.{length-decimal-le}
use Rattle.ipx_cmd.proofs.texts.draft.Draft.put_count.Goals as goal

pub write_digits-first-requires : goal.write_digits-first-requires
write_digits-first-requires c = search (rules, length-decimal-le 20)
