use Rattle.pr_text.proofs.Common.{arith}
use Rattle.std.proofs.lemmas.Grind.{common_steps}
use Rattle.pr_text.proofs.lemmas.BytesRead.Parts.{on_err, loses_both}
use Rattle.pr_text.proofs.source.all_bytes.Goals as goal

pub returns-in_err-extend_from_slice-clause-err : goal.returns-in_err-extend_from_slice-clause-err
returns-in_err-extend_from_slice-clause-err g c =
    on_err _ (loses_both _ _ _ _ _ _ c.loop-buffer.invariant.0 c.in-Ok.ensures.bytes.0 (grind (arith, common_steps)))
