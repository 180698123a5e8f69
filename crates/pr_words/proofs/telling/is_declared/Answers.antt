use Rattle.std.proofs.Common.{arith}
use Rattle.std.proofs.lemmas.Bool.Decides.{nat_tests}
use Rattle.pr_audit.proofs.lemmas.Auditors.Admissions.{within_parts}
use Rattle.pr_words.proofs.telling.is_declared.Goals as goal

pub returns : goal.returns
returns c there =
    within_parts _ _ _ _ _ c.parts.ensures.value c.from.ensures c.len.ensures (grind (arith, nat_tests, there))
