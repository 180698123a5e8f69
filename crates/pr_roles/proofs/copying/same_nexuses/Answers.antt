-- A place at which two lists differ.
use Rattle.pr_roles.proofs.Common.{length, sym, ap, ◌∙◌, arith, false≢true, nexus_of}
use Rattle.pr_roles.proofs.lemmas.Fitting.DistinctLists.{part_at, length_of_parts}
use Rattle.pr_roles.proofs.copying.same_nexuses.Goals as goal

pub returns-then-not-same : goal.returns-then-not-same
returns-then-not-same c = (
  λ no. absurd (false≢true no),
  λ all.
      let long = sym (length_of_parts c.args.nexuses.now) ∙ (ap length all ∙ length_of_parts c.args.others.now) in
      let at = part_at c.args.nexuses.now c.args.others.now c.loop-i.i c.index-nexuses-i.result c.index-others-i.result
      c.loop-i-test.true (omega (arith, c.loop-i-test.true, long)) all in
      absurd (false≢true (sym c.if-not-same.true ∙ c.same.ensures.1 (ap nexus_of c.index-nexuses-i.is ∙ (at ∙ sym (ap nexus_of c.index-others-i.is))))),
)
