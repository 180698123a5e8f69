use Rattle.pr_sets.proofs.Common.{◌<◌, ◌^◌, sym, ◌∙◌, arith, w128}
use Rattle.pr_sets.proofs.lemmas.BitPlaces.{placed-has}
use Rattle.pr_sets.proofs.word_set.WordSetViewSet.of_wide.Goals as goal

pub invariant_of-result-clause-below : goal.invariant_of-result-clause-below
invariant_of-result-clause-below c n there =
    let fits : c.args.word.bits < 2 ^ 128 = omega arith in
    c.requires.below n (placed-has w128 c.args.word.bits n fits ∙ there)

pub returns-clause-members : goal.returns-clause-members
returns-clause-members c n =
    let fits : c.args.word.bits < 2 ^ 128 = omega arith in
    sym (placed-has w128 c.args.word.bits n fits)
