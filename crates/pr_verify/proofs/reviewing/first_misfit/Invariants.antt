use Rattle.pr_verify.proofs.Common.{AllWithin, scenario_of, FitsAt, outline_of, asker_of, AreAnswers, place_of}
use Rattle.pr_verify.proofs.reviewing.first_misfit.Given as goal

abbrev pub invariant-loop-i : goal.invariant-loop-i
invariant-loop-i l = record {
  fit : AllWithin (λ p. FitsAt (scenario_of l.asked.scenario.now) (outline_of l.asked.outline.now) (place_of p)) l.asked.spots.now 0 l.i;
  known : AreAnswers (asker_of l.asked) l.known.items;
}
