use Rattle.pr_verify.proofs.Common.{take, AllZip, scenario_of, outline_of, row_of, IsRow, asker_of, AreAnswers, place_of}
use Rattle.pr_verify.proofs.lemmas.Reviewing.Findings.{IsMisfitSoFar}
use Rattle.pr_verify.proofs.tabling.rows.Given as goal

abbrev pub invariant-loop-i : goal.invariant-loop-i
invariant-loop-i l = record {
  rows : AllZip (λ p r. IsRow (scenario_of l.asked.scenario.now) (outline_of l.asked.outline.now) (place_of p) (row_of r)) (take l.i l.asked.spots.now) l.rows.items;
  misfit : IsMisfitSoFar (scenario_of l.asked.scenario.now) (outline_of l.asked.outline.now) l.asked.spots.now l.i l.first;
  known : AreAnswers (asker_of l.asked) l.known.items;
}
