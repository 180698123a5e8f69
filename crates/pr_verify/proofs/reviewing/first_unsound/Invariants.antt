use Rattle.pr_verify.proofs.Common.{scenario_of, ComesTo, outline_of, asker_of, AreAnswers, HasAll, Lacks, place_of}
use Rattle.pr_verify.proofs.lemmas.Least.FirstLines.{IsLeastSoFar}
use Rattle.pr_verify.proofs.reviewing.first_unsound.Given as goal

abbrev pub invariant-loop-i : goal.invariant-loop-i
invariant-loop-i l =
    let s = scenario_of l.asked.scenario.now in
    let o = outline_of l.asked.outline.now in
    record {
      own : IsLeastSoFar (λ p. HasAll o (ComesTo s o (place_of p))) (λ p. Lacks o (ComesTo s o (place_of p))) l.asked.spots.now l.i l.own;
      known : AreAnswers (asker_of l.asked) l.known.items;
    }
