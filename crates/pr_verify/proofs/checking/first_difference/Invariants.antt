use Rattle.pr_verify.proofs.Common.{ℕ, KeptView, Spot}
use Rattle.pr_verify.proofs.lemmas.Refusals.Differences.{IsOfRest}
use Rattle.pr_verify.proofs.checking.first_difference.Given as goal

abbrev pub invariant-loop-i : goal.invariant-loop-i
invariant-loop-i l = IsOfRest (λ (e : ℕ × KeptView). e.0) (λ (p : Spot). p.line) l.views l.spots l.i
