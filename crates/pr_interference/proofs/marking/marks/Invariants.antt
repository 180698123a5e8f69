use Rattle.pr_interference.proofs.Common.{◌≡◌, mark}
use Rattle.pr_regions.proofs.lemmas.Images.Unions.{IsUnion}
use Rattle.pr_interference.proofs.marking.marks.Given as goal

abbrev pub invariant-loop-registration : goal.invariant-loop-registration
invariant-loop-registration l = IsUnion l.registration l.owners (λ r n. n ≡ mark l.change r) l.marks
