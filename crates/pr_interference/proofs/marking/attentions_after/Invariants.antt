use Rattle.pr_interference.proofs.Common.{◌≡◌, ℕ, true, bit_or, first, ATTENTION_SETS}
use Rattle.pr_regions.proofs.lemmas.Images.Unions.{IsUnion}
use Rattle.pr_interference.proofs.marking.attentions_after.Given as goal

abbrev pub invariant-loop-mark : goal.invariant-loop-mark
invariant-loop-mark l = IsUnion l.mark l.marks (λ m n. (q : ℕ) × (first ATTENTION_SETS l.pending q ≡ true) × (n ≡ bit_or q m)) l.told
