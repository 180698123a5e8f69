use Rattle.pr_interference.proofs.Common.{◌≡◌, bit_or}
use Rattle.pr_regions.proofs.lemmas.Images.Unions.{IsUnion}
use Rattle.pr_interference.proofs.marking.attentions_with.Given as goal

abbrev pub invariant-loop-attentions : goal.invariant-loop-attentions
invariant-loop-attentions l = IsUnion l.attentions l.pending (λ q n. n ≡ bit_or q l.fn.mark) l.marked
