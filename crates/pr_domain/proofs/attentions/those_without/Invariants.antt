use Rattle.pr_domain.proofs.Common.{not, ◌&&◌, has, code_of, codes_of}
use Rattle.std.specs.FinSet as set
use Rattle.pr_sets.proofs.lemmas.Fronts.{IsFront}
use Rattle.pr_domain.proofs.attentions.those_without.Given as goal

abbrev pub invariant-loop-attentions : goal.invariant-loop-attentions
invariant-loop-attentions l =
    IsFront (has l.rest) (λ q. has l.pending q && not (set.contains (codes_of q) (code_of l.attention))) l.attentions
