use Rattle.pr_text.proofs.Common.{◌≡◌, length, ◌==◌, are_distinct}
use Rattle.pr_attention.specs.Attentions.{code_of}
use Rattle.pr_text.proofs.uniqueness.are_codes_distinct.Given as goal

abbrev pub invariant-loop-first : goal.invariant-loop-first
invariant-loop-first l = are_distinct (λ x y. code_of x == code_of y) l.attentions ≡ are_distinct (λ x y. code_of x == code_of y) l.rest

abbrev pub decreases-loop-first : goal.decreases-loop-first
decreases-loop-first l = length l.rest
