-- What comes first of a repeat that is run.
use Rattle.pr_verify.proofs.Common.{sym, ap, ◌∙◌, statements_in, script_of, out_of, head_of, head_of_all}
use Rattle.pr_script.specs.Trees.{statement_of}
use Rattle.pr_script.proofs.lemmas.Trees.Equations.{tree_repeat}
use Rattle.pr_verify.proofs.lemmas.Listing.Statements.{head_of-repeats}
use Rattle.pr_verify.proofs.head.+heads.Goals as goal

pub head_at-returns-else-count-eq0 : goal.head_at-returns-else-count-eq0
head_at-returns-else-count-eq0 t c =
    let is = ap statement_of c.in-Repeat.is ∙ tree_repeat c.in-Repeat.count c.in-Repeat.body in
    c.out_of_repeat.ensures ∙ ap out_of (c.head_in.ensures ∙ ap (λ b. head_of_all (statements_in b)) c.deref.ensures.value)
    ∙ sym (ap head_of is ∙ head_of-repeats c.in-Repeat.count (script_of c.in-Repeat.body) c.if-count-eq0.false)
