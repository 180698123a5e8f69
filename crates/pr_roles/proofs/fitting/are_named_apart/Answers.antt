-- The names of the first and of the others.
use Rattle.pr_roles.proofs.Common.{true, false, map, bytes_eq, sym, ap, ◌∙◌, are_distinct}
use Rattle.pr_roles.proofs.lemmas.Fitting.DistinctLists.{named_apart}
use Rattle.pr_roles.proofs.fitting.are_named_apart.Goals as goal

pub returns-then-is_named_among : goal.returns-then-is_named_among
returns-then-is_named_among c =
    sym (c.loop-first.invariant
    ∙ (ap (λ ns. are_distinct bytes_eq (map (λ n. n.name.bytes) ns)) c.in-Some.ensures.cases.0
    ∙ named_apart c.in-Some.first.now c.in-Some.others.now true (sym c.is_named_among.ensures ∙ c.if-is_named_among.true)))

pub loop-first-preserved : goal.loop-first-preserved
loop-first-preserved c =
    c.loop-first.invariant
    ∙ (ap (λ ns. are_distinct bytes_eq (map (λ n. n.name.bytes) ns)) c.in-Some.ensures.cases.0
    ∙ named_apart c.in-Some.first.now c.in-Some.others.now false (sym c.is_named_among.ensures ∙ c.if-is_named_among.false))
