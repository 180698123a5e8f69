use Rattle.pr_views.proofs.Common.{sym, ◌∙◌}
use Rattle.pr_views.proofs.lemmas.Portions.Projections.{untested_of, several_of, one_of, filled_by_one, none_of_lacking, none_of_failing}
use Rattle.pr_views.proofs.portion.Portion.projected.Goals as goal

pub returns-then-not-is_filled-clause-none : goal.returns-then-not-is_filled-clause-none
returns-then-not-is_filled-clause-none c =
    none_of_lacking c.args.hosts c.args.self.now (c.is_filled.ensures.lacks c.if-not-is_filled.true)

pub returns-in_default-clause-some : goal.returns-in_default-clause-some
returns-in_default-clause-some c =
    untested_of c.args.hosts c.args.self.now (c.is_filled.ensures.filled c.if-not-is_filled.false) c.in_default.is

pub returns-in_err-first-clause-none : goal.returns-in_err-first-clause-none
returns-in_err-first-clause-none c =
    rw c.from_residual.ensures (none_of_failing c.args.hosts c.args.self.now c.in-Some.test c.in-Some.is c.in_err-first.ensures.none)

pub returns-then-is_some-clause-some : goal.returns-then-is_some-clause-some
returns-then-is_some-clause-some c =
    several_of c.args.hosts c.args.self.now c.in-Some.test c.in_ok-first.first c.first_passing-2.result (c.is_filled.ensures.filled c.if-not-is_filled.false) c.in-Some.is c.in_ok-first.ensures.some
    (sym c.is_some.ensures ∙ c.if-is_some.true) c.first_passing-2.ensures.some

pub returns-clause-some : goal.returns-clause-some
returns-clause-some c =
    one_of c.args.hosts c.args.self.now c.in-Some.test c.in_ok-first.first c.first_passing-2.result c.passed_by.result (c.is_filled.ensures.filled c.if-not-is_filled.false) c.in-Some.is
    c.in_ok-first.ensures.some (sym c.is_some.ensures ∙ c.if-is_some.false) c.first_passing-2.ensures.none c.passed_by.ensures.here c.passed_by.ensures.others

pub returns-clause-filled : goal.returns-clause-filled
returns-clause-filled c =
    filled_by_one c.args.hosts c.args.self.now c.in-Some.test c.in_ok-first.first c.passed_by.result (c.is_filled.ensures.filled c.if-not-is_filled.false) c.in_ok-first.ensures.some.passes
    c.passed_by.ensures.here c.passed_by.ensures.others
