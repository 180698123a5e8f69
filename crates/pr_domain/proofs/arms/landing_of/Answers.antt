use Rattle.pr_domain.proofs.Common.{sym, ◌∙◌}
use Rattle.pr_domain.proofs.lemmas.Reporting.MatchingTests.{first_of_class}
use Rattle.pr_domain.proofs.arms.landing_of.Goals as goal

pub returns-in-Some : goal.returns-in-Some
returns-in-Some c r is blind = first_of_class c.args.tests.now c.args.class r is blind ∙ sym c.first_arm.ensures ∙ c.in-Some.is

pub returns-in-None : goal.returns-in-None
returns-in-None c r is blind = (first_of_class c.args.tests.now c.args.class r is blind ∙ sym c.first_arm.ensures ∙ c.in-None.is, is)
