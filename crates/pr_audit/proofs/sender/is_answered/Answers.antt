use Rattle.pr_audit.proofs.Common.{ap}
use Rattle.pr_cdb.specs.declared.reply.Status.TheVariants as status
use Rattle.pr_roles.specs.DeclaredRefusals.{status_of}
use Rattle.pr_roles.specs.declared.how.How.TheVariants as how
use Rattle.pr_audit.proofs.lemmas.Auditing.Judgements.{answered_shared, answered_alone, answered_early, answered_refused}
use Rattle.pr_audit.proofs.sender.is_answered.Goals as goal

pub returns-in-Plain : goal.returns-in-Plain
returns-in-Plain c = answered_shared c.args.shared c.args.how c.args.unit.now c.args.entry.now c.follow_shared.result c.follow_shared.new.self how.Plain c.if-shared.true c.in-Plain.is c.follow_shared.ensures

pub returns-in-Plain-2 : goal.returns-in-Plain-2
returns-in-Plain-2 c = answered_alone c.args.shared c.args.how c.args.unit.now c.args.entry.now c.follow.result c.follow.new.self c.if-shared.false c.in-Plain-2.is c.follow.ensures

pub returns-in-Early : goal.returns-in-Early
returns-in-Early c =
    answered_shared c.args.shared c.args.how c.args.unit.now c.args.entry.now c.follow_early_shared.result c.follow_early_shared.new.self how.Early c.if-shared-2.true c.in-Early.is c.follow_early_shared.ensures

pub returns-in-Early-2 : goal.returns-in-Early-2
returns-in-Early-2 c = answered_early c.args.shared c.args.how c.args.unit.now c.args.entry.now c.follow_early.result c.follow_early.new.self c.if-shared-2.false c.in-Early-2.is c.follow_early.ensures

pub returns-in-Busy : goal.returns-in-Busy
returns-in-Busy c = answered_refused c.args.shared c.args.how status.Busy (ap status_of c.in-Busy.is) c.args.unit.now c.args.entry.now c.is_refused.result c.is_refused.ensures

pub returns-in-Full : goal.returns-in-Full
returns-in-Full c = answered_refused c.args.shared c.args.how status.TaskFull (ap status_of c.in-Full.is) c.args.unit.now c.args.entry.now c.is_refused-in-Full.result c.is_refused-in-Full.ensures
