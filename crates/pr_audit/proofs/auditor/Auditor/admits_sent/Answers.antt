use Rattle.pr_audit.proofs.lemmas.Auditing.Ways.{plain_of, refused_of}
use Rattle.pr_audit.proofs.lemmas.Auditors.Admissions.{nobody_tried, refusal_tried, served_tried, within_parts}
use Rattle.pr_audit.proofs.auditor.Auditor.admits_sent.Goals as goal

pub returns-then-from-len-clause-tried : goal.returns-then-from-len-clause-tried
returns-then-from-len-clause-tried c =
    nobody_tried _ _ _ _ _ _ _ c.requires c.parts.ensures.value c.from.ensures c.len.ensures c.if-from-len.true c.args.before.now

pub admits_served-requires-clause-there : goal.admits_served-requires-clause-there
admits_served-requires-clause-there c = within_parts _ _ _ _ _ c.parts.ensures.value c.from.ensures c.len.ensures c.if-from-len.false

pub admits_as-requires-clause-there : goal.admits_as-requires-clause-there
admits_as-requires-clause-there c = within_parts _ _ _ _ _ c.parts.ensures.value c.from.ensures c.len.ensures c.if-from-len.false

pub returns-in-Plain-clause-tried : goal.returns-in-Plain-clause-tried
returns-in-Plain-clause-tried c =
    served_tried _ _ _ _ c.args.before.now c.requires c.admits_served.result _ (plain_of c.args.entry.now.reply.status c.of-how.result c.in-Plain.is c.of-how.ensures) c.admits_served.ensures.tried

pub returns-in-Busy-clause-tried : goal.returns-in-Busy-clause-tried
returns-in-Busy-clause-tried c =
    refusal_tried _ _ _ _ c.args.before.now c.requires c.of-how.result c.admits_as.result _ c.of-how.ensures (refused_of c.of-how.result c.in-Busy.is) c.admits_as.ensures.tried
