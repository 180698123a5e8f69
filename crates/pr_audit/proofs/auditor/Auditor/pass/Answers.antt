use Rattle.pr_audit.proofs.lemmas.Auditors.Admissions.{sender_past, controls_past, past_acts}
use Rattle.pr_audit.proofs.auditor.Auditor.pass.Goals as goal

pub returns-clause-sender : goal.returns-clause-sender
returns-clause-sender c = sender_past _ c.args.self.now.unit c.args.self.now.unit c.args.self.now.senders.items c.args.entry.now _ _ _ c.requires.acts c.requires.there c.from.ensures c.index_mut.ensures.value c.passes.ensures.past

pub returns-clause-others : goal.returns-clause-others
returns-clause-others c = controls_past _ c.args.self.now.unit c.args.self.now.unit c.args.self.now.senders.items c.args.entry.now _ _ _ c.requires.acts c.requires.there c.from.ensures c.index_mut.ensures.value

pub returns-clause-acts : goal.returns-clause-acts
returns-clause-acts c = past_acts _ c.args.self.now.unit c.args.self.now.unit c.args.self.now.senders.items c.args.entry.now _ _ _ c.requires.acts c.requires.there c.from.ensures c.index_mut.ensures.value c.requires.acts.hosts c.passes.ensures.free
