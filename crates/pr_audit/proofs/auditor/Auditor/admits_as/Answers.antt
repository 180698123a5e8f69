use Rattle.pr_audit.proofs.Common.{sym, refl, ◌∙◌}
use Rattle.pr_audit.proofs.lemmas.Auditing.Parts.{nexus_within}
use Rattle.pr_audit.proofs.lemmas.Auditors.Admissions.{none_tried, sender_within, sender_tried, sender_acts}
use Rattle.pr_audit.proofs.auditor.Auditor.admits_as.Goals as goal

pub index-requires : goal.index-requires
index-requires c = nexus_within _ _ _ _ c.requires.there c.parts.ensures.value c.from-index.ensures

pub index_mut-requires : goal.index_mut-requires
index_mut-requires c = sender_within _ _ c.args.self.now.senders _ _ _ c.requires.acts c.from-index.ensures c.requires.there

pub sends-requires : goal.sends-requires
sends-requires c = let there = c.requires.there in rw c.requires.acts.hosts there

pub returns-clause-tried : goal.returns-clause-tried
returns-clause-tried c =
    sender_tried c.args.how _ _ _ _ _ _ _ _ _ _ _ c.requires.acts c.requires.there c.parts.ensures.value c.from-index.ensures c.index.ensures c.index_mut.ensures.value c.sends.ensures.judged c.registry.ensures.well_formed
    c.args.before.now (sym c.may_come.ensures ∙ c.if-not-may_come.false)

pub returns-clause-acts : goal.returns-clause-acts
returns-clause-acts c =
    sender_acts c.args.how _ _ _ _ _ _ _ _ _ _ _ c.requires.acts c.requires.there c.parts.ensures.value c.from-index.ensures c.index.ensures c.index_mut.ensures.value c.sends.ensures.judged

pub returns-then-not-may_come-clause-tried : goal.returns-then-not-may_come-clause-tried
returns-then-not-may_come-clause-tried c = (refl, refl, none_tried c.args.how _ _ _ _ _ c.requires.acts (sym c.may_come.ensures ∙ c.if-not-may_come.true))
