use Rattle.pr_audit.proofs.lemmas.Auditors.RefusalsLeft.{order_here, some_left}
use Rattle.pr_audit.proofs.lemmas.Auditing.Parts.{nexus_within}
use Rattle.pr_audit.proofs.refusing.may_come.Goals as goal

pub index-requires : goal.index-requires
index-requires c = nexus_within _ _ _ _ c.requires c.parts-parts.ensures.value c.from.ensures

pub returns-in-Early : goal.returns-in-Early
returns-in-Early c = order_here _ _ c.args.history.now c.args.host _ c.parts-parts.ensures.value c.in-Early.is

pub returns-in-Busy : goal.returns-in-Busy
returns-in-Busy c =
    some_left _ _ c.args.history.now _ _ _ _ _ c.index.result.now c.requires c.parts-parts.ensures.value c.from.ensures c.index.ensures c.in-Busy.is c.refusals_by.ensures c.most_refusals-most.ensures
