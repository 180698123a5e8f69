use Rattle.std.proofs.lemmas.List.{take_more}
use Rattle.pr_audit.proofs.lemmas.Audits.KnownWorlds.{known_first, known_then, known_all, first_illegal}
use Rattle.pr_audit.proofs.auditing.audit.Goals as goal

pub loop-index-init : goal.loop-index-init
loop-index-init c = known_first _ _ c.in_ok-auditor.ensures.first c.in_ok-auditor.ensures.world c.in_ok-auditor.ensures.acts

pub admits-requires : goal.admits-requires
admits-requires c = c.loop-index.invariant.acts

pub returns-then-not-admits-clause-illegal : goal.returns-then-not-admits-clause-illegal
returns-then-not-admits-clause-illegal c =
    first_illegal _ _ _ _ _ c.loop-index-test.true c.index-history-index.is c.loop-index.invariant c.if-not-admits.ensures.tried

pub loop-index-preserved : goal.loop-index-preserved
loop-index-preserved c =
    rw (take_more c.args.history.now c.loop-index.index c.index-history-index.result c.loop-index-test.true, ← c.index-history-index.is)
    (known_then _ _ _ _ _ c.loop-index.invariant c.if-not-admits.ensures.tried c.if-not-admits.ensures.acts)

pub returns-clause-legal : goal.returns-clause-legal
returns-clause-legal c = known_all _ _ _ _ c.loop-index-test.false c.loop-index.invariant
