use Rattle.pr_audit.proofs.lemmas.Auditing.Parts.{short_at}
use Rattle.pr_world.proofs.course.participants_of.Goals as goal

pub new-requires : goal.new-requires
new-requires c =
    short_at _ _ _ _ _ c.parts.ensures.fits c.parts.ensures.value c.deref-nexus-items.ensures.value c.loop-nexus-test.true c.nexus-item.is
