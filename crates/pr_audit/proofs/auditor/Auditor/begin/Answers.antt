use Rattle.pr_audit.proofs.auditor.Auditor.begin.Goals as goal

pub from_start-requires : goal.from_start-requires
from_start-requires c = c.first_start-start.ensures.allowed.hosts
