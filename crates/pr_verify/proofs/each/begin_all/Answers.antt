use Rattle.pr_verify.proofs.Common.{arith}
use Rattle.pr_verify.proofs.each.begin_all.Goals as goal

pub begin-requires-after_bounds : goal.begin-requires-after_bounds
begin-requires-after_bounds g c κs within = omega (arith, c.requires, c.loop-host-test.true)

pub push_reserved-requires : goal.push_reserved-requires
push_reserved-requires g c = omega (arith, c.loop-host-test.true, c.loop-host.invariant.len, c.loop-host.invariant.room)

pub returns-clause-all : goal.returns-clause-all
returns-clause-all g c = omega (arith, c.requires, c.loop-host-test.false, c.loop-host.auto, c.loop-host.invariant.len)
