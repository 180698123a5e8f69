use Rattle.pr_verify.proofs.Common.{arith, are_counted}
use Rattle.pr_verify.proofs.each.check_each.Goals as goal

pub overflow_cast-hosts : goal.overflow_cast-hosts
overflow_cast-hosts g c = let few = (are_counted c.args.scenario.now c.parts.result.now c.len-hosts.result c.parts.ensures.value c.parts.ensures.fits c.len-hosts.ensures).few.1 in omega arith

pub in_threads-requires-after_bounds : goal.in_threads-requires-after_bounds
in_threads-requires-after_bounds g c κs within =
    let all = (are_counted c.args.scenario.now c.parts.result.now c.len-hosts.result c.parts.ensures.value c.parts.ensures.fits c.len-hosts.ensures).nexuses in
    omega (arith, all, c.in_ok-lists.ensures)
