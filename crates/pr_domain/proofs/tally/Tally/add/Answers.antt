use Rattle.pr_domain.proofs.Common.{◌<◌, length, arith, slice_get-get_or}
use Rattle.pr_domain.proofs.lemmas.Tallies.Gains.{way_added}
use Rattle.pr_domain.proofs.tally.Tally.add.Goals as goal

pub returns : goal.returns
returns c =
    let there : c.args.way < length c.args.self.now.ways = omega arith in
    way_added c.args.self.now.ways c.args.way _ c.join.new.self c.args.found.now there (slice_get-get_or c.args.self.now.ways c.args.way _ there) c.join.ensures.registrations c.join.ensures.reservations
