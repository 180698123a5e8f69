use Rattle.pr_unit.specs.declared.demand.Demand.TheVariants.{Read, Write}
use Rattle.pr_regions.proofs.lemmas.Parts.Transfers.{is_read, is_write, move_conflicts, move_fails, move_goes}
use Rattle.pr_regions.proofs.endings.transfer_ending.Goals as goal

pub returns-then-is_kept-clause-reading : goal.returns-then-is_kept-clause-reading
returns-then-is_kept-clause-reading c is =
    move_conflicts c.args.sender.hosts (Read c.args.in_range) c.args.is_kept c.args.in_range c.args.sender.held c.args.sender.number c.args.sender.standing (is_read c.args.is_kept c.args.in_range c.args.sender.held c.args.sender.number c.args.sender.standing is) c.if-is_kept.true

pub returns-then-in_range-clause-reading : goal.returns-then-in_range-clause-reading
returns-then-in_range-clause-reading c is =
    move_goes c.args.sender.hosts (Read c.args.in_range) c.args.is_kept c.args.in_range c.args.sender.held c.args.sender.number c.args.sender.standing (is_read c.args.is_kept c.args.in_range c.args.sender.held c.args.sender.number c.args.sender.standing is) c.no_change.result c.if-is_kept.false c.if-in_range.true c.no_change.ensures.change c.no_change.ensures.room

pub returns-else-in_range-clause-reading : goal.returns-else-in_range-clause-reading
returns-else-in_range-clause-reading c is =
    rw c.illegal.ensures (move_fails c.args.sender.hosts (Read c.args.in_range) c.args.is_kept c.args.in_range c.args.sender.held c.args.sender.number c.args.sender.standing (is_read c.args.is_kept c.args.in_range c.args.sender.held c.args.sender.number c.args.sender.standing is) c.if-is_kept.false c.if-in_range.false)

pub returns-then-is_kept-clause-writing : goal.returns-then-is_kept-clause-writing
returns-then-is_kept-clause-writing c is =
    move_conflicts c.args.sender.hosts (Write c.args.in_range) c.args.is_kept c.args.in_range c.args.sender.held c.args.sender.number c.args.sender.standing (is_write c.args.is_kept c.args.in_range c.args.sender.held c.args.sender.number c.args.sender.standing is) c.if-is_kept.true

pub returns-then-in_range-clause-writing : goal.returns-then-in_range-clause-writing
returns-then-in_range-clause-writing c is =
    move_goes c.args.sender.hosts (Write c.args.in_range) c.args.is_kept c.args.in_range c.args.sender.held c.args.sender.number c.args.sender.standing (is_write c.args.is_kept c.args.in_range c.args.sender.held c.args.sender.number c.args.sender.standing is) c.no_change.result c.if-is_kept.false c.if-in_range.true c.no_change.ensures.change c.no_change.ensures.room

pub returns-else-in_range-clause-writing : goal.returns-else-in_range-clause-writing
returns-else-in_range-clause-writing c is =
    rw c.illegal.ensures (move_fails c.args.sender.hosts (Write c.args.in_range) c.args.is_kept c.args.in_range c.args.sender.held c.args.sender.number c.args.sender.standing (is_write c.args.is_kept c.args.in_range c.args.sender.held c.args.sender.number c.args.sender.standing is) c.if-is_kept.false c.if-in_range.false)
