use Rattle.pr_regions.proofs.Common.{sym, ◌∙◌}
use Rattle.pr_unit.specs.declared.demand.Demand.TheVariants.{Unregister}
use Rattle.pr_regions.proofs.lemmas.Parts.Unregistration.{unregister_absent, unregister_good}
use Rattle.pr_regions.proofs.unregistering.unregister_branches.Goals as goal

pub returns-then-is_unregistered : goal.returns-then-is_unregistered
returns-then-is_unregistered c =
    c.ending_everywhere.ensures c.args.sender.hosts Unregister c.args.sender.held c.args.sender.number c.args.sender.standing
    (unregister_absent c.args.sender.hosts c.args.sender.held c.args.sender.number c.args.sender.standing c.no_change.result (sym c.is_unregistered.ensures ∙ c.if-is_unregistered.true) c.no_change.ensures.change c.no_change.ensures.room)

pub returns-else-is_held_by_all : goal.returns-else-is_held_by_all
returns-else-is_held_by_all c =
    c.ending_everywhere-else-is_held_by_all.ensures c.args.sender.hosts Unregister c.args.sender.held c.args.sender.number c.args.sender.standing
    (unregister_good c.args.sender.hosts c.args.sender.held c.args.sender.number c.args.sender.standing c.unregister_change.result (sym c.is_unregistered.ensures ∙ c.if-is_unregistered.false)
    (sym c.is_held_by_all.ensures ∙ c.if-is_held_by_all.false) c.unregister_change.ensures.change c.unregister_change.ensures.room)
