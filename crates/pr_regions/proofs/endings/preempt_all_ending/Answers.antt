use Rattle.pr_regions.proofs.Common.{sym, ◌∙◌, is_of_registrant}
use Rattle.pr_regions.proofs.lemmas.Regions.Effects.{then_of_removal}
use Rattle.pr_regions.proofs.lemmas.Parts.Keys.{keys_those}
use Rattle.pr_regions.proofs.lemmas.Parts.Services.{preempt_all_good, preempt_all_fault}
use Rattle.pr_regions.proofs.endings.preempt_all_ending.Goals as goal

pub returns-then-not-is_held_by_all : goal.returns-then-not-is_held_by_all
returns-then-not-is_held_by_all c =
    rw c.illegal.ensures (preempt_all_fault c.args.sender.hosts c.args.kind c.args.sender.held c.args.sender.number c.args.sender.standing (sym c.is_held_by_all.ensures ∙ c.if-not-is_held_by_all.true))

pub returns : goal.returns
returns c =
    let change = c.new_change.ensures.change in
    preempt_all_good c.args.sender.hosts c.args.kind c.args.sender.held c.args.sender.number c.args.sender.standing _ (sym c.is_held_by_all.ensures ∙ c.if-not-is_held_by_all.false)
    (record {
      sender = change.sender;
      removed = (keys_those c.every_key.result c.every_key.ensures.keys c.every_key.ensures.none);
      reservation = change.reservation;
      told = then_of_removal _ _ _ _ is_of_registrant change.told (keys_those c.every_key-2.result c.every_key-2.ensures.keys c.every_key-2.ensures.none);
    })
    c.new_change.ensures.room
