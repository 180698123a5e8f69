use Rattle.pr_regions.proofs.Common.{refl}
use Rattle.pr_regions.proofs.lemmas.Parts.Services.{register_good}
use Rattle.pr_regions.proofs.endings.register_ending.Goals as goal

pub returns : goal.returns
returns c =
    let change = c.no_change.ensures.change in
    register_good c.args.sender.hosts c.args.key c.args.sender.held c.args.sender.number c.args.sender.standing _ c.requires
    (record { sender = refl; removed = change.removed; reservation = change.reservation; told = change.told })
    (c.requires.1, c.no_change.ensures.room.1)
