use Rattle.pr_regions.proofs.Common.{refl, arith}
use Rattle.pr_regions.proofs.lemmas.Parts.Keys.{keys_those}
use Rattle.pr_regions.proofs.lemmas.Parts.Unregistration.{tell_unregistered}
use Rattle.pr_regions.proofs.unregistering.unregistering_registrant.Goals as goal

pub returns : goal.returns
returns c =
    let stays = c.no_change.ensures.change in
    let none = c.change_to_reservation.ensures in
    rw c.two.ensures (tell_unregistered c.args.sender.hosts c.args.sender.held c.args.sender.number c.args.sender.standing _ _ _ _ c.requires.all c.requires.registered
    (record { to_holder = c.whole.ensures.to_holder; to_others = c.whole.ensures.to_others; tested = (keys_those c.every_key.result c.every_key.ensures.keys c.every_key.ensures.none) }) refl
    (record { sender = refl; removed = stays.removed; reservation = stays.reservation; told = stays.told })
    (omega arith, c.no_change.ensures.room.1)
    (record { to_holder = c.whole-2.ensures.to_holder; to_others = λ r few. c.only.ensures r; tested = c.whole-2.ensures.tested }) refl
    (record { sender = refl; removed = none.removed; reservation = none.reservation; told = none.told })
    (omega arith, let is = none.reservation in omega arith))
