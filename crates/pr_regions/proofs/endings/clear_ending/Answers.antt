use Rattle.pr_regions.proofs.Common.{refl, arith, is_of_registrant}
use Rattle.pr_regions.proofs.lemmas.Regions.Effects.{then_of_clearing}
use Rattle.pr_regions.proofs.lemmas.Parts.Keys.{keys_those}
use Rattle.pr_regions.proofs.lemmas.Parts.Services.{clear_good}
use Rattle.pr_regions.proofs.endings.clear_ending.Goals as goal

pub returns : goal.returns
returns c hosts held sender standing =
    let none = c.change_to_reservation.ensures in
    clear_good hosts held sender standing _
    (record { sender = refl; removed = (keys_those c.every_key.result c.every_key.ensures.keys c.every_key.ensures.none); reservation = none.reservation; told = then_of_clearing _ _ _ _ is_of_registrant none.told (keys_those c.every_key-2.result c.every_key-2.ensures.keys c.every_key-2.ensures.none) })
    (omega arith, let zero_is = none.reservation in omega arith)
