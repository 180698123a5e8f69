use Rattle.pr_regions.proofs.Common.{None, refl, arith, number_of, only, tells_of_removal}
use Rattle.pr_regions.proofs.lemmas.Parts.Endings.{leaves, has_room}
use Rattle.pr_regions.proofs.lemmas.Parts.Preemption.{tell_others}
use Rattle.pr_regions.proofs.preempting.preempting_others.Goals as goal

pub returns : goal.returns
returns c =
    let p = c.args.asked in
    let s = p.sender in
    let j = p.key in
    let left = number_of s.hosts s.held in
    let does = leaves c.removal_change.result None (only j) c.reservation_number-number.result left (tells_of_removal (only j)) c.reservation_number-number.ensures.number c.removal_change.ensures in
    rw c.two.ensures (tell_others s.hosts j p.kind s.held s.number s.standing _ _ c.removal_change.result (p.some, p.most) c.requires.other c.requires.own
    (record { to_holder = c.whole.ensures.to_holder; to_others = c.whole.ensures.to_others; tested = λ r few. c.only.ensures r }) refl does
    (has_room s.hosts c.removal_change.result None (only j) c.reservation_number-number.result (tells_of_removal (only j)) c.removal_change.ensures (omega arith) c.reservation_number-number.ensures.below)
    (record { to_holder = c.whole-2.ensures.to_holder; to_others = c.anything_but.ensures; tested = c.whole-2.ensures.tested }) refl)
