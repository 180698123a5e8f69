use Rattle.pr_regions.proofs.Common.{Some, refl, arith, number_of, only, tells_of_removal}
use Rattle.pr_regions.proofs.lemmas.Parts.Endings.{leaves, has_room}
use Rattle.pr_regions.proofs.lemmas.Parts.Preemption.{tell_own}
use Rattle.pr_regions.proofs.preempting.preempting_own.Goals as goal

pub returns : goal.returns
returns c =
    let p = c.args.asked in
    let s = p.sender in
    let j = p.key in
    let number = c.reservation_number-number in
    let left = number_of s.hosts s.held in
    let does = leaves c.removal_change.result (Some 0) (only j) number.result left (tells_of_removal (only j)) number.ensures.number c.removal_change.ensures in
    rw c.two.ensures (tell_own s.hosts j p.kind s.held s.number s.standing _ _ c.removal_change.result c.removal_change-2.result (p.some, p.most) c.requires.own c.requires.all
    (record { to_holder = c.whole.ensures.to_holder; to_others = c.whole.ensures.to_others; tested = c.another_than.ensures }) refl does
    (has_room s.hosts c.removal_change.result (Some 0) (only j) number.result (tells_of_removal (only j)) c.removal_change.ensures (omega arith) number.ensures.below)
    (record { to_holder = c.whole-2.ensures.to_holder; to_others = c.free_or.ensures; tested = c.whole-2.ensures.tested }) refl c.removal_change-2.ensures
    (has_room s.hosts c.removal_change-2.result (Some 0) (only j) 0 (tells_of_removal (only j)) c.removal_change-2.ensures (omega arith) (omega arith)))
