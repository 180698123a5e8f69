use Rattle.pr_regions.proofs.Common.{◌≤◌, Some, None, sym, refl, ap, ◌∙◌, arith, number_of, any, only, but, another, Leaves, tells_of_removal, MOST_KEYS}
use Rattle.pr_regions.proofs.lemmas.Parts.Endings.{leaves, has_room}
use Rattle.pr_regions.proofs.lemmas.Parts.HeldPreemption.{held_by, holders_key, own_key_goes, somebodys_key_goes, nobodys_key, tell_own_single, tell_other_single}
use Rattle.pr_regions.proofs.preempting.preempting_holder.Goals as goal

pub returns-then-is_named : goal.returns-then-is_named
returns-then-is_named c =
    let p = c.args.asked in
    let s = p.sender in
    let hosts = s.hosts in
    let j = p.key in
    let key : (1 ≤ j) × (j ≤ MOST_KEYS) = (p.some, p.most) in
    let old = c.args.old in
    let h = c.args.holder in
    let number = c.reservation_number-number in
    let numbered = number.ensures.number ∙ ap (number_of hosts) c.requires.held in
    let own = sym c.is_named.ensures ∙ c.if-is_named.true in
    let does = leaves c.removal_change.result (Some 0) (only j) number.result (number_of hosts (held_by old h)) (tells_of_removal (only j)) numbered c.removal_change.ensures in
    let at_holder : Leaves _ (only j) any None = record { to_holder = λ r few. c.only.ensures r; to_others = c.whole.ensures.to_others; tested = c.whole.ensures.tested } in
    let at_another : Leaves _ (another j) any None = record { to_holder = c.another_than.ensures; to_others = c.whole-2.ensures.to_others; tested = c.whole-2.ensures.tested } in
    rw c.requires.held (rw c.two.ensures (tell_own_single hosts j p.kind old h s.number s.standing _ _ key c.requires.apart
    at_holder (holders_key hosts j p.kind old h s.number s.standing _ c.replacement_change.result key c.requires.apart at_holder refl c.replacement_change.ensures.change c.replacement_change.ensures.room)
    at_another (own_key_goes hosts j p.kind old h s.number s.standing _ c.removal_change.result key c.requires.apart own at_another refl does
    (has_room hosts c.removal_change.result (Some 0) (only j) number.result (tells_of_removal (only j)) c.removal_change.ensures (omega arith) number.ensures.below))))

pub returns : goal.returns
returns c =
    let p = c.args.asked in
    let s = p.sender in
    let hosts = s.hosts in
    let j = p.key in
    let key : (1 ≤ j) × (j ≤ MOST_KEYS) = (p.some, p.most) in
    let old = c.args.old in
    let h = c.args.holder in
    let number = c.reservation_number-number in
    let numbered = number.ensures.number ∙ ap (number_of hosts) c.requires.held in
    let other = sym c.is_named.ensures ∙ c.if-is_named.false in
    let does = leaves c.removal_change-2.result None (only j) number.result (number_of hosts (held_by old h)) (tells_of_removal (only j)) numbered c.removal_change-2.ensures in
    let room = has_room hosts c.removal_change-2.result None (only j) number.result (tells_of_removal (only j)) c.removal_change-2.ensures (omega arith) number.ensures.below in
    let at_holder : Leaves _ (only j) any None = record { to_holder = λ r few. c.only.ensures r; to_others = c.whole.ensures.to_others; tested = c.whole.ensures.tested } in
    let at_somebody : Leaves _ (another j) any (Some (only j)) = record { to_holder = c.another_than.ensures; to_others = c.whole-2.ensures.to_others; tested = λ r few. c.only-2.ensures r } in
    let at_nobody : Leaves _ (another j) (but j) None = record { to_holder = c.another_than.ensures; to_others = c.anything_but.ensures; tested = c.whole-2.ensures.tested } in
    rw c.requires.held (rw c.three.ensures (tell_other_single hosts j p.kind old h s.number s.standing _ _ _ key c.requires.apart
    at_holder (holders_key hosts j p.kind old h s.number s.standing _ c.replacement_change.result key c.requires.apart at_holder refl c.replacement_change.ensures.change c.replacement_change.ensures.room)
    at_somebody (somebodys_key_goes hosts j p.kind old h s.number s.standing _ c.removal_change-2.result key c.requires.apart other at_somebody refl does room)
    at_nobody (nobodys_key hosts j p.kind old h s.number s.standing _ key other at_nobody refl)))
