use Rattle.pr_regions.proofs.Common.{◌&&◌, None, sym, ap, subst, ◌∙◌, is_kind, kind_of, number_of, holds, never, Does, tells_nobody}
use Rattle.std.proofs.lemmas.Bool.{and_right}
use Rattle.pr_regions.proofs.lemmas.Parts.Services.{reserve_new, reserve_same, reserve_conflict}
use Rattle.pr_regions.proofs.endings.reserve_ending.Goals as goal
use Rattle.pr_regions.proofs.endings.reserve_ending.Goals.{else-holds-via-then-holds+else-is_kind, else-holds-via-else-holds}

pub returns-in_default : goal.returns-in_default
returns-in_default c =
    reserve_new c.args.sender.hosts c.args.kind c.args.sender.held c.args.sender.number c.args.sender.standing c.new_change.result c.in_default.is c.new_change.ensures.change c.new_change.ensures.room

pub returns-then-is_kind : goal.returns-then-is_kind
returns-then-is_kind c =
    reserve_same c.args.sender.hosts c.args.kind c.args.sender.held c.in-Some.held c.args.sender.number c.args.sender.standing c.no_change.result c.in-Some.is
    (sym c.holds.ensures ∙ c.if-holds.true) (ap (λ t. is_kind t c.args.kind) (sym c.kind_of.ensures) ∙ sym c.is_kind.ensures ∙ c.if-is_kind.true)
    (subst (λ v. Does c.no_change.result None never (number_of c.args.sender.hosts v) tells_nobody) c.in-Some.is c.no_change.ensures.change) c.no_change.ensures.room

pub returns-else-holds : goal.returns-else-holds
returns-else-holds c =
    let holder = holds c.in-Some.held c.args.sender.number c.args.sender.standing in
    let same = is_kind (kind_of c.in-Some.held) c.args.kind in
    reserve_conflict c.args.sender.hosts c.args.kind c.args.sender.held c.in-Some.held c.args.sender.number c.args.sender.standing c.in-Some.is
    (elim c.else-holds.branch [
      | else-holds-via-then-holds+else-is_kind w ↦ and_right holder same (ap (λ t. is_kind t c.args.kind) (sym w.kind_of.ensures) ∙ sym w.is_kind.ensures ∙ w.if-is_kind.false)
      | else-holds-via-else-holds w ↦ ap (λ b. b && same) (sym c.holds.ensures ∙ w.if-holds.false)
    ])
