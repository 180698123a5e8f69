use Rattle.pr_regions.proofs.Common.{None, sym, ap, subst, ◌∙◌, arith, is_kind, number_of, never, Does, tells_nobody, tells_of_loss}
use Rattle.pr_regions.proofs.lemmas.Parts.Endings.{has_room}
use Rattle.pr_regions.proofs.lemmas.Parts.Services.{release_none, release_others, release_good}
use Rattle.pr_regions.proofs.endings.release_ending.Goals as goal

pub returns-in_default : goal.returns-in_default
returns-in_default c =
    release_none c.args.sender.hosts c.args.kind c.args.sender.held c.args.sender.number c.args.sender.standing c.no_change.result c.in_default.is
    (subst (λ v. Does c.no_change.result None never (number_of c.args.sender.hosts v) tells_nobody) c.in_default.is c.no_change.ensures.change) c.no_change.ensures.room

pub returns-then-not-holds : goal.returns-then-not-holds
returns-then-not-holds c =
    release_others c.args.sender.hosts c.args.kind c.args.sender.held c.in-Some.held c.args.sender.number c.args.sender.standing c.no_change-then-not-holds.result c.in-Some.is (sym c.holds.ensures ∙ c.if-not-holds.true)
    (subst (λ v. Does c.no_change-then-not-holds.result None never (number_of c.args.sender.hosts v) tells_nobody) c.in-Some.is c.no_change-then-not-holds.ensures.change) c.no_change-then-not-holds.ensures.room

pub returns-then-is_kind : goal.returns-then-is_kind
returns-then-is_kind c =
    release_good c.args.sender.hosts c.args.kind c.args.sender.held c.in-Some.held c.args.sender.number c.args.sender.standing c.release_change.result c.in-Some.is (sym c.holds.ensures ∙ c.if-not-holds.false)
    (ap (λ t. is_kind t c.args.kind) (sym c.kind_of.ensures) ∙ sym c.is_kind.ensures ∙ c.if-is_kind.true)
    (rw (← c.kind_of-then-is_kind.ensures) c.release_change.ensures)
    (has_room c.args.sender.hosts c.release_change.result None never 0 (tells_of_loss _) c.release_change.ensures (omega arith) (omega arith))
