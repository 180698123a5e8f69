use Rattle.pr_interference.proofs.Common.{◌≡◌, ℕ, ◌+◌, ◌<◌, sym, ◌∙◌, subst, arith, UnitState, Possibilities, view_in, count_of_reservations, Adds, adds_both, adds_nothing, PlaceLeads, IsWatched, ClauseLeaves}
use Rattle.std.proofs.Common.{not-suc-le-zero}
use Rattle.pr_regions.proofs.lemmas.Keeping.Additions.{below_or_last}
use Rattle.pr_interference.proofs.lemmas.Interfering.RoleEffects.{none_placed, adds_placed}
use Rattle.pr_regions.proofs.lemmas.Showing.ShownStates.{is_place}
use Rattle.pr_interference.proofs.lemmas.Reaching.Bounds.{adds_most}
use Rattle.pr_interference.proofs.onlooker.Onlooker.add_clause.Goals.{then-has+else-not-may_gain-2, else-has}
use Rattle.pr_interference.proofs.onlooker.Onlooker.add_clause.Goals as goal

pub loop-reservation-init : goal.loop-reservation-init
loop-reservation-init c s is = adds_nothing s c.args.answer.now _ (ClauseLeaves (view_in s c.args.self.now.view) c.args.clause.now c.args.self.now.other) (λ u w led. not-suc-le-zero led.1)

pub loop-reservation-preserved : goal.loop-reservation-preserved
loop-reservation-preserved c s is =
    let o = c.args.self.now in
    let clause = c.args.clause.now in
    let n = c.loop-reservation.reservation in
    let so_far = c.loop-reservation.answer in
    let Placed : ℕ → UnitState → UnitState → Type 0 = PlaceLeads (view_in s o.view) clause o.other in
    let leaves = ClauseLeaves (view_in s o.view) clause o.other in
    let with : (p : Possibilities) → Adds s so_far p (Placed n) leaves → Adds s c.args.answer.now p (λ u w. (x : ℕ) × (x < n + 1) × Placed x u w) leaves =
    λ p now. adds_both s c.args.answer.now so_far p (λ u w. (x : ℕ) × (x < n) × Placed x u w) (Placed n) (λ u w. (x : ℕ) × (x < n + 1) × Placed x u w) leaves leaves leaves (c.loop-reservation.invariant s is) now
    (λ u w. below_or_last (λ x. Placed x u w) n) (λ i left. left) (λ i left. left) in
    elim c.if-has.branch [
      | then-has+else-not-may_gain-2 w ↦
          let place = w.of-place.result in
          let here = is_place s o.view place o.hosts n is.hosts is.fits (sym c.has.ensures ∙ w.if-has.true) w.of-place.ensures.hosts w.of-place.ensures.reservation in
          let watched : IsWatched s o place = record { known = here; own = is.own; other = λ equal. is.other (equal ∙ w.of-place.ensures.sender) } in
          rw w.answer-is
          (with w.add_place.new.answer
          (subst (λ h. Adds s so_far w.add_place.new.answer (PlaceLeads (view_in s o.view) clause h n) (ClauseLeaves (view_in s o.view) clause h)) w.of-place.ensures.sender
          (subst (λ x. Adds s so_far w.add_place.new.answer (PlaceLeads (view_in s o.view) clause place.sender x) (ClauseLeaves (view_in s o.view) clause place.sender)) w.of-place.ensures.reservation
          (w.add_place.ensures s watched is.keys))))
      | else-has w ↦ rw w.answer-is (with so_far (adds_nothing s so_far (Placed n) leaves (none_placed s o.view clause o.other n (sym c.has.ensures ∙ w.if-has.false))))
    ]

pub returns : goal.returns
returns c s is =
    let whole : c.loop-reservation.reservation ≡ count_of_reservations c.args.self.now.hosts = omega arith in
    adds_placed s c.args.self.now c.args.clause.now c.args.answer.now c.loop-reservation.answer is c.requires.action (c.requires.shown s is) ((rw whole at c.loop-reservation.invariant) s is)

pub returns-then-not-may_gain : goal.returns-then-not-may_gain
returns-then-not-may_gain c s is =
    let o = c.args.self.now in
    let clause = c.args.clause.now in
    adds_most s o clause c.args.answer.now c.args.answer.now (λ u w. ⊥) is c.requires.action (c.requires.shown s is) (c.may_gain.ensures c.if-not-may_gain.true s clause is (c.reach-reach.ensures s is))
    (adds_nothing s c.args.answer.now (λ u w. ⊥) (ClauseLeaves (view_in s o.view) clause o.other) (λ u w led. led))

pub returns-then-not-may_gain-2 : goal.returns-then-not-may_gain-2
returns-then-not-may_gain-2 c s is =
    let o = c.args.self.now in
    let clause = c.args.clause.now in
    adds_most s o clause c.args.answer.now c.loop-reservation.answer _ is c.requires.action (c.requires.shown s is)
    (c.may_gain-then-has.ensures c.if-not-may_gain-2.true s clause is (c.reach-reach.ensures s is)) (c.loop-reservation.invariant s is)
