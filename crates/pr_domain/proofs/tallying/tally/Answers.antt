use Rattle.pr_domain.proofs.Common.{◌≡◌, ◌+◌, ◌*◌, sym, ◌∙◌, subst, arith, view_in, Grows, IsReserved}
use Rattle.pr_domain.proofs.lemmas.Tallies.ShownStates.{reservation_skipped, is_owners, tally_of_all}
use Rattle.pr_domain.proofs.tallying.tally.Goals as goal
use Rattle.pr_domain.proofs.tallying.tally.Goals.{then-has, else-has}

pub loop-reservation-preserved : goal.loop-reservation-preserved
loop-reservation-preserved c s of =
    let n = c.loop-reservation.reservation in
    let before = c.loop-reservation.invariant s of in
    elim c.if-has.branch [
      | then-has w ↦
          let is_it = w.of-place.ensures.reservation in
          let owners = is_owners s c.args.hosts c.args.own c.args.asked.now.keys.now c.args.view.now n w.of-place.result of (sym c.has.ensures ∙ w.if-has.true) w.of-place.ensures.hosts w.of-place.ensures.sender is_it in
          subst (λ t. Grows (view_in s c.args.view.now) c.args.asked.now.command c.args.asked.now.tests.now c.none-tally.result t (IsReserved s (n + 1))) (sym w.tally-is)
          (subst (λ m. Grows (view_in s c.args.view.now) c.args.asked.now.command c.args.asked.now.tests.now c.none-tally.result w.add_reservation.new.tally (IsReserved s (m + 1))) is_it
          (w.add_reservation.ensures s c.none-tally.result owners c.none-tally.ensures
          (subst (λ m. Grows (view_in s c.args.view.now) c.args.asked.now.command c.args.asked.now.tests.now c.none-tally.result c.loop-reservation.tally (IsReserved s m)) (sym is_it) before)))
      | else-has w ↦ subst (λ t. Grows (view_in s c.args.view.now) c.args.asked.now.command c.args.asked.now.tests.now c.none-tally.result t (IsReserved s (n + 1))) (sym w.tally-is)
          (reservation_skipped s c.args.asked.now.command c.args.asked.now.tests.now c.args.view.now n c.none-tally.result c.loop-reservation.tally (sym c.has.ensures ∙ w.if-has.false) before)
    ]

pub returns : goal.returns
returns c s of =
    let all : c.loop-reservation.reservation ≡ c.args.hosts * 4 + 3 = omega arith in
    tally_of_all s c.args.hosts c.args.own c.args.asked.now.keys.now c.args.asked.now.command c.args.asked.now.tests.now c.args.view.now c.loop-reservation.reservation c.none-tally.result c.loop-reservation.tally of all
    c.none-tally.ensures (c.loop-reservation.invariant s of)
