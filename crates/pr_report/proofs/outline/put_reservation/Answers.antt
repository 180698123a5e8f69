use Rattle.pr_report.proofs.Common.{sym, ap, ◌∙◌, view_of, number_of, names_of, held_word}
use Rattle.pr_report.proofs.lemmas.WordsWritten.Possibilities.{puts_as, shown_one}
use Rattle.pr_report.proofs.outline.put_reservation.Goals as goal

pub returns : goal.returns
returns g c = λ own.
    let view = view_of own c.args.view.now in
    puts_as _ _ _ _ _ (sym (shown_one (held_word (names_of c.args.nexuses.now)) (λ held. view.reservations (number_of view.scope.hosts held)) c.args.held _ _
    (c.has_reservation-is_possible.ensures own ∙ ap view.reservations c.reservation_number-number.ensures.number) c.held_word.ensures)) c.put_if.ensures
