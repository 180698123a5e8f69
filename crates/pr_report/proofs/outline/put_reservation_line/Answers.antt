use Rattle.pr_report.proofs.Common.{[], ◌∷◌, map, codes, view_of, printed_word, names_of, held_word, front_first, front_then, puts_err, puts_last}
use Rattle.pr_report.specs.OutlineText.{possible_of, reservation_line, reservations}
use Rattle.pr_report.proofs.lemmas.WordsWritten.Possibilities.{line_pieces, puts_as}
use Rattle.pr_report.proofs.outline.put_reservation_line.Goals as goal

pub returns-in_err-begin_item : goal.returns-in_err-begin_item
unfolding printed_word reservation_line
returns-in_err-begin_item g c = λ own.
    let view = view_of own c.args.view.now in
    let words = map (held_word (names_of c.args.nexuses.now)) (possible_of view (reservations view.scope.hosts)) in
    puts_as _ _ _ _ _ (line_pieces (codes " ") (codes "reservation" ∷ []) words) (puts_err _ _ _ _ (front_first _ _ _ _ c.in_err-begin_item.ensures) c.from_residual.ensures.0)

pub returns-in_err-put_reservations : goal.returns-in_err-put_reservations
unfolding printed_word reservation_line
returns-in_err-put_reservations g c = λ own.
    let view = view_of own c.args.view.now in
    let words = map (held_word (names_of c.args.nexuses.now)) (possible_of view (reservations view.scope.hosts)) in
    let f = front_first _ _ _ _ (c.in_err-put_reservations.ensures own) in
    puts_as _ _ _ _ _ (line_pieces (codes " ") (codes "reservation" ∷ []) words)
    (puts_err _ _ _ _ (front_then _ _ _ _ _ c.in_ok-begin_item.ensures f) c.from_residual-in_err-put_reservations.ensures.0)

pub returns : goal.returns
unfolding printed_word reservation_line
returns g c = λ own.
    let view = view_of own c.args.view.now in
    let words = map (held_word (names_of c.args.nexuses.now)) (possible_of view (reservations view.scope.hosts)) in
    puts_as _ _ _ _ _ (line_pieces (codes " ") (codes "reservation" ∷ []) words)
    (puts_last _ _ _ _ _ _ c.in_ok-begin_item.ensures (puts_last _ _ _ _ _ _ (c.in_ok-put_reservations.ensures own) c.put.ensures))
