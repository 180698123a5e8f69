use Rattle.pr_report.proofs.Common.{Some, Option, flat_map, view_of, Held, number_of, names_of, held_word, front_first, front_then, puts_err, puts_last}
use Rattle.std.proofs.Common.{None}
use Rattle.pr_cdb.specs.declared.command.Kind.{Kind}
use Rattle.pr_cdb.specs.declared.command.Kind.TheVariants.{WriteExclusiveAllRegistrants, ExclusiveAccessAllRegistrants}
use Rattle.pr_registry.specs.declared.held.Held.TheVariants.{All}
use Rattle.pr_report.specs.OutlineText.{held_by_one, kinds_of_one}
use Rattle.pr_report.proofs.lemmas.WordsWritten.Possibilities.{ends_pieces, puts_as}
use Rattle.pr_report.proofs.outline.put_reservations.Goals as goal

pub returns-in_err-put_reservation : goal.returns-in_err-put_reservation
returns-in_err-put_reservation g c = λ own.
    let word = λ (held : Option Held). held_word (names_of c.args.nexuses.now) held in
    let is_possible = λ (held : Option Held). (view_of own c.args.view.now).reservations (number_of c.args.view.now.hosts held) in
    let singles = flat_map (λ (kind : Kind). held_by_one c.args.view.now.hosts kind) kinds_of_one in
    puts_as _ _ _ _ _ (ends_pieces word is_possible None singles (Some (All WriteExclusiveAllRegistrants)) (Some (All ExclusiveAccessAllRegistrants)))
    (puts_err _ _ _ _ (front_first _ _ _ _ (c.in_err-put_reservation.ensures own)) c.from_residual.ensures.0)

pub returns-in_err-put_held_by_one : goal.returns-in_err-put_held_by_one
returns-in_err-put_held_by_one g c = λ own.
    let word = λ (held : Option Held). held_word (names_of c.args.nexuses.now) held in
    let is_possible = λ (held : Option Held). (view_of own c.args.view.now).reservations (number_of c.args.view.now.hosts held) in
    let singles = flat_map (λ (kind : Kind). held_by_one c.args.view.now.hosts kind) kinds_of_one in
    puts_as _ _ _ _ _ (ends_pieces word is_possible None singles (Some (All WriteExclusiveAllRegistrants)) (Some (All ExclusiveAccessAllRegistrants)))
    (puts_err _ _ _ _ (front_then _ _ _ _ _ (c.in_ok-put_reservation.ensures own) (front_first _ _ _ _ (c.in_err-put_held_by_one.ensures own))) c.from_residual-in_err-put_held_by_one.ensures.0)

pub returns-in_err-put_reservation-2 : goal.returns-in_err-put_reservation-2
returns-in_err-put_reservation-2 g c = λ own.
    let word = λ (held : Option Held). held_word (names_of c.args.nexuses.now) held in
    let is_possible = λ (held : Option Held). (view_of own c.args.view.now).reservations (number_of c.args.view.now.hosts held) in
    let singles = flat_map (λ (kind : Kind). held_by_one c.args.view.now.hosts kind) kinds_of_one in
    puts_as _ _ _ _ _ (ends_pieces word is_possible None singles (Some (All WriteExclusiveAllRegistrants)) (Some (All ExclusiveAccessAllRegistrants)))
    (puts_err _ _ _ _ (front_then _ _ _ _ _ (c.in_ok-put_reservation.ensures own) (front_then _ _ _ _ _ (c.in_ok-put_held_by_one.ensures own) (front_first _ _ _ _ (c.in_err-put_reservation-2.ensures own)))) c.from_residual-in_err-put_reservation-2.ensures.0)

pub returns : goal.returns
returns g c = λ own.
    let word = λ (held : Option Held). held_word (names_of c.args.nexuses.now) held in
    let is_possible = λ (held : Option Held). (view_of own c.args.view.now).reservations (number_of c.args.view.now.hosts held) in
    let singles = flat_map (λ (kind : Kind). held_by_one c.args.view.now.hosts kind) kinds_of_one in
    puts_as _ _ _ _ _ (ends_pieces word is_possible None singles (Some (All WriteExclusiveAllRegistrants)) (Some (All ExclusiveAccessAllRegistrants)))
    (puts_last _ _ _ _ _ _ (c.in_ok-put_reservation.ensures own) (puts_last _ _ _ _ _ _ (c.in_ok-put_held_by_one.ensures own) (puts_last _ _ _ _ _ _ (c.in_ok-put_reservation-2.ensures own) (c.put_reservation-3.ensures own))))
