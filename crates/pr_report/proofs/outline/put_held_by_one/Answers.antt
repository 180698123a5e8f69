use Rattle.pr_report.proofs.Common.{Option, view_of, Held, number_of, names_of, held_word, front_first, front_then, puts_err, puts_last}
use Rattle.pr_cdb.specs.declared.command.Kind.{Kind}
use Rattle.pr_cdb.specs.declared.command.Kind.TheVariants.{WriteExclusive, ExclusiveAccess, WriteExclusiveRegistrantsOnly, ExclusiveAccessRegistrantsOnly}
use Rattle.pr_report.specs.OutlineText.{held_by_one}
use Rattle.pr_report.proofs.lemmas.WordsWritten.Possibilities.{four_pieces, puts_as}
use Rattle.pr_report.proofs.outline.put_held_by_one.Goals as goal

pub returns-in_err-put_held_by : goal.returns-in_err-put_held_by
returns-in_err-put_held_by g c = λ own.
    let word = λ (held : Option Held). held_word (names_of c.args.nexuses.now) held in
    let is_possible = λ (held : Option Held). (view_of own c.args.view.now).reservations (number_of c.args.view.now.hosts held) in
    let by = λ (kind : Kind). held_by_one c.args.view.now.hosts kind in
    puts_as _ _ _ _ _ (four_pieces word is_possible (by WriteExclusive) (by ExclusiveAccess) (by WriteExclusiveRegistrantsOnly) (by ExclusiveAccessRegistrantsOnly))
    (puts_err _ _ _ _ (front_first _ _ _ _ (c.in_err-put_held_by.ensures own)) c.from_residual.ensures.0)

pub returns-in_err-put_held_by-2 : goal.returns-in_err-put_held_by-2
returns-in_err-put_held_by-2 g c = λ own.
    let word = λ (held : Option Held). held_word (names_of c.args.nexuses.now) held in
    let is_possible = λ (held : Option Held). (view_of own c.args.view.now).reservations (number_of c.args.view.now.hosts held) in
    let by = λ (kind : Kind). held_by_one c.args.view.now.hosts kind in
    puts_as _ _ _ _ _ (four_pieces word is_possible (by WriteExclusive) (by ExclusiveAccess) (by WriteExclusiveRegistrantsOnly) (by ExclusiveAccessRegistrantsOnly))
    (puts_err _ _ _ _ (front_then _ _ _ _ _ (c.in_ok-put_held_by.ensures own) (front_first _ _ _ _ (c.in_err-put_held_by-2.ensures own))) c.from_residual-in_err-put_held_by-2.ensures.0)

pub returns-in_err-put_held_by-3 : goal.returns-in_err-put_held_by-3
returns-in_err-put_held_by-3 g c = λ own.
    let word = λ (held : Option Held). held_word (names_of c.args.nexuses.now) held in
    let is_possible = λ (held : Option Held). (view_of own c.args.view.now).reservations (number_of c.args.view.now.hosts held) in
    let by = λ (kind : Kind). held_by_one c.args.view.now.hosts kind in
    puts_as _ _ _ _ _ (four_pieces word is_possible (by WriteExclusive) (by ExclusiveAccess) (by WriteExclusiveRegistrantsOnly) (by ExclusiveAccessRegistrantsOnly))
    (puts_err _ _ _ _ (front_then _ _ _ _ _ (c.in_ok-put_held_by.ensures own) (front_then _ _ _ _ _ (c.in_ok-put_held_by-2.ensures own) (front_first _ _ _ _ (c.in_err-put_held_by-3.ensures own)))) c.from_residual-in_err-put_held_by-3.ensures.0)

pub returns : goal.returns
returns g c = λ own.
    let word = λ (held : Option Held). held_word (names_of c.args.nexuses.now) held in
    let is_possible = λ (held : Option Held). (view_of own c.args.view.now).reservations (number_of c.args.view.now.hosts held) in
    let by = λ (kind : Kind). held_by_one c.args.view.now.hosts kind in
    puts_as _ _ _ _ _ (four_pieces word is_possible (by WriteExclusive) (by ExclusiveAccess) (by WriteExclusiveRegistrantsOnly) (by ExclusiveAccessRegistrantsOnly))
    (puts_last _ _ _ _ _ _ (c.in_ok-put_held_by.ensures own) (puts_last _ _ _ _ _ _ (c.in_ok-put_held_by-2.ensures own) (puts_last _ _ _ _ _ _ (c.in_ok-put_held_by-3.ensures own) (c.put_held_by-4.ensures own))))
