use Rattle.pr_report.proofs.Common.{ℕ, map, Some, Option, ap, view_of, Held, One, number_of, names_of, held_word, puts_err, wrote_front, wrote_more}
use Rattle.pr_report.proofs.lemmas.WordsWritten.Possibilities.{range_here, range_end, shown_end, shown_here}
use Rattle.pr_report.proofs.outline.put_held_by.Goals as goal

pub returns-in_err-put_reservation : goal.returns-in_err-put_reservation
returns-in_err-put_reservation g c = λ own.
    let word = λ (held : Option Held). held_word (names_of c.args.nexuses.now) held in
    let is_possible = λ (held : Option Held). (view_of own c.args.view.now).reservations (number_of c.args.view.now.hosts held) in
    let by = λ (h : ℕ). Some (One c.args.kind h) in
    let here = shown_here word is_possible (by c.loop-holder.holder) _ _ (ap (λ hs. map by hs) (range_here c.loop-holder.holder c.args.view.now.hosts c.loop-holder-test.true)) in
    puts_err _ _ _ _ (wrote_front _ _ _ _ _ _ (rw here at (c.loop-holder.invariant own)) (c.in_err-put_reservation.ensures own)) c.from_residual.ensures.0

pub loop-holder-preserved : goal.loop-holder-preserved
loop-holder-preserved g c = λ own.
    let word = λ (held : Option Held). held_word (names_of c.args.nexuses.now) held in
    let is_possible = λ (held : Option Held). (view_of own c.args.view.now).reservations (number_of c.args.view.now.hosts held) in
    let by = λ (h : ℕ). Some (One c.args.kind h) in
    let here = shown_here word is_possible (by c.loop-holder.holder) _ _ (ap (λ hs. map by hs) (range_here c.loop-holder.holder c.args.view.now.hosts c.loop-holder-test.true)) in
    wrote_more _ _ _ _ _ _ (rw here at (c.loop-holder.invariant own)) (c.in_ok-put_reservation.ensures 0)

pub returns : goal.returns
returns g c = λ own.
    let word = λ (held : Option Held). held_word (names_of c.args.nexuses.now) held in
    let is_possible = λ (held : Option Held). (view_of own c.args.view.now).reservations (number_of c.args.view.now.hosts held) in
    let by = λ (h : ℕ). Some (One c.args.kind h) in
    shown_end _ _ _ word is_possible _ (ap (λ hs. map by hs) (range_end c.loop-holder.holder c.args.view.now.hosts c.loop-holder-test.false)) (c.loop-holder.invariant own)
