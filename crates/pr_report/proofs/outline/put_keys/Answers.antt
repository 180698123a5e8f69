use Rattle.pr_report.proofs.Common.{ℕ, ◌+◌, ◌<◌, ◌≤◌, length, ap, ◌∙◌, arith, view_of, key_at, free_or_key, puts_err, wrote_front, wrote_more}
use Rattle.pr_report.proofs.lemmas.WordsWritten.Possibilities.{possible_here, range_here, range_end, shown_end}
use Rattle.pr_report.proofs.outline.put_keys.Goals as goal

pub returns-in_err-put_if : goal.returns-in_err-put_if
returns-in_err-put_if g c = λ own.
    let keys = c.args.view.now.keys.items in
    let word = λ (r : ℕ). free_or_key (key_at keys r) in
    let is_possible = (view_of own c.args.view.now).registrations c.args.host in
    let below : c.loop-number.number < length keys + 1 = omega arith in
    let here = possible_here word is_possible c.loop-number.number _ _ _ _ (range_here c.loop-number.number (length keys + 1) below)
    (c.has_registration-is_possible.ensures own) (c.free_or_key.ensures ∙ ap (λ ks. free_or_key (key_at ks c.loop-number.number)) c.deref.ensures.0) in
    puts_err _ _ _ _ (wrote_front _ _ _ _ _ _ (rw here at (c.loop-number.invariant own)) c.in_err-put_if.ensures) c.from_residual.ensures.0

pub loop-number-preserved : goal.loop-number-preserved
loop-number-preserved g c = λ own.
    let keys = c.args.view.now.keys.items in
    let word = λ (r : ℕ). free_or_key (key_at keys r) in
    let is_possible = (view_of own c.args.view.now).registrations c.args.host in
    let below : c.loop-number.number < length keys + 1 = omega arith in
    let here = possible_here word is_possible c.loop-number.number _ _ _ _ (range_here c.loop-number.number (length keys + 1) below)
    (c.has_registration-is_possible.ensures own) (c.free_or_key.ensures ∙ ap (λ ks. free_or_key (key_at ks c.loop-number.number)) c.deref.ensures.0) in
    wrote_more _ _ _ _ _ _ (rw here at (c.loop-number.invariant own)) c.in_ok-put_if.ensures

pub returns : goal.returns
returns g c = λ own.
    let keys = c.args.view.now.keys.items in
    let word = λ (r : ℕ). free_or_key (key_at keys r) in
    let is_possible = (view_of own c.args.view.now).registrations c.args.host in
    let past : length keys + 1 ≤ c.loop-number.number = omega arith in
    shown_end _ _ _ word is_possible _ (range_end c.loop-number.number (length keys + 1) past) (c.loop-number.invariant own)
