use Rattle.pr_report.proofs.Common.{ap, ◌∙◌, view_of, printed_word, names_of, name_of, front_first, front_then, puts_err, puts_last}
use Rattle.pr_report.proofs.lemmas.OutlineText.Sends.{registration_pieces}
use Rattle.pr_report.proofs.lemmas.WordsWritten.Possibilities.{puts_as}
use Rattle.pr_report.proofs.outline.put_registration_line.Goals as goal

pub returns-in_err-begin_item : goal.returns-in_err-begin_item
unfolding printed_word
returns-in_err-begin_item g c = λ own.
    let named = c.name_of.ensures ∙ ap (λ h. name_of (names_of c.args.nexuses.now) h) c.from.ensures in
    puts_as _ _ _ _ _ (registration_pieces (names_of c.args.nexuses.now) (view_of own c.args.view.now) c.args.host _ named)
    (puts_err _ _ _ _ (front_first _ _ _ _ c.in_err-begin_item.ensures) c.from_residual.ensures.0)

pub returns-in_err-put_keys : goal.returns-in_err-put_keys
unfolding printed_word
returns-in_err-put_keys g c = λ own.
    let named = c.name_of.ensures ∙ ap (λ h. name_of (names_of c.args.nexuses.now) h) c.from.ensures in
    let f = front_first _ _ _ _ (c.in_err-put_keys.ensures own) in
    puts_as _ _ _ _ _ (registration_pieces (names_of c.args.nexuses.now) (view_of own c.args.view.now) c.args.host _ named)
    (puts_err _ _ _ _ (front_then _ _ _ _ _ c.in_ok-begin_item.ensures f) c.from_residual-in_err-put_keys.ensures.0)

pub returns : goal.returns
unfolding printed_word
returns g c = λ own.
    let named = c.name_of.ensures ∙ ap (λ h. name_of (names_of c.args.nexuses.now) h) c.from.ensures in
    puts_as _ _ _ _ _ (registration_pieces (names_of c.args.nexuses.now) (view_of own c.args.view.now) c.args.host _ named)
    (puts_last _ _ _ _ _ _ c.in_ok-begin_item.ensures (puts_last _ _ _ _ _ _ (c.in_ok-put_keys.ensures own) c.put.ensures))
