use Rattle.pr_trace.proofs.Common.{printed_word, front_first, front_then, puts_err}
use Rattle.pr_output.proofs.lemmas.Written.Fronts.{puts_last}
use Rattle.pr_trace.proofs.lemmas.TraceText.Lines.{unit_pieces}
use Rattle.pr_trace.proofs.trace.put_unit.Goals as goal

pub returns-in_err-put_word : goal.returns-in_err-put_word
unfolding printed_word
returns-in_err-put_word g c =
    rw unit_pieces (puts_err _ _ _ _ (front_first _ _ _ _ c.in_err-put_word.ensures) c.from_residual.ensures.0)

pub returns-in_err-put_spaced : goal.returns-in_err-put_spaced
unfolding printed_word
returns-in_err-put_spaced g c =
    let f = front_first _ _ _ _ (rw (c.held_word.ensures, c.held.ensures, c.generation.ensures) at c.in_err-put_spaced.ensures) in
    rw unit_pieces (puts_err _ _ _ _ (front_then _ _ _ _ _ c.in_ok-put_word.ensures f) c.from_residual-in_err-put_spaced.ensures.0)

pub returns-in_err-put_registrations : goal.returns-in_err-put_registrations
unfolding printed_word
returns-in_err-put_registrations g c =
    let f = front_first _ _ _ _ c.in_err-put_registrations.ensures in
    let h = front_then _ _ _ _ _ (rw (c.held_word.ensures, c.held.ensures, c.generation.ensures) at c.in_ok-put_spaced.ensures) f in
    rw unit_pieces (puts_err _ _ _ _ (front_then _ _ _ _ _ c.in_ok-put_word.ensures h) c.from_residual-in_err-put_registrations.ensures.0)

pub returns : goal.returns
unfolding printed_word
returns g c =
    let p = puts_last _ _ _ _ _ _ c.in_ok-put_registrations.ensures c.put.ensures in
    let q = puts_last _ _ _ _ _ _ (rw (c.held_word.ensures, c.held.ensures, c.generation.ensures) at c.in_ok-put_spaced.ensures) p in
    rw unit_pieces (puts_last _ _ _ _ _ _ c.in_ok-put_word.ensures q)
