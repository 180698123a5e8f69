use Rattle.pr_trace.proofs.Common.{◌++◌, codes, bytes_eq, ap, ◌∙◌}
use Rattle.std.proofs.lemmas.Bool.Decides.{Decides-eqb}
use Rattle.std.proofs.lemmas.Slice.Eq.{strip_prefix_is}
use Rattle.pr_trace.proofs.lemmas.TraceReadings.EntryLines.{no_rest, by_rest}
use Rattle.pr_trace.proofs.entry_reading.is_reset_line.Goals as goal

pub returns-in-Some : goal.returns-in-Some
returns-in-Some c =
    let front = strip_prefix_is Decides-eqb c.args.line.now c.as_bytes.result.now c.strip_prefix.result c.strip_prefix.ensures.cases in
    let whole = rw c.in-Some.is at front in
    c.eq.ensures ∙ (ap (bytes_eq c.in-Some.rest.now) c.as_bytes-in-Some.ensures.value
    ∙ (by_rest c.args.line.now c.as_bytes.result.now c.in-Some.rest.now (codes " reset") whole ∙ ap (λ w. bytes_eq c.args.line.now (w ++ codes " reset")) (c.as_bytes.ensures.value ∙ c.format.ensures.text)))

pub returns-in-None : goal.returns-in-None
returns-in-None c =
    let front = strip_prefix_is Decides-eqb c.args.line.now c.as_bytes.result.now c.strip_prefix.result c.strip_prefix.ensures.cases in
    let none = rw c.in-None.is at front in
    no_rest c.args.line.now c.as_bytes.result.now (codes " reset") none ∙ ap (λ w. bytes_eq c.args.line.now (w ++ codes " reset")) (c.as_bytes.ensures.value ∙ c.format.ensures.text)
