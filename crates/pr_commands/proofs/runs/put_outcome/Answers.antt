-- The history has no more entries than there are numbers for, and the counts are those of its text.
use Rattle.pr_commands.proofs.Common.{◌<◌, refl, sym, ◌∙◌, subst, scenario_of, commands_by, Puts}
use Rattle.std.proofs.Common.{◌^◌}
use Rattle.pr_shared.proofs.lemmas.Guests.Nexuses.{number_of_nexuses}
use Rattle.pr_commands.proofs.lemmas.Runs.Outcomes.{counts_at, few_sent, text_of_outcome}
use Rattle.pr_commands.proofs.runs.put_outcome.Goals as goal

pub counts_of-counts-requires-clause-fit : goal.counts_of-counts-requires-clause-fit
counts_of-counts-requires-clause-fit g c = λ h.
    subst (λ es. commands_by es h < 2 ^ 32) (sym c.deref.ensures.value)
    (few_sent (scenario_of c.args.scenario.now) c.args.outcome.now h c.parts.ensures.fits c.requires.safe c.requires.comes)

pub returns : goal.returns
returns g c =
    let p = c.args.scenario.now in
    let all = number_of_nexuses p p c.parts.result.now c.len.result refl c.parts.ensures.value c.len.ensures in
    let counts = counts_at (scenario_of p) c.args.outcome.now c.deref.result.now c.len.result c.counts_of-counts.result.items c.counts_of-counts.ensures c.deref.ensures.value all in
    let text = text_of_outcome (scenario_of p) c.args.outcome.now c.deref-2.result.now c.deref-3.result.now c.deref-4.result.now c.deref-2.ensures.value c.deref-3.ensures.value
    (c.deref-4.ensures.0 ∙ counts) in
    subst (λ t. Puts (g.W.Write.contents c.args.writer.now) (g.W.Write.contents c.write_trace.new.writer) t c.write_trace.result) text c.write_trace.ensures
