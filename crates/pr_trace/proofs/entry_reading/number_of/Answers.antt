-- A place among the nexuses is one among their names.
use Rattle.pr_trace.proofs.Common.{sym, ◌∙◌}
use Rattle.pr_trace.proofs.lemmas.TraceReadings.NexusNames.{place_in_names}
use Rattle.pr_trace.proofs.entry_reading.number_of.Goals as goal

pub returns-in_err-host-clause-number : goal.returns-in_err-host-clause-number
returns-in_err-host-clause-number c =
    c.from_residual.ensures ∙ (sym c.in_err-host.was ∙ (c.place_of.ensures.place ∙ place_in_names c.args.nexuses.now c.args.name.now))

pub returns-clause-number : goal.returns-clause-number
returns-clause-number c = sym c.in_ok-host.was ∙ (c.place_of.ensures.place ∙ place_in_names c.args.nexuses.now c.args.name.now)
