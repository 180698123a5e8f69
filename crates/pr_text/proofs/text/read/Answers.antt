use Rattle.pr_text.proofs.lemmas.Reading.Fronts.{read_front}
use Rattle.pr_text.proofs.lemmas.ScenarioRoundTrip.Uniqueness.{written_once}
use Rattle.pr_text.proofs.lemmas.ScenarioRoundTrip.WholeLines.{said}
use Rattle.pr_text.proofs.text.read.Goals as goal

pub returns-clause-read : goal.returns-clause-read
returns-clause-read g c =
    read_front _ _ _ _ c.in_ok-text.ensures.ok (rw c.deref.ensures.value at c.of_text.ensures.found) (rw c.deref.ensures.value at c.of_text.ensures.fault)

pub returns-clause-each : goal.returns-clause-each
returns-clause-each g c = said

pub returns-clause-once : goal.returns-clause-once
returns-clause-once g c = written_once

pub returns-in_err-text-clause-each : goal.returns-in_err-text-clause-each
returns-in_err-text-clause-each g c = said

pub returns-in_err-text-clause-once : goal.returns-in_err-text-clause-once
returns-in_err-text-clause-once g c = written_once
