use Rattle.pr_text.proofs.lemmas.Reading.Fronts.{read_front_told}
use Rattle.pr_text.proofs.text.read_with_text.Goals as goal

pub returns-in-Ok-clause-read : goal.returns-in-Ok-clause-read
returns-in-Ok-clause-read g c =
    read_front_told _ _ _ _ c.in-Ok.ensures.ok (rw c.deref.ensures.value at c.diagnosed-scenario.ensures.found) (rw c.deref.ensures.value at c.diagnosed-scenario.ensures.fault)
