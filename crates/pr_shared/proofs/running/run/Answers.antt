use Rattle.std.proofs.Common.{refl, ◌∙◌, arith}
use Rattle.pr_shared.proofs.lemmas.Guests.Nexuses.{number_of_guests}
use Rattle.pr_shared.proofs.running.run.Goals as goal

pub run_as-requires-clause-one_each : goal.run_as-requires-clause-one_each
run_as-requires-clause-one_each g c κs within =
    let all = number_of_guests c.args.verified _ _ _ refl (c.parts.ensures.value ∙ c.scenario.ensures.value) c.len-nexuses.ensures in
    omega (arith, all, c.new.ensures)
