use Rattle.std.proofs.Common.{◌∙◌, arith}
use Rattle.pr_shared.proofs.lemmas.Outcomes.Comparisons.{ordered_length}
use Rattle.pr_shared.proofs.lemmas.Guests.Nexuses.{number_of_guests}
use Rattle.pr_shared.proofs.running.run_as.Goals as goal

pub in_threads-seats-requires-clause-started : goal.in_threads-seats-requires-clause-started
in_threads-seats-requires-clause-started g c κs within =
    let seats = ordered_length c.in-Ok.seats.items (λ s. s.host) _ c.in-Ok.ensures.in_order in
    let all = number_of_guests c.args.verified _ _ _ c.requires.guests (c.parts.ensures.value ∙ c.scenario.ensures.value) c.len-nexuses.ensures in
    (c.in_ok-started.ensures.len, omega (arith, seats, all, c.in-Ok.seats.ok.0, c.in_ok-started.ensures.exact))

pub in_threads-seats-requires-clause-back : goal.in_threads-seats-requires-clause-back
in_threads-seats-requires-clause-back g c κs within =
    let seats = ordered_length c.in-Ok.seats.items (λ s. s.host) _ c.in-Ok.ensures.in_order in
    let all = number_of_guests c.args.verified _ _ _ c.requires.guests (c.parts.ensures.value ∙ c.scenario.ensures.value) c.len-nexuses.ensures in
    (c.in_ok-back.ensures.len, omega (arith, seats, all, c.in-Ok.seats.ok.0, c.in_ok-back.ensures.exact))
