use Rattle.std.proofs.Common.{◌∙◌, arith}
use Rattle.pr_roles.specs.Scenarios.{scenario_of}
use Rattle.pr_shared.proofs.lemmas.Outcomes.Comparisons.{closed_own, guests_length, ordered_length}
use Rattle.pr_shared.proofs.shared.SharedWorld.settle.Goals as goal

pub finish-world-requires-clause-one_each : goal.finish-world-requires-clause-one_each
finish-world-requires-clause-one_each g c = c.args.seats.ok.0 ∙ ordered_length c.args.seats.items (λ s. s.host) _ c.requires.in_order

pub finish-world-requires-clause-room : goal.finish-world-requires-clause-room
finish-world-requires-clause-room g c =
    let seats = ordered_length c.args.seats.items (λ s. s.host) _ c.requires.in_order in
    let nexuses = guests_length (scenario_of c.args.self.kept.scenario) _ c.args.self.guests in
    (c.args.self.kept.no_mine, omega (arith, seats, nexuses, c.args.seats.ok.0, c.args.self.kept.room_for_mine))

pub returns-clause-own : goal.returns-clause-own
returns-clause-own g c =
    closed_own _ _ _ _ (λ l. l.items) c.args.seats.items (λ s. s.mine.items) _ _ (c.is_closed.ensures.0 c.if-not-is_closed.false) c.deref.ensures.value c.finish-world.ensures.mine
    (ordered_length c.args.seats.items (λ s. s.host) _ c.requires.in_order) c.outcome_of.ensures.history
