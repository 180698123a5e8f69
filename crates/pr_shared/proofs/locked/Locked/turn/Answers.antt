use Rattle.std.proofs.Common.{ap}
use Rattle.pr_roles.specs.Scenarios.{scenario_of}
use Rattle.pr_shared.proofs.lemmas.Histories.Turns.{sent_legally, held_guest}
use Rattle.pr_shared.proofs.locked.Locked.turn.Goals as goal

pub returns-in-Sent-clause-legal : goal.returns-in-Sent-clause-legal
returns-in-Sent-clause-legal g c =
    sent_legally _ _ _ c.args.seat.now.host c.args.self.now.world.schedule _ _ c.args.self.now.guests (ap scenario_of c.step_as-turn.ensures.scenario) c.scenario-safe.ensures.safe c.history-legal.ensures.reached c.step_as-turn.ensures.sent

pub returns-in-Held-clause-guest : goal.returns-in-Held-clause-guest
returns-in-Held-clause-guest g c =
    held_guest c.args.how _ _ _ _ c.args.seat.now.host _ c.args.self.now.guests c.step_as-turn.ensures.turn c.step_as-turn.ensures.held
