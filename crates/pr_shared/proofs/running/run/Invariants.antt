use Rattle.pr_roles.specs.Scenarios.{scenario_of}
use Rattle.pr_shared.specs.Guests.{guests_of}
use Rattle.pr_shared.proofs.running.run.Given as goal

-- the ledger that was just made
abbrev pub ghosts-run_as-C-Ledger : goal.ghosts-run_as-C-Ledger
ghosts-run_as-C-Ledger g a = record { name = a.blank.name; parts = a.blank.parts }

-- the guests of the scenario
abbrev pub ghosts-run_as-C-Round : goal.ghosts-run_as-C-Round
ghosts-run_as-C-Round g a = record { guests = guests_of (scenario_of a.verified) }
