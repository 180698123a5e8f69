use Rattle.pr_verify.proofs.Common.{ℕ, ◌<◌, task, scenario_of, HasOutline, OnScripted, SendsFit}
use Rattle.pr_verify.proofs.verifying.check_hosts.Given as goal

-- each scripted host before this one has an outline, and what it sends is in range
abbrev pub invariant-loop-host : goal.invariant-loop-host
invariant-loop-host l =
    ((h : ℕ) → h < l.host → OnScripted (task (scenario_of l.scenario) h) (HasOutline (scenario_of l.scenario) h))
    × ((h : ℕ) → h < l.host → OnScripted (task (scenario_of l.scenario) h) (λ script budget. SendsFit script))
