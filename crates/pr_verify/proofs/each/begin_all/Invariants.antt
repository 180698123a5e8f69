use Rattle.pr_verify.proofs.Common.{◌≡◌, ◌≤◌, vec_len, scenario_of, IsBegunFor, EachFrom}
use Rattle.std.specs.Prelude.{vec_capacity}
use Rattle.pr_verify.proofs.each.begin_all.Given as goal

-- the checks before that of this host are begun
abbrev pub invariant-loop-host : goal.invariant-loop-host
invariant-loop-host g l = record {
  len : vec_len l.begun ≡ l.host;
  room : l.fn.lists.hosts ≤ vec_capacity l.begun;
  each : EachFrom (IsBegunFor (scenario_of l.scenario)) 0 l.begun.items;
}
