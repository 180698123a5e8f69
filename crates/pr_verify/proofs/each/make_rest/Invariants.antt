use Rattle.pr_verify.proofs.Common.{◌≡◌, ◌+◌, vec_len, into_iter_items, scenario_of, IsBegunFor, IsCheckFor, EachFrom}
use Rattle.std.specs.Prelude.{vec_capacity}
use Rattle.std.specs.Vec.Iter.{into_iter_len}
use Rattle.pr_verify.proofs.each.make_rest.Given as goal

-- those before this one are made, or begun in a thread
abbrev pub invariant-loop-check : goal.invariant-loop-check
invariant-loop-check g l = record {
  len : vec_len l.checks + into_iter_len l.check-iterator ≡ vec_len l.fn.begun;
  room : vec_capacity l.checks ≡ vec_capacity l.fn.checks;
  rest : EachFrom (IsBegunFor (scenario_of l.scenario)) (vec_len l.checks) (into_iter_items l.check-iterator);
  each : EachFrom (IsCheckFor (scenario_of l.scenario)) 0 l.checks.items;
}
