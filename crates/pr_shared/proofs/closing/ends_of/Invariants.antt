use Rattle.std.specs.Prelude.{◌≡◌, Some, map, vec_len, vec_capacity}
use Rattle.std.specs.List.{range_with_len}
use Rattle.pr_roles.specs.Schedules.{plan}
use Rattle.pr_roles.specs.Worlds.{control}
use Rattle.pr_audit.specs.Ends.{ending, ending_of}
use Rattle.pr_shared.proofs.closing.ends_of.Given as goal

-- how those before this one stand
abbrev pub invariant-loop-host : goal.invariant-loop-host
invariant-loop-host l = record {
  len : vec_len l.ends ≡ l.host;
  room : vec_capacity l.ends ≡ vec_capacity l.initial.ends;
  ends : map (λ e. Some (ending_of e)) l.ends.items ≡ map (λ h. ending (control l.world.schedule.world h) (plan l.world.schedule h)) (range_with_len 0 l.host);
}
