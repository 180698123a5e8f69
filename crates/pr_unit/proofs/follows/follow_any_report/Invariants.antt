use Rattle.pr_unit.proofs.Common.{◌≡◌, All, code_of, unit_of}
use Rattle.std.proofs.Common.{take}
use Rattle.pr_unit.specs.inside.Following.{IsUnreported}
use Rattle.pr_unit.proofs.follows.follow_any_report.Given as goal

abbrev pub invariant-loop-attention : goal.invariant-loop-attention
invariant-loop-attention l = record {
  same : unit_of l.registry l.pendings ≡ unit_of l.registry l.initial.pendings;
  none : All (λ a. IsUnreported (unit_of l.registry l.initial.pendings) l.host l.request l.reply (code_of a)) (take l.attention-index l.attention-items);
}
