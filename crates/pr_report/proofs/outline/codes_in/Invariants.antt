use Rattle.pr_report.proofs.Common.{◌≡◌, ◌≤◌, map, length, take, filter}
use Rattle.std.specs.FinSet as set
use Rattle.pr_attention.specs.Attentions.{code_of}
use Rattle.pr_attention.specs.Flagged.{codes_of}
use Rattle.pr_report.proofs.outline.codes_in.Given as goal

abbrev pub invariant-loop-attention : goal.invariant-loop-attention
invariant-loop-attention l = record {
  few : length l.codes.items ≤ l.attention-index;
  same : l.codes.items ≡ filter (λ code. set.contains (codes_of l.number) code) (take l.attention-index (map code_of l.attention-items));
}
