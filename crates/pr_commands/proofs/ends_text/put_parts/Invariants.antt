-- the parts of those before this one
use Rattle.pr_commands.proofs.Common.{drop, length, flat_map, range_with_len, slice_get, name_of, names_of, Wrote}
use Rattle.pr_commands.specs.EndsText.{end_part, end_parts}
use Rattle.pr_commands.proofs.ends_text.put_parts.Given as goal

abbrev pub invariant-loop-host : goal.invariant-loop-host
invariant-loop-host g l =
    Wrote (g.W.Write.contents l.fn.writer) (g.W.Write.contents l.writer) (end_parts (names_of l.nexuses) l.ends)
    (flat_map (λ host. end_part (name_of (names_of l.nexuses) host) (slice_get l.ends host)) (drop l.host (range_with_len 0 (length l.ends))))
