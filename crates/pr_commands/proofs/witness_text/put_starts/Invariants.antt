use Rattle.pr_commands.proofs.Common.{drop, flat_map, range_with_len, names_of, Wrote}
use Rattle.pr_commands.specs.WitnessText.{start_line, start_lines}
use Rattle.pr_commands.proofs.witness_text.put_starts.Given as goal

-- the lines of those before this one
abbrev pub invariant-loop-host : goal.invariant-loop-host
invariant-loop-host g l =
    Wrote (g.W.Write.contents l.fn.writer) (g.W.Write.contents l.writer) (start_lines (names_of l.nexuses) l.start)
    (flat_map (start_line (names_of l.nexuses) l.start.registry) (drop l.host (range_with_len 0 l.start.registry.hosts)))
