use Rattle.pr_commands.proofs.Common.{drop, flat_map, range_with_len, name_of, names_of, Wrote, pending_line}
use Rattle.pr_unit.specs.UnitStates.{is_pending}
use Rattle.pr_commands.specs.WitnessText.{pending_lines}
use Rattle.pr_commands.proofs.witness_text.put_pendings.Given as goal

-- the lines of those before this one
abbrev pub invariant-loop-host : goal.invariant-loop-host
invariant-loop-host g l =
    Wrote (g.W.Write.contents l.fn.writer) (g.W.Write.contents l.writer) (pending_lines (names_of l.nexuses) l.start)
    (flat_map (λ host. pending_line (name_of (names_of l.nexuses) host) (is_pending l.start host)) (drop l.host (range_with_len 0 l.start.registry.hosts)))
