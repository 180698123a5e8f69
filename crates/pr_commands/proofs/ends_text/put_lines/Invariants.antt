-- the lines of those before this one
use Rattle.pr_commands.proofs.Common.{drop, flat_map, names_of, Together, Wrote, ends_line}
use Rattle.pr_commands.proofs.ends_text.put_lines.Given as goal

abbrev pub invariant-loop-together : goal.invariant-loop-together
invariant-loop-together g l =
    Wrote (g.W.Write.contents l.fn.writer) (g.W.Write.contents l.writer) (flat_map (λ (t : Together). ends_line (names_of l.nexuses) t.ends.items t.steps) l.all)
    (flat_map (λ (t : Together). ends_line (names_of l.nexuses) t.ends.items t.steps) (drop l.together-index l.all))
