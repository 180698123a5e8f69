use Rattle.std.proofs.Common.{◌≡◌, ◌++◌, map, length}
use Rattle.std.specs.Str.Lines.{lines}
use Rattle.pr_explain.proofs.source.lines_of.Given as goal

-- the lines so far and those of what is left are all of them
abbrev pub invariant-loop-line : goal.invariant-loop-line
invariant-loop-line l = map (λ line. line.now) l.found.items ++ lines l.rest ≡ lines l.text

abbrev pub decreases-loop-line : goal.decreases-loop-line
decreases-loop-line l = length l.rest
