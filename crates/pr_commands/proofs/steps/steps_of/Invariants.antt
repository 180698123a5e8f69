-- The words before this one are the steps so far, whose nexuses are there.
use Rattle.pr_commands.proofs.Common.{◌≡◌, length, drop, map, All, IsThere, names_of, steps_of}
use Rattle.pr_commands.proofs.lemmas.EachWord.{onto}
use Rattle.pr_commands.proofs.steps.steps_of.Given as goal

abbrev pub invariant-loop-word : goal.invariant-loop-word
invariant-loop-word l =
    (steps_of l.version (names_of l.nexuses) (map (λ w. w.now) l.words) ≡ onto l.steps.items (steps_of l.version (names_of l.nexuses) (map (λ w. w.now) (drop l.word-index l.words))))
    × All (IsThere (length l.nexuses)) l.steps.items
