-- What is to come of the words stands behind what came of those before this one.
use Rattle.pr_commands.proofs.Common.{◌≡◌, ◌++◌, drop, map}
use Rattle.std.specs.Prelude.{filter, not}
use Rattle.pr_commands.specs.Questions.{has_equals}
use Rattle.pr_commands.proofs.questions.parted.Given as goal

abbrev pub invariant-loop-word : goal.invariant-loop-word
invariant-loop-word l =
    (map (λ w. w.now) l.ends.items ++ filter has_equals (map (λ w. w.now) (drop l.word-index l.words)) ≡ filter has_equals (map (λ w. w.now) l.words))
    × (map (λ w. w.now) l.others.items ++ filter (λ w. not (has_equals w)) (map (λ w. w.now) (drop l.word-index l.words)) ≡ filter (λ w. not (has_equals w)) (map (λ w. w.now) l.words))
