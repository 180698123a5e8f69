use Rattle.pr_lines.proofs.Common.{◌≡◌, ◌∷◌, length, words}
use Rattle.pr_lines.specs.CommandOptions.{no_option, with_options}
use Rattle.pr_lines.proofs.options.options_of.Given as goal

abbrev pub invariant-loop-word : goal.invariant-loop-word
invariant-loop-word l = with_options l.written (words l.rest) ≡ with_options no_option (l.first ∷ words l.line)

abbrev pub decreases-loop-word : goal.decreases-loop-word
decreases-loop-word l = length l.rest
