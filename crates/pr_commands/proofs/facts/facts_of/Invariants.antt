-- The words before this one are the facts so far.
use Rattle.pr_commands.proofs.Common.{◌≡◌, drop, map, names_of}
use Rattle.pr_commands.specs.Facts.{facts_of}
use Rattle.pr_commands.proofs.lemmas.EachWord.{onto}
use Rattle.pr_commands.proofs.facts.facts_of.Given as goal

abbrev pub invariant-loop-word : goal.invariant-loop-word
invariant-loop-word l =
    facts_of (names_of l.nexuses) (map (λ w. w.now) l.words) ≡ onto l.facts.items (facts_of (names_of l.nexuses) (map (λ w. w.now) (drop l.word-index l.words)))
