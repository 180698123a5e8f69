-- The words from this one on ask for what is left, and there is a place for each nexus.
use Rattle.pr_commands.proofs.Common.{◌≡◌, length, drop, map, scenario_of, asks_from, exits_of}
use Rattle.pr_commands.specs.Asked.{asks_of}
use Rattle.pr_commands.proofs.asked.asks_of.Given as goal

abbrev pub invariant-loop-word : goal.invariant-loop-word
invariant-loop-word l =
    (asks_from (scenario_of l.scenario) (exits_of l.asked.items) (map (λ w. w.now) (drop l.word-index l.words)) ≡ asks_of (scenario_of l.scenario) (map (λ w. w.now) l.words))
    × (length l.asked.items ≡ length l.nexuses.items)
