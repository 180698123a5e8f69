use Rattle.pr_domain.proofs.Common.{List, All, Command, Test, view_in, Scope, Grows, IsReadAt}
use Rattle.pr_domain.specs.inside.Tallies.{IsRightReading}
use Rattle.pr_regions.proofs.lemmas.Keeping.Additions.{AnyBelow}
use Rattle.pr_domain.proofs.tallying.add_readings.Given as goal

abbrev pub invariant-loop-reading : goal.invariant-loop-reading
invariant-loop-reading l = (s : Scope) (c : Command) (tests : List Test) → All (IsRightReading s c tests l.view l.place l.registration) l.readings
    → Grows (view_in s l.view) c tests l.fn.tally l.tally (λ u. AnyBelow l.reading-index (λ b. IsReadAt s l.view l.place l.registration b u) l.readings)
