use Rattle.pr_domain.proofs.Common.{◌≡◌, ℕ, take, has}
use Rattle.pr_domain.specs.inside.Beginning.{has_alternative}
use Rattle.pr_domain.proofs.starting.Owner.registrations_of.Given as goal

abbrev pub invariant-loop-key : goal.invariant-loop-key
invariant-loop-key l = (r : ℕ) → has l.numbers r ≡ has_alternative l.self.parts.now.keys.items (take l.key-index l.alternatives) r
