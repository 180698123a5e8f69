use Rattle.pr_interference.proofs.Common.{All, Any, Scope, Adds, IsWatched, IsLedBy, IsLeftBy}
use Rattle.pr_regions.specs.Gathering.{IsUniform}
use Rattle.pr_regions.specs.Regions.{IsProper}
use Rattle.pr_regions.proofs.lemmas.Keeping.Additions.{AnyBelow}
use Rattle.pr_interference.proofs.onlooker.Onlooker.add_branches.Given as goal

abbrev pub invariant-loop-branch : goal.invariant-loop-branch
invariant-loop-branch l = (s : Scope) → IsWatched s l.self l.place → IsUniform l.senders → All IsProper l.branches
    → Adds s l.fn.answer l.answer (λ u w. AnyBelow l.branch-index (λ b. IsLedBy s l.self.view l.place l.senders b u w) l.branches) (λ i. Any (λ b. IsLeftBy s l.self.view l.place l.senders b i) l.branches)
