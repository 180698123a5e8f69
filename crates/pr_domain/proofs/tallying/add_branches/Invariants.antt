use Rattle.pr_domain.proofs.Common.{List, All, Command, Test, view_in, Scope, IsAt, Grows, IsRight}
use Rattle.pr_regions.proofs.lemmas.Keeping.Additions.{AnyBelow}
use Rattle.pr_domain.proofs.tallying.add_branches.Given as goal

abbrev pub invariant-loop-branch : goal.invariant-loop-branch
invariant-loop-branch l = (s : Scope) (c : Command) (tests : List Test) → All (λ b. IsRight s c tests l.view l.place l.senders b l.arm.number) l.branches
    → Grows (view_in s l.view) c tests l.fn.tally l.tally (λ u. AnyBelow l.branch-index (λ b. IsAt (view_in s l.view) l.place l.senders b.region u) l.branches)
