use Rattle.pr_domain.proofs.Common.{◌≡◌, ◌<◌, length, None, arith, view_in, IsAt, Branch}
use Rattle.std.proofs.lemmas.List.{get_or_default}
use Rattle.pr_regions.specs.declared.region.Ending.TheVariants.{Conflict}
use Rattle.pr_domain.proofs.lemmas.Tallies.Growth.{grows_by_element}
use Rattle.pr_domain.proofs.tallying.add_branches.Goals as goal

abbrev spare : Branch
spare = record { region = record { holder = record { bits = 0 }; others = record { bits = 0 }; somebody = None }; ending = Conflict }

pub loop-branch-preserved : goal.loop-branch-preserved
loop-branch-preserved c s c' tests right =
    let branches = c.args.branches.now in
    let n = c.loop-branch.branch-index in
    let small : n < length branches = omega arith in
    grows_by_element (view_in s c.args.view.now) c' tests c.args.tally.now c.loop-branch.tally c.add_branch.new.tally branches (λ b. IsAt (view_in s c.args.view.now) c.args.place c.args.senders b.region) n _
    small (get_or_default branches n _ spare small) (c.loop-branch.invariant s c' tests right) (c.add_branch.ensures s c' tests (right n spare small))

pub returns : goal.returns
returns c = let all : c.loop-branch.branch-index ≡ length c.args.branches.now = omega arith in rw all at c.loop-branch.invariant
