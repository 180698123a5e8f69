use Rattle.pr_interference.proofs.Common.{◌≡◌, ◌<◌, length, slice_index_or, None, arith, get_or_default, Branch, IsLedBy, IsLeftBy}
use Rattle.pr_regions.specs.declared.region.Ending.TheVariants as ending
use Rattle.pr_interference.proofs.lemmas.Interfering.Additions.{adds_element}
use Rattle.pr_interference.proofs.onlooker.Onlooker.add_branches.Goals as goal

pub loop-branch-preserved : goal.loop-branch-preserved
loop-branch-preserved c s is uniform proper =
    let branches = c.args.branches.now in
    let n = c.loop-branch.branch-index in
    let small : n < length branches = omega arith in
    let spare : Branch = record { region = record { holder = record { bits = 0 }; others = record { bits = 0 }; somebody = None }; ending = ending.Conflict } in
    let branch = slice_index_or branches n spare in
    adds_element s c.args.answer.now c.loop-branch.answer c.add_branch.new.answer n branches branch
    (λ b u w. IsLedBy s c.args.self.now.view c.args.place.now c.args.senders b u w) (λ b i. IsLeftBy s c.args.self.now.view c.args.place.now c.args.senders b i)
    small (get_or_default branches n branch spare small) (c.loop-branch.invariant s is uniform proper) (c.add_branch.ensures s is uniform (proper n spare small))

pub returns : goal.returns
returns c = let all : c.loop-branch.branch-index ≡ length c.args.branches.now = omega arith in rw all at c.loop-branch.invariant
