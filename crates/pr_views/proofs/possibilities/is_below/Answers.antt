use Rattle.pr_views.proofs.Common.{not, ◌&&◌, ap, ◌∙◌, has}
use Rattle.pr_views.proofs.lemmas.Rooms.Ranges.{below_tells}
use Rattle.pr_views.proofs.possibilities.is_below.Goals as goal

pub returns : goal.returns
returns c =
    below_tells (has c.args.numbers) (has c.except.result) c.args.size c.is_empty.result (λ n. c.except.ensures n ∙ ap (λ b. has c.args.numbers n && not b) (c.below.ensures n))
    c.is_empty.ensures.empty c.is_empty.ensures.filled
