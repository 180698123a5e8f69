use Rattle.pr_views.proofs.Common.{not, ◌&&◌, ap, ◌∙◌, has_wide}
use Rattle.pr_views.proofs.lemmas.Rooms.Ranges.{below_tells}
use Rattle.pr_views.proofs.possibilities.is_wide_below.Goals as goal

pub returns : goal.returns
returns c =
    below_tells (has_wide c.args.numbers) (has_wide c.except.result) c.args.size c.is_empty.result (λ n. c.except.ensures n ∙ ap (λ b. has_wide c.args.numbers n && not b) (c.below.ensures n))
    c.is_empty.ensures.empty c.is_empty.ensures.filled
