use Rattle.pr_text.proofs.Common.{◌≡◌, true, length, ◌==◌, Ok, sym, ap, ◌∙◌, item_standing}
use Rattle.pr_text.specs.inside.OpenScripts.{open_seen}
use Rattle.pr_text.proofs.lemmas.OpenScripts.Lines.{closed_lines}
use Rattle.pr_text.proofs.builder.Builder.script_end.Goals as goal

pub returns : goal.returns
unfolding item_standing
returns c =
    let closed : (length (open_seen c.args.script).blocks == 0) ≡ true = sym c.is_closed.ensures ∙ c.if-not-is_closed.false in
    let lines = closed_lines c.args.script.armless c.args.script.outer.items c.args.script.body.items closed in
    rw (closed, lines) (ap (λ d. Ok d) (sym c.set_task.ensures))
