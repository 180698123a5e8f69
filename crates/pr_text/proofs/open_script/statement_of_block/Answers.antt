use Rattle.pr_text.proofs.Common.{[], ◌∷◌, ◌++◌, sym, ap, ◌∙◌, block_done}
use Rattle.pr_text.specs.inside.OpenScripts.{opener_lines, lines_in}
use Rattle.pr_text.proofs.lemmas.OpenScripts.Lines.{closed_repeat, closed_send}
use Rattle.pr_text.proofs.open_script.statement_of_block.Goals as goal

pub returns-in-Repeat : goal.returns-in-Repeat
returns-in-Repeat c =
    closed_repeat c.in-Repeat.count c.args.body
    ∙ ap (λ o. opener_lines o ++ (lines_in c.args.body.statements.items ++ block_done ∷ [])) (sym c.in-Repeat.is)

pub returns-in_ok-push-in-Arm : goal.returns-in_ok-push-in-Arm
returns-in_ok-push-in-Arm c =
    closed_send c.in-Arm.line c.in-Arm.command c.push.new.self c.in-Arm.arms.items (record { test = c.in-Arm.test; body = c.args.body }) c.in_ok-push-in-Arm.ensures.items
    ∙ ap (λ o. opener_lines o ++ (lines_in c.args.body.statements.items ++ block_done ∷ [])) (sym c.in-Arm.is)
