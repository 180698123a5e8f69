use Rattle.pr_commands.proofs.Common.{[], ◌∷◌, codes, front_first, puts_err, puts_last}
use Rattle.std.specs.Fmt.{decimal}
use Rattle.pr_output.specs.PrintedLines.{line}
use Rattle.pr_commands.proofs.never_text.put_nowhere.Goals as goal

pub returns-in_err-put_never : goal.returns-in_err-put_never
returns-in_err-put_never g c = puts_err _ _ _ _ (front_first _ _ (line (codes "never") (decimal c.args.worlds ∷ [])) _ c.in_err-put_never.ensures) c.from_residual.ensures.0

pub returns : goal.returns
returns g c = puts_last _ _ _ (line (codes "never") (decimal c.args.worlds ∷ [])) _ _ c.in_ok-put_never.ensures c.put_unmet.ensures
