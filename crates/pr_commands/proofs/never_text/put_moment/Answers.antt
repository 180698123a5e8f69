use Rattle.pr_commands.proofs.Common.{[], ◌∷◌, ◌++◌, codes, flat_map, front_first, front_then, map, puts_err, puts_last}
use Rattle.std.specs.Fmt.{decimal}
use Rattle.pr_output.specs.PrintedLines.{line}
use Rattle.pr_commands.proofs.never_text.put_moment.Goals as goal

pub returns-in_err-put : goal.returns-in_err-put
returns-in_err-put g c = puts_err _ _ _ _ (front_first _ _ (codes "fence-witness 1\nat ") _ c.in_err-put.ensures) c.from_residual.ensures.0

pub returns-in_err-put_words : goal.returns-in_err-put_words
returns-in_err-put_words g c =
    let words = flat_map (λ word. word ++ codes " ") (map (λ w. w.now) c.args.words.now) in
    puts_err _ _ _ _ (front_then _ _ _ (codes "fence-witness 1\nat ") _ c.in_ok-put.ensures (front_first _ _ words _ c.in_err-put_words.ensures)) c.from_residual-in_err-put_words.ensures.0

pub returns-in_err-put_after : goal.returns-in_err-put_after
returns-in_err-put_after g c =
    let words = flat_map (λ word. word ++ codes " ") (map (λ w. w.now) c.args.words.now) in
    puts_err _ _ _ _ (front_then _ _ _ (codes "fence-witness 1\nat ") _ c.in_ok-put.ensures (front_then _ _ _ words _ c.in_ok-put_words.ensures
    (front_first _ _ (line (codes "after") (decimal c.args.steps ∷ [])) _ c.in_err-put_after.ensures))) c.from_residual-in_err-put_after.ensures.0

pub returns : goal.returns
returns g c =
    let words = flat_map (λ word. word ++ codes " ") (map (λ w. w.now) c.args.words.now) in
    puts_last _ _ _ (codes "fence-witness 1\nat ") _ _ c.in_ok-put.ensures (puts_last _ _ _ words _ _ c.in_ok-put_words.ensures
    (puts_last _ _ _ (line (codes "after") (decimal c.args.steps ∷ [])) _ _ c.in_ok-put_after.ensures c.put_certified.ensures))
