-- What the trees of values are as statements, one level at a time.
use Rattle.pr_script.proofs.Common.{◌≡◌, ℕ, Vec, Global, sym, refl, ap, ◌∙◌, Command, sends, repeats, more, arm, statement_of, statements_in, script_of, Arm, arms_in}
use Rattle.pr_script.specs.declared.script.Statement.{Row_of-Statement, end_of-Statement, more_of-Statement, Row_of-Arm, end_of-Arm, more_of-Arm}
use Rattle.pr_script.specs.declared.script.Statement.TheVariants.{Send, Repeat}
use Rattle.pr_script.specs.declared.script.Script.{Script}
use Rattle.pr_script.specs.declared.script.Statement.TheBlock.{items-the_row-Statement, items-the_row-Arm, items_shown-the_row-Statement-0, items_hidden-the_row-Statement-0, hidden-the_row-Statement-0, hidden-the_row-Arm-1, items_hidden-the_row-Arm-1}
use Rattle.pr_script.specs.Trees.{statements_of, arms_of}

pub statements-items : (n : _) (row : Row_of-Statement n) → statements_of row ≡ statements_in (items-the_row-Statement n row)
statements-items _ end_of-Statement = refl
statements-items _ (more_of-Statement s rest) = ap (more (statement_of s)) (statements-items _ rest)

pub arms-items : (n : _) (row : Row_of-Arm n) → arms_of row ≡ arms_in (items-the_row-Arm n row)
arms-items _ end_of-Arm = refl
arms-items _ (more_of-Arm {n = n} test shape body rest) =
    let inner = statements-items _ body ∙ ap statements_in (sym (items_shown-the_row-Statement-0 shape body)) in
    ap (arm test (statements_of body)) (arms-items n rest) ∙ ap (λ b. arm test b (arms_in (items-the_row-Arm n rest))) inner

pub tree_repeat : (count : ℕ) (body : Script) → statement_of (Repeat count body) ≡ repeats count (script_of body)
tree_repeat count body = ap (repeats count)
    (statements-items _ (hidden-the_row-Statement-0 body.statements) ∙ ap statements_in (items_hidden-the_row-Statement-0 body.statements))

pub tree_send : (line : ℕ) (command : Command) (arms : Vec Arm Global) → statement_of (Send line command arms) ≡ sends line command (arms_in arms.items)
tree_send line command arms = ap (sends line command)
    (arms-items _ (hidden-the_row-Arm-1 arms) ∙ ap arms_in (items_hidden-the_row-Arm-1 arms))
