-- How many rows a script has.
use Rattle.pr_table.proofs.Common.{◌≡◌, ℕ, ◌+◌, ◌<◌, ◌≤◌, true, List, [], ◌∷◌, ◌++◌, length, ap, ◌∙◌, arith, Arm, Statement, Stmts, Arms, sends, repeats, breaks, stops, none, more, no_arm, arm, script_of, statement_of, statements_in, arms_in, tree_repeat, tree_send, MOST_ROWS, row_count, row_count_of_all, row_count_of_arms}
use Rattle.std.proofs.Common.{◌*◌, ◌&&◌, get_or, take, nat_le, leb-true}
use Rattle.std.proofs.lemmas.Bool.{and_parts}
use Rattle.std.proofs.Common.{Vec, Global}
use Rattle.pr_cdb.specs.declared.command.Command.{Command}
use Rattle.pr_script.specs.declared.script.Script.{Script}
use Rattle.pr_script.specs.declared.script.Statement.TheVariants.{Repeat, Send}
use Rattle.pr_script.specs.declared.limits.TheConstants.{MOST_STATEMENTS}
use Rattle.pr_script.specs.Grammar.{count_of, count_of_all, count_in_arms, lines_of_all, rise_above, script_fits, statements_fit}
use Rattle.pr_script.specs.Scripts.{Stmt}
use Rattle.pr_script.proofs.lemmas.Trees.ListTails.{taken}

-- ---- one more

rows-append : (xs : List Statement) (x : Statement) → row_count_of_all (statements_in (xs ++ x ∷ [])) ≡ row_count_of_all (statements_in xs) + row_count (statement_of x)
rows-append [] x = omega arith
rows-append (y ∷ ys) x = omega (arith, rows-append ys x)

pub rows_taken : (xs : List Statement) (i : ℕ) (x : Statement) → i < length xs → x ≡ get_or xs i x
    → row_count_of_all (statements_in (take (i + 1) xs)) ≡ row_count_of_all (statements_in (take i xs)) + row_count (statement_of x)
rows_taken xs i x within is = ap (λ ys. row_count_of_all (statements_in ys)) (taken xs i x within is) ∙ rows-append (take i xs) x

arm_rows-append : (xs : List Arm) (x : Arm) → row_count_of_arms (arms_in (xs ++ x ∷ [])) ≡ row_count_of_arms (arms_in xs) + row_count_of_all (script_of x.body)
arm_rows-append [] x = omega arith
arm_rows-append (y ∷ ys) x = omega (arith, arm_rows-append ys x)

pub arm_rows_taken : (xs : List Arm) (i : ℕ) (x : Arm) → i < length xs → x ≡ get_or xs i x
    → row_count_of_arms (arms_in (take (i + 1) xs)) ≡ row_count_of_arms (arms_in (take i xs)) + row_count_of_all (script_of x.body)
arm_rows_taken xs i x within is = ap (λ ys. row_count_of_arms (arms_in ys)) (taken xs i x within is) ∙ arm_rows-append (take i xs) x

-- ---- two for each statement at most

mutual
  two_each : (s : Stmt) → row_count s ≤ 2 * count_of s
  two_each (sends line command arms) = omega (arith, two_each_of_arms arms)
  two_each (repeats count body) = omega (arith, two_each_of_all body)
  two_each breaks = omega arith
  two_each (stops word) = omega arith

  two_each_of_all : (b : Stmts) → row_count_of_all b ≤ 2 * count_of_all b
  two_each_of_all none = omega arith
  two_each_of_all (more s rest) = omega (arith, two_each s, two_each_of_all rest)

  two_each_of_arms : (a : Arms) → row_count_of_arms a ≤ 2 * count_in_arms a
  two_each_of_arms no_arm = omega arith
  two_each_of_arms (arm test body rest) = omega (arith, two_each_of_all body, two_each_of_arms rest)

-- a script that may stand in a text has no more rows than it may
pub few_rows : (keys : List ℕ) (b : Stmts) → script_fits keys b ≡ true → row_count_of_all b ≤ MOST_ROWS
few_rows keys b fits =
    let parts = and_parts (statements_fit keys 0 0 b) (nat_le (count_of_all b) MOST_STATEMENTS && rise_above 0 (lines_of_all b)) fits in
    let few = and_parts (nat_le (count_of_all b) MOST_STATEMENTS) (rise_above 0 (lines_of_all b)) parts.1 in
    omega (arith, two_each_of_all b, leb-true _ _ few.0)

-- ---- of a statement, by its kind

pub rows_of_send : (s : Statement) (line : ℕ) (command : Command) (arms : Vec Arm Global) → s ≡ Send line command arms → row_count (statement_of s) ≡ 1 + row_count_of_arms (arms_in arms.items)
rows_of_send s line command arms is = ap (λ t. row_count (statement_of t)) is ∙ ap row_count (tree_send line command arms)

pub rows_of_repeat : (s : Statement) (count : ℕ) (body : Script) → s ≡ Repeat count body → row_count (statement_of s) ≡ 2 + row_count_of_all (script_of body)
rows_of_repeat s count body is = ap (λ t. row_count (statement_of t)) is ∙ ap row_count (tree_repeat count body)
