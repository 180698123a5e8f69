-- A script that fits nests no deeper than its limit.
use Rattle.pr_script.proofs.Common.{◌≡◌, ℕ, ◌+◌, ◌≤◌, true, ◌&&◌, List, nat_lt, arith, Command, depth_of, depth_of_all, depth_of_arms, statement_fits, statements_fit, arms_fit, Stmt, sends, repeats, Stmts, none, more, Arms, no_arm, arm, MOST_OPEN}
use Rattle.std.proofs.lemmas.Bool.{and_parts, ltb-true}
use Rattle.pr_script.specs.Grammar.{is_send_written, is_repeat_written, test_fits, script_fits}

mutual
  deep : (keys : List ℕ) (r s : ℕ) (st : Stmt) → r ≤ MOST_OPEN → statement_fits keys r s st ≡ true → r + depth_of st ≤ MOST_OPEN
  deep keys r s (sends n c a) below fits =
      deep_arms keys r (s + 1) c a below (and_parts (nat_lt s MOST_OPEN) (arms_fit keys r (s + 1) c a) (and_parts (is_send_written keys c a) _ fits).1).1
  deep keys r s (repeats n b) below fits =
      let parts = and_parts (nat_lt r MOST_OPEN) (statements_fit keys (r + 1) s b) (and_parts (is_repeat_written n b) _ fits).1 in
      omega (arith, deep_all keys (r + 1) s b (omega (arith, ltb-true r MOST_OPEN parts.0)) parts.1)
  deep keys r s _ below fits = omega arith

  deep_all : (keys : List ℕ) (r s : ℕ) (b : Stmts) → r ≤ MOST_OPEN → statements_fit keys r s b ≡ true → r + depth_of_all b ≤ MOST_OPEN
  deep_all keys r s none below fits = omega arith
  deep_all keys r s (more st rest) below fits =
      let parts = and_parts (statement_fits keys r s st) (statements_fit keys r s rest) fits in
      omega (arith, deep keys r s st below parts.0, deep_all keys r s rest below parts.1)

  deep_arms : (keys : List ℕ) (r s : ℕ) (c : Command) (a : Arms) → r ≤ MOST_OPEN → arms_fit keys r s c a ≡ true → r + depth_of_arms a ≤ MOST_OPEN
  deep_arms keys r s c no_arm below fits = omega arith
  deep_arms keys r s c (arm t body rest) below fits =
      let parts = and_parts (test_fits keys c t && statements_fit keys r s body) (arms_fit keys r s c rest) fits in
      omega (arith, deep_all keys r s body below (and_parts (test_fits keys c t) (statements_fit keys r s body) parts.0).1, deep_arms keys r s c rest below parts.1)

pub shallow : (keys : List ℕ) (b : Stmts) → script_fits keys b ≡ true → depth_of_all b ≤ MOST_OPEN
shallow keys b fits = omega (arith, deep_all keys 0 0 b (omega arith) (and_parts (statements_fit keys 0 0 b) _ fits).0)
