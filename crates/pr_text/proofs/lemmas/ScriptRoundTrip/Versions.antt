-- A version has the lines of a script where it has its arms.
use Rattle.pr_text.proofs.Common.{◌≡◌, ℕ, true, false, ◌&&◌, [], ◌∷◌, nat_lt, nat_le, sym, refl, ap, ◌∙◌, arith, list_all, nat_tests, list_all-append, Stmt, Stmts, Arms, sends, repeats, none, more, no_arm, arm, is_version, is_count, are_resets, MOST_REFUSALS, MOST_RESETS, states, since, ScriptLine, arm_on, block_done, statement_lines, body_lines, arms_lines, is_line_of}
use Rattle.std.proofs.Math.Bool.{and_assoc, and-true}
use Rattle.pr_script.specs.Versions.{since as test_since, is_statement_of, is_script_of, are_arms_of}
use Rattle.pr_text.specs.ScriptRoundTrip.{said_by}

-- ---- numbers

-- each version has what the first has
pub has_first : (v : ℕ) → is_version v ≡ true → nat_lt v 1 ≡ false
has_first v h = grind (arith, nat_tests)

pub has_by : (n v : ℕ) → nat_le n v ≡ true → nat_lt v n ≡ false
has_by n v h = grind (arith, nat_tests)

pub by_has : (n v : ℕ) → nat_lt v n ≡ false → nat_le n v ≡ true
by_has n v h = grind (arith, nat_tests)

pub count_kept : (v n : ℕ) → is_version v ≡ true → nat_lt v 2 ≡ false → (nat_le 1 n && nat_le n MOST_REFUSALS) ≡ true → is_count v n ≡ true
count_kept v n known new room = grind (arith, nat_tests)

pub resets_kept : (v n : ℕ) → is_version v ≡ true → nat_lt v 2 ≡ false → (nat_le 1 n && nat_le n MOST_RESETS) ≡ true → are_resets v n ≡ true
resets_kept v n known new room = grind (arith, nat_tests)

-- ---- the lines of a script

mutual
  statement_dated : (v : ℕ) (x : Stmt) → list_all (is_line_of v) (statement_lines x) ≡ is_statement_of v x
  statement_dated v (sends n c a) = list_all-append (is_line_of v) (arms_lines a) (block_done ∷ []) ∙ (and-true (list_all (is_line_of v) (arms_lines a)) ∙ arms_dated v a)
  statement_dated v (repeats n b) = list_all-append (is_line_of v) (body_lines b) (block_done ∷ []) ∙ (and-true (list_all (is_line_of v) (body_lines b)) ∙ body_dated v b)
  statement_dated v _ = refl

  pub body_dated : (v : ℕ) (b : Stmts) → list_all (is_line_of v) (body_lines b) ≡ is_script_of v b
  body_dated v none = refl
  body_dated v (more x rest) =
      list_all-append (is_line_of v) (statement_lines x) (body_lines rest)
      ∙ (ap (λ p. p && list_all (is_line_of v) (body_lines rest)) (statement_dated v x) ∙ ap (λ p. is_statement_of v x && p) (body_dated v rest))

  arms_dated : (v : ℕ) (a : Arms) → list_all (is_line_of v) (arms_lines a) ≡ are_arms_of v a
  arms_dated v no_arm = refl
  arms_dated v (arm t body rest) =
      ap (λ p. nat_le (test_since t) v && p) (list_all-append (is_line_of v) (body_lines body) (arms_lines rest)
      ∙ (ap (λ p. p && list_all (is_line_of v) (arms_lines rest)) (body_dated v body) ∙ ap (λ p. is_script_of v body && p) (arms_dated v rest)))
      ∙ sym (and_assoc (nat_le (test_since t) v) (is_script_of v body) (are_arms_of v rest))

-- a version has what such a line says
pub has_line : (v : ℕ) (l : ScriptLine) → is_version v ≡ true → is_line_of v l ≡ true → nat_lt v (since (states (said_by l))) ≡ false
has_line v (arm_on t) known h = has_by (test_since t) v h
has_line v _ known h = has_first v known
