-- The places of a script that fits can be written.
use Rattle.pr_verify.proofs.Common.{◌≡◌, ℕ, zero, suc, ◌+◌, ◌<◌, true, ◌&&◌, ◌⊎◌, List, [], ◌∷◌, length, nat_lt, nat_le, slice_index_or, All, Contains, refl, subst, inl, inr, arith, leb-true, and_parts, All-nil, All-cons, Contains-append_cases, Command, script_fits, Stmt, sends, repeats, Stmts, none, more, Arms, no_arm, arm, first_of, round, Place, tests_of, next_of, place, places_in, places, places_of_arms, places_of, IsPlaceWritten, MOST_ARMS}
use Rattle.pr_script.specs.Grammar.{test_fits, statement_fits, statements_fit, arms_fit, is_written, is_send_written, is_repeat_written, count_of_arms}

-- what a list has is its first element, or one of the others
pub first_or_rest : {X : Type 0} (x : X) (xs : List X) (y : X) → Contains (x ∷ xs) y → (x ≡ y) ⊎ Contains xs y
first_or_rest {X} x xs y there = at there.0 there.1 there.2
  where
    at : (k : ℕ) → k < length (x ∷ xs) → slice_index_or (x ∷ xs) k y ≡ y → (x ≡ y) ⊎ Contains xs y
    at zero small is = inl is
    at (suc k) small is = inr (k, omega arith, is)

pub nothing_in : {X P : Type 0} (y : X) → Contains [] y → P
nothing_in y there = absurd (let small : there.0 < 0 = there.1 in omega arith)

-- ---- the arms of a send

pub length-tests_of : (a : Arms) → length (tests_of a) ≡ count_of_arms a
length-tests_of no_arm = refl
length-tests_of (arm t body rest) = let more = length-tests_of rest in omega arith

pub length-next_of : (a : Arms) (after broken : List ℕ) → length (next_of a after broken) ≡ length (tests_of a)
length-next_of no_arm after broken = refl
length-next_of (arm t body rest) after broken = let more = length-next_of rest after broken in omega arith

tests_written : (keys : List ℕ) (r s : ℕ) (c : Command) (a : Arms) → arms_fit keys r s c a ≡ true → All (λ t. test_fits keys c t ≡ true) (tests_of a)
tests_written keys r s c no_arm fit = All-nil (λ t. test_fits keys c t ≡ true)
tests_written keys r s c (arm t body rest) fit =
    let parts = and_parts (test_fits keys c t && statements_fit keys r s body) (arms_fit keys r s c rest) fit in
    All-cons (λ u. test_fits keys c u ≡ true) t (tests_of rest) (and_parts (test_fits keys c t) (statements_fit keys r s body) parts.0).0
    (tests_written keys r s c rest parts.1)

place_written : (keys : List ℕ) (r s n : ℕ) (c : Command) (a : Arms) (after broken : List ℕ) → is_send_written keys c a ≡ true → arms_fit keys r s c a ≡ true
    → IsPlaceWritten keys (place n c a after broken)
place_written keys r s n c a after broken written fit =
    let parts = and_parts (is_written keys c) (nat_le (count_of_arms a) MOST_ARMS) written in
    record {
      command = parts.0;
      tests = tests_written keys r s c a fit;
      few = let counted = length-tests_of a in let few = leb-true (count_of_arms a) MOST_ARMS parts.1 in omega arith;
      next = length-next_of a after broken;
    }

-- ---- the statements

mutual
  in_statement : (keys : List ℕ) (r s : ℕ) (st : Stmt) (after broken : List ℕ) → statement_fits keys r s st ≡ true
      → (p : Place) → Contains (places_in st after broken) p → IsPlaceWritten keys p
  in_statement keys r s (sends n c a) after broken fits p there =
      let parts = and_parts (is_send_written keys c a) (nat_lt s 8 && arms_fit keys r (s + 1) c a) fits in
      let arms = (and_parts (nat_lt s 8) (arms_fit keys r (s + 1) c a) parts.1).1 in
      elim (first_or_rest (place n c a after broken) (places_of_arms a after broken) p there) [
        | inl same ↦ subst (IsPlaceWritten keys) same (place_written keys r (s + 1) n c a after broken parts.0 arms)
        | inr among ↦ in_arms keys r (s + 1) c a after broken arms p among
      ]
  in_statement keys r s (repeats n b) after broken fits p there =
      let parts = and_parts (is_repeat_written n b) (nat_lt r 8 && statements_fit keys (r + 1) s b) fits in
      in_statements keys (r + 1) s b (round n b after) after (and_parts (nat_lt r 8) (statements_fit keys (r + 1) s b) parts.1).1 p there
  in_statement keys r s _ after broken fits p there = nothing_in p there

  in_statements : (keys : List ℕ) (r s : ℕ) (b : Stmts) (after broken : List ℕ) → statements_fit keys r s b ≡ true
      → (p : Place) → Contains (places b after broken) p → IsPlaceWritten keys p
  in_statements keys r s none after broken fits p there = nothing_in p there
  in_statements keys r s (more st rest) after broken fits p there =
      let parts = and_parts (statement_fits keys r s st) (statements_fit keys r s rest) fits in
      elim (Contains-append_cases (places_in st (first_of rest after broken) broken) (places rest after broken) p there) [
        | inl here ↦ in_statement keys r s st (first_of rest after broken) broken parts.0 p here
        | inr later ↦ in_statements keys r s rest after broken parts.1 p later
      ]

  in_arms : (keys : List ℕ) (r s : ℕ) (c : Command) (a : Arms) (after broken : List ℕ) → arms_fit keys r s c a ≡ true
      → (p : Place) → Contains (places_of_arms a after broken) p → IsPlaceWritten keys p
  in_arms keys r s c no_arm after broken fits p there = nothing_in p there
  in_arms keys r s c (arm t body rest) after broken fits p there =
      let parts = and_parts (test_fits keys c t && statements_fit keys r s body) (arms_fit keys r s c rest) fits in
      elim (Contains-append_cases (places body after broken) (places_of_arms rest after broken) p there) [
        | inl here ↦ in_statements keys r s body after broken (and_parts (test_fits keys c t) (statements_fit keys r s body) parts.0).1 p here
        | inr later ↦ in_arms keys r s c rest after broken parts.1 p later
      ]

pub places_written : (keys : List ℕ) (b : Stmts) → script_fits keys b ≡ true → (p : Place) → Contains (places_of b) p → IsPlaceWritten keys p
places_written keys b fits = in_statements keys 0 0 b [] [] (and_parts (statements_fit keys 0 0 b) _ fits).0
