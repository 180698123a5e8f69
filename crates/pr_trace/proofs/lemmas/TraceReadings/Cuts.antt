-- Where the first part of a text ends.
use Rattle.pr_trace.proofs.Common.{◌≡◌, ℕ, ◌+◌, ◌<◌, ◌≤◌, Bool, true, false, cond, List, [], ◌∷◌, length, take, drop, ◌==◌, Some, None, All, Option, position, ap, subst, arith, ne_eqb, position_or_len, slice_split, nat_tests, length-slice_split, words}
use Rattle.std.proofs.Common.{ltb, is_some}
use Rattle.std.specs.Borrow.{Bor}
use Rattle.std.proofs.lemmas.List.Splits.{slice_split_first, slice_split_none}
use Rattle.std.proofs.lemmas.List.Sums.{fails_before_first}
use Rattle.pr_trace.specs.inside.SevenWords.{words_left}

found_at : (n m i : ℕ) → cond (ltb n m) (Some n) None ≡ Some i → (n ≡ i) × (n < m)
found_at n m i e = grind (arith, nat_tests)

pub missing_at : (n m : ℕ) → cond (ltb n m) (Some n) None ≡ None → m ≤ n
missing_at n m e = grind (arith, nat_tests)

pub none_passes : (p : ℕ → Bool) (xs : List ℕ) → length xs ≤ position_or_len p xs → All (λ x. p x ≡ false) xs
none_passes p xs h k d below = fails_before_first p xs k d (omega arith)

-- the first part ends at the first place that passes
pub parts_first : (p : ℕ → Bool) (text : List ℕ) (i : ℕ) → position p text ≡ Some i → slice_split p text ≡ take i text ∷ slice_split p (drop (i + 1) text)
parts_first p text i found =
    let at = found_at _ _ _ found in
    subst (λ n. slice_split p text ≡ take n text ∷ slice_split p (drop (n + 1) text)) at.0 (slice_split_first p text 0 at.1)

-- where no place passes there is one part
pub parts_last : (p : ℕ → Bool) (text : List ℕ) → position p text ≡ None → slice_split p text ≡ text ∷ []
parts_last p text missing = slice_split_none p text (none_passes p text (missing_at _ _ missing))

-- ---- words

pub words_first : (line : List ℕ) (i : ℕ) → position (λ b. b == 32) line ≡ Some i → words line ≡ take i line ∷ words (drop (i + 1) line)
unfolding words
words_first line i found = parts_first (λ b. b == 32) line i found

pub words_last : (line : List ℕ) → position (λ b. b == 32) line ≡ None → words line ≡ line ∷ []
unfolding words
words_last line missing = parts_last (λ b. b == 32) line missing

-- words are left wherever a line is
pub some_left : (rest : Option (Bor (List ℕ))) → is_some rest ≡ true → 0 < length (words_left rest)
unfolding words
some_left None h = cc
some_left (Some rest) h = omega (arith, length-slice_split (λ b. b == 32) rest.now)

-- of more than seven words
module _ (a b c d e f g : List ℕ) where
  pub too_many : (l m n o p q r s : List (List ℕ)) → l ≡ a ∷ m → m ≡ b ∷ n → n ≡ c ∷ o → o ≡ d ∷ p → p ≡ e ∷ q → q ≡ f ∷ r → r ≡ g ∷ s → 0 < length s → (length l == 7) ≡ false
  too_many l m n o p q r s i j k t u v w h =
      ne_eqb (length l) 7 (λ same. omega (arith, ap length i, ap length j, ap length k, ap length t, ap length u, ap length v, ap length w))
