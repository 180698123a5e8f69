-- Where a text's first line and a line's first word end.
use Rattle.pr_lines.proofs.Common.{◌≡◌, ℕ, ◌+◌, ◌<◌, ◌≤◌, Bool, true, false, cond, List, [], ◌∷◌, length, take, drop, Some, None, Option, sym, refl, ap, ◌∙◌, arith, nat_tests, words}
use Rattle.std.specs.Prelude.{option_map}
use Rattle.std.proofs.Common.{suc, not, slice_index, ◌≢◌, inl, inr, subst, ltb, ◌==◌, if◌then◌else◌, position, filter, take_while}
use Rattle.std.specs.List.{All, slice_split, before_first, after_first, position_or_len}
use Rattle.std.specs.Str.Lines.{lines, lines_of_parts, strip_carriage_return}
use Rattle.std.proofs.lemmas.Bool.{cases_lt, eq-eqb, ne_eqb}
use Rattle.std.proofs.lemmas.List.{take_all, drop_all}
use Rattle.std.proofs.lemmas.List.Splits.{slice_split_first, slice_split_none, length-slice_split}
use Rattle.std.proofs.lemmas.List.Sums.{fails_before_first, take_while-cons}
use Rattle.pr_script.specs.Chain.{◌>>=◌}
use Rattle.pr_lines.specs.TextLines.{is_blank, is_comment, only, is_end, if_alone}

found_at : (n m i : ℕ) → cond (ltb n m) (Some n) None ≡ Some i → (n ≡ i) × (n < m)
found_at n m i e = grind (arith, nat_tests)

missing_at : (n m : ℕ) → cond (ltb n m) (Some n) None ≡ None → m ≤ n
missing_at n m e = grind (arith, nat_tests)

-- no element passes where there is no first that does
none_passes : (p : ℕ → Bool) (xs : List ℕ) → length xs ≤ position_or_len p xs → All (λ x. p x ≡ false) xs
none_passes p xs h k d below = fails_before_first p xs k d (omega arith)

lines_more : (x : List ℕ) (parts : List (List ℕ)) → 0 < length parts → lines_of_parts (x ∷ parts) ≡ strip_carriage_return x ∷ lines_of_parts parts
lines_more x [] h = absurd (omega arith)
lines_more x (y ∷ parts) h = refl

abbrev is_line_feed : ℕ → Bool
is_line_feed b = b == 10

-- a text whose first line feed is at i
module _ (text : List ℕ) (i : ℕ) (found : position is_line_feed text ≡ Some i) where
  cut_first : (position_or_len is_line_feed text ≡ i) × (slice_split is_line_feed text ≡ take i text ∷ slice_split is_line_feed (drop (i + 1) text))
  cut_first =
      let at = found_at _ _ _ found in
      let e = slice_split_first is_line_feed text 0 at.1 in
      (at.0, subst (λ n. slice_split is_line_feed text ≡ take n text ∷ slice_split is_line_feed (drop (n + 1) text)) at.0 e)

  more_parts : 0 < length (slice_split is_line_feed (drop (i + 1) text))
  more_parts = omega (arith, length-slice_split is_line_feed (drop (i + 1) text))

  pub lines_first : lines text ≡ strip_carriage_return (take i text) ∷ lines (drop (i + 1) text)
  lines_first = ap lines_of_parts cut_first.1 ∙ lines_more (take i text) (slice_split is_line_feed (drop (i + 1) text)) more_parts

-- a text without a line feed
module _ (text : List ℕ) (missing : position is_line_feed text ≡ None) where
  one_part : slice_split is_line_feed text ≡ text ∷ []
  one_part = slice_split_none is_line_feed text (none_passes is_line_feed text (missing_at _ _ missing))

  pub lines_last : lines text ≡ (if length text == 0 then [] else text ∷ [])
  lines_last = ap lines_of_parts one_part

-- the words among these parts of a line
abbrev kept : List (List ℕ) → List (List ℕ)
kept parts = take_while (λ w. not (is_comment w)) (filter (λ w. not (length w == 0)) parts)

kept_empty : (w : List ℕ) (parts : List (List ℕ)) → length w ≡ 0 → kept (w ∷ parts) ≡ kept parts
kept_empty w parts h = rw h refl

kept_comment : (w : List ℕ) (parts : List (List ℕ)) → not (length w == 0) ≡ true → is_comment w ≡ true → kept (w ∷ parts) ≡ []
kept_comment w parts h e = rw h (take_while-cons (λ w. not (is_comment w)) w (filter (λ w. not (length w == 0)) parts) ∙ rw e refl)

kept_word : (w : List ℕ) (parts : List (List ℕ)) → not (length w == 0) ≡ true → is_comment w ≡ false → kept (w ∷ parts) ≡ w ∷ kept parts
kept_word w parts h e = rw h (take_while-cons (λ w. not (is_comment w)) w (filter (λ w. not (length w == 0)) parts) ∙ rw e refl)

is_some_word : (w : List ℕ) → 0 < length w → not (length w == 0) ≡ true
is_some_word w h = grind (arith, nat_tests)

-- the first part may be taken off
kept_first : (line : List ℕ) → kept (slice_split is_blank line) ≡ kept (before_first is_blank line ∷ slice_split is_blank (after_first is_blank line))
kept_first line =
    elim (cases_lt (position_or_len is_blank line) (length line)) [
      | inl h ↦ ap kept (slice_split_first is_blank line 0 h)
      | inr h ↦
          let whole : take (position_or_len is_blank line) line ≡ line = take_all _ line h in
          let nothing : drop (position_or_len is_blank line + 1) line ≡ [] = drop_all _ line (omega arith) in
          rw (slice_split_none is_blank line (none_passes is_blank line h), whole, nothing) refl
    ]

module _ (line : List ℕ) where
  abbrev others : List (List ℕ)
  others = slice_split is_blank (after_first is_blank line)

  pub words_empty : length (before_first is_blank line) ≡ 0 → words line ≡ words (after_first is_blank line)
  unfolding words
  words_empty h = kept_first line ∙ kept_empty (before_first is_blank line) others h

  pub words_comment : 0 < length (before_first is_blank line) → slice_index (before_first is_blank line) 0 ≡ 35 → words line ≡ []
  unfolding words
  words_comment h e = kept_first line ∙ kept_comment (before_first is_blank line) others (is_some_word _ h) (eq-eqb _ 35 e)

  pub words_word : 0 < length (before_first is_blank line) → slice_index (before_first is_blank line) 0 ≢ 35 → words line ≡ before_first is_blank line ∷ words (after_first is_blank line)
  unfolding words
  words_word h e = kept_first line ∙ kept_word (before_first is_blank line) others (is_some_word _ h) (ne_eqb _ 35 e)

pub words_none : words [] ≡ []
unfolding words
words_none = refl

is_no_end : (n : ℕ) → (suc n == 0) ≡ false
is_no_end n = grind (arith, nat_tests)

-- one word, read, is the first word, read, where no word follows it
pub only_read : {A : Type 0} (f : List ℕ → Option A) (w : List ℕ) (ws : List (List ℕ)) → (only (w ∷ ws) >>= f) ≡ (if is_end ws then f w else None)
only_read f w [] = refl
only_read f w (x ∷ ws) = sym (ap (λ b. cond b (f w) None) (is_no_end (length ws)))

-- what one makes of this, where no word is left
pub mapped_alone : {A B : Type 0} (f : A → B) (a : A) (ws : List (List ℕ)) → option_map f (if_alone a ws) ≡ if_alone (f a) ws
mapped_alone f a ws = by (is_end ws)
  where
    by : (b : Bool) → option_map f (if b then Some a else None) ≡ (if b then Some (f a) else None)
    by true = refl
    by false = refl
