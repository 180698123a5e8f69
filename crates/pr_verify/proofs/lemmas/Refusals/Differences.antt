-- Where the lines of two lists first differ.
use Rattle.pr_verify.proofs.Common.{◌≡◌, ℕ, ◌+◌, ◌<◌, ◌≤◌, min, true, false, ◌≢◌, ◌⊎◌, List, [], ◌∷◌, map, length, drop, if◌then◌else◌, ◌==◌, slice_index_or, Some, None, sym, refl, ap, ◌∙◌, inl, inr, eqb_tells, first_difference}
use Rattle.std.proofs.lemmas.List.{at_drop_more, at_drop_all}

-- lists that do not differ are the same
pub differing_none : (ls ms : List ℕ) → first_difference ls ms ≡ None → ls ≡ ms
differing_none [] [] none = refl
differing_none [] (m ∷ ms) none = let bad : Some m ≡ None = none in cc
differing_none (l ∷ ls) [] none = let bad : Some l ≡ None = none in cc
differing_none (l ∷ ls) (m ∷ ms) none = at (eqb_tells l m) (differing_none ls ms)
  where
    at : (((l == m) ≡ true) × (l ≡ m)) ⊎ (((l == m) ≡ false) × (l ≢ m)) → (first_difference ls ms ≡ None → ls ≡ ms) → (l ∷ ls) ≡ (m ∷ ms)
    at (inl same) rest =
        let more = rest (sym (ap (λ b. if b then first_difference ls ms else Some (min l m)) same.0) ∙ none) in
        ap (λ k. k ∷ ls) same.1 ∙ ap (λ k. m ∷ k) more
    at (inr other) rest = let bad : Some (min l m) ≡ None = sym (ap (λ b. if b then first_difference ls ms else Some (min l m)) other.0) ∙ none in cc

module _ {A B : Type 0} (f : A → ℕ) (g : B → ℕ) where
  same_head : (x : A) (y : B) (xs : List A) (ys : List B) → f x ≡ g y → first_difference (map f (x ∷ xs)) (map g (y ∷ ys)) ≡ first_difference (map f xs) (map g ys)
  same_head x y xs ys same = at (eqb_tells (f x) (g y))
    where
      at : (((f x == g y) ≡ true) × (f x ≡ g y)) ⊎ (((f x == g y) ≡ false) × (f x ≢ g y)) → first_difference (map f (x ∷ xs)) (map g (y ∷ ys)) ≡ first_difference (map f xs) (map g ys)
      at (inl is) = ap (λ b. if b then first_difference (map f xs) (map g ys) else Some (min (f x) (g y))) is.0
      at (inr other) = absurd (other.1 same)

  other_head : (x : A) (y : B) (xs : List A) (ys : List B) → (f x ≡ g y → ⊥) → first_difference (map f (x ∷ xs)) (map g (y ∷ ys)) ≡ Some (min (f x) (g y))
  other_head x y xs ys differs = at (eqb_tells (f x) (g y))
    where
      at : (((f x == g y) ≡ true) × (f x ≡ g y)) ⊎ (((f x == g y) ≡ false) × (f x ≢ g y)) → first_difference (map f (x ∷ xs)) (map g (y ∷ ys)) ≡ Some (min (f x) (g y))
      at (inl is) = absurd (differs is.1)
      at (inr other) = ap (λ b. if b then first_difference (map f xs) (map g ys) else Some (min (f x) (g y))) other.0

  module _ (xs : List A) (ys : List B) (n : ℕ) where
    -- what is left after the first n differs first where the lists do
    abbrev pub IsOfRest : Type 0
    IsOfRest = first_difference (map f (drop n xs)) (map g (drop n ys)) ≡ first_difference (map f xs) (map g ys)

    -- one has a line there, and the other has none, or neither has
    pub first_longer : (d : A) → n < length xs → length ys ≤ n → IsOfRest → first_difference (map f xs) (map g ys) ≡ Some (f (slice_index_or xs n d))
    first_longer d small past rest =
        sym rest ∙ at_drop_more (λ us. first_difference (map f us) (map g (drop n ys))) xs n d small
        ∙ at_drop_all (λ vs. first_difference (map f (slice_index_or xs n d ∷ drop (n + 1) xs)) (map g vs)) ys n past

    pub second_longer : (e : B) → length xs ≤ n → n < length ys → IsOfRest → first_difference (map f xs) (map g ys) ≡ Some (g (slice_index_or ys n e))
    second_longer e past small rest =
        sym rest ∙ at_drop_all (λ us. first_difference (map f us) (map g (drop n ys))) xs n past ∙ at_drop_more (λ vs. first_difference [] (map g vs)) ys n e small

    pub as_long : length xs ≤ n → length ys ≤ n → IsOfRest → first_difference (map f xs) (map g ys) ≡ None
    as_long past also rest = sym rest ∙ at_drop_all (λ us. first_difference (map f us) (map g (drop n ys))) xs n past ∙ at_drop_all (λ vs. first_difference [] (map g vs)) ys n also

    -- both have
    module _ (d : A) (e : B) (small : n < length xs) (also : n < length ys) where
      heads : first_difference (map f (drop n xs)) (map g (drop n ys))
          ≡ first_difference (map f (slice_index_or xs n d ∷ drop (n + 1) xs)) (map g (slice_index_or ys n e ∷ drop (n + 1) ys))
      heads =
          at_drop_more (λ us. first_difference (map f us) (map g (drop n ys))) xs n d small
          ∙ at_drop_more (λ vs. first_difference (map f (slice_index_or xs n d ∷ drop (n + 1) xs)) (map g vs)) ys n e also

      pub differs_here : (f (slice_index_or xs n d) ≡ g (slice_index_or ys n e) → ⊥) → IsOfRest → first_difference (map f xs) (map g ys) ≡ Some (min (f (slice_index_or xs n d)) (g (slice_index_or ys n e)))
      differs_here differs rest = sym rest ∙ heads ∙ other_head (slice_index_or xs n d) (slice_index_or ys n e) (drop (n + 1) xs) (drop (n + 1) ys) differs

  pub agrees_here : (xs : List A) (ys : List B) (n : ℕ) (d : A) (e : B) → n < length xs → n < length ys → f (slice_index_or xs n d) ≡ g (slice_index_or ys n e) → IsOfRest xs ys n → IsOfRest xs ys (n + 1)
  agrees_here xs ys n d e small also same rest =
      sym (heads xs ys n d e small also ∙ same_head (slice_index_or xs n d) (slice_index_or ys n e) (drop (n + 1) xs) (drop (n + 1) ys) same) ∙ rest
