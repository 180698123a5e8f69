-- Lines that rise: each entry has a line of its own.
use Rattle.pr_verify.proofs.Common.{◌≡◌, ℕ, zero, suc, ◌<◌, ◌≤◌, true, ◌⊎◌, List, [], ◌∷◌, map, length, nat_lt, slice_index_or, Some, AllWithin, Contains, sym, refl, ap, ◌∙◌, subst, inl, inr, arith, ltb-true, cases_lt, and_parts, cases_order, cases_eq, length-map, get_or_default, get_or-map, rise_above, View, view_at}
use Rattle.pr_verify.proofs.lemmas.Outlines.Lookups.{entries, view_at_found}

above : (n : ℕ) (ls : List ℕ) (j : ℕ) → rise_above n ls ≡ true → j < length ls → n < slice_index_or ls j 0
above n [] j rise small = absurd (omega arith)
above n (l ∷ ls) zero rise small = ltb-true n l (and_parts (nat_lt n l) (rise_above l ls) rise).0
above n (l ∷ ls) (suc j) rise small =
    let parts = and_parts (nat_lt n l) (rise_above l ls) rise in
    let first = ltb-true n l parts.0 in
    let rest = above l ls j parts.1 (omega arith) in
    omega arith

rises : (n : ℕ) (ls : List ℕ) (i j : ℕ) → rise_above n ls ≡ true → i < j → j < length ls → slice_index_or ls i 0 < slice_index_or ls j 0
rises n [] i j rise before small = absurd (omega arith)
rises n (l ∷ ls) i zero rise before small = absurd (omega arith)
rises n (l ∷ ls) zero (suc j) rise before small = above l ls j (and_parts (nat_lt n l) (rise_above l ls) rise).1 (omega arith)
rises n (l ∷ ls) (suc i) (suc j) rise before small = rises l ls i j (and_parts (nat_lt n l) (rise_above l ls) rise).1 (omega arith) (omega arith)

-- of elements with lines
pub lines_rise : {X : Type 0} (line : X → ℕ) (n : ℕ) (xs : List X) (i j : ℕ) (d e : X) → rise_above n (map line xs) ≡ true → i < j → j < length xs
    → line (slice_index_or xs i d) < line (slice_index_or xs j e)
lines_rise line n xs i j d e rise before small =
    let less = rises n (map line xs) i j rise before (subst (λ m. j < m) (sym (length-map xs line)) small) in
    let first = get_or-map line xs i d 0 (omega arith) in
    let second = get_or-map line xs j e 0 small in
    omega arith

-- an element with a smaller line comes before
comes_before : {X : Type 0} (line : X → ℕ) (n : ℕ) (xs : List X) (i j : ℕ) (d e : X) → rise_above n (map line xs) ≡ true → i < length xs
    → line (slice_index_or xs i d) < line (slice_index_or xs j e) → i < j
comes_before line n xs i j d e rise small less = at (cases_lt i j)
  where
    at : (i < j) ⊎ (j ≤ i) → i < j
    at (inl before) = before
    at (inr after) = last (cases_eq i j)
      where
        last : (i ≡ j) ⊎ (i ≡ j → ⊥) → i < j
        last (inl same) =
            let again = ap line (get_or_default xs i d e small ∙ ap (λ k. slice_index_or xs k e) same) in
            absurd (omega arith)
        last (inr other) = let more = lines_rise line n xs j i e d rise (omega (arith, cases_order i j)) small in absurd (omega arith)

-- what holds of the elements before one holds of each with a smaller line
pub holds_earlier : {X : Type 0} (line : X → ℕ) (P : X → Type 0) (xs : List X) (n : ℕ) (x : X) → rise_above 0 (map line xs) ≡ true → x ≡ slice_index_or xs n x → AllWithin P xs 0 n
    → (e : X) → Contains xs e → line e < line x → P e
holds_earlier line P xs n x rise read all e there less =
    let first = ap line there.2 in
    let second = ap line read in
    subst P there.2 (all there.0 e (omega arith) (comes_before line 0 xs there.0 n e x rise there.1 (omega arith)))

-- the view at the line of an entry is the entry's
pub view_here : {A : Type 0} (f : A → View) (n : ℕ) (xs : List (ℕ × A)) (i : ℕ) (d : ℕ × A) → rise_above n (map (λ e. e.0) xs) ≡ true → i < length xs
    → view_at (entries f xs) (slice_index_or xs i d).0 ≡ Some (f (slice_index_or xs i d).1)
view_here f n xs i d rise small =
    view_at_found f xs (slice_index_or xs i d).0 i d small (λ k e low below is. let less = lines_rise (λ x. x.0) n xs k i e d rise below small in omega arith) refl

-- of entries whose lines are those of other elements
module _ {A X : Type 0} (line : X → ℕ) (xs : List (ℕ × A)) (ys : List X) (same : map (λ e. e.0) xs ≡ map line ys) where
  pub as_many : length xs ≡ length ys
  as_many = sym (length-map xs (λ e. e.0)) ∙ ap length same ∙ length-map ys line

  pub same_line : (i : ℕ) (x : ℕ × A) (y : X) → i < length ys → x ≡ slice_index_or xs i x → y ≡ slice_index_or ys i y → x.0 ≡ line y
  same_line i x y small read also =
      ap (λ (e : ℕ × A). e.0) read ∙ sym (get_or-map (λ e. e.0) xs i x 0 (let many = as_many in omega arith)) ∙ ap (λ l. slice_index_or l i 0) same ∙ get_or-map line ys i y 0 small ∙ ap line (sym also)

  -- the view at the line of an element is that of the entry at its place
  pub view_at_same : (f : A → View) (n i : ℕ) (x : ℕ × A) (y : X) → rise_above n (map (λ e. e.0) xs) ≡ true → i < length ys → x ≡ slice_index_or xs i x → y ≡ slice_index_or ys i y
      → view_at (entries f xs) (line y) ≡ Some (f x.1)
  view_at_same f n i x y rise small read also =
      let here = view_here f n xs i x rise (let many = as_many in omega arith) in
      let at = subst (λ (e : ℕ × A). view_at (entries f xs) e.0 ≡ Some (f e.1)) (sym read) here in
      subst (λ l. view_at (entries f xs) l ≡ Some (f x.1)) (same_line i x y small read also) at
