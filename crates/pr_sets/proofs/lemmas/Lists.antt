-- A set of numbers as a list that rises.
use Rattle.pr_sets.proofs.Common.{◌≡◌, ◌≢◌, ◌⊎◌, inl, inr, ℕ, ◌+◌, ◌-◌, ◌<◌, ◌≤◌, Bool, true, false, ◌==◌, ◌&&◌, ◌||◌, nat_lt, List, length, refl, sym, ap, subst, ◌∙◌, arith, nat_tests, eqb_tells, Numbers, Has, Within, numbers_in}
use Rattle.std.proofs.Common.{Bor, Option, Some, None, is_some, IfSome, IfNone, Result, Ok, Err, is_ok, slice_get, [], ◌∷◌, ◌++◌, get_or, take}
use Rattle.std.specs.List.{insert, list_any, list_all}
use Rattle.std.specs.List.Sorted.{IsStrictlyIncreasing, IsBinarySearchResult, IsPartitionPoint, IsPartitionedBy}
use Rattle.std.specs.Ordering.{nat_cmp, eq_by_cmp}
use Rattle.std.specs.Cmp.{nat_cmp_total, unsigned_tied}
use Rattle.std.specs.Option.{option_copied}
use Rattle.std.specs.FinSet as set
use Rattle.std.specs.FinSet.{nat_cmp-IsAntisymmetric}
use Rattle.std.proofs.lemmas.Bool.{and_parts, cases_lt, cases_order, false_from_ne_true}
use Rattle.std.proofs.lemmas.List.{take_more, get_or_default}
use Rattle.std.proofs.lemmas.List.Edits.{length-insert, get_or-insert_below, get_or-insert_at, get_or-insert_above}
use Rattle.std.proofs.lemmas.List.Folds.{list_any_at}
use Rattle.std.proofs.lemmas.List.Sorted.{searched, IsPartitionedBy-ltb, IsPermutation-insert, list_any-IsPermutation}
use Rattle.std.proofs.lemmas.Option.{slice_get_within, slice_get_read, slice_get_past, get_or_from_slice_get, slice_get-get_or}
use Rattle.std.proofs.lemmas.Map.Keys.{sorted_from_strictly_increasing, non_decreasing_from_sorted}
use Rattle.std.proofs.lemmas.Map.Views.{Contains-from_any}
use Rattle.std.proofs.Math.Bool.{or-false}
use Rattle.pr_sets.specs.Numbers.{IsNext, HasNoneFrom}
use Rattle.pr_sets.proofs.lemmas.Members.{same_numbers, contains-empty, contains-insert, contains-union, of_insert, Has-insert_same, Has-insert_other}

contains-numbers_in : (xs : List ℕ) (q : ℕ) → set.contains (numbers_in xs) q ≡ list_any (eq_by_cmp nat_cmp q) xs
contains-numbers_in xs q = set.contains-from_list nat_cmp_total xs q

-- ---- members by their places

same_from_tied : (x y : ℕ) → eq_by_cmp nat_cmp x y ≡ true → x ≡ y
same_from_tied x y tie = let same = sym (unsigned_tied x y) ∙ tie in grind (arith, nat_tests)

tied_from_same : (x y : ℕ) → x ≡ y → eq_by_cmp nat_cmp x y ≡ true
tied_from_same x y same = unsigned_tied x y ∙ let test : (x == y) ≡ true = grind (arith, nat_tests) in test

-- the place of a member
pub place_of : (xs : List ℕ) (q : ℕ) → Has (numbers_in xs) q → (k : ℕ) × (k < length xs) × (get_or xs k 0 ≡ q)
place_of xs q there =
    let at = Contains-from_any same_from_tied q xs (sym (contains-numbers_in xs q) ∙ there) in
    (at.0, at.1, get_or_default xs at.0 0 q at.1 ∙ at.2)

pub has_at : (xs : List ℕ) (q k : ℕ) → k < length xs → get_or xs k 0 ≡ q → Has (numbers_in xs) q
has_at xs q k within is = contains-numbers_in xs q ∙ list_any_at (eq_by_cmp nat_cmp q) xs k 0 within (tied_from_same q _ (sym is))

-- ---- a search

pub rises : (xs : List ℕ) → IsStrictlyIncreasing xs → (i j : ℕ) → i ≤ j → j < length xs → get_or xs i 0 ≤ get_or xs j 0
rises xs up i j le within = non_decreasing_from_sorted xs (sorted_from_strictly_increasing xs up) i j 0 le within

-- n has its place between the numbers below i and the others
abbrev pub IsGap : List ℕ → ℕ → ℕ → Type 0
IsGap xs i n = (i ≤ length xs) × ((k : ℕ) → k < i → get_or xs k 0 < n) × ((k : ℕ) → i ≤ k → k < length xs → n < get_or xs k 0)

none_in_gap : (xs : List ℕ) (i n : ℕ) → IsGap xs i n → set.contains (numbers_in xs) n ≡ false
none_in_gap xs i n gap =
    false_from_ne_true (set.contains (numbers_in xs) n) (λ there. at (place_of xs n there))
  where
    at : (k : ℕ) × (k < length xs) × (get_or xs k 0 ≡ n) → ⊥
    at place =
        elim (cases_lt place.0 i) [
          | inl early ↦ omega (arith, gap.1 place.0 early, place.2)
          | inr late ↦ omega (arith, gap.2 place.0 late place.1, place.2)
        ]

-- ---- one more

pub numbers_in-insert : (xs : List ℕ) (i n : ℕ) → numbers_in (insert xs i n) ≡ set.insert (numbers_in xs) n
numbers_in-insert xs i n =
    same_numbers _ _ (λ q. contains-numbers_in (insert xs i n) q
    ∙ sym (list_any-IsPermutation (eq_by_cmp nat_cmp q) (n ∷ xs) (insert xs i n) (IsPermutation-insert xs i n))
    ∙ sym (contains-numbers_in (n ∷ xs) q))

pub increasing-insert : (xs : List ℕ) (i n : ℕ) → IsStrictlyIncreasing xs → IsGap xs i n → IsStrictlyIncreasing (insert xs i n)
increasing-insert xs i n up gap k within =
    elim (cases_order (k + 1) i) [
      | inl last ↦ omega (arith, get_or-insert_below xs i n 0 k (omega arith) gap.0, gap.1 k (omega arith), at_place (k + 1) last)
      | inr (inl early) ↦ omega (arith, get_or-insert_below xs i n 0 k (omega arith) gap.0, get_or-insert_below xs i n 0 (k + 1) early gap.0, up k (omega arith))
      | inr (inr late) ↦ after late (cases_lt i k)
    ]
  where
    size : length (insert xs i n) ≡ length xs + 1
    size = length-insert xs i n gap.0

    at_place : (j : ℕ) → j ≡ i → get_or (insert xs i n) j 0 ≡ n
    at_place j is = rw is (get_or-insert_at xs i n 0 gap.0)

    -- one place further than in the list before
    moved : (j : ℕ) → i < j → get_or (insert xs i n) j 0 ≡ get_or xs (j - 1) 0
    moved j late = let is : j ≡ (j - 1) + 1 = omega arith in ap (λ m. get_or (insert xs i n) m 0) is ∙ get_or-insert_above xs i n 0 (j - 1) (omega arith) gap.0

    after : i < k + 1 → (i < k) ⊎ (k ≤ i) → get_or (insert xs i n) k 0 < get_or (insert xs i n) (k + 1) 0
    after late (inl later) =
        let next : (k - 1) + 1 ≡ k = omega arith in
        let less : get_or xs (k - 1) 0 < get_or xs ((k - 1) + 1) 0 = up (k - 1) (omega (arith, size)) in
        let moved_next = get_or-insert_above xs i n 0 k (omega arith) gap.0 in
        omega (arith, moved k later, moved_next, ap (λ m. get_or xs m 0) next, less)
    after late (inr here) =
        let inside : k < length xs = omega (arith, size) in
        omega (arith, at_place k (omega arith), get_or-insert_above xs i n 0 k (omega arith) gap.0, gap.2 k (omega arith) inside)

insert_again : (s : Numbers) (n : ℕ) → Has s n → set.insert s n ≡ s
insert_again s n there =
    same_numbers _ _ (λ q. contains-insert s n q ∙ at q (eqb_tells q n))
  where
    at : (q : ℕ) → (((q == n) ≡ true) × (q ≡ n)) ⊎ (((q == n) ≡ false) × (q ≢ n)) → (q == n || set.contains s q) ≡ set.contains s q
    at q (inl same) = rw same.0 (sym (ap (set.contains s) same.1 ∙ there))
    at q (inr other) = rw other.0 refl

pub put_found : (xs : List ℕ) (n i : ℕ) → i < length xs → get_or xs i 0 ≡ n → numbers_in xs ≡ set.insert (numbers_in xs) n
put_found xs n i within is = sym (insert_again (numbers_in xs) n (has_at xs n i within is))

-- ---- a search's answer

pub found_at : (xs ys : List ℕ) (n i : ℕ) → ys ≡ xs → IsStrictlyIncreasing xs → IsBinarySearchResult (λ y. nat_cmp y n) ys (Ok i)
    → (i < length xs) × (get_or xs i 0 ≡ n)
found_at xs ys n i same up found =
    searched xs n (Ok i) (subst (λ (l : List ℕ). IsBinarySearchResult (λ y. nat_cmp y n) l (Ok i)) same found) (rises xs up)

pub gap_at : (xs ys : List ℕ) (n i : ℕ) → ys ≡ xs → IsStrictlyIncreasing xs → IsBinarySearchResult (λ y. nat_cmp y n) ys (Err i) → IsGap xs i n
gap_at xs ys n i same up found =
    searched xs n (Err i) (subst (λ (l : List ℕ). IsBinarySearchResult (λ y. nat_cmp y n) l (Err i)) same found) (rises xs up)

pub has_by_search : (xs ys : List ℕ) (n : ℕ) (r : Result ℕ ℕ) → ys ≡ xs → IsStrictlyIncreasing xs → IsBinarySearchResult (λ y. nat_cmp y n) ys r
    → is_ok r ≡ set.contains (numbers_in xs) n
has_by_search xs ys n (Ok i) same up found = let at = found_at xs ys n i same up found in sym (has_at xs n i at.0 at.1)
has_by_search xs ys n (Err i) same up found = sym (none_in_gap xs i n (gap_at xs ys n i same up found))

-- ---- none at all

pub empty_from_length : (xs : List ℕ) → length xs ≡ 0 → numbers_in xs ≡ set.empty
empty_from_length [] none = refl
empty_from_length (x ∷ xs) some = absurd (omega arith)

pub length_from_empty : (xs : List ℕ) → numbers_in xs ≡ set.empty → length xs ≡ 0
length_from_empty [] none = refl
length_from_empty (x ∷ xs) none =
    let there : set.contains (numbers_in (x ∷ xs)) x ≡ true = has_at (x ∷ xs) x 0 (omega arith) refl in
    let not_there = sym (ap (λ s. set.contains s x) none) ∙ there in
    let not_in_empty = contains-empty x in cc

-- ---- all of another

pub union_none : (s : Numbers) (xs : List ℕ) → set.union s (numbers_in (take 0 xs)) ≡ s
union_none s xs = same_numbers _ _ (λ q. contains-union s (numbers_in (take 0 xs)) q ∙ ap (λ b. set.contains s q || b) (contains-empty q) ∙ or-false (set.contains s q))

pub union_more : (s : Numbers) (xs : List ℕ) (i n : ℕ) → i < length xs → n ≡ get_or xs i 0
    → set.union s (numbers_in (take (i + 1) xs)) ≡ set.insert (set.union s (numbers_in (take i xs))) n
union_more s xs i n within is =
    ap (λ l. set.union s (numbers_in l)) (take_more xs i 0 within ∙ ap (λ m. take i xs ++ m ∷ []) (sym is))
    ∙ ap (set.union s) (set.from_list_push nat_cmp_total nat_cmp-IsAntisymmetric (take i xs) n)
    ∙ same_numbers _ _ (λ q. contains-union s (set.insert before n) q ∙ ap (λ b. set.contains s q || b) (contains-insert before n q)
    ∙ swap (set.contains s q) (q == n) (set.contains before q)
    ∙ ap (λ b. q == n || b) (sym (contains-union s before q)) ∙ sym (contains-insert (set.union s before) n q))
  where
    before : Numbers
    before = numbers_in (take i xs)

    swap : (a b d : Bool) → (a || (b || d)) ≡ (b || (a || d))
    swap true true d = refl
    swap true false d = refl
    swap false b d = refl

-- ---- inclusion

pub Within-from_all : (xs : List ℕ) (t : Numbers) → list_all (set.contains t) xs ≡ true → Within (numbers_in xs) t
Within-from_all [] t all q there = let none = contains-empty q in cc
Within-from_all (x ∷ xs) t all q there =
    let parts = and_parts (set.contains t x) (list_all (set.contains t) xs) all in
    elim (of_insert (numbers_in xs) x q there) [
      | inl same ↦ ap (set.contains t) same ∙ parts.0
      | inr other ↦ Within-from_all xs t parts.1 q other
    ]

pub all_from_Within : (xs : List ℕ) (t : Numbers) → Within (numbers_in xs) t → list_all (set.contains t) xs ≡ true
all_from_Within [] t within = refl
all_from_Within (x ∷ xs) t within =
    (λ i. within x (Has-insert_same (numbers_in xs) x) i && all_from_Within xs t (λ q there. within q (Has-insert_other (numbers_in xs) x q there)) i)

-- ---- the least from a number on

-- the numbers before the place i are below this number, and the others are not
abbrev pub IsStart : List ℕ → ℕ → ℕ → Type 0
IsStart xs from i = IsPartitionPoint (λ n. nat_lt n from ≡ true) (λ n. nat_lt n from ≡ false) xs i

pub tests_fall : (xs : List ℕ) (from : ℕ) → IsStrictlyIncreasing xs → IsPartitionedBy (λ n. nat_lt n from) xs
tests_fall xs from up = IsPartitionedBy-ltb (λ n. n) xs from (non_decreasing_from_sorted xs (sorted_from_strictly_increasing xs up))

module _ (xs : List ℕ) (from i : ℕ) (up : IsStrictlyIncreasing xs) (start : IsStart xs from i) where
  early : (k : ℕ) → k < i → get_or xs k 0 < from
  early k before = let test = start.0 k 0 (omega arith) before in grind (arith, nat_tests)

  late : (k : ℕ) → i ≤ k → k < length xs → from ≤ get_or xs k 0
  late k after within = let test = start.1 k 0 after within in grind (arith, nat_tests)

  -- a member from this number on has its place from i on
  place_late : (m : ℕ) → from ≤ m → (k : ℕ) × (k < length xs) × (get_or xs k 0 ≡ m) → (k : ℕ) × (i ≤ k) × (k < length xs) × (get_or xs k 0 ≡ m)
  place_late m from_m place =
      elim (cases_lt place.0 i) [
        | inl before ↦ absurd (omega (arith, early place.0 before, place.2))
        | inr after ↦ (place.0, after, place.1, place.2)
      ]

  pub next_at : (n : ℕ) → slice_get xs i ≡ Some n → IsNext (numbers_in xs) from n
  next_at n some = record {
    late = omega (arith, late i (omega arith) within, is);
    there = has_at xs n i within is;
    least = λ m from_m there. least m (place_late m from_m (place_of xs m there));
  }
    where
      within : i < length xs
      within = slice_get_within xs i n some

      is : get_or xs i 0 ≡ n
      is = get_or_from_slice_get xs i n 0 some

      least : (m : ℕ) → (k : ℕ) × (i ≤ k) × (k < length xs) × (get_or xs k 0 ≡ m) → n ≤ m
      least m place = omega (arith, rises xs up i place.0 place.1 place.2, place.3, is)

  pub none_at : slice_get xs i ≡ None → HasNoneFrom (numbers_in xs) from
  none_at none m from_m =
      false_from_ne_true (set.contains (numbers_in xs) m) (λ there. no_place (place_late m from_m (place_of xs m there)))
    where
      no_place : (k : ℕ) × (i ≤ k) × (k < length xs) × (get_or xs k 0 ≡ m) → ⊥
      no_place place = let some = slice_get-get_or xs i 0 (omega (arith, place.1, place.2)) in cc

-- what `get` says of the place i
pub got : (xs ys : List ℕ) (i : ℕ) (r : Option (Bor ℕ)) → ys ≡ xs → is_some r ≡ nat_lt i (length ys) → IfSome r (λ x. x.now ≡ get_or ys i x.now)
    → option_copied r ≡ slice_get xs i
got xs ys i (Some x) same is value =
    let within : i < length ys = grind (arith, nat_tests) in
    sym (slice_get_read ys (length ys) i x.now refl within value) ∙ ap (λ l. slice_get l i) same
got xs ys i None same is value =
    let past : length ys ≤ i = grind (arith, nat_tests) in
    sym (slice_get_past ys i past) ∙ ap (λ l. slice_get l i) same

pub answers_some : (xs : List ℕ) (from i : ℕ) (r : Option ℕ) → IsStrictlyIncreasing xs → IsStart xs from i → r ≡ slice_get xs i → IfSome r (IsNext (numbers_in xs) from)
answers_some xs from i (Some n) up start is = next_at xs from i up start n (sym is)
answers_some xs from i None up start is = tt

pub answers_none : (xs : List ℕ) (from i : ℕ) (r : Option ℕ) → IsStrictlyIncreasing xs → IsStart xs from i → r ≡ slice_get xs i → IfNone r (HasNoneFrom (numbers_in xs) from)
answers_none xs from i (Some n) up start is = tt
answers_none xs from i None up start is = none_at xs from i up start (sym is)
