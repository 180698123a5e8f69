-- What comes of the numbers of a word, one number after another.
use Rattle.pr_regions.proofs.Common.{◌≡◌, ℕ, ◌+◌, ◌<◌, Bool, true, false, ◌||◌, sym, ◌∙◌, inl, inr, ◌⊎◌, arith, false≢true, BitSet, has}
use Rattle.std.proofs.Common.{◌↔◌, below_more}
use Rattle.std.proofs.lemmas.Bool.{or_left, or_right, or_cases}

-- the numbers that come of one of those of the word below the bound
pub record IsUnion (bound : ℕ) (w : BitSet) (comes : ℕ → ℕ → Type 0) (to : BitSet) : Type 0 where
  pub all : (m n : ℕ) → m < bound → has w m ≡ true → comes m n → has to n ≡ true
  pub only : (n : ℕ) → has to n ≡ true → (m : ℕ) × (m < bound) × (has w m ≡ true) × comes m n

-- those of one number more
pub union_grows : (i : ℕ) (w to more : BitSet) (comes : ℕ → ℕ → Type 0) → ((n : ℕ) → has to n ≡ true → has more n ≡ true) → (has w i ≡ true → (n : ℕ) → comes i n → has more n ≡ true)
    → ((n : ℕ) → has more n ≡ true → (has to n ≡ true) ⊎ ((has w i ≡ true) × comes i n)) → IsUnion i w comes to → IsUnion (i + 1) w comes more
union_grows i w to more comes kept now back before = record {
  all = λ m n small. below_more (λ k. has w k ≡ true → comes k n → has more n ≡ true) i (λ k less there is. kept n (before.all k n less there is)) (λ there is. now there n is) m small;
  only = λ n is. only n (back n is);
}
  where
    only : (n : ℕ) → (has to n ≡ true) ⊎ ((has w i ≡ true) × comes i n) → (m : ℕ) × (m < i + 1) × (has w m ≡ true) × comes m n
    only n (inl had) = let found = before.only n had in (found.0, (let small = found.1 in omega arith), found.2, found.3)
    only n (inr here) = (i, omega arith, here.0, here.1)

-- the word has not this one
pub union_skips : (i : ℕ) (w to : BitSet) (comes : ℕ → ℕ → Type 0) → has w i ≡ false → IsUnion i w comes to → IsUnion (i + 1) w comes to
union_skips i w to comes missing = union_grows i w to to comes (λ n had. had) (λ there. absurd (false≢true (sym missing ∙ there))) (λ n had. inl had)

-- these come of it, beside those that came before
pub union_joined : (i : ℕ) (w to more : BitSet) (comes : ℕ → ℕ → Type 0) (new : ℕ → Bool) → has w i ≡ true → ((n : ℕ) → has more n ≡ (new n || has to n)) → ((n : ℕ) → (new n ≡ true) ↔ comes i n)
    → IsUnion i w comes to → IsUnion (i + 1) w comes more
union_joined i w to more comes new there joined same =
    union_grows i w to more comes (λ n had. joined n ∙ or_right (new n) (has to n) had) (λ _ n is. joined n ∙ or_left (new n) (has to n) ((same n).1 is)) (λ n is. back n (or_cases (new n) (has to n) (sym (joined n) ∙ is)))
  where
    back : (n : ℕ) → (new n ≡ true) ⊎ (has to n ≡ true) → (has to n ≡ true) ⊎ ((has w i ≡ true) × comes i n)
    back n (inl is) = inr (there, (same n).0 is)
    back n (inr had) = inl had
