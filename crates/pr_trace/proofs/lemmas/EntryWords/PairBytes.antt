-- Bytes that pairs of digits write.
use Rattle.pr_trace.proofs.Common.{◌≡◌, ℕ, zero, suc, ◌+◌, ◌*◌, ◌/◌, ◌<◌, ◌≤◌, true, false, cond, ◌&&◌, List, [], ◌∷◌, ◌++◌, length, get_or, take, drop, nat_lt, nat_le, Some, None, codes, Option, bytes_eq, sym, refl, ap, ◌∙◌, inl, inr, append_assoc, arith, length-drop, nat_tests, pairs_in}
use Rattle.std.specs.Simd.{first_chunks}
use Rattle.std.proofs.Common.{◌⊎◌, drop-drop, option_map}
use Rattle.std.proofs.lemmas.Option.{same_Some}
use Rattle.pr_script.specs.Chain.{◌>>=◌}
use Rattle.pr_script.specs.Digits.{byte_of}
use Rattle.pr_trace.specs.EntryWords.{bytes_in}

-- what stands in front of the bytes that the other pairs write
abbrev pub onto : List ℕ → Option (List ℕ) → Option (List ℕ)
onto items o = option_map (λ others. items ++ others) o

pub onto_none : (o : Option (List ℕ)) → o ≡ onto [] o
onto_none None = refl
onto_none (Some others) = refl

onto_more : (items : List ℕ) (b : ℕ) (o : Option (List ℕ)) → onto items (o >>= λ bs. Some (b ∷ bs)) ≡ onto (items ++ b ∷ []) o
onto_more items b None = refl
onto_more items b (Some others) = ap (λ l. Some l) (sym (append_assoc items (b ∷ []) others))

first_pair : (rest : List ℕ) → 2 ≤ length rest → pairs_in rest ≡ (byte_of (get_or rest 0 0) (get_or rest 1 0) >>= λ b. pairs_in (drop 2 rest) >>= λ bs. Some (b ∷ bs))
first_pair [] h = absurd (omega arith)
first_pair (d ∷ []) h = absurd (omega arith)
first_pair (x ∷ y ∷ ds) h = refl

-- one pair more
pub pair_more : (items rest : List ℕ) (b : ℕ) → 2 ≤ length rest → byte_of (get_or rest 0 0) (get_or rest 1 0) ≡ Some b → onto items (pairs_in rest) ≡ onto (items ++ b ∷ []) (pairs_in (drop 2 rest))
pair_more items rest b h e = ap (onto items) (first_pair rest h) ∙ rw e (onto_more items b (pairs_in (drop 2 rest)))

-- no byte in the next pair
pub pair_bad : (items rest : List ℕ) → 2 ≤ length rest → byte_of (get_or rest 0 0) (get_or rest 1 0) ≡ None → onto items (pairs_in rest) ≡ None
pair_bad items rest h e = ap (onto items) (first_pair rest h) ∙ rw e refl

-- ---- how many

abbrev counted : ℕ → List ℕ → Option (List ℕ)
counted most bytes = cond (nat_lt 0 (length bytes) && nat_le (length bytes) most) (Some bytes) None

pub bytes_dash : (most : ℕ) (word : List ℕ) → bytes_eq word (codes "-") ≡ true → bytes_in most word ≡ Some []
unfolding bytes_in
bytes_dash most word h = rw h refl

bytes_pairs : (most : ℕ) (word : List ℕ) (o : Option (List ℕ)) → bytes_eq word (codes "-") ≡ false → pairs_in word ≡ o → bytes_in most word ≡ (o >>= counted most)
unfolding bytes_in
bytes_pairs most word o h e = rw (h, e) refl

pub bytes_none : (most : ℕ) (word : List ℕ) → bytes_eq word (codes "-") ≡ false → pairs_in word ≡ None → bytes_in most word ≡ None
bytes_none most word h e = bytes_pairs most word None h e

counted_all : (most : ℕ) (bytes : List ℕ) → 0 < length bytes → length bytes ≤ most → counted most bytes ≡ Some bytes
counted_all most bytes h k = grind (arith, nat_tests)

counted_empty : (most : ℕ) (bytes : List ℕ) → length bytes ≡ 0 → counted most bytes ≡ None
counted_empty most bytes h = grind (arith, nat_tests)

counted_many : (most : ℕ) (bytes : List ℕ) → most < length bytes → counted most bytes ≡ None
counted_many most bytes h = grind (arith, nat_tests)

pub bytes_all : (most : ℕ) (word bytes : List ℕ) → bytes_eq word (codes "-") ≡ false → pairs_in word ≡ Some bytes → 0 < length bytes → length bytes ≤ most → bytes_in most word ≡ Some bytes
bytes_all most word bytes h e k m = bytes_pairs most word (Some bytes) h e ∙ counted_all most bytes k m

-- ---- the word in twos

twice : (i : ℕ) → (2 + 2 * i ≡ 2 * suc i) × (2 * i + 2 ≡ 2 * (i + 1))
twice i = (omega arith, omega arith)

-- the pair at this place
pair_at : (n i : ℕ) (xs : List ℕ) → i < n → 2 * n ≤ length xs → get_or (first_chunks 2 n xs) i [] ≡ take 2 (drop (2 * i) xs)
pair_at (suc n) zero xs h k = refl
pair_at (suc n) (suc i) (x ∷ y ∷ xs) h k =
    pair_at n i xs (omega arith) (omega arith) ∙ ap (take 2) (drop-drop (2 * i) 2 (x ∷ y ∷ xs) ∙ ap (λ m. drop m (x ∷ y ∷ xs)) (twice i).0)
pair_at _ _ _ h k = absurd (omega arith)

digits_of : (xs : List ℕ) → 2 ≤ length xs → (get_or (take 2 xs) 0 0 ≡ get_or xs 0 0) × (get_or (take 2 xs) 1 0 ≡ get_or xs 1 0)
digits_of (x ∷ y ∷ xs) h = (refl, refl)
digits_of _ h = absurd (omega arith)

module _ (word items : List ℕ) (pairs : List (List ℕ)) (i : ℕ) (cut : pairs ≡ first_chunks 2 (length word / 2) word) (before : i < length word / 2) where
  there : 2 ≤ length (drop (2 * i) word)
  there = omega (arith, length-drop (2 * i) word)

  pair_is : get_or pairs i [] ≡ take 2 (drop (2 * i) word)
  pair_is = ap (λ ps. get_or ps i []) cut ∙ pair_at (length word / 2) i word before (omega arith)

  byte_is : byte_of (get_or (get_or pairs i []) 0 0) (get_or (get_or pairs i []) 1 0) ≡ byte_of (get_or (drop (2 * i) word) 0 0) (get_or (drop (2 * i) word) 1 0)
  byte_is = let digits = digits_of (drop (2 * i) word) there in rw (pair_is, digits.0, digits.1) refl

  pub next_pair : (b : ℕ) (next : List ℕ) → pairs_in word ≡ onto items (pairs_in (drop (2 * i) word)) → byte_of (get_or (get_or pairs i []) 0 0) (get_or (get_or pairs i []) 1 0) ≡ Some b
      → next ≡ items ++ b ∷ [] → pairs_in word ≡ onto next (pairs_in (drop (2 * (i + 1)) word))
  next_pair b next so_far is more =
      so_far ∙ pair_more items (drop (2 * i) word) b there (sym byte_is ∙ is) ∙ rw (sym more, drop-drop 2 (2 * i) word, (twice i).1) refl

  pub no_pair_there : pairs_in word ≡ onto items (pairs_in (drop (2 * i) word)) → byte_of (get_or (get_or pairs i []) 0 0) (get_or (get_or pairs i []) 1 0) ≡ None → pairs_in word ≡ None
  no_pair_there so_far is = so_far ∙ pair_bad items (drop (2 * i) word) there (sym byte_is ∙ is)

-- ---- how many there are

pairs_length : (word bs : List ℕ) → pairs_in word ≡ Some bs → length word ≡ 2 * length bs
pairs_length [] bs is = omega (arith, ap length (same_Some _ _ is))
pairs_length (d ∷ []) bs is = let bad : None ≡ Some bs = is in cc
pairs_length (h ∷ l ∷ ds) bs is = of_byte (pairs_length ds) (byte_of h l) refl (pairs_in ds) refl
  where
    of_byte : ((others : List ℕ) → pairs_in ds ≡ Some others → length ds ≡ 2 * length others) → (b : Option ℕ) → byte_of h l ≡ b → (o : Option (List ℕ)) → pairs_in ds ≡ o → length (h ∷ l ∷ ds) ≡ 2 * length bs
    of_byte rest None e o f = let bad : None ≡ Some bs = sym (first_pair (h ∷ l ∷ ds) (omega arith) ∙ rw e refl) ∙ is in cc
    of_byte rest (Some b) e None f = let bad : None ≡ Some bs = sym (first_pair (h ∷ l ∷ ds) (omega arith) ∙ rw (e, f) refl) ∙ is in cc
    of_byte rest (Some b) e (Some others) f =
        let whole : b ∷ others ≡ bs = same_Some _ _ (sym (first_pair (h ∷ l ∷ ds) (omega arith) ∙ rw (e, f) refl) ∙ is) in
        omega (arith, ap length whole, rest others f)

-- a word of which no number of bytes that may be is the half
pub no_bytes : (most : ℕ) (word : List ℕ) → bytes_eq word (codes "-") ≡ false → ((bs : List ℕ) → length word ≡ 2 * length bs → (length bs ≡ 0) ⊎ (most < length bs)) → bytes_in most word ≡ None
no_bytes most word dash none = at (pairs_in word) refl
  where
    at : (o : Option (List ℕ)) → pairs_in word ≡ o → bytes_in most word ≡ None
    at None is = bytes_none most word dash is
    at (Some bs) is = elim (none bs (pairs_length word bs is)) [
      | inl empty ↦ bytes_pairs most word (Some bs) dash is ∙ counted_empty most bs empty
      | inr many ↦ bytes_pairs most word (Some bs) dash is ∙ counted_many most bs many
    ]
