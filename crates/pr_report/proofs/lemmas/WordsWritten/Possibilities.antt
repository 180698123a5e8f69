-- Words of what is possible go out one after another, and lines of what is numbered.
use Rattle.pr_report.proofs.Common.{◌≡◌, ℕ, ◌+◌, ◌-◌, ◌<◌, ◌≤◌, Bool, false, List, [], ◌∷◌, ◌++◌, map, codes, filter, Option, Result, sym, refl, ap, ◌∙◌, subst, append-nil, arith, range_with_len, joined_by_spaces, Wrote, Puts, wrote_all}
use Rattle.std.proofs.lemmas.Grind.{flat_map-append}
use Rattle.std.proofs.lemmas.List.{map-append}
use Rattle.std.proofs.lemmas.List.Elements.{filter-append}
use Rattle.std.proofs.Common.{suc, true, cond, if◌then◌else◌, append_assoc}
use Rattle.std.specs.Io.KnownBytes.{Appends}
unfoldable use Rattle.pr_output.specs.PrintedLines.{line}

-- ---- words of a line

pub spaced_both : (v w : List (List ℕ)) → joined_by_spaces (v ++ w) ≡ joined_by_spaces v ++ joined_by_spaces w
unfolding joined_by_spaces
spaced_both v w = flat_map-append (λ (word : List ℕ). codes " " ++ word) v w

-- a line in the pieces in which it goes out
pub line_pieces : (first : List ℕ) (v w : List (List ℕ)) → line first (v ++ w) ≡ first ++ (joined_by_spaces v ++ (joined_by_spaces w ++ 10 ∷ []))
unfolding line
line_pieces first v w = ap (λ t. first ++ (t ++ 10 ∷ [])) (spaced_both v w) ∙ ap (λ t. first ++ t) (append_assoc (joined_by_spaces v) (joined_by_spaces w) (10 ∷ []))

pub puts_as : {E : Type 0} (old new : Option (List ℕ)) (x y : List ℕ) (r : Result (Unit {0}) E) → x ≡ y → Puts old new y r → Puts old new x r
puts_as old new x y r e p = subst (λ t. Puts old new t r) (sym e) p

-- ---- numbers from one on

pub range_here : (i n : ℕ) → i < n → range_with_len i (n - i) ≡ i ∷ range_with_len (i + 1) (n - (i + 1))
range_here i n h = let more : n - i ≡ suc (n - (i + 1)) = omega arith in ap (λ k. range_with_len i k) more

pub range_end : (i n : ℕ) → n ≤ i → range_with_len i (n - i) ≡ []
range_end i n h = let none : n - i ≡ 0 = omega arith in ap (λ k. range_with_len i k) none

-- ---- the words of those that pass a test

abbrev pub shown : {X : Type 0} → (X → List ℕ) → (X → Bool) → List X → List ℕ
shown word p xs = joined_by_spaces (map word (filter p xs))

pub shown_both : {X : Type 0} (word : X → List ℕ) (p : X → Bool) (xs ys : List X) → shown word p (xs ++ ys) ≡ shown word p xs ++ shown word p ys
shown_both word p xs ys =
    ap (λ l. joined_by_spaces (map word l)) (filter-append p xs ys)
    ∙ (ap joined_by_spaces (map-append word (filter p xs) (filter p ys)) ∙ spaced_both (map word (filter p xs)) (map word (filter p ys)))

one_by : {X : Type 0} (word : X → List ℕ) (x : X) (b : Bool) → joined_by_spaces (map word (cond b (x ∷ []) [])) ≡ joined_by_spaces (if b then word x ∷ [] else [])
one_by word x true = refl
one_by word x false = refl

-- of one alone, by what the test gives
pub shown_one : {X : Type 0} (word : X → List ℕ) (p : X → Bool) (x : X) (b : Bool) (w : List ℕ) → b ≡ p x → w ≡ word x → joined_by_spaces (if b then w ∷ [] else []) ≡ shown word p (x ∷ [])
shown_one word p x b w passes is =
    ap (λ c. joined_by_spaces (if c then w ∷ [] else [])) passes ∙ (ap (λ v. joined_by_spaces (if p x then v ∷ [] else [])) is ∙ sym (one_by word x (p x)))

-- of the first and those behind it
pub shown_here : {X : Type 0} (word : X → List ℕ) (p : X → Bool) (x : X) (xs rest : List X) → xs ≡ x ∷ rest → shown word p xs ≡ shown word p (x ∷ []) ++ shown word p rest
shown_here word p x xs rest e = ap (λ l. shown word p l) e ∙ shown_both word p (x ∷ []) rest

-- the same, by what the test gives, and the word
pub possible_here : {X : Type 0} (word : X → List ℕ) (p : X → Bool) (x : X) (xs rest : List X) (b : Bool) (w : List ℕ) → xs ≡ x ∷ rest → b ≡ p x → w ≡ word x
    → shown word p xs ≡ joined_by_spaces (if b then w ∷ [] else []) ++ shown word p rest
possible_here word p x xs rest b w e passes is = shown_here word p x xs rest e ∙ ap (λ t. t ++ shown word p rest) (sym (shown_one word p x b w passes is))

pub shown_end : {X : Type 0} (old new : Option (List ℕ)) (text : List ℕ) (word : X → List ℕ) (p : X → Bool) (xs : List X) → xs ≡ []
    → Wrote old new text (shown word p xs) → Appends old new text
unfolding joined_by_spaces
shown_end old new text word p xs e w = wrote_all old new text (subst (λ l. Wrote old new text (shown word p l)) e w)

-- ---- lists in pieces

pub four_pieces : {X : Type 0} (word : X → List ℕ) (p : X → Bool) (w x y z : List X)
    → shown word p (w ++ (x ++ (y ++ (z ++ [])))) ≡ shown word p w ++ (shown word p x ++ (shown word p y ++ shown word p z))
four_pieces word p w x y z =
    shown_both word p w (x ++ (y ++ (z ++ [])))
    ∙ ap (λ t. shown word p w ++ t) (shown_both word p x (y ++ (z ++ []))
    ∙ ap (λ t. shown word p x ++ t) (shown_both word p y (z ++ []) ∙ ap (λ l. shown word p y ++ shown word p l) (append-nil z)))

-- one, then more, then two
pub ends_pieces : {X : Type 0} (word : X → List ℕ) (p : X → Bool) (first : X) (xs : List X) (y z : X)
    → shown word p (first ∷ (xs ++ (y ∷ z ∷ []))) ≡ shown word p (first ∷ []) ++ (shown word p xs ++ (shown word p (y ∷ []) ++ shown word p (z ∷ [])))
ends_pieces word p first xs y z =
    shown_both word p (first ∷ []) (xs ++ (y ∷ z ∷ []))
    ∙ ap (λ t. shown word p (first ∷ []) ++ t) (shown_both word p xs (y ∷ z ∷ []) ∙ ap (λ t. shown word p xs ++ t) (shown_both word p (y ∷ []) (z ∷ [])))
