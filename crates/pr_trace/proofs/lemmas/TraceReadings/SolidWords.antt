-- The words of a trace: no byte of one is a space or a line feed, and none is long.
use Rattle.pr_trace.proofs.Common.{◌≡◌, ℕ, zero, suc, ◌+◌, ◌*◌, ◌/◌, ◌%◌, ◌<◌, ◌≤◌, Bool, true, false, cond, List, [], ◌∷◌, ◌++◌, length, nat_lt, ◌==◌, All, sym, refl, ap, ◌∙◌, append_assoc, append-nil, arith, length-append, ne_eqb, digit_glyph, digits_onto, digits, slice_split, nat_tests, length-slice_split, pairs_or_dash, joined_by_spaces, line, pairs, lines, words, list_all, and_parts}
use Rattle.std.proofs.Common.{eqb}
use Rattle.std.proofs.lemmas.Bool.{ltb-true}
use Rattle.std.proofs.lemmas.List.Elements.{All-cons, All-nil}
use Rattle.std.proofs.lemmas.List.Splits.{slice_split_at, slice_split_none}
use Rattle.pr_trace.specs.TraceReadings.{lines_of_parts}
use Rattle.pr_trace.proofs.lemmas.LinesAhead.LinesInFront.{lines_more}

-- no byte is a space, or before it among the characters
abbrev pub IsSolid : List ℕ → Type 0
IsSolid [] = Unit {0}
IsSolid (b ∷ bs) = (32 < b) × IsSolid bs

-- such a word, of so many bytes at most
pub record IsWord (most : ℕ) (word : List ℕ) : Type 0 where
  pub solid : IsSolid word
  pub short : length word ≤ most

pub solid_both : (v w : List ℕ) → IsSolid v → IsSolid w → IsSolid (v ++ w)
solid_both [] w h k = k
solid_both (b ∷ v) w h k = (h.0, solid_both v w h.1 k)

pub word_both : (m n : ℕ) (v w : List ℕ) → IsWord m v → IsWord n w → IsWord (m + n) (v ++ w)
word_both m n v w h k = record { solid = solid_both v w h.solid k.solid; short = omega (arith, length-append v w, h.short, k.short) }

-- ---- digits

glyph_solid : (d : ℕ) → 32 < digit_glyph false d
glyph_solid d = grind (arith, nat_tests)

onto_solid : (k base n : ℕ) (acc : List ℕ) → IsSolid acc → IsSolid (digits_onto k base false n acc)
onto_solid zero base n acc h = h
onto_solid (suc k) base n acc h = elim (eqb (n / base) 0) as (λ b. IsSolid (cond b (digit_glyph false (n % base) ∷ acc) (digits_onto k base false (n / base) (digit_glyph false (n % base) ∷ acc)))) [
  | true ↦ (glyph_solid (n % base), h)
  | false ↦ onto_solid k base (n / base) (digit_glyph false (n % base) ∷ acc) (glyph_solid (n % base), h)
]

onto_short : (k base n : ℕ) (acc : List ℕ) → length (digits_onto k base false n acc) ≤ k + length acc
onto_short zero base n acc = omega arith
onto_short (suc k) base n acc = elim (eqb (n / base) 0) as (λ b. length (cond b (digit_glyph false (n % base) ∷ acc) (digits_onto k base false (n / base) (digit_glyph false (n % base) ∷ acc))) ≤ suc k + length acc) [
  | true ↦ omega arith
  | false ↦ omega (arith, onto_short k base (n / base) (digit_glyph false (n % base) ∷ acc))
]

pub digits_word : (base n : ℕ) → IsWord 64 (digits base false n)
unfolding digits
digits_word base n = record { solid = onto_solid 64 base n [] tt; short = onto_short 64 base n [] }

pairs_solid : (bytes : List ℕ) → IsSolid (pairs bytes)
unfolding pairs
pairs_solid [] = tt
pairs_solid (b ∷ bs) = (glyph_solid (b / 16), (glyph_solid (b % 16), pairs_solid bs))

pub pairs_length : (bytes : List ℕ) → length (pairs bytes) ≡ 2 * length bytes
unfolding pairs
pairs_length [] = refl
pairs_length (b ∷ bs) = omega (arith, pairs_length bs)

pub pairs_word : (n : ℕ) (bytes : List ℕ) → length bytes ≤ n → IsWord (2 * n) (pairs bytes)
pairs_word n bytes h = record { solid = pairs_solid bytes; short = omega (arith, pairs_length bytes) }

pub bytes_word : (n : ℕ) (bytes : List ℕ) → 0 < n → length bytes ≤ n → IsWord (2 * n) (pairs_or_dash bytes)
bytes_word n [] h k = record { solid = (omega arith, tt); short = omega arith }
bytes_word n (b ∷ bs) h k = pairs_word n (b ∷ bs) k

-- ---- a line and its words

not_in : (c : ℕ) (w : List ℕ) → c ≤ 32 → IsSolid w → All (λ b. (b == c) ≡ false) w
not_in c [] h k = All-nil (λ b. (b == c) ≡ false)
not_in c (b ∷ bs) h k = All-cons (λ b. (b == c) ≡ false) b bs (ne_eqb b c (λ e. omega arith)) (not_in c bs h k.1)

-- each of these words is solid
abbrev pub AreSolid : List (List ℕ) → Type 0
AreSolid [] = Unit {0}
AreSolid (w ∷ ws) = IsSolid w × AreSolid ws

-- a line without its end
abbrev pub bare : List ℕ → List (List ℕ) → List ℕ
bare first others = first ++ joined_by_spaces others

pub words_back : (first : List ℕ) (others : List (List ℕ)) → IsSolid first → AreSolid others → words (bare first others) ≡ first ∷ others
unfolding words joined_by_spaces
words_back first [] h k =
    ap (slice_split (λ b. b == 32)) (append-nil first) ∙ slice_split_none (λ b. b == 32) first (not_in 32 first (omega arith) h)
words_back first (w ∷ ws) h k =
    slice_split_at (λ b. b == 32) first 32 (bare w ws) (not_in 32 first (omega arith) h) refl ∙ ap (λ l. first ∷ l) (words_back w ws k.0 k.1)

spaced_length : (w : List ℕ) (ws : List (List ℕ)) → length (joined_by_spaces (w ∷ ws)) ≡ 1 + length w + length (joined_by_spaces ws)
unfolding joined_by_spaces
spaced_length w ws = omega (arith, length-append (32 ∷ w) (joined_by_spaces ws))

pub spaced_word : (m k : ℕ) (w : List ℕ) (ws : List (List ℕ)) → IsWord m w → length (joined_by_spaces ws) ≤ k → length (joined_by_spaces (w ∷ ws)) ≤ 1 + m + k
spaced_word m k w ws h l = omega (arith, spaced_length w ws, h.short)

pub spaced_none : length (joined_by_spaces []) ≤ 0
unfolding joined_by_spaces
spaced_none = omega arith

-- ---- lines

-- no byte is a line feed, or before it among the characters
abbrev IsClear : List ℕ → Type 0
IsClear [] = Unit {0}
IsClear (b ∷ bs) = (10 < b) × IsClear bs

clear_solid : (w rest : List ℕ) → IsSolid w → IsClear rest → IsClear (w ++ rest)
clear_solid [] rest h k = k
clear_solid (b ∷ bs) rest h k = (omega arith, clear_solid bs rest h.1 k)

clear_spaced : (ws : List (List ℕ)) → AreSolid ws → IsClear (joined_by_spaces ws)
unfolding joined_by_spaces
clear_spaced [] h = tt
clear_spaced (w ∷ ws) h = (omega arith, clear_solid w (joined_by_spaces ws) h.0 (clear_spaced ws h.1))

clear_all : (w : List ℕ) → IsClear w → All (λ b. (b == 10) ≡ false) w
clear_all [] k = All-nil (λ b. (b == 10) ≡ false)
clear_all (b ∷ bs) k = All-cons (λ b. (b == 10) ≡ false) b bs (ne_eqb b 10 (λ e. omega arith)) (clear_all bs k.1)

line_cut : (w rest : List ℕ) → IsClear w → lines (w ++ (10 ∷ rest)) ≡ w ∷ lines rest
unfolding lines
line_cut w rest h =
    ap lines_of_parts (slice_split_at (λ b. b == 10) w 10 rest (clear_all w h) refl)
    ∙ lines_more w (slice_split (λ b. b == 10) rest) (omega (arith, length-slice_split (λ b. b == 10) rest))

pub bare_back : (first : List ℕ) (others : List (List ℕ)) (rest : List ℕ) → IsSolid first → AreSolid others → lines (bare first others ++ (10 ∷ rest)) ≡ bare first others ∷ lines rest
bare_back first others rest h k = line_cut (bare first others) rest (clear_solid first (joined_by_spaces others) h (clear_spaced others k))

pub line_back : (first : List ℕ) (others : List (List ℕ)) (rest : List ℕ) → IsSolid first → AreSolid others → lines (line first others ++ rest) ≡ bare first others ∷ lines rest
unfolding line
line_back first others rest h k =
    let whole : line first others ++ rest ≡ bare first others ++ (10 ∷ rest) =
    append_assoc first (joined_by_spaces others ++ (10 ∷ [])) rest
    ∙ (ap (λ l. first ++ l) (append_assoc (joined_by_spaces others) (10 ∷ []) rest) ∙ sym (append_assoc first (joined_by_spaces others) (10 ∷ rest))) in
    ap lines whole ∙ bare_back first others rest h k

-- ---- words that are known

abbrev pub is_solid : List ℕ → Bool
is_solid w = list_all (λ b. nat_lt 32 b) w

pub solid_by : (w : List ℕ) → is_solid w ≡ true → IsSolid w
solid_by [] h = tt
solid_by (b ∷ bs) h = let p = and_parts (nat_lt 32 b) (is_solid bs) h in (ltb-true 32 b p.0, solid_by bs p.1)
