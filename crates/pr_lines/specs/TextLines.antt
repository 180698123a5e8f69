-- Agrees with docs/FORMATS.md, 'Lines and words'.
-- How a line is cut into words.
use Rattle.std.specs.Prelude.{ℕ, if◌then◌else◌, Bool, ◌==◌, ◌||◌, ◌&&◌, not, nat_le, List, [], ◌∷◌, length, slice_index, codes, Option, Some, None, filter, take_while}
use Rattle.std.specs.List.{slice_split, list_all}

-- these bytes may stand on a line: tabs, and the ASCII characters that print, the space among them
unfoldable pub is_text : List ℕ → Bool
is_text line = list_all (λ b. b == 9 || (nat_le 32 b && nat_le b 126)) line

abbrev pub is_blank : ℕ → Bool
is_blank b = b == 9 || b == 32

-- the one character of this word
abbrev pub character : List ℕ → ℕ
character word = slice_index word 0

-- a comment begins with `#`
abbrev pub is_comment : List ℕ → Bool
is_comment word = slice_index word 0 == character (codes "#")

-- a line's words: its parts between tabs and spaces, up to the first that begins a comment
unfoldable pub words : List ℕ → List (List ℕ)
words line = take_while (λ w. not (is_comment w)) (filter (λ w. not (length w == 0)) (slice_split is_blank line))

-- the one word that is left
abbrev pub only : List (List ℕ) → Option (List ℕ)
only [] = None
only (w ∷ []) = Some w
only (w ∷ x ∷ ws) = None

-- no word is left
abbrev pub is_end : List (List ℕ) → Bool
is_end ws = length ws == 0

-- this, where no word is left
abbrev pub if_alone : {A : Type 0} → A → List (List ℕ) → Option A
if_alone a ws = if is_end ws then Some a else None
