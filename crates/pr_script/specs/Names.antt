-- Agrees with docs/FORMATS.md, 'Terms'.
-- Names of nexuses, and the words with which scripts stop.
use Rattle.std.specs.Prelude.{ℕ, Bool, ◌==◌, ◌||◌, ◌&&◌, nat_le, List, length, slice_index}
use Rattle.std.specs.List.{list_all}
use Rattle.pr_script.specs.declared.limits.TheConstants.{MOST_LETTERS}

abbrev pub is_digit : ℕ → Bool
is_digit b = nat_le 48 b && nat_le b 57

abbrev pub is_lower : ℕ → Bool
is_lower b = nat_le 97 b && nat_le b 122

-- a lower case letter, a digit or a hyphen
abbrev pub is_name_byte : ℕ → Bool
is_name_byte b = is_lower b || (is_digit b || b == 45)

-- 1 to 16 of these, a letter first
unfoldable pub is_name : List ℕ → Bool
is_name word = is_lower (slice_index word 0) && (nat_le (length word) MOST_LETTERS && list_all is_name_byte word)
