-- A name is ASCII text.
use Rattle.pr_lines.proofs.Common.{◌≡◌, ℕ, ◌<◌, ◌≤◌, true, List, length, arith, lit<, list_all, nat_tests}
use Rattle.std.proofs.Common.{inl, inr}
use Rattle.std.specs.Str.{IsUtf8}
use Rattle.std.proofs.lemmas.Bool.{cases_lt}
use Rattle.std.proofs.lemmas.List.{get_or_past}
use Rattle.std.proofs.lemmas.List.Sums.{AllPass-from_list_all}
use Rattle.std.proofs.lemmas.Str.{IsUtf8-from_ascii}
use Rattle.pr_script.specs.Names.{is_name_byte, is_name}
use Rattle.pr_script.specs.declared.limits.TheConstants.{MOST_LETTERS}

name_byte_below : (b : ℕ) → is_name_byte b ≡ true → b < 128
name_byte_below b e = grind (arith, nat_tests)

pub name_is_short : (word : List ℕ) → is_name word ≡ true → length word ≤ MOST_LETTERS
unfolding is_name
name_is_short word e = grind (arith, nat_tests)

name_has_name_bytes : (word : List ℕ) → is_name word ≡ true → list_all is_name_byte word ≡ true
unfolding is_name
name_has_name_bytes word e = grind (arith, nat_tests)

pub name_is_text : (word : List ℕ) → is_name word ≡ true → IsUtf8 word
name_is_text word e = IsUtf8-from_ascii word (λ i.
    elim (cases_lt i (length word)) [
      | inl h ↦ name_byte_below _ (AllPass-from_list_all is_name_byte word (name_has_name_bytes word e) i 0 h)
      | inr h ↦ rw (get_or_past word i 0 h) (lit< tt)
    ])
