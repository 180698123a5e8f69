-- Agrees with docs/FORMATS.md, 'Terms'.
-- The terms that words are: names, keys, numbers, types and codes.
use Rattle.std.specs.Prelude.{ℕ, ◌+◌, ◌-◌, ◌*◌, ◌==◌, ◌&&◌, nat_lt, nat_le, if◌then◌else◌, List, [], length, take, drop, slice_index, codes, Option, Some, None, unwrap_or, fold, bytes_eq}
use Rattle.std.specs.List.{list_all}
use Rattle.pr_cdb.specs.declared.command.Kind.{Kind}
use Rattle.pr_cdb.specs.declared.reply.Sense.{Sense}
use Rattle.pr_cdb.specs.Kinds.{kind_of_code}
use Rattle.pr_attention.specs.CodeSets.{attention_with}
use Rattle.pr_attention.specs.declared.attention.Attention.{Attention}
use Rattle.pr_script.specs.Chain.{◌>>=◌}
use Rattle.pr_script.specs.Digits.{digit_value, digit_of, byte_of}
use Rattle.pr_script.specs.Names.{is_name}
use Rattle.pr_lines.specs.TextLines.{character}

-- the name that a word is: that of a nexus, or the word with which a script stops
unfoldable pub name_of : List ℕ → Option (List ℕ)
name_of word = if is_name word then Some word else None

-- ---- digits

-- the number that these digits write to this base, the highest digit first
unfoldable pub number : ℕ → List ℕ → Option ℕ
number base digits =
    if list_all (λ b. nat_lt (digit_value b) base) digits then Some (fold (λ n b. base * n + digit_value b) 0 digits) else None

-- ---- numbers

-- what follows this in the word, where the word begins with it
abbrev pub value_after : List ℕ → List ℕ → Option (List ℕ)
value_after name word = if bytes_eq (take (length name) word) name then Some (drop (length name) word) else None

-- the word without the `0x` that it may begin with
abbrev pub without_prefix : List ℕ → List ℕ
without_prefix word = unwrap_or (value_after (codes "0x") word) word

-- 1 to so many hexadecimal digits
abbrev pub hexadecimal : ℕ → List ℕ → Option ℕ
hexadecimal most digits = if nat_lt 0 (length digits) && nat_le (length digits) most then number 16 digits else None

-- the key that a word is, or zero: 1 to 16 hexadecimal digits, after an optional `0x`
unfoldable pub key_or_zero : List ℕ → Option ℕ
key_or_zero word = hexadecimal 16 (without_prefix word)

-- the key that a word is: not zero
abbrev pub key_of : List ℕ → Option ℕ
key_of word = key_or_zero word >>= λ key. if key == 0 then None else Some key

-- the generation that a word is: 1 to 8 hexadecimal digits
unfoldable pub generation_of : List ℕ → Option ℕ
generation_of word = hexadecimal 8 word

-- the count that a word is: 1 to 10 decimal digits
unfoldable pub count_of : List ℕ → Option ℕ
count_of word = if nat_lt 0 (length word) && nat_le (length word) 10 then number 10 word else None

-- the decimal number that a word is, which is at most this
unfoldable pub amount_of : ℕ → List ℕ → Option ℕ
amount_of most word =
    if nat_lt 0 (length word) then (number 10 word >>= λ n. if nat_le n most then Some n else None) else None

-- ---- types and codes

-- the type of a reservation that a word is, by its number
unfoldable pub kind_of : List ℕ → Option Kind
kind_of word = if length word == 1 then kind_of_code (slice_index word 0 - 48) else None

-- the attention that a word is: two digits, a slash and two digits
unfoldable pub code_of : List ℕ → Option Attention
code_of word =
    if length word == 5 && slice_index word 2 == character (codes "/") then
    (byte_of (slice_index word 0) (slice_index word 1) >>= λ asc.
    byte_of (slice_index word 3) (slice_index word 4) >>= λ ascq. attention_with (asc * 256 + ascq))
    else None

-- the sense that a word is: one, two and two digits, with slashes between them
unfoldable pub sense_of : List ℕ → Option Sense
sense_of word =
    if length word == 7 && (slice_index word 1 == character (codes "/") && slice_index word 4 == character (codes "/")) then
    (digit_of (slice_index word 0) >>= λ key.
    byte_of (slice_index word 2) (slice_index word 3) >>= λ asc.
    byte_of (slice_index word 5) (slice_index word 6) >>= λ ascq. Some (record { key = key; asc = asc; ascq = ascq }))
    else None
