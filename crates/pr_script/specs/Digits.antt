-- Agrees with docs/FORMATS.md, 'Terms'.
-- Hexadecimal digits, in either case of their letters.
use Rattle.std.specs.Prelude.{ℕ, ◌+◌, ◌-◌, ◌*◌, ◌&&◌, nat_le, nat_lt, if◌then◌else◌, Option, Some, None}
use Rattle.pr_script.specs.Chain.{◌>>=◌}
use Rattle.pr_script.specs.Names.{is_digit}

-- what a digit is worth, and 16 where it is none
abbrev pub digit_value : ℕ → ℕ
digit_value b =
    if is_digit b then b - 48 else (
    if nat_le 97 b && nat_le b 102 then b - 87 else (
    if nat_le 65 b && nat_le b 70 then b - 55 else 16))

-- the number that one digit writes, and that two write
abbrev pub digit_of : ℕ → Option ℕ
digit_of b = if nat_lt (digit_value b) 16 then Some (digit_value b) else None

abbrev pub byte_of : ℕ → ℕ → Option ℕ
byte_of high low = digit_of high >>= λ h. digit_of low >>= λ l. Some (16 * h + l)
