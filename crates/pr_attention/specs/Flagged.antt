-- Agrees with docs/MODEL.md, 'Attentions'.
-- A set of attentions as a number, with a bit for each code.
use Rattle.std.specs.Prelude.{ℕ, ◌==◌, if◌then◌else◌}
use Rattle.std.specs.Int.{bit_at}
use Rattle.std.specs.FinSet as set
use Rattle.pr_attention.specs.Attentions.{Codes, power_on, reservations_preempted, reservations_released, attentions}

-- the place of a code's bit: the lowest code has the lowest
abbrev pub place_of : ℕ → ℕ
place_of code =
    if code == power_on then 0 else (
    if code == reservations_preempted then 1 else (
    if code == reservations_released then 2 else 3))

-- the codes whose bits are set
unfoldable pub codes_of : ℕ → Codes
codes_of bits = set.retain (set.from_list attentions) (λ code. bit_at bits (place_of code) == 1)
