-- Numbers that rise, one after another.
use Rattle.std.specs.Prelude.{ℕ, nat_lt, if◌then◌else◌, List, [], ◌∷◌, Option, Some, None}

-- the last of them, or n where there is none, if each is above the one before it and the first above n
abbrev pub last_of_climb : ℕ → List ℕ → Option ℕ
last_of_climb n [] = Some n
last_of_climb n (next ∷ rest) = if nat_lt n next then last_of_climb next rest else None
