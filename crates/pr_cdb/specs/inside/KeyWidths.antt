-- The keys that the data of replies has room for.
use Rattle.std.specs.Prelude.{ℕ, ◌<◌, ◌^◌, Option, Some, None}
use Rattle.pr_cdb.specs.declared.command.Kind.{Kind}

-- the key of a reservation has 64 bits
abbrev pub HasKey : Option (ℕ × Kind) → Type 0
HasKey None = Unit {0}
HasKey (Some r) = r.0 < 2 ^ 64
