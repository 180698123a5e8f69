-- Agrees with docs/FORMATS.md, 'Scenario text'.
-- The bytes that are read from a reader, up to a limit.
use Rattle.std.specs.Prelude.{ℕ, ◌≤◌, List, length, Option}
use Rattle.std.specs.Io.KnownBytes.{Consumes}

-- the reader has lost some bytes from the front, no more than the limit
pub record LosesUpTo (limit : ℕ) (old new : Option (List ℕ)) : Type 0 where
  pub lost : List ℕ
  pub taken : Consumes old new lost
  pub limited : length lost ≤ limit
