use Rattle.pr_regions.proofs.Common.{ℕ, ◌≤◌, length, Option, ReadKeys, Held, WRITTEN_LENGTH, IsProperReading}
use Rattle.std.specs.List.{All}
use Rattle.pr_regions.specs.inside.Reads.{AreReadSoFar}
use Rattle.pr_regions.proofs.key_reads.key_readings.Given as goal

abbrev pub invariant-loop-arm : goal.invariant-loop-arm
invariant-loop-arm l = record {
  few : length l.readings.items ≤ l.arm;
  so_far : (hosts : ℕ) (held : Option Held) (sender : ℕ) → AreReadSoFar l.keys hosts held sender l.registration (ReadKeys WRITTEN_LENGTH) l.tests l.arm l.readings.items l.left;
  proper : All IsProperReading l.readings.items;
}
