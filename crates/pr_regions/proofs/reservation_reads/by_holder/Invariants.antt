use Rattle.pr_regions.proofs.Common.{ℕ, ◌≤◌, ◌≢◌, length, Kind, WRITTEN_LENGTH, IsProperReading}
use Rattle.pr_cdb.specs.declared.command.Command.TheVariants.{ReadReservation}
use Rattle.std.specs.List.{All}
use Rattle.pr_regions.specs.inside.Reads.{AreHeldSoFar}
use Rattle.pr_regions.proofs.reservation_reads.by_holder.Given as goal

abbrev pub invariant-loop-place : goal.invariant-loop-place
invariant-loop-place l = record {
  few : length l.readings.items ≤ l.place;
  so_far : (hosts : ℕ) (kind : Kind) (holder sender own : ℕ) → holder ≢ sender → AreHeldSoFar l.keys hosts kind holder sender own (ReadReservation WRITTEN_LENGTH) l.tests l.place l.readings.items;
  proper : All IsProperReading l.readings.items;
}
