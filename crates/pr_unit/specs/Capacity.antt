-- Agrees with docs/MODEL.md, 'Capacity'.
-- How many blocks the unit has, which definitions cite by its name.
use Rattle.std.specs.Prelude.{◌≡◌}
use Rattle.pr_unit.specs.declared.unit.TheConstants.{CAPACITY}

abbrev pub CapacityAgrees : Type 0
CapacityAgrees = CAPACITY ≡ 1048576
