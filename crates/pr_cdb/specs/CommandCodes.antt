-- Agrees with SPC-4, 'PERSISTENT RESERVE IN command', 'PERSISTENT RESERVE OUT command'; docs/FORMATS.md, 'How bytes are written'.
-- How the standards tell commands apart.
use Rattle.std.specs.Prelude.{◌≡◌, ℕ, List, [], ◌∷◌, length, take}
use Rattle.pr_cdb.specs.declared.codes.TheConstants.{TEST_UNIT_READY, REQUEST_SENSE, READ_10, WRITE_10, PERSISTENT_RESERVE_IN, PERSISTENT_RESERVE_OUT}
use Rattle.pr_cdb.specs.declared.command.Command.{Command}
use Rattle.pr_cdb.specs.declared.layout.Layout.{Layout}
use Rattle.pr_cdb.specs.declared.layout.Layout.TheVariants.{TestUnitReady, RequestSense, Read, Write, ReserveIn, ReserveOut}
use Rattle.pr_cdb.specs.declared.wire.Wire.{Wire}
use Rattle.pr_cdb.specs.Spelling.{layout_of, action_number}

-- by the operation code, and the service action where there is one
abbrev pub layout_codes : Layout → List ℕ
layout_codes TestUnitReady = TEST_UNIT_READY ∷ []
layout_codes RequestSense = REQUEST_SENSE ∷ []
layout_codes (Read lba blocks) = READ_10 ∷ []
layout_codes (Write lba blocks) = WRITE_10 ∷ []
layout_codes (ReserveIn action alloc) = PERSISTENT_RESERVE_IN ∷ action_number action ∷ []
layout_codes (ReserveOut action kind rk sark) = PERSISTENT_RESERVE_OUT ∷ action_number action ∷ []

abbrev pub command_codes : Command → List ℕ
command_codes c = layout_codes (layout_of c)

-- what is written begins with the codes of the command
abbrev pub BeginsWithCodes : Command → Wire → Type 0
BeginsWithCodes c wire = take (length (command_codes c)) wire.cdb.items ≡ command_codes c
