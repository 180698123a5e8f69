use Rattle.std.proofs.Common.{◌≡◌, ◌+◌, ◌*◌, ◌++◌, length, take}
use Rattle.std.specs.Int.{w32, w64, to_be_bytes}
use Rattle.std.specs.List.{flat_map}
use Rattle.pr_cdb.specs.declared.codes.TheConstants.{HEADER_LENGTH, KEY_LENGTH}
use Rattle.pr_cdb.proofs.parameter_data.keys_written.Given as goal

abbrev pub invariant-loop-key : goal.invariant-loop-key
invariant-loop-key l =
    (l.data.items ≡ to_be_bytes w32 l.generation ++ to_be_bytes w32 (KEY_LENGTH * length l.keys) ++ flat_map (to_be_bytes w64) (take l.key-index l.keys))
    × (length l.data.items ≡ HEADER_LENGTH + KEY_LENGTH * l.key-index)
