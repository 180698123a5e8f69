use Rattle.std.proofs.Common.{◌≡◌, length}
use Rattle.pr_cdb.specs.ReplyData.{first_keys}
use Rattle.pr_cdb.proofs.parameter_data.keys_of.Given as goal

abbrev pub invariant-loop-place : goal.invariant-loop-place
invariant-loop-place l = (l.keys.items ≡ first_keys l.place l.bytes) × (length l.keys.items ≡ l.place)
