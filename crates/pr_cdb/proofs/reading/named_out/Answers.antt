use Rattle.std.proofs.Common.{slice_index}
use Rattle.std.proofs.lemmas.Nat.{and_mask}
use Rattle.pr_cdb.specs.Requests.{named_command}
use Rattle.pr_cdb.proofs.reading.named_out.Goals as goal

-- The opcode leaves one line of the definition, and that line's arguments are the code's.
pub returns : goal.returns
unfolding named_command
returns c =
    let action = and_mask (slice_index c.args.cdb.now 1) 5 in
    rw (c.requires.opcode, c.service_action_out.ensures) cc
