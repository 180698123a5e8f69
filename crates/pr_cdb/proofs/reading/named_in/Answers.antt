use Rattle.std.proofs.Common.{slice_index}
use Rattle.std.proofs.lemmas.Nat.{and_mask}
use Rattle.pr_cdb.specs.Requests.{reserve_in_command}
use Rattle.pr_cdb.proofs.reading.named_in.Goals as goal

pub returns : goal.returns
returns c = rw c.service_action_in.ensures (λ i. reserve_in_command (and_mask (slice_index c.args.cdb.now 1) 5 i) (c.allocation_length.ensures i))
