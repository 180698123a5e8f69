use Rattle.pr_registry.proofs.Common.{length, arith, MOST_NEXUSES}
use Rattle.pr_registry.proofs.lemmas.Tables.{same_table_keys}
use Rattle.pr_registry.proofs.table.slots_of.Goals as goal

pub returns : goal.returns
returns c =
    same_table_keys (length c.args.keys.now) MOST_NEXUSES c.args.keys.now c.loop-host.slots c.requires
    (λ i small. c.loop-host.invariant.1 i (omega arith))
    (λ i from below. c.loop-host.invariant.2 i (omega arith) below)
