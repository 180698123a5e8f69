use Rattle.pr_attention.proofs.lemmas.Bits.{within_bits}
use Rattle.pr_attention.proofs.pending.Pending.is_within.Goals as goal

pub returns : goal.returns
returns c =
    let m = c.self.inside.flags.0 in
    let n = c.other.inside.flags.0 in
    rw (c.contains.ensures tt, ← c.self.view_is, ← c.other.view_is) (within_bits m n c.self.invariant)
