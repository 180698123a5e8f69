use Rattle.std.proofs.Common.{◌≡◌, ◌∙◌}
use Rattle.pr_attention.specs.SameCodes.{is_same, is_same-tells}
use Rattle.pr_attention.proofs.lemmas.Bits.{is_same-codes_of}
use Rattle.pr_attention.proofs.pending.PendingPartialEq.eq.Goals as goal

value : (c : goal.After-eq) → c.eq.result ≡ is_same c.args.self.now c.args.other.now
value c =
    c.eq.ensures ∙ is_same-codes_of c.self.inside.flags.0 c.other.inside.flags.0 c.self.invariant c.other.invariant
    ∙ (λ i. is_same (c.self.view_is i) (c.other.view_is i))

pub returns-clause-value : goal.returns-clause-value
returns-clause-value c = value c

pub returns-clause-same : goal.returns-clause-same
returns-clause-same c = rw (value c) (is_same-tells c.args.self.now c.args.other.now)
