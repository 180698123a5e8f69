use Rattle.std.proofs.Common.{◌≡◌, sym, ap, ◌∙◌, lit<, arith}
use Rattle.std.proofs.lemmas.Bool.Decides.{nat_tests}
use Rattle.pr_attention.specs.Flagged.{codes_of}
use Rattle.pr_attention.proofs.lemmas.Bits.{codes_of-zero, same_bits, AreAttentions-codes_of}
use Rattle.pr_attention.proofs.lemmas.Sets.{any-decides}
use Rattle.pr_attention.proofs.pending.Pending.is_empty.Goals as goal

pub returns-clause-value : goal.returns-clause-value
returns-clause-value c = (
  λ zero. let test = c.is_empty.ensures tt in let is : c.self.inside.flags.0 ≡ 0 = grind (arith, nat_tests) in
      sym c.self.view_is ∙ ap codes_of is ∙ codes_of-zero,
  λ none. let test = c.is_empty.ensures tt in
      let is : c.self.inside.flags.0 ≡ 0 = same_bits c.self.inside.flags.0 0 c.self.invariant (lit< tt) (c.self.view_is ∙ none ∙ sym codes_of-zero) in
      grind (arith, nat_tests),
)

pub returns-clause-members : goal.returns-clause-members
returns-clause-members c = rw (← c.self.view_is) (AreAttentions-codes_of c.self.inside.flags.0)

pub returns-clause-any : goal.returns-clause-any
returns-clause-any c = any-decides c.args.self.now c.is_empty.result (returns-clause-members c) (returns-clause-value c)
