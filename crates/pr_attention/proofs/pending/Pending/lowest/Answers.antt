use Rattle.std.proofs.Common.{◌≡◌, rules}
use Rattle.pr_attention.specs.CodeSets.{AreAttentions}
use Rattle.pr_attention.proofs.lemmas.Bits.{AreAttentions-codes_of}
use Rattle.pr_attention.proofs.lemmas.LowestCodes.{first_in, IsLowest-first_in, no_code-first_in}
use Rattle.pr_attention.proofs.pending.Pending.lowest.Goals as goal

found : (c : goal.After-find) → c.find.result ≡ first_in c.args.self.now
found c = search rules

members : (c : goal.After-find) → AreAttentions c.args.self.now
members c = rw (← c.self.view_is) (AreAttentions-codes_of c.self.inside.flags.0)

pub returns-clause-some : goal.returns-clause-some
returns-clause-some c = rw (found c) (IsLowest-first_in c.args.self.now (members c))

pub returns-clause-none : goal.returns-clause-none
returns-clause-none c = rw (found c) (no_code-first_in c.args.self.now (members c))
