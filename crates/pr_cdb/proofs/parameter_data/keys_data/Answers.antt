use Rattle.std.proofs.Common.{ap, ◌∙◌, arith}
use Rattle.pr_cdb.specs.ReplyData.{keys_in}
use Rattle.pr_cdb.proofs.lemmas.ReplyRoundTrip.{keys_in-keys_bytes}
use Rattle.pr_cdb.proofs.parameter_data.keys_data.Goals as goal

pub returns-clause-read_again : goal.returns-clause-read_again
returns-clause-read_again c =
    ap keys_in c.keys_written.ensures ∙ keys_in-keys_bytes c.args.generation c.args.keys.now c.requires (λ i. omega (arith, c.type_inv.keys i))
