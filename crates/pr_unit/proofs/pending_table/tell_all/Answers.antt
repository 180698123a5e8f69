use Rattle.pr_unit.proofs.Common.{ap, ◌∙◌, code_of, Pairs, table_pairs}
use Rattle.std.specs.FinSet as set
use Rattle.pr_unit.proofs.lemmas.Attentions.Resets.{told_nobody, told_one}
use Rattle.pr_unit.proofs.pending_table.tell_all.Goals as goal

pub loop-host-init : goal.loop-host-init
loop-host-init c = told_nobody (table_pairs c.args.pendings.now) (code_of c.args.attention)

pub loop-host-preserved : goal.loop-host-preserved
loop-host-preserved c =
    let old = table_pairs c.args.pendings.now in
    let code = code_of c.args.attention in
    c.add.ensures ∙ ap (λ (p : Pairs). set.insert p (c.loop-host.host, code)) c.loop-host.invariant ∙ told_one old code c.loop-host.host
