use Rattle.pr_unit.proofs.Common.{◌<◌, length, sym, ap, ◌∙◌, arith, MOST_NEXUSES, code_of, table_pairs}
use Rattle.std.specs.FinSet as set
use Rattle.pr_unit.proofs.lemmas.Attentions.Pairs.{place_read, contains-table_pairs_in}
use Rattle.pr_unit.proofs.pending_table.has.Goals as goal

pub returns : goal.returns
returns c =
    let table = c.args.pendings.now in
    let code = code_of c.args.attention in
    let whole = c.type_inv.pendings in
    let small : c.from.result < MOST_NEXUSES = omega arith in
    let there : c.from.result < length table = omega arith in
    c.has.ensures.value ∙ ap (λ s. set.contains s code) (place_read table c.from.result c.index-pendings-from.result there)
    ∙ sym (contains-table_pairs_in table c.from.result code small) ∙ ap (λ h. set.contains (table_pairs table) (h, code)) c.from.ensures
