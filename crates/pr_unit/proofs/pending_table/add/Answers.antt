use Rattle.pr_unit.proofs.Common.{◌<◌, length, ap, ◌∙◌, arith, MOST_NEXUSES, code_of, table_pairs}
use Rattle.std.specs.FinSet as set
use Rattle.pr_unit.proofs.lemmas.Attentions.Pairs.{place_read, table_pairs-insert}
use Rattle.pr_unit.proofs.pending_table.add.Goals as goal

pub returns : goal.returns
returns c =
    let table = c.args.pendings.now in
    let code = code_of c.args.attention in
    let whole = c.told-pendings in
    let small : c.from.result < MOST_NEXUSES = omega arith in
    let there : c.from.result < length table = omega arith in
    let is = c.add.ensures ∙ ap (λ s. set.insert s code) (place_read table c.from.result c.index-pendings-from.result there) in
    table_pairs-insert table c.from.result c.add.new.self code whole small is
    ∙ ap (λ h. set.insert (table_pairs table) (h, code)) c.from.ensures
