use Rattle.pr_unit.proofs.Common.{◌<◌, ◌==◌, not, ap, ◌∙◌, arith, MOST_NEXUSES, Codes, table_pairs}
use Rattle.std.proofs.Common.{slice_set}
use Rattle.std.specs.FinSet as set
use Rattle.pr_unit.proofs.lemmas.Attentions.Pairs.{table_pairs-silence}
use Rattle.pr_unit.proofs.pending_table.silence.Goals as goal

pub returns : goal.returns
returns c =
    let table = c.args.pendings.now in
    let whole = c.told-pendings in
    let small : c.from.result < MOST_NEXUSES = omega arith in
    ap (λ (codes : Codes). table_pairs (slice_set table c.from.result codes)) c.new.ensures ∙ table_pairs-silence table c.from.result whole small
    ∙ ap (λ h. set.retain (table_pairs table) (λ p. not (p.0 == h))) c.from.ensures
