use Rattle.pr_report.proofs.Common.{[], ◌∷◌, codes, flat_map, printed_word, front_first, puts_err, puts_last}
use Rattle.pr_cdb.specs.Actions.{row_of}
use Rattle.pr_report.specs.ScenarioWords.{field_words}
use Rattle.pr_report.proofs.lemmas.WordsWritten.Possibilities.{puts_as, spaced_both}
use Rattle.pr_report.proofs.outline.put_out.Goals as goal

pub returns-in_err-put_spaced : goal.returns-in_err-put_spaced
unfolding printed_word
returns-in_err-put_spaced g c =
    let row = row_of c.args.action in
    puts_as _ _ _ _ _ (spaced_both (codes "--out" ∷ row.option ∷ []) (flat_map (field_words c.args.kind c.args.rk c.args.sark) row.fields))
    (puts_err _ _ _ _ (front_first _ _ _ _ (rw c.row-row.ensures.option at c.in_err-put_spaced.ensures)) c.from_residual.ensures.0)

pub returns : goal.returns
unfolding printed_word
returns g c =
    let row = row_of c.args.action in
    puts_as _ _ _ _ _ (spaced_both (codes "--out" ∷ row.option ∷ []) (flat_map (field_words c.args.kind c.args.rk c.args.sark) row.fields))
    (puts_last _ _ _ _ _ _ (rw c.row-row.ensures.option at c.in_ok-put_spaced.ensures) (rw c.row-row.ensures.fields at c.put_fields.ensures))
