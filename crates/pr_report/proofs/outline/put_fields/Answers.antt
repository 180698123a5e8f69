-- The options of one field, and those of the fields behind it.
use Rattle.pr_report.proofs.Common.{◌≡◌, ℕ, ◌+◌, ◌<◌, ◌≤◌, List, [], ◌++◌, length, drop, flat_map, ap, joined_by_spaces, puts_err, wrote_all, wrote_front, wrote_more}
use Rattle.std.proofs.Common.{suc, get_or, add-one, drop-cons, drop_of_length-le}
use Rattle.pr_cdb.specs.declared.action.Field.{Field}
use Rattle.pr_report.specs.ScenarioWords.{field_words}
use Rattle.pr_report.proofs.lemmas.WordsWritten.Possibilities.{spaced_both}
use Rattle.pr_report.proofs.outline.put_fields.Goals as goal

here : (each : Field → List (List ℕ)) (fields : List Field) (i : ℕ) (d : Field) → i < length fields
    → joined_by_spaces (flat_map each (drop i fields)) ≡ joined_by_spaces (each (get_or fields i d)) ++ joined_by_spaces (flat_map each (drop (i + 1) fields))
here each fields i d h = rw (add-one, drop-cons fields i d) (spaced_both (each (get_or fields i d)) (flat_map each (drop (suc i) fields)))

end : (each : Field → List (List ℕ)) (fields : List Field) (i : ℕ) → length fields ≤ i → joined_by_spaces (flat_map each (drop i fields)) ≡ []
unfolding joined_by_spaces
end each fields i h = ap (λ rest. joined_by_spaces (flat_map each rest)) (drop_of_length-le fields {i = i} h)

pub returns-in_err-put_field : goal.returns-in_err-put_field
returns-in_err-put_field g c =
    let each = field_words c.args.kind c.args.rk c.args.sark in
    let this = here each c.args.fields.now c.loop-field.field-index _ c.loop-field-test.true in
    puts_err _ _ _ _ (wrote_front _ _ _ _ _ _ (rw this at c.loop-field.invariant) c.in_err-put_field.ensures) c.from_residual.ensures.0

pub loop-field-preserved : goal.loop-field-preserved
loop-field-preserved g c =
    let each = field_words c.args.kind c.args.rk c.args.sark in
    let this = here each c.args.fields.now c.loop-field.field-index _ c.loop-field-test.true in
    wrote_more _ _ _ _ _ _ (rw this at c.loop-field.invariant) c.in_ok-put_field.ensures

pub returns : goal.returns
returns g c =
    let each = field_words c.args.kind c.args.rk c.args.sark in
    wrote_all _ _ _ (rw (end each c.args.fields.now c.loop-field.field-index c.loop-field-test.false) at c.loop-field.invariant)
