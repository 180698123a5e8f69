-- The fields of what the listed places send.
use Rattle.pr_verify.proofs.Common.{[], ◌++◌, map, sym, ap, ◌∙◌, subst, statements_in, script_of, places, places_of, place_of, AreInRange}
use Rattle.pr_verify.proofs.lemmas.Listing.Statements.{none_in_range, fields_of}
use Rattle.pr_verify.proofs.places.spots.Goals as goal

pub returns-clause-fields : goal.returns-clause-fields
returns-clause-fields c =
    let listed = c.in_ok-list.ensures.listed
    ∙ ap (λ spots. map place_of spots ++ places (statements_in c.deref.result.now) [] []) c.new-spots.ensures.items
    ∙ ap (λ b. places (statements_in b) [] []) c.deref.ensures.value in
    fields_of c.list.new.spots.items (places_of (script_of c.args.script.now)) listed
    (c.in_ok-list.ensures.fields (subst AreInRange (sym c.new-spots.ensures.items) none_in_range))
