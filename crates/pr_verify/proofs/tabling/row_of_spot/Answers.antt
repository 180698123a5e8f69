use Rattle.pr_verify.proofs.Common.{◌≡◌, map, length, Contains, refl, ◌∙◌, subst, arith, scenario_of, view_of, KeptView, Landing, Arm, outline_of, place_of}
use Rattle.pr_verify.proofs.lemmas.Reviewing.FittingPlaces.{IsHere}
use Rattle.pr_verify.proofs.lemmas.Tabling.Rows.{AreBefore, row_is}
use Rattle.pr_verify.proofs.tabling.row_of_spot.Goals as goal

pub returns-clause-row : goal.returns-clause-row
returns-clause-row c =
    let s = scenario_of c.args.asked.now.scenario.now in
    let o = outline_of c.args.asked.now.outline.now in
    let own = c.args.asked.now.outline.now.host in
    let v = view_of own c.args.view.now in
    let p = place_of c.args.spot.now in
    let xs = c.args.outcomes.now in
    let here : IsHere o p v = record { at = c.requires.here; own = refl } in
    let count : c.len.result ≡ length c.args.spot.now.tests.items = omega (arith, c.len.ensures, c.args.spot.now.tests.ok) in
    row_is s o p v here own xs c.requires.outcomes _ refl (c.in_ok-tests.ensures.items ∙ c.deref.ensures.value) c.review-permitted.ensures.permitted
    (subst (λ k. AreBefore (λ n. n) (λ n. Contains (map (λ (x : Landing × KeptView). x.0) xs) (Arm n)) k c.in_ok-arms.arms.items) count c.in_ok-arms.ensures.each)
    c.in_ok-arms.ensures.rise c.in_ok-unarmed.ensures.each c.in_ok-unarmed.ensures.rise
