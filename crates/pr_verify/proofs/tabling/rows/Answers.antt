use Rattle.pr_verify.proofs.Common.{◌≡◌, ◌+◌, [], ◌∷◌, ◌++◌, length, take, sym, ap, ◌∙◌, subst, arith, AllZip, AllWithin-none, slice_get_within, scenario_of, FitsAt, outline_of, row_of, IsRow, Spot, asker_of, AreAnswers, place_of}
use Rattle.std.proofs.lemmas.List.{take_all, take_more}
use Rattle.std.proofs.SliceLists.{all_zipped_more}
use Rattle.pr_views.specs.declared.table.Row.{Row}
use Rattle.pr_verify.proofs.lemmas.Reviewing.Findings.{IsMisfitSoFar, either_misfit, misfit_of_all}
use Rattle.pr_verify.proofs.lemmas.Known.Questions.{has_view, sends_rise, answered_here}
use Rattle.pr_verify.proofs.tabling.rows.Goals as goal

pub loop-i-init : goal.loop-i-init
loop-i-init c =
    let q = c.args.asked.now in
    record {
      rows = subst (AllZip (λ (p : Spot) (r : Row). IsRow (scenario_of q.scenario.now) (outline_of q.outline.now) (place_of p) (row_of r)) []) (sym c.new-rows.ensures.items) tt;
      misfit = AllWithin-none (λ (p : Spot). FitsAt (scenario_of q.scenario.now) (outline_of q.outline.now) (place_of p)) q.spots.now 0;
      known = subst (AreAnswers (asker_of q)) (sym c.new-known.ensures.items) (λ k d small. absurd (omega arith));
    }

pub index-requires : goal.index-requires
index-requires c =
    let there = slice_get_within c.answer.new.known.items c.in_ok-answer.answer c.in_ok-answer.ensures.answer.0 c.in_ok-answer.ensures.answer.1 in
    omega arith

pub index-requires-in-loop-i : goal.index-requires-in-loop-i
index-requires-in-loop-i c =
    let q = c.args.asked.now in
    let there = has_view q c.loop-i.i c.loop-i-test.true in
    omega arith

pub row_of_spot-requires : goal.row_of_spot-requires
row_of_spot-requires c =
    answered_here c.args.asked.now c.loop-i.i c.loop-i-test.true c.answer.new.known.items c.in_ok-answer.answer c.in_ok-answer.ensures.answer
    c.spot-item.result c.index-in-loop-i.result.now c.spot-item.is c.index-in-loop-i.ensures c.index.result.now c.index.ensures c.deref.result.now c.deref.ensures.value

pub loop-i-preserved : goal.loop-i-preserved
loop-i-preserved c =
    let s = scenario_of c.args.asked.now.scenario.now in
    let o = outline_of c.args.asked.now.outline.now in
    let R = λ (p : Spot) (r : Row). IsRow s o (place_of p) (row_of r) in
    let ys = c.args.asked.now.spots.now in
    let n = c.loop-i.i in
    record {
      rows = subst (AllZip R (take (n + 1) ys)) (sym c.in_ok-push.ensures.items)
          (subst (λ l. AllZip R l (c.loop-i.rows.items ++ c.in_ok-row.row ∷ [])) (ap (λ y. take n ys ++ y ∷ []) c.spot-item.is ∙ sym (take_more ys n c.spot-item.result c.loop-i-test.true))
          (all_zipped_more R (take n ys) c.loop-i.rows.items c.spot-item.result c.in_ok-row.row c.loop-i.invariant.rows c.in_ok-row.ensures.row));
      misfit = subst (IsMisfitSoFar s o ys (n + 1)) (sym c.or-first.ensures)
          (either_misfit s o ys n c.spot-item.result c.loop-i-test.true c.spot-item.is (sends_rise c.args.asked.now) c.loop-i.first c.in_ok-row.misfit c.loop-i.invariant.misfit c.in_ok-row.ensures.misfit);
      known = c.in_ok-answer.ensures.known;
    }

pub returns-clause-rows : goal.returns-clause-rows
returns-clause-rows c =
    let s = scenario_of c.args.asked.now.scenario.now in
    let o = outline_of c.args.asked.now.outline.now in
    let R = λ (p : Spot) (r : Row). IsRow s o (place_of p) (row_of r) in
    let ys = c.args.asked.now.spots.now in
    let whole : c.loop-i.i ≡ length ys = omega arith in
    subst (λ l. AllZip R l c.loop-i.rows.items) (ap (λ n. take n ys) whole ∙ take_all (length ys) ys (omega arith)) c.loop-i.invariant.rows

pub returns-clause-misfit : goal.returns-clause-misfit
returns-clause-misfit c =
    misfit_of_all (scenario_of c.args.asked.now.scenario.now) (outline_of c.args.asked.now.outline.now) c.args.asked.now.spots.now c.loop-i.i c.loop-i.first c.loop-i-test.false c.loop-i.invariant.misfit
