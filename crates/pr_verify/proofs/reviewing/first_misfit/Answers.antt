use Rattle.pr_verify.proofs.Common.{sym, subst, arith, at_read, AllWithin-none, AllWithin-more, slice_get_within, scenario_of, FitsAt, outline_of, Spot, asker_of, AreAnswers, place_of}
use Rattle.pr_verify.specs.inside.Reviewing.{IsMisfit}
use Rattle.pr_verify.proofs.lemmas.Known.Questions.{has_view, sends_rise, answered_here}
use Rattle.pr_verify.proofs.lemmas.Reviewing.Findings.{is_misfit}
use Rattle.pr_verify.proofs.reviewing.first_misfit.Goals as goal

pub loop-i-init : goal.loop-i-init
loop-i-init c =
    let q = c.args.asked.now in
    record {
      fit = AllWithin-none (λ (p : Spot). FitsAt (scenario_of q.scenario.now) (outline_of q.outline.now) (place_of p)) q.spots.now 0;
      known = subst (AreAnswers (asker_of q)) (sym c.new-known.ensures.items) (λ k d small. absurd (omega arith));
    }

pub index-requires : goal.index-requires
index-requires c =
    let there = slice_get_within c.answer.new.known.items c.in_ok-answer.answer c.in_ok-answer.ensures.answer.0 c.in_ok-answer.ensures.answer.1 in
    omega arith

pub index-requires-in-loop-i : goal.index-requires-in-loop-i
index-requires-in-loop-i c =
    let q = c.args.asked.now in
    let there = has_view q c.loop-i.i c.loop-i-test.true in
    omega arith

pub review-misfit-requires : goal.review-misfit-requires
review-misfit-requires c =
    answered_here c.args.asked.now c.loop-i.i c.loop-i-test.true c.answer.new.known.items c.in_ok-answer.answer c.in_ok-answer.ensures.answer
    c.spot-item.result c.index-in-loop-i.result.now c.spot-item.is c.index-in-loop-i.ensures c.index.result.now c.index.ensures c.deref.result.now c.deref.ensures.value

pub returns-in-Some : goal.returns-in-Some
returns-in-Some c =
    let q = c.args.asked.now in
    let s = scenario_of q.scenario.now in
    let o = outline_of q.outline.now in
    let y = c.spot-item.result in
    is_misfit s o q.spots.now c.loop-i.i y c.loop-i-test.true c.spot-item.is (sends_rise q) c.in-Some.refusal c.loop-i.invariant.fit (subst (IsMisfit s o (place_of y)) c.in-Some.is c.review-misfit.ensures.misfit)

pub loop-i-preserved : goal.loop-i-preserved
loop-i-preserved c =
    let q = c.args.asked.now in
    let s = scenario_of q.scenario.now in
    let o = outline_of q.outline.now in
    let y = c.spot-item.result in
    record {
      fit = AllWithin-more (λ (p : Spot). FitsAt s o (place_of p)) q.spots.now 0 c.loop-i.i c.loop-i.invariant.fit
          (at_read q.spots.now (λ p. FitsAt s o (place_of p)) c.loop-i.i y c.loop-i-test.true c.spot-item.is (subst (IsMisfit s o (place_of y)) c.in_default.is c.review-misfit.ensures.misfit));
      known = c.in_ok-answer.ensures.known;
    }

pub returns : goal.returns
returns c k d small = c.loop-i.invariant.fit k d (omega arith) (omega arith)
