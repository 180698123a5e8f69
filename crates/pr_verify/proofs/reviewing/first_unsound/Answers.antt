use Rattle.pr_verify.proofs.Common.{◌+◌, List, map, sym, ap, ◌∙◌, subst, arith, script_of, slice_get_within, scenario_of, ComesTo, IsAsked, outline_of, Spot, asker_of, AreAnswers, HasAll, Lacks, IsFirstLacking, HasView, LacksView, lines_after, least, IsLeastAmong, place_of}
use Rattle.pr_verify.specs.inside.Asked.{scenario_in, outline_in, view_in}
use Rattle.pr_verify.proofs.lemmas.Least.FirstLines.{IsLeastSoFar, least_more, least_of_all}
use Rattle.pr_verify.proofs.lemmas.Reviewing.Starts.{each_compared}
use Rattle.pr_verify.proofs.lemmas.Rooms.MappedLists.{element}
use Rattle.pr_verify.proofs.lemmas.Known.Questions.{has_view, kind_read, answered_here}
use Rattle.pr_verify.proofs.lemmas.Reviewing.Findings.{lacking}
use Rattle.pr_verify.proofs.lemmas.Reviewing.OwnCommands.{lacks_by_send}
use Rattle.pr_verify.proofs.reviewing.first_unsound.Goals as goal

pub loop-i-init : goal.loop-i-init
loop-i-init c =
    let q = c.args.asked.now in
    record {
      own = λ line k d low small. absurd (omega arith);
      known = subst (AreAnswers (asker_of q)) (sym c.new-known.ensures.items) (λ k d small. absurd (omega arith));
    }

pub index-requires : goal.index-requires
index-requires c =
    let there = slice_get_within c.answer.new.known.items c.in_ok-answer.answer c.in_ok-answer.ensures.answer.0 c.in_ok-answer.ensures.answer.1 in
    omega arith

pub lacking_after-requires : goal.lacking_after-requires
lacking_after-requires c =
    let q = c.args.asked.now in
    let n = c.loop-i.i in
    let x = element q.outline.now.views.items n (has_view q n c.loop-i-test.true) in
    let y = c.spot-item.result in
    let known = c.answer.new.known.items in
    let k = c.in_ok-answer.answer in
    let a = c.index.result.now in
    let xs = c.deref-in-loop-i.result.now in
    let is = answered_here q n c.loop-i-test.true known k c.in_ok-answer.ensures.answer y x.0 c.spot-item.is (sym x.1) a c.index.ensures xs c.deref-in-loop-i.ensures.value in
    let kind = kind_read q n c.loop-i-test.true known k c.in_ok-answer.ensures.answer y x.0 c.spot-item.is (sym x.1) a c.index.ensures xs c.deref-in-loop-i.ensures.value in
    each_compared (scenario_in q) q.outline.now x.0.1 xs q.made is.view kind

pub loop-i-preserved : goal.loop-i-preserved
loop-i-preserved c =
    let q = c.args.asked.now in
    let s = scenario_in q in
    let out = q.outline.now in
    let o = outline_in q in
    let n = c.loop-i.i in
    let x = element out.views.items n (has_view q n c.loop-i-test.true) in
    let y = c.spot-item.result in
    let known = c.answer.new.known.items in
    let k = c.in_ok-answer.answer in
    let a = c.index.result.now in
    let xs = c.deref-in-loop-i.result.now in
    let is = answered_here q n c.loop-i-test.true known k c.in_ok-answer.ensures.answer y x.0 c.spot-item.is (sym x.1) a c.index.ensures xs c.deref-in-loop-i.ensures.value in
    let kind = kind_read q n c.loop-i-test.true known k c.in_ok-answer.ensures.answer y x.0 c.spot-item.is (sym x.1) a c.index.ensures xs c.deref-in-loop-i.ensures.value in
    let least =
    subst (λ (next : List _). IsLeastAmong xs (λ z. HasView o (lines_after (map (λ lines. lines.items) next) z.0) (view_in q z.1)) (λ z. LacksView o (lines_after (map (λ lines. lines.items) next) z.0) (view_in q z.1)) c.lacking_after.result)
    c.deref-in-loop-i-2.ensures.value c.lacking_after.ensures in
    let lacking = lacks_by_send s out (place_of y) x.0.1 xs c.lacking_after.result q.declared q.made is.view is.here kind is.outcomes least in
    record {
      own = subst (IsLeastSoFar (λ (p : Spot). HasAll o (ComesTo s o (place_of p))) (λ p. Lacks o (ComesTo s o (place_of p))) q.spots.now (n + 1)) (sym c.least-own.ensures)
          (least_more (λ (p : Spot). HasAll o (ComesTo s o (place_of p))) (λ p. Lacks o (ComesTo s o (place_of p))) q.spots.now n y c.loop-i.own c.lacking_after.result c.loop-i-test.true c.spot-item.is c.loop-i.invariant.own lacking);
      known = c.in_ok-answer.ensures.known;
    }

pub returns : goal.returns
returns c =
    let s = scenario_of c.args.asked.now.scenario.now in
    let script = script_of c.args.script.now in
    let o = outline_of c.args.asked.now.outline.now in
    let others = c.in_ok-others.others in
    let own = least_of_all (λ (p : Spot). HasAll o (ComesTo s o (place_of p))) (λ p. Lacks o (ComesTo s o (place_of p))) c.args.asked.now.spots.now c.loop-i.i c.loop-i.own c.loop-i-test.false c.loop-i.invariant.own in
    let start = c.in_ok-start.ensures script (sym (c.deref.ensures.value ∙ c.in_ok-firsts.ensures)) in
    subst (IsFirstLacking o (IsAsked s script o)) (ap (λ l. least l others) (sym c.least.ensures) ∙ sym c.least-2.ensures)
    (lacking s script o c.args.asked.now.spots.now c.requires.places c.in_ok-start.start c.loop-i.own others start own c.in_ok-others.ensures)
