use Rattle.pr_verify.proofs.Common.{◌≡◌, ◌<◌, ◌≤◌, true, length, slice_index_or, All, sym, refl, ap, subst, arith, rules, asker_of, StandsAt, MOST_ARMS}
use Rattle.pr_script.specs.Grammar.{test_fits}
use Rattle.pr_verify.specs.inside.Known.{IsOutcomeAt, IsSameQuestion}
use Rattle.pr_verify.proofs.lemmas.Known.Recollection.{all_pushed, recalled, answer_is, answered_at}
use Rattle.pr_verify.proofs.lemmas.Known.Questions.{host_at, written_at, only_view, seen}
use Rattle.pr_verify.proofs.answers.Questions.answer.Goals as goal

pub returns-in-Some-clause-answer : goal.returns-in-Some-clause-answer
returns-in-Some-clause-answer c =
    let q = c.args.self.now in
    recalled (asker_of q) c.args.place c.args.known.now.items c.in-Some.number (seen q) c.requires.known
    (subst (λ known. StandsAt (λ x. IsSameQuestion (asker_of q) x.spot c.args.place) known c.in-Some.number) c.deref.ensures.value c.in-Some.ensures)

pub outcomes-requires : goal.outcomes-requires
outcomes-requires c =
    let q = c.args.self.now in
    let p = slice_index_or q.spots.now c.args.place c.index-self-place.result in
    let read = ap (slice_index_or q.spots.now c.args.place) c.index-self-place.is in
    let e = c.index.result.now in
    let is = written_at q c.args.place c.requires.there p e read c.index.ensures in
    let tests = subst (All (λ t. test_fits e.1.keys.items p.command t ≡ true)) (sym c.deref-2.ensures.value) is.tests in
    let few = subst (λ ts. length ts ≤ MOST_ARMS) (sym c.deref-2.ensures.value) is.few in
    (search rules, (host_at q c.args.place c.requires.there e c.index.ensures, (is.command, (tests, few))))

pub returns-clause-known : goal.returns-clause-known
returns-clause-known c =
    let q = c.args.self.now in
    let e = c.index.result.now in
    all_pushed (λ x. (x.spot < length q.spots.now) × IsOutcomeAt (asker_of q) x.spot x.outcomes.items) c.args.known.now.items c.push.new.self.items _ c.in_ok-push.ensures.items c.requires.known
    (answer_is (asker_of q) c.args.place (slice_index_or q.spots.now c.args.place c.index-self-place.result) e.1 (record { spot = c.args.place; outcomes = c.in_ok-outcomes.outcomes }) c.requires.there
    (ap (slice_index_or q.spots.now c.args.place) c.index-self-place.is) (only_view q c.args.place c.requires.there e c.index.ensures) refl
    c.in_ok-outcomes.ensures.alike c.deref-2.result.now c.deref-2.ensures.value c.refusals_in-refusals.result c.refusals_in-refusals.ensures c.in_ok-outcomes.ensures.outcomes)

pub returns-clause-answer : goal.returns-clause-answer
returns-clause-answer c =
    let q = c.args.self.now in
    let e = c.index.result.now in
    answered_at (asker_of q) c.args.place (slice_index_or q.spots.now c.args.place c.index-self-place.result) e.1 (record { spot = c.args.place; outcomes = c.in_ok-outcomes.outcomes }) c.requires.there
    (ap (slice_index_or q.spots.now c.args.place) c.index-self-place.is) (only_view q c.args.place c.requires.there e c.index.ensures) refl
    c.in_ok-outcomes.ensures.alike c.deref-2.result.now c.deref-2.ensures.value c.refusals_in-refusals.result c.refusals_in-refusals.ensures c.in_ok-outcomes.ensures.outcomes
    c.args.known.now.items c.push.new.self.items c.len-number.result c.in_ok-push.ensures.items (omega (arith, c.len-number.ensures))
