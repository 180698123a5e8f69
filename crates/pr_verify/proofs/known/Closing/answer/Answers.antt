use Rattle.pr_verify.proofs.Common.{◌<◌, length, get_or, sym, refl, ap, arith, asker_in}
use Rattle.pr_verify.specs.inside.Known.{IsOutcomeAt}
use Rattle.pr_verify.proofs.lemmas.Known.Recollection.{all_pushed, recalled, answer_is, answered_at}
use Rattle.pr_verify.proofs.known.Closing.answer.Goals as goal

pub returns-in-Some-clause-answer : goal.returns-in-Some-clause-answer
returns-in-Some-clause-answer c =
    let v = c.args.self.now.closed in
    recalled (asker_in c.args.asked.now v) c.args.place c.args.self.now.answers.items c.in-Some.number (λ i there. (v, refl)) c.requires.answers c.in-Some.ensures

pub returns-clause-answers : goal.returns-clause-answers
returns-clause-answers c =
    let q = c.args.asked.now in
    let a = asker_in q c.args.self.now.closed in
    let read = get_or q.spots.now c.args.place in
    all_pushed (λ x. (x.spot < length q.spots.now) × IsOutcomeAt a x.spot x.outcomes.items) c.args.self.now.answers.items c.push.new.self.items _ c.in_ok-push.ensures.items c.requires.answers
    (answer_is a c.args.place (read c.index-asked-place.result) c.args.self.now.closed (record { spot = c.args.place; outcomes = c.in_ok-outcomes.outcomes }) c.requires.there (ap read c.index-asked-place.is) (λ w sees. sym sees) refl
    c.in_ok-outcomes.ensures.alike c.deref.result.now c.deref.ensures.value c.refusals_in-refusals.result c.refusals_in-refusals.ensures c.in_ok-outcomes.ensures.outcomes)

pub returns-clause-answer : goal.returns-clause-answer
returns-clause-answer c =
    let q = c.args.asked.now in
    let read = get_or q.spots.now c.args.place in
    answered_at (asker_in q c.args.self.now.closed) c.args.place (read c.index-asked-place.result) c.args.self.now.closed
    (record { spot = c.args.place; outcomes = c.in_ok-outcomes.outcomes }) c.requires.there (ap read c.index-asked-place.is) (λ w sees. sym sees) refl
    c.in_ok-outcomes.ensures.alike c.deref.result.now c.deref.ensures.value c.refusals_in-refusals.result c.refusals_in-refusals.ensures c.in_ok-outcomes.ensures.outcomes
    c.args.self.now.answers.items c.push.new.self.items c.len-number.result c.in_ok-push.ensures.items (omega (arith, c.len-number.ensures))
