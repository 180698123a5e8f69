use Rattle.pr_verify.proofs.Common.{◌<◌, length, get_or, sym, refl, ap, ◌∙◌, subst, slice_get_read, asker_in}
use Rattle.pr_verify.proofs.lemmas.Inferring.Sketches.{item_is}
use Rattle.pr_verify.proofs.lemmas.Known.Recollection.{same_question}
use Rattle.pr_verify.proofs.known.Closing.place_of.Goals as goal

pub returns-then-ask_the_same : goal.returns-then-ask_the_same
returns-then-ask_the_same c =
    let q = c.args.asked.now in
    let v = c.args.self.now.closed in
    let answers = c.args.self.now.answers.items in
    let same = c.deref-answer-items.ensures.value in
    let a = c.answer-item.result in
    let number = c.loop-number.number in
    let small = subst (λ xs. number < length xs) same c.loop-number-test.true in
    let read = c.answer-item.is ∙ ap (λ xs. get_or xs number a) same in (
      a,
      slice_get_read answers (length answers) number a refl small read,
      same_question (asker_in q v) a.spot c.args.place (get_or q.spots.now a.spot c.index-asked-answer.result) (get_or q.spots.now c.args.place c.index-asked-place.result) v v
          (item_is (λ b. b.spot < length q.spots.now) answers number a c.requires.named small read) c.requires.there
          (ap (get_or q.spots.now a.spot) c.index-asked-answer.is) (ap (get_or q.spots.now c.args.place) c.index-asked-place.is)
          (record { command = c.ask_the_same.ensures.command c.if-ask_the_same.true; tests = c.ask_the_same.ensures.tests c.if-ask_the_same.true }) (λ w sees. sym sees) (λ w sees. sym sees) (λ own. refl),
    )
