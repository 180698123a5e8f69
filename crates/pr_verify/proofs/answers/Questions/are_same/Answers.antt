use Rattle.pr_verify.proofs.Common.{sym, ◌∙◌, rules, asker_of, same_view}
use Rattle.pr_verify.proofs.lemmas.Known.Questions.{kind_at, only_view}
use Rattle.pr_verify.proofs.lemmas.Known.Recollection.{same_question}
use Rattle.pr_verify.proofs.answers.Questions.are_same.Goals as goal

pub within-requires : goal.within-requires
within-requires c =
    let kind = kind_at c.args.self.now in
    let one = kind c.args.place c.requires.place c.index.result.now c.index.ensures in
    let two = kind c.args.other c.requires.other c.index-2.result.now c.index-2.ensures in
    (search rules, record { keys = one.0 ∙ sym two.0; hosts = one.1 ∙ sym two.1 })

pub within-requires-then-within : goal.within-requires-then-within
within-requires-then-within c =
    let kind = kind_at c.args.self.now in
    let one = kind c.args.place c.requires.place c.index.result.now c.index.ensures in
    let two = kind c.args.other c.requires.other c.index-2.result.now c.index-2.ensures in
    (search rules, record { keys = two.0 ∙ sym one.0; hosts = two.1 ∙ sym one.1 })

pub returns-then-within : goal.returns-then-within
returns-then-within c is =
    let kind = kind_at c.args.self.now in
    let one = kind c.args.place c.requires.place c.index.result.now c.index.ensures in
    let two = kind c.args.other c.requires.other c.index-2.result.now c.index-2.ensures in
    let e = c.index.result.now in
    let d = c.index-2.result.now in
    same_question (asker_of c.args.self.now) c.args.place c.args.other c.index-self-place.result c.index-self-other.result e.1 d.1 c.requires.place c.requires.other c.index-self-place.is c.index-self-other.is
    (search rules) (only_view c.args.self.now c.args.place c.requires.place e c.index.ensures) (only_view c.args.self.now c.args.other c.requires.other d c.index-2.ensures)
    (λ own. same_view own e.1 d.1 (one.0 ∙ sym two.0) (one.1 ∙ sym two.1) (c.within.ensures.0 c.if-within.true own) (c.within-then-within.ensures.0 is own))
