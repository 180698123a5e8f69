use Rattle.pr_views.proofs.Common.{◌+◌, length, sym, ap, ◌∙◌, arith, rules, false≢true}
use Rattle.pr_views.proofs.lemmas.Views.Values.{view_within, registrations_within, reservations_within, attentions_within}
use Rattle.pr_views.proofs.view.ViewOf.within.Goals.{then-are_within, else-are_within}
use Rattle.pr_views.proofs.view.ViewOf.within.Goals as goal

pub are_within-requires : goal.are_within-requires
are_within-requires g c =
    (search rules, (omega arith, λ k d small also. c.args.other.now.room_of_registrations k d also ∙ ap (λ keys. length keys + 1) (sym c.requires.alike.keys) ∙ sym (c.args.self.now.room_of_registrations k d small)))

pub returns-then-within : goal.returns-then-within
returns-then-within g c =
    elim c.if-are_within.branch [
      | then-are_within w ↦ (
        λ yes. view_within c.args.self.now c.args.other.now c.requires.alike.hosts (c.are_within.ensures.0 w.if-are_within.true)
            (w.within.ensures.0 (sym w.value-is ∙ c.if-within.true)) (c.within-then-within.ensures.0 yes),
        λ all. c.within-then-within.ensures.1 (attentions_within c.args.self.now c.args.other.now all),
      )
      | else-are_within w ↦ absurd (false≢true (sym w.if-are_within.false ∙ sym w.value-is ∙ c.if-within.true))
    ]

pub returns-else-within : goal.returns-else-within
returns-else-within g c = (
  λ yes. absurd (false≢true (sym c.if-within.false ∙ yes)),
  λ all. elim c.if-are_within.branch [
    | then-are_within w ↦ w.value-is ∙ w.within.ensures.1 (reservations_within c.args.self.now c.args.other.now all)
    | else-are_within w ↦ absurd (false≢true (sym w.if-are_within.false ∙ c.are_within.ensures.1 (registrations_within c.args.self.now c.args.other.now all)))
  ],
)
