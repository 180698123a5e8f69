use Rattle.pr_views.proofs.Common.{sym, ◌∙◌, false≢true}
use Rattle.pr_views.specs.Rooms.{view_of}
use Rattle.pr_views.proofs.lemmas.Views.Values.{contains_no, nothing_possible, no_registrations, no_reservations, no_attentions}
use Rattle.pr_views.proofs.view.ViewOf.is_empty.Goals.{then-are_empty, else-are_empty}
use Rattle.pr_views.proofs.view.ViewOf.is_empty.Goals as goal

pub returns-then-is_empty : goal.returns-then-is_empty
returns-then-is_empty g c =
    elim c.if-are_empty.branch [
      | then-are_empty w ↦ (
        λ yes own. nothing_possible (view_of own c.args.self.now) (c.are_empty.ensures.0 w.if-are_empty.true) (contains_no _ (w.is_empty.ensures.0 (sym w.value-is ∙ c.if-is_empty.true)))
            (contains_no _ (c.is_empty-then-is_empty.ensures.0 yes)),
        λ none. c.is_empty-then-is_empty.ensures.1 (no_attentions c.args.self.now none),
      )
      | else-are_empty w ↦ absurd (false≢true (sym w.if-are_empty.false ∙ sym w.value-is ∙ c.if-is_empty.true))
    ]

pub returns-else-is_empty : goal.returns-else-is_empty
returns-else-is_empty g c = (
  λ yes. absurd (false≢true (sym c.if-is_empty.false ∙ yes)),
  λ none. elim c.if-are_empty.branch [
    | then-are_empty w ↦ w.value-is ∙ w.is_empty.ensures.1 (no_reservations c.args.self.now none)
    | else-are_empty w ↦ absurd (false≢true (sym w.if-are_empty.false ∙ c.are_empty.ensures.1 (no_registrations c.args.self.now none)))
  ],
)
