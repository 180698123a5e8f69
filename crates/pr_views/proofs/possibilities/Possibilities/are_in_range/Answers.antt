use Rattle.pr_views.proofs.Common.{sym, ◌∙◌, false≢true}
use Rattle.pr_views.proofs.lemmas.Rooms.Ranges.{in_range, registrations_below, reservations_below}
use Rattle.pr_views.proofs.possibilities.Possibilities.are_in_range.Goals.{then-are_below, else-are_below}
use Rattle.pr_views.proofs.possibilities.Possibilities.are_in_range.Goals as goal

pub returns-then-is_wide_below : goal.returns-then-is_wide_below
returns-then-is_wide_below c =
    elim c.if-are_below.branch [
      | then-are_below w ↦ (
        λ yes. in_range c.args.hosts c.args.keys.now c.args.self.now c.count_of_registrations.result w.count_of_reservations.result c.count_of_registrations.ensures w.count_of_reservations.ensures
            (c.are_below.ensures.0 w.if-are_below.true) (w.is_wide_below.ensures.0 (sym w.value-is ∙ c.if-is_wide_below.true)) (c.is_below.ensures.0 yes),
        λ fits. c.is_below.ensures.1 fits.pending,
      )
      | else-are_below w ↦ absurd (false≢true (sym w.if-are_below.false ∙ sym w.value-is ∙ c.if-is_wide_below.true))
    ]

pub returns-else-is_wide_below : goal.returns-else-is_wide_below
returns-else-is_wide_below c = (
  λ yes. absurd (false≢true (sym c.if-is_wide_below.false ∙ yes)),
  λ fits. elim c.if-are_below.branch [
    | then-are_below w ↦ w.value-is ∙ w.is_wide_below.ensures.1 (reservations_below c.args.hosts c.args.keys.now c.args.self.now w.count_of_reservations.result w.count_of_reservations.ensures fits)
    | else-are_below w ↦ absurd (false≢true (sym w.if-are_below.false ∙ c.are_below.ensures.1 (registrations_below c.args.hosts c.args.keys.now c.args.self.now c.count_of_registrations.result c.count_of_registrations.ensures fits)))
  ],
)
