use Rattle.pr_regions.proofs.Common.{◌≡◌, ℕ, ◌+◌, ◌<◌, false, sym, ◌∙◌, subst, arith, false≢true, has, Scope, IsSo, Registration, has_wide, Possibilities, Item, Reservation, Attentions, count_of_reservations, IsPossible, Shows, has_at, view_in, Adds, IsShownBelow, IsShownSo}
use Rattle.pr_regions.proofs.lemmas.Showing.ShownStates.{adds_place, below_more, below_skips, is_kept, is_place, none_uniform, keys_uniform}
use Rattle.pr_regions.proofs.keeping.kept.Goals.{then-has, else-has}
use Rattle.pr_regions.proofs.keeping.kept.Goals as goal

pub loop-reservation-preserved : goal.loop-reservation-preserved
loop-reservation-preserved c s same fits =
    let view = c.args.view.now in
    let n = c.loop-reservation.reservation in
    let none = c.none-kept.result in
    elim c.if-has.branch [
      | then-has w ↦
          let place = w.of-place.result in
          let here = is_place s view place c.args.hosts n same fits (sym c.has.ensures ∙ w.if-has.true) w.of-place.ensures.hosts w.of-place.ensures.reservation in
          let added = adds_place s view c.loop-reservation.kept w.add_kept.new.kept w.add_kept-then-has.new.kept place w.only.result w.every_key.result here w.only.ensures w.every_key.ensures.keys
          (w.add_kept.ensures s here (none_uniform w.only.result w.only.ensures)) (w.add_kept-then-has.ensures s here (keys_uniform w.every_key.result w.every_key.ensures.none)) in
          subst (λ p. Adds s none p (λ _ u. IsShownBelow (n + 1) (view_in s view) u) (IsShownSo (view_in s view))) (sym w.kept-is)
          (below_more s view none c.loop-reservation.kept w.add_kept-then-has.new.kept n (c.loop-reservation.invariant s same fits)
          (subst (λ x. Adds s c.loop-reservation.kept w.add_kept-then-has.new.kept (λ _ u. Shows (view_in s view) u × IsSo s u (Reservation x)) (IsShownSo (view_in s view))) w.of-place.ensures.reservation added))
      | else-has w ↦ subst (λ p. Adds s none p (λ _ u. IsShownBelow (n + 1) (view_in s view) u) (IsShownSo (view_in s view))) (sym w.kept-is)
          (below_skips s view none c.loop-reservation.kept n (sym c.has.ensures ∙ w.if-has.false) (c.loop-reservation.invariant s same fits))
    ]

nothing : (s : Scope) (p : Possibilities) → ((g r : ℕ) → has_at p.registrations g r ≡ false) → ((x : ℕ) → has_wide p.reservations x ≡ false) → ((q : ℕ) → has p.pending q ≡ false) → (i : Item)
    → IsPossible (view_in s p) i → ⊥
nothing s p no_registration no_reservation no_pending (Registration g r) is = false≢true (sym (no_registration g r) ∙ is.1)
nothing s p no_registration no_reservation no_pending (Reservation x) is = false≢true (sym (no_reservation x) ∙ is)
nothing s p no_registration no_reservation no_pending (Attentions q) is = false≢true (sym (no_pending q) ∙ is)

pub returns : goal.returns
returns c s same fits =
    let none = c.none-kept in
    let whole : c.loop-reservation.reservation ≡ count_of_reservations s.hosts = omega arith in
    is_kept s c.args.view.now none.result c.loop-reservation.kept c.loop-reservation.reservation fits
    (nothing s none.result none.ensures.registrations none.ensures.reservations none.ensures.pending)
    (λ x is. subst (λ n. x < n) (sym whole) (fits.reservations x is)) (c.loop-reservation.invariant s same fits)
