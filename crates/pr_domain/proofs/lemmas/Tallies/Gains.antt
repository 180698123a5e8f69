-- What a tally has once more is added.
use Rattle.pr_domain.proofs.Common.{◌≡◌, ℕ, ◌<◌, true, false, ◌&&◌, ◌||◌, ◌≢◌, ◌⊎◌, List, length, ◌==◌, slice_get, slice_set, Some, sym, refl, ap, ◌∙◌, subst, inl, inr, option_map_or, eqb_tells, has_wide, has_at, Item, Registration, Reservation, Attentions, Possibilities, has_part, has_tallied}
use Rattle.std.proofs.Math.Bool.{or-false}
use Rattle.pr_views.proofs.lemmas.Rooms.Places.{holds_at_written, holds_at_kept}

pub way_added : (ways : List Possibilities) (way : ℕ) (old joined found : Possibilities) → way < length ways → slice_get ways way ≡ Some old
    → ((g r : ℕ) → has_at joined.registrations g r ≡ (has_at old.registrations g r || has_at found.registrations g r))
    → ((x : ℕ) → has_wide joined.reservations x ≡ (has_wide old.reservations x || has_wide found.reservations x))
    → (w : ℕ) (i : Item) → has_tallied (record { ways = slice_set ways way joined }) w i ≡ (has_tallied (record { ways = ways }) w i || (w == way && has_part found i))
way_added ways way old joined found there is registrations reservations w i = at (eqb_tells w way)
  where
    parts : (i : Item) → has_part joined i ≡ (has_part old i || has_part found i)
    parts (Registration g r) = registrations g r
    parts (Reservation x) = reservations x
    parts (Attentions q) = refl

    at : (((w == way) ≡ true) × (w ≡ way)) ⊎ (((w == way) ≡ false) × (w ≢ way))
        → has_tallied (record { ways = slice_set ways way joined }) w i ≡ (has_tallied (record { ways = ways }) w i || (w == way && has_part found i))
    at (inl same) =
        subst (λ n. has_tallied (record { ways = slice_set ways way joined }) n i ≡ (has_tallied (record { ways = ways }) n i || (w == way && has_part found i))) (sym same.1)
        (subst (λ b. has_tallied (record { ways = slice_set ways way joined }) way i ≡ (has_tallied (record { ways = ways }) way i || (b && has_part found i))) (sym same.0)
        (holds_at_written (λ p. has_part p i) ways way joined there ∙ parts i
        ∙ ap (λ o. option_map_or (λ p. has_part p i) o false || has_part found i) (sym is)))
    at (inr other) =
        holds_at_kept (λ p. has_part p i) ways way w joined other.1 ∙ sym (or-false (has_tallied (record { ways = ways }) w i))
        ∙ ap (λ b. has_tallied (record { ways = ways }) w i || (b && has_part found i)) (sym other.0)
