-- What is so in the states that a view shows, reservation by reservation.
use Rattle.pr_regions.proofs.Common.{◌≡◌, ◌≢◌, ℕ, zero, suc, ◌+◌, ◌<◌, ◌≤◌, Bool, true, false, ◌==◌, if◌then◌else◌, List, Option, Some, None, option_map, sym, ◌∙◌, subst, inl, inr, ◌⊎◌, arith, false≢true, eqb_tells, Held, One, All, UnitState, BitSet, has, Scope, Registration, IsSo, HasSomebody, MOST_KEYS, eq-eqb, refl, has_wide, Possibilities, Item, Reservation, Attentions, IsPossible, Shows, has_at, view_in, one_registration, Region, filter_of, IsUntestedOrRegistered, Place, Adds, IsShownSo, IsShownBelow}
use Rattle.std.proofs.lemmas.Bool.{eqb-true}
use Rattle.pr_sets.specs.declared.wide.Wide.{Wide}
use Rattle.pr_views.specs.Views.{Fits}
use Rattle.pr_views.proofs.lemmas.Possibilities.Numbers.{one_reservation, one_attentions}
use Rattle.pr_regions.specs.Gathering.{IsPlace, IsUniform, IsProper, IsAt, IsGathered}
use Rattle.pr_regions.specs.inside.Adding.{Allows}
use Rattle.pr_regions.specs.Keeping.{IsKept}
use Rattle.pr_regions.specs.inside.Showing.{IsShownAt, IsShown}
use Rattle.pr_regions.proofs.lemmas.Keeping.Additions.{grown, adds_both, adds_nothing, IsJoined, joined_old, joined_other, joined_either}
use Rattle.pr_regions.proofs.lemmas.Portions.GatheredStates.{few_keys}

-- ---- the region of every state

pub record IsEverything (region : Region) : Type 0 where
  pub holder : (r : ℕ) → r ≤ MOST_KEYS → has region.holder r ≡ true
  pub others : (r : ℕ) → r ≤ MOST_KEYS → has region.others r ≡ true
  pub somebody : region.somebody ≡ None

pub everything_proper : (region : Region) → IsEverything region → IsProper region
everything_proper region all = subst IsUntestedOrRegistered (sym all.somebody) tt

passing : (region : Region) (held : Option Held) (g r : ℕ) → IsEverything region → r ≤ MOST_KEYS → has (filter_of region held g) r ≡ true
passing region None g r all few = all.others r few
passing region (Some (One kind h)) g r all few = at (h == g)
  where
    at : (b : Bool) → has (if b then region.holder else region.others) r ≡ true
    at true = all.holder r few
    at false = all.others r few
passing region (Some (All kind)) g r all few = all.others r few

pub at_everything : (s : Scope) (view : Possibilities) (place : Place) (senders : BitSet) (region : Region) (u : UnitState) → IsPlace s view place → IsEverything region
    → IsShownAt (view_in s view) place senders u → IsAt (view_in s view) place senders region u
at_everything s view place senders region u is all at = record {
  shown = at.shown;
  reservation = at.reservation;
  sender = at.sender;
  inside = record {
    registrations = λ g r other so. passing region u.registry.held g r all (let few = few_keys s.keys is.fits.scope.keys in let small = so.1 in omega arith);
    somebody = subst (λ t. HasSomebody s u place.sender (option_map has t)) (sym all.somebody) tt;
  };
}

-- ---- what is gathered there

pub is_shown : (s : Scope) (view : Possibilities) (place : Place) (senders : BitSet) (region : Region) (words : List BitSet) (x : Wide) (q : ℕ) → IsPlace s view place → IsEverything region
    → IsGathered (view_in s view) place senders region words → has view.pending q ≡ true → ((n : ℕ) → has_wide x n ≡ (n == place.reservation))
    → (p : Possibilities) → p.registrations ≡ words → p.reservations ≡ x → p.pending ≡ view.pending → IsShown s view place senders p
is_shown s view place senders region words x q is everything gathered some only_x p are_words is_x is_pending = record { all = allows; only = only }
  where
    all : (u : UnitState) → IsShownAt (view_in s view) place senders u → (i : Item) → IsSo s u i → IsPossible (view_in s p) i
    all u at (Registration g r) so =
        (so.0, subst (λ w. has_at w g r ≡ true) (sym are_words) (gathered.all u g r (at_everything s view place senders region u is everything at) so))
    all u at (Reservation n) so =
        subst (λ w. has_wide w n ≡ true) (sym is_x) (only_x n ∙ subst (λ m. (n == m) ≡ true) (one_reservation s u n place.reservation so at.reservation) (eq-eqb n n refl))
    all u at (Attentions n) so =
        let seen = at.shown.pending in
        subst (λ w. has w n ≡ true) (sym is_pending) (subst (λ m. has view.pending m ≡ true) (one_attentions s u seen.0 n seen.1.1 so) seen.1.0)

    allows : (u : UnitState) → IsShownAt (view_in s view) place senders u → Allows s p u
    allows u at = record {
      items = all u at;
      numbered = λ g there. let seen = at.shown.registrations g there in (seen.0, seen.1.1);
      pending = (at.shown.pending.0, at.shown.pending.1.1);
    }

    only : (i : Item) → IsPossible (view_in s p) i → IsShownSo (view_in s view) i
    only (Registration g r) got =
        let met = gathered.only g r q got.0 (subst (λ w. has_at w g r ≡ true) are_words got.1) some in
        record { unit = met.unit; shown = met.at.shown; is = met.is }
    only (Reservation n) got =
        let met = gathered.some q some in
        let same = eqb-true n place.reservation (sym (only_x n) ∙ subst (λ w. has_wide w n ≡ true) is_x got) in
        record { unit = met.unit; shown = met.at.shown; is = subst (λ m. IsSo s met.unit (Reservation m)) (sym same) met.at.reservation }
    only (Attentions n) got =
        let met = gathered.some n (subst (λ w. has w n ≡ true) is_pending got) in
        record { unit = met.unit; shown = met.at.shown; is = met.pending }

pub adds_shown : (s : Scope) (view old shown new : Possibilities) (place : Place) (senders : BitSet) → IsShown s view place senders shown → IsJoined old shown new
    → Adds s old new (λ _ u. IsShownAt (view_in s view) place senders u) (IsShownSo (view_in s view))
adds_shown s view old shown new place senders is joined = record {
  kept = λ i had. joined_old s old shown new i joined had;
  all = λ _ u at. grown s shown new u (λ i so. joined_other s old shown new i joined so) (is.all u at);
  only = λ i got. only i (joined_either s old shown new i joined got);
}
  where
    only : (i : Item) → IsPossible (view_in s old) i ⊎ IsPossible (view_in s shown) i → IsPossible (view_in s old) i ⊎ IsShownSo (view_in s view) i
    only i (inl had) = inl had
    only i (inr got) = inr (is.only i got)

-- ---- one reservation after another

-- under one reservation the sender is registered or not
pub adds_place : (s : Scope) (view a b c : Possibilities) (place : Place) (none keys : BitSet) → IsPlace s view place → ((r : ℕ) → has none r ≡ (r == 0)) → ((r : ℕ) → 1 ≤ r → r ≤ MOST_KEYS → has keys r ≡ true)
    → Adds s a b (λ _ u. IsShownAt (view_in s view) place none u) (IsShownSo (view_in s view)) → Adds s b c (λ _ u. IsShownAt (view_in s view) place keys u) (IsShownSo (view_in s view))
    → Adds s a c (λ _ u. Shows (view_in s view) u × IsSo s u (Reservation place.reservation)) (IsShownSo (view_in s view))
adds_place s view a b c place none keys is is_none are_keys first second =
    adds_both s a b c (λ _ u. IsShownAt (view_in s view) place none u) (λ _ u. IsShownAt (view_in s view) place keys u) (λ _ u. Shows (view_in s view) u × IsSo s u (Reservation place.reservation))
    (IsShownSo (view_in s view)) (IsShownSo (view_in s view)) (IsShownSo (view_in s view)) first second (λ _ u led. split u led.0 led.1) (λ i left. left) (λ i left. left)
  where
    split : (u : UnitState) → Shows (view_in s view) u → IsSo s u (Reservation place.reservation) → IsShownAt (view_in s view) place none u ⊎ IsShownAt (view_in s view) place keys u
    split u shown reserved = at seen.0 seen.1
      where
        below : place.sender < s.hosts
        below = subst (λ n. place.sender < n) (sym is.hosts) place.there

        seen : (r : ℕ) × IsSo s u (Registration place.sender r)
        seen = let there = shown.registrations place.sender below in (there.0, there.1.1)

        at : (r : ℕ) → IsSo s u (Registration place.sender r) → IsShownAt (view_in s view) place none u ⊎ IsShownAt (view_in s view) place keys u
        at zero so = inl (record {
          shown = shown;
          reservation = reserved;
          sender = λ r it. subst (λ n. has none n ≡ true) (one_registration s u place.sender 0 r is.fits.scope so it) (is_none 0);
        })
        at (suc i) so = inr (record {
          shown = shown;
          reservation = reserved;
          sender = λ r it. subst (λ n. has keys n ≡ true) (one_registration s u place.sender (suc i) r is.fits.scope so it)
              (are_keys (suc i) (omega arith) (let few = few_keys s.keys is.fits.scope.keys in let small = so.1 in omega arith));
        })

pub below_more : (s : Scope) (view a b c : Possibilities) (n : ℕ) → Adds s a b (λ _ u. IsShownBelow n (view_in s view) u) (IsShownSo (view_in s view))
    → Adds s b c (λ _ u. Shows (view_in s view) u × IsSo s u (Reservation n)) (IsShownSo (view_in s view))
    → Adds s a c (λ _ u. IsShownBelow (n + 1) (view_in s view) u) (IsShownSo (view_in s view))
below_more s view a b c n before now =
    adds_both s a b c (λ _ u. IsShownBelow n (view_in s view) u) (λ _ u. Shows (view_in s view) u × IsSo s u (Reservation n)) (λ _ u. IsShownBelow (n + 1) (view_in s view) u)
    (IsShownSo (view_in s view)) (IsShownSo (view_in s view)) (IsShownSo (view_in s view)) before now (λ _ u led. split u led (eqb_tells led.reservation n)) (λ i left. left) (λ i left. left)
  where
    split : (u : UnitState) → (led : IsShownBelow (n + 1) (view_in s view) u) → (((led.reservation == n) ≡ true) × (led.reservation ≡ n)) ⊎ (((led.reservation == n) ≡ false) × (led.reservation ≢ n))
        → IsShownBelow n (view_in s view) u ⊎ (Shows (view_in s view) u × IsSo s u (Reservation n))
    split u led (inl same) = inr (led.shown, subst (λ x. IsSo s u (Reservation x)) same.1 led.is)
    split u led (inr other) = inl (record { shown = led.shown; reservation = led.reservation; below = (let below = led.below in let differs = other.1 in omega arith); is = led.is })

pub below_skips : (s : Scope) (view a b : Possibilities) (n : ℕ) → has_wide view.reservations n ≡ false → Adds s a b (λ _ u. IsShownBelow n (view_in s view) u) (IsShownSo (view_in s view))
    → Adds s a b (λ _ u. IsShownBelow (n + 1) (view_in s view) u) (IsShownSo (view_in s view))
below_skips s view a b n missing before =
    below_more s view a b b n before (adds_nothing s b (λ _ u. Shows (view_in s view) u × IsSo s u (Reservation n)) (IsShownSo (view_in s view)) (λ _ u led. none u led.0 led.1))
  where
    none : (u : UnitState) → Shows (view_in s view) u → IsSo s u (Reservation n) → ⊥
    none u shown so =
        let seen = shown.reservation in
        false≢true (sym missing ∙ subst (λ x. has_wide view.reservations x ≡ true) (one_reservation s u seen.0 n seen.1.1 so) seen.1.0)

pub is_kept : (s : Scope) (view none kept : Possibilities) (n : ℕ) → Fits (view_in s view) → ((i : Item) → IsPossible (view_in s none) i → ⊥) → ((x : ℕ) → has_wide view.reservations x ≡ true → x < n)
    → Adds s none kept (λ _ u. IsShownBelow n (view_in s view) u) (IsShownSo (view_in s view)) → IsKept (view_in s view) (view_in s kept)
is_kept s view none kept n fits nothing below adds = record {
  all = λ u i shown so.
      let seen = shown.reservation in
      (adds.all u u (record { shown = shown; reservation = seen.0; below = below seen.0 seen.1.0; is = seen.1.1 })).items i so;
  only = λ i got. only i (adds.only i got);
}
  where
    only : (i : Item) → IsPossible (view_in s none) i ⊎ IsShownSo (view_in s view) i → IsShownSo (view_in s view) i
    only i (inl had) = absurd (nothing i had)
    only i (inr left) = left

-- ---- the place of a reservation

pub is_place : (s : Scope) (view : Possibilities) (place : Place) (hosts reservation : ℕ) → s.hosts ≡ hosts → Fits (view_in s view) → has_wide view.reservations reservation ≡ true
    → place.hosts ≡ hosts → place.reservation ≡ reservation → IsPlace s view place
is_place s view place hosts reservation same fits possible is_hosts is_it = record {
  hosts = same ∙ sym is_hosts;
  fits = fits;
  possible = subst (λ x. has_wide view.reservations x ≡ true) (sym is_it) possible;
}

pub none_uniform : (w : BitSet) → ((r : ℕ) → has w r ≡ (r == 0)) → IsUniform w
none_uniform w is none r got = eqb-true r 0 (sym (is r) ∙ got)

pub keys_uniform : (w : BitSet) → has w 0 ≡ false → IsUniform w
keys_uniform w missing none r got = absurd (false≢true (sym missing ∙ none))
