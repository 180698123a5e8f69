-- What a tally has once the states of one region are added.
use Rattle.pr_domain.proofs.Common.{◌≡◌, ℕ, zero, suc, ◌<◌, ◌≤◌, true, false, ◌&&◌, ◌||◌, ◌≢◌, ◌⊎◌, List, is_some, if◌then◌else◌, ◌==◌, Some, None, Option, sym, refl, ap, ◌∙◌, subst, inl, inr, false≢true, cases_lt, and_parts, or_cases, and_from, or_left, or_right, eqb_tells, has_wide, has, BitSet, Command, Sense, command_conflicts, command_fault, good, data_of, UnitState, effect, Test, has_at, view_in, Scope, Item, Registration, Reservation, Attentions, IsSo, View, Shows, Possibilities, one_registration, IsPlace, IsAt, first_test, Place, Branch, Region, Transition, Tally, IsRegistered, has_part, has_tallied, arm_of, Leaves, IsFound, Grows, IsRight, eq-eqb, eqb-true}
use Rattle.std.proofs.Common.{unwrap_or}
use Rattle.std.proofs.Math.Logic.{⊎_elim}
use Rattle.pr_regions.specs.declared.region.Ending.TheVariants as ending
use Rattle.pr_regions.specs.Regions.{Ends, Changes}
use Rattle.pr_regions.specs.Gathering.{IsGathered}
use Rattle.pr_regions.specs.Images.{IsImage, becomes, registration_left}

-- the possibilities are what is so, of registrations and reservation, after these states become others
pub record IsPart (v : View) (At : UnitState → Type 0) (after : UnitState → UnitState) (p : Possibilities) : Type 0 where
  pub all : (u : UnitState) (i : Item) → At u → IsRegistered v.scope (after u) i → has_part p i ≡ true
  pub only : (i : Item) (q : ℕ) → has_part p i ≡ true → v.pending q ≡ true
      → (u : UnitState) × At u × IsRegistered v.scope (after u) i × IsSo v.scope u (Attentions q)

-- what a tally has to which this was added
abbrev pub IsAdded : Tally → ℕ → Possibilities → Tally → Type 0
IsAdded old way p new = (w : ℕ) (i : Item) → has_tallied new w i ≡ (has_tallied old w i || (w == way && has_part p i))

added_cases : (old new : Tally) (way : ℕ) (p : Possibilities) → IsAdded old way p new → (w : ℕ) (i : Item) → has_tallied new w i ≡ true
    → (has_tallied old w i ≡ true) ⊎ ((w ≡ way) × (has_part p i ≡ true))
added_cases old new way p added w i has = at (or_cases (has_tallied old w i) (w == way && has_part p i) (sym (added w i) ∙ has))
  where
    at : (has_tallied old w i ≡ true) ⊎ ((w == way && has_part p i) ≡ true) → (has_tallied old w i ≡ true) ⊎ ((w ≡ way) × (has_part p i ≡ true))
    at (inl before) = inl before
    at (inr both) = let parts = and_parts (w == way) (has_part p i) both in inr (eqb-true w way parts.0, parts.1)

added_here : (old new : Tally) (way : ℕ) (p : Possibilities) → IsAdded old way p new → (i : Item) → has_part p i ≡ true → has_tallied new way i ≡ true
added_here old new way p added i has =
    let same = eq-eqb way way refl in
    added way i ∙ or_right (has_tallied old way i) (way == way && has_part p i) (and_from _ _ same has)

added_kept : (old new : Tally) (way : ℕ) (p : Possibilities) → IsAdded old way p new → (w : ℕ) (i : Item) → has_tallied old w i ≡ true → has_tallied new w i ≡ true
added_kept old new way p added w i has = added w i ∙ or_left (has_tallied old w i) (w == way && has_part p i) has

-- what was added of a way is what a state among these leaves that ends so
found_in : (v : View) (c : Command) (tests : List Test) (At : UnitState → Type 0) (move : UnitState → UnitState) (old new : Tally) (way : ℕ) (p : Possibilities)
    → ((u : UnitState) → At u → Shows v u) → IsPart v At move p → IsAdded old way p new
    → ((u : UnitState) (i : Item) → At u → IsRegistered v.scope (move u) i → Leaves v.scope c tests way u i)
    → (w : ℕ) (i : Item) (q : ℕ) → has_tallied new w i ≡ true → v.pending q ≡ true → (has_tallied old w i ≡ true) ⊎ IsFound v c tests At w i q
found_in v c tests At move old new way p shows is added leaves w i q has pending =
    at (added_cases old new way p added w i has)
  where
    at : (has_tallied old w i ≡ true) ⊎ ((w ≡ way) × (has_part p i ≡ true)) → (has_tallied old w i ≡ true) ⊎ IsFound v c tests At w i q
    at (inl before) = inl before
    at (inr here) = inr (
        let met = is.only i q here.1 pending in
        let leaving = subst (λ n. Leaves v.scope c tests n met.0 i) (sym here.0) (leaves met.0 i met.1 met.2) in
        record { unit = met.0; shown = shows met.0 met.1; among = met.1; leaves = leaving; pending = met.3 })

-- ---- a conflict

pub grows_conflict : (v : View) (c : Command) (tests : List Test) (At : UnitState → Type 0) (old new : Tally) (p : Possibilities)
    → ((u : UnitState) → At u → Shows v u) → ((u : UnitState) → At u → command_conflicts u.registry v.scope.own c ≡ true)
    → IsPart v At (λ u. u) p → IsAdded old 0 p new → Grows v c tests old new At
grows_conflict v c tests At old new p shows conflicts is added = record {
  kept = added_kept old new 0 p added;
  all = all;
  only = found_in v c tests At (λ u. u) old new 0 p shows is added (λ u i at so. (conflicts u at, so));
}
  where
    all : (u : UnitState) (way : ℕ) (i : Item) → Shows v u → At u → Leaves v.scope c tests way u i → has_tallied new way i ≡ true
    all u zero i shown at leaves = added_here old new 0 p added i (is.all u i at leaves.1)
    all u (suc zero) i shown at leaves = absurd (false≢true (sym leaves.0 ∙ conflicts u at))
    all u (suc (suc zero)) i shown at leaves = absurd (false≢true (sym leaves.0 ∙ conflicts u at))
    all u (suc (suc (suc n))) i shown at leaves = absurd (false≢true (sym leaves.0 ∙ conflicts u at))

-- ---- a fault

pub grows_fault : (v : View) (c : Command) (tests : List Test) (sense : Sense) (At : UnitState → Type 0) (old mid new : Tally) (p : Possibilities)
    → ((u : UnitState) → At u → Shows v u)
    → ((u : UnitState) → At u → (command_conflicts u.registry v.scope.own c ≡ false) × (command_fault u.registry v.scope.own c ≡ Some sense))
    → IsPart v At (λ u. u) p → IsAdded old 1 p mid → IsAdded mid 2 p new → Grows v c tests old new At
grows_fault v c tests sense At old mid new p shows faults is first second = record {
  kept = λ way i has. added_kept mid new 2 p second way i (added_kept old mid 1 p first way i has);
  all = all;
  only = λ way i q has pending. ⊎_elim (λ before. found_in v c tests At (λ u. u) old mid 1 p shows is first (λ u i at so. ((faults u at).0, so)) way i q before pending) inr
      (found_in v c tests At (λ u. u) mid new 2 p shows is second (λ u i at so. ((faults u at).0, some u at, so)) way i q has pending);
}
  where
    some : (u : UnitState) → At u → is_some (command_fault u.registry v.scope.own c) ≡ true
    some u at = ap is_some (faults u at).1

    none : (o : Option Sense) → o ≡ Some sense → o ≡ None → ⊥
    none o is isnt = false≢true (ap is_some (sym isnt ∙ is))

    all : (u : UnitState) (way : ℕ) (i : Item) → Shows v u → At u → Leaves v.scope c tests way u i → has_tallied new way i ≡ true
    all u zero i shown at leaves = absurd (false≢true (sym (faults u at).0 ∙ leaves.0))
    all u (suc zero) i shown at leaves = added_kept mid new 2 p second 1 i (added_here old mid 1 p first i (is.all u i at leaves.1))
    all u (suc (suc zero)) i shown at leaves = added_here mid new 2 p second i (is.all u i at leaves.2)
    all u (suc (suc (suc n))) i shown at leaves = absurd (none (command_fault u.registry v.scope.own c) (faults u at).1 leaves.1)

-- ---- GOOD

pub grows_good : (v : View) (c : Command) (tests : List Test) (arm : ℕ) (At : UnitState → Type 0) (old mid new : Tally) (p after : Possibilities)
    → ((u : UnitState) → At u → Shows v u)
    → ((u : UnitState) → At u → (command_conflicts u.registry v.scope.own c ≡ false) × (command_fault u.registry v.scope.own c ≡ None)
    × (first_test tests (good (data_of u.registry c)) ≡ arm_of arm))
    → IsPart v At (λ u. u) p → IsPart v At (λ u. effect u v.scope.own c) after → IsAdded old 1 p mid → IsAdded mid (suc (suc (suc arm))) after new → Grows v c tests old new At
grows_good v c tests arm At old mid new p after shows done is then_is first second = record {
  kept = λ way i has. added_kept mid new (suc (suc (suc arm))) after second way i (added_kept old mid 1 p first way i has);
  all = all;
  only = λ way i q has pending. ⊎_elim (λ before. found_in v c tests At (λ u. u) old mid 1 p shows is first (λ u i at so. ((done u at).0, so)) way i q before pending) inr
      (found_in v c tests At (λ u. effect u v.scope.own c) mid new (suc (suc (suc arm))) after shows then_is second (λ u i at so. ((done u at).0, (done u at).1, (done u at).2, so)) way i q has pending);
}
  where
    none : (o : Option Sense) → o ≡ None → is_some o ≡ true → ⊥
    none o is isnt = false≢true (ap is_some (sym is) ∙ isnt)

    same_arm : (m n : ℕ) → arm_of m ≡ arm_of n → m ≡ n
    same_arm zero zero is = refl
    same_arm zero (suc n) is = let bad : None ≡ Some n = is in cc
    same_arm (suc m) zero is = let bad : Some m ≡ None = is in cc
    same_arm (suc m) (suc n) is = let good : Some m ≡ Some n = is in cc

    all : (u : UnitState) (way : ℕ) (i : Item) → Shows v u → At u → Leaves v.scope c tests way u i → has_tallied new way i ≡ true
    all u zero i shown at leaves = absurd (false≢true (sym (done u at).0 ∙ leaves.0))
    all u (suc zero) i shown at leaves = added_kept mid new (suc (suc (suc arm))) after second 1 i (added_here old mid 1 p first i (is.all u i at leaves.1))
    all u (suc (suc zero)) i shown at leaves = absurd (none (command_fault u.registry v.scope.own c) (done u at).1 leaves.1)
    all u (suc (suc (suc n))) i shown at leaves =
        let same = same_arm arm n (sym (done u at).2 ∙ leaves.2) in
        subst (λ m. has_tallied new (suc (suc (suc m))) i ≡ true) same (added_here mid new (suc (suc (suc arm))) after second i (then_is.all u i at leaves.3))

-- ---- what the words of a region are part of

pub part_here : (s : Scope) (view : Possibilities) (place : Place) (senders : BitSet) (region : Region) (words : List BitSet) (p : Possibilities) → IsPlace s view place
    → IsGathered (view_in s view) place senders region words → ((g r : ℕ) → place.hosts ≤ g → has_at words g r ≡ false)
    → p.registrations ≡ words → ((x : ℕ) → has_wide p.reservations x ≡ (x == place.reservation))
    → IsPart (view_in s view) (IsAt (view_in s view) place senders region) (λ u. u) p
part_here s view place senders region words p is gathered beyond registrations reservations = record { all = all; only = only }
  where
    all : (u : UnitState) (i : Item) → IsAt (view_in s view) place senders region u → IsRegistered s u i → has_part p i ≡ true
    all u (Registration g r) at so = subst (λ w. has_at w g r ≡ true) (sym registrations) (gathered.all u g r at so)
    all u (Reservation x) at so =
        reservations x ∙ eq-eqb x place.reservation (so ∙ sym at.reservation)
    all u (Attentions q) at so = absurd so

    only : (i : Item) (q : ℕ) → has_part p i ≡ true → has view.pending q ≡ true
        → (u : UnitState) × IsAt (view_in s view) place senders region u × IsRegistered s u i × IsSo s u (Attentions q)
    only (Registration g r) q there pending =
        let has = subst (λ w. has_at w g r ≡ true) registrations there in
        let met = gathered.only g r q (below g r has (cases_lt g place.hosts)) has pending in
        (met.unit, met.at, met.is, met.pending)
      where
        below : (g r : ℕ) → has_at words g r ≡ true → (g < place.hosts) ⊎ (place.hosts ≤ g) → g < s.hosts
        below g r has (inl small) = subst (λ n. g < n) (sym is.hosts) small
        below g r has (inr large) = absurd (false≢true (sym (beyond g r large) ∙ has))
    only (Reservation x) q there pending =
        let met = gathered.some q pending in
        let same = eqb-true x place.reservation (sym (reservations x) ∙ there) in
        (met.unit, met.at, subst (λ y. IsSo s met.unit (Reservation y)) (sym same) met.at.reservation, met.pending)
    only (Attentions q) p there pending = absurd (false≢true there)

pub part_after : (s : Scope) (c : Command) (change : Transition) (view : Possibilities) (place : Place) (senders : BitSet) (region : Region) (words after : List BitSet) (p : Possibilities)
    → IsPlace s view place → place.sender ≡ s.own
    → IsGathered (view_in s view) place senders region words → ((g r : ℕ) → place.hosts ≤ g → has_at words g r ≡ false)
    → ((g : ℕ) → IsImage (has_at words g) (becomes place.sender change g) (has_at after g))
    → ((u : UnitState) → IsAt (view_in s view) place senders region u → Changes s s.own change u (effect u s.own c))
    → p.registrations ≡ after → ((x : ℕ) → has_wide p.reservations x ≡ (x == change.reservation))
    → IsPart (view_in s view) (IsAt (view_in s view) place senders region) (λ u. effect u s.own c) p
part_after s c change view place senders region words after p is own gathered beyond images changes registrations reservations = record { all = all; only = only }
  where
    -- what becomes of one registration
    moved : (u : UnitState) (g r : ℕ) → IsAt (view_in s view) place senders region u → IsSo s u (Registration g r)
        → IsSo s (effect u s.own c) (Registration g (becomes place.sender change g r))
    moved u g r at so = pick (eqb_tells g place.sender)
      where
        pick : (((g == place.sender) ≡ true) × (g ≡ place.sender)) ⊎ (((g == place.sender) ≡ false) × (g ≢ place.sender))
            → IsSo s (effect u s.own c) (Registration g (becomes place.sender change g r))
        pick (inl same) =
            let mine : g ≡ s.own = same.1 ∙ own in
            subst (λ b. IsSo s (effect u s.own c) (Registration g (if b then unwrap_or change.sender r else registration_left change.removed r))) (sym same.0)
            (subst (λ n. IsSo s (effect u s.own c) (Registration n (unwrap_or change.sender r))) (sym mine)
            ((changes u at).sender r (subst (λ n. IsSo s u (Registration n r)) mine so)))
        pick (inr other) =
            subst (λ b. IsSo s (effect u s.own c) (Registration g (if b then unwrap_or change.sender r else registration_left change.removed r))) (sym other.0)
            ((changes u at).others g r (λ same. other.1 (same ∙ sym own)) so)

    all : (u : UnitState) (i : Item) → IsAt (view_in s view) place senders region u → IsRegistered s (effect u s.own c) i → has_part p i ≡ true
    all u (Registration g r) at so =
        let seen = at.shown.registrations g so.0 in
        let same = one_registration s (effect u s.own c) g (becomes place.sender change g seen.0) r is.fits.scope (moved u g seen.0 at seen.1.1) so in
        subst (λ w. has_at w g r ≡ true) (sym registrations) (subst (λ n. has_at after g n ≡ true) same ((images g).all seen.0 (gathered.all u g seen.0 at seen.1.1)))
    all u (Reservation x) at so =
        reservations x ∙ eq-eqb x change.reservation (so ∙ sym (changes u at).reservation)
    all u (Attentions q) at so = absurd so

    only : (i : Item) (q : ℕ) → has_part p i ≡ true → has view.pending q ≡ true
        → (u : UnitState) × IsAt (view_in s view) place senders region u × IsRegistered s (effect u s.own c) i × IsSo s u (Attentions q)
    only (Registration g r) q there pending =
        let from = (images g).only r (subst (λ w. has_at w g r ≡ true) registrations there) in
        let met = gathered.only g from.0 q (below g from.0 from.1 (cases_lt g place.hosts)) from.1 pending in
        (met.unit, met.at, subst (λ n. IsSo s (effect met.unit s.own c) (Registration g n)) (sym from.2) (moved met.unit g from.0 met.at met.is), met.pending)
      where
        below : (g r : ℕ) → has_at words g r ≡ true → (g < place.hosts) ⊎ (place.hosts ≤ g) → g < s.hosts
        below g r has (inl small) = subst (λ n. g < n) (sym is.hosts) small
        below g r has (inr large) = absurd (false≢true (sym (beyond g r large) ∙ has))
    only (Reservation x) q there pending =
        let met = gathered.some q pending in
        let same = eqb-true x change.reservation (sym (reservations x) ∙ there) in
        (met.unit, met.at, subst (λ y. IsSo s (effect met.unit s.own c) (Reservation y)) (sym same) (changes met.unit met.at).reservation, met.pending)
    only (Attentions q) p there pending = absurd (false≢true there)

-- ---- one branch

pub leaf_conflict : (s : Scope) (c : Command) (tests : List Test) (view : Possibilities) (place : Place) (senders : BitSet) (b : Branch) (arm : ℕ) (words : List BitSet) (here : Possibilities) (old new : Tally)
    → IsRight s c tests view place senders b arm → b.ending ≡ ending.Conflict → IsGathered (view_in s view) place senders b.region words → ((g r : ℕ) → place.hosts ≤ g → has_at words g r ≡ false)
    → here.registrations ≡ words → ((x : ℕ) → has_wide here.reservations x ≡ (x == place.reservation)) → IsAdded old 0 here new
    → Grows (view_in s view) c tests old new (IsAt (view_in s view) place senders b.region)
leaf_conflict s c tests view place senders b arm words here old new right ended gathered beyond registrations reservations added =
    grows_conflict (view_in s view) c tests (IsAt (view_in s view) place senders b.region) old new here (λ u at. at.shown)
    (λ u at. subst (λ e. Ends s s.own e u c) ended (right.ends u at))
    (part_here s view place senders b.region words here right.is gathered beyond registrations reservations) added

pub leaf_fault : (s : Scope) (c : Command) (tests : List Test) (view : Possibilities) (place : Place) (senders : BitSet) (b : Branch) (arm : ℕ) (sense : Sense) (words : List BitSet) (here : Possibilities) (old mid new : Tally)
    → IsRight s c tests view place senders b arm → b.ending ≡ ending.Fault sense → IsGathered (view_in s view) place senders b.region words → ((g r : ℕ) → place.hosts ≤ g → has_at words g r ≡ false)
    → here.registrations ≡ words → ((x : ℕ) → has_wide here.reservations x ≡ (x == place.reservation)) → IsAdded old 1 here mid → IsAdded mid 2 here new
    → Grows (view_in s view) c tests old new (IsAt (view_in s view) place senders b.region)
leaf_fault s c tests view place senders b arm sense words here old mid new right ended gathered beyond registrations reservations first second =
    grows_fault (view_in s view) c tests sense (IsAt (view_in s view) place senders b.region) old mid new here (λ u at. at.shown)
    (λ u at. subst (λ e. Ends s s.own e u c) ended (right.ends u at))
    (part_here s view place senders b.region words here right.is gathered beyond registrations reservations) first second

pub leaf_good : (s : Scope) (c : Command) (tests : List Test) (view : Possibilities) (place : Place) (senders : BitSet) (b : Branch) (arm way : ℕ) (change : Transition) (words changed : List BitSet) (here after : Possibilities) (old mid new : Tally)
    → IsRight s c tests view place senders b arm → b.ending ≡ ending.Good change → way ≡ suc (suc (suc arm))
    → IsGathered (view_in s view) place senders b.region words → ((g r : ℕ) → place.hosts ≤ g → has_at words g r ≡ false)
    → here.registrations ≡ words → ((x : ℕ) → has_wide here.reservations x ≡ (x == place.reservation))
    → ((g : ℕ) → IsImage (has_at words g) (becomes place.sender change g) (has_at changed g))
    → after.registrations ≡ changed → ((x : ℕ) → has_wide after.reservations x ≡ (x == change.reservation))
    → IsAdded old 1 here mid → IsAdded mid way after new
    → Grows (view_in s view) c tests old new (IsAt (view_in s view) place senders b.region)
leaf_good s c tests view place senders b arm way change words changed here after old mid new right ended is_way gathered beyond registrations reservations images then_registrations then_reservations first second =
    grows_good (view_in s view) c tests arm (IsAt (view_in s view) place senders b.region) old mid new here after (λ u at. at.shown)
    (λ u at. ((done u at).0, (done u at).1, right.taken u at (done u at).0))
    (part_here s view place senders b.region words here right.is gathered beyond registrations reservations)
    (part_after s c change view place senders b.region words changed after right.is right.own gathered beyond images (λ u at. (done u at).2) then_registrations then_reservations)
    first (subst (λ w. IsAdded mid w after new) is_way second)
  where
    done : (u : UnitState) → IsAt (view_in s view) place senders b.region u → Ends s s.own (ending.Good change) u c
    done u at = subst (λ e. Ends s s.own e u c) ended (right.ends u at)
