-- What is possible after a change, from what is gathered before it.
use Rattle.pr_interference.proofs.Common.{◌≡◌, ℕ, ◌<◌, ◌≤◌, true, false, ◌≢◌, ◌⊎◌, List, ◌==◌, sym, ◌∙◌, subst, inl, inr, arith, eqb_tells, has_wide, has, BitSet, MOST_NEXUSES, UnitState, has_at, view_in, Scope, Item, Registration, Reservation, Attentions, IsSo, IsPossible, Possibilities, one_registration, one_attentions, IsAt, IsImage, Changes, Place, Transition, Allows, few_keys, Onlooker, IsWatched, ATTENTION_SETS, MOST_REGISTRATIONS, eq-eqb, eqb-true, refl}
use Rattle.std.proofs.Common.{unwrap_or}
use Rattle.pr_regions.specs.declared.region.Region.{Region}
use Rattle.pr_regions.specs.Regions.{told_number}
use Rattle.pr_regions.specs.Gathering.{IsGathered}
use Rattle.pr_regions.specs.Images.{becomes}
use Rattle.pr_interference.specs.inside.Marks.{AreTold}
use Rattle.pr_interference.specs.inside.Interfering.{IsChanged, IsAfter}
use Rattle.pr_interference.proofs.lemmas.Marks.Images.{first_from, first_parts}

-- what becomes of a registration
pub becomes_so : (s : Scope) (sender : ℕ) (c : Transition) (u w : UnitState) (g r : ℕ) → Changes s sender c u w → IsSo s u (Registration g r) → IsSo s w (Registration g (becomes sender c g r))
becomes_so s sender c u w g r changes so = at (eqb_tells g sender)
  where
    at : (((g == sender) ≡ true) × (g ≡ sender)) ⊎ (((g == sender) ≡ false) × (g ≢ sender)) → IsSo s w (Registration g (becomes sender c g r))
    at (inl same) = rw same.0 (subst (λ h. IsSo s w (Registration h (unwrap_or c.sender r))) (sym same.1)
        (changes.sender r (subst (λ h. IsSo s u (Registration h r)) same.1 so)))
    at (inr other) = rw other.0 (changes.others g r other.1 so)

-- the possibilities are made of what is gathered
pub record IsMadeOf (view : Possibilities) (own : ℕ) (place : Place) (change : Transition) (words : List BitSet) (p : Possibilities) : Type 0 where
  pub registrations : (g : ℕ) → g < MOST_NEXUSES → IsImage (has_at words g) (becomes place.sender change g) (has_at p.registrations g)
  pub reservation : (x : ℕ) → has_wide p.reservations x ≡ (x == change.reservation)
  pub owners : BitSet
  pub are_own : (r : ℕ) → has_at words own r ≡ has owners r
  pub told : AreTold change owners view.pending p.pending

pub is_after : (s : Scope) (o : Onlooker) (place : Place) (senders : BitSet) (region : Region) (change : Transition) (words : List BitSet) (p : Possibilities) (q : ℕ) → IsWatched s o place
    → s.hosts ≤ MOST_NEXUSES → IsGathered (view_in s o.view) place senders region words → has o.view.pending q ≡ true → IsMadeOf o.view s.own place change words p
    → IsAfter s o.view place senders region change p
is_after s o place senders region change words p q is most gathered some made = record { all = allows; only = only }
  where
    few : (u : UnitState) (g r : ℕ) → IsSo s u (Registration g r) → r < MOST_REGISTRATIONS
    few u g r so = let keys = few_keys s.keys is.known.fits.scope.keys in let small = so.1 in omega arith

    small : (n : ℕ) → has o.view.pending n ≡ true → n < ATTENTION_SETS
    small n pends = is.known.fits.pending n pends

    all : (u w : UnitState) → IsAt (view_in s o.view) place senders region u → Changes s place.sender change u w → (i : Item) → IsSo s w i → IsPossible (view_in s p) i
    all u w at changes (Registration g n) so =
        let seen = at.shown.registrations g so.0 in
        let after = becomes_so s place.sender change u w g seen.0 changes seen.1.1 in
        let same = one_registration s w g (becomes place.sender change g seen.0) n is.known.fits.scope after so in
        let below : g < MOST_NEXUSES = (let there = so.0 in omega arith) in
        (so.0, subst (λ m. has_at p.registrations g m ≡ true) same ((made.registrations g below).all seen.0 (gathered.all u g seen.0 at seen.1.1)))
    all u w at changes (Reservation x) so =
        made.reservation x ∙ subst (λ y. (x == y) ≡ true) (so ∙ sym changes.reservation) (eq-eqb x x refl)
    all u w at changes (Attentions n) so =
        let owner = at.shown.registrations s.own is.known.fits.scope.own in
        let seen = at.shown.pending in
        let after = changes.told owner.0 seen.0 is.other owner.1.1 seen.1.1 in
        let same = one_attentions s w (told_number change owner.0 seen.0) n after so in
        subst (λ m. has p.pending m ≡ true) same
        (made.told.all owner.0 seen.0 (first_from MOST_REGISTRATIONS made.owners owner.0 (few u s.own owner.0 owner.1.1) (sym (made.are_own owner.0) ∙ gathered.all u s.own owner.0 at owner.1.1))
        (first_from ATTENTION_SETS o.view.pending seen.0 (small seen.0 seen.1.0) seen.1.0))

    allows : (u w : UnitState) → IsAt (view_in s o.view) place senders region u → Changes s place.sender change u w → Allows s p w
    allows u w at changes = record {
      items = all u w at changes;
      numbered = λ g there.
          let seen = at.shown.registrations g there in
          (becomes place.sender change g seen.0, becomes_so s place.sender change u w g seen.0 changes seen.1.1);
      pending =
          let owner = at.shown.registrations s.own is.known.fits.scope.own in
          let seen = at.shown.pending in
          (told_number change owner.0 seen.0, changes.told owner.0 seen.0 is.other owner.1.1 seen.1.1);
    }

    only : (i : Item) → IsPossible (view_in s p) i → IsChanged s o.view place senders region change i
    only (Registration g n) got =
        let below : g < MOST_NEXUSES = (let there = got.0 in omega arith) in
        let found = (made.registrations g below).only n got.1 in
        let met = gathered.only g found.0 q got.0 found.1 some in
        record {
          from = met.unit;
          at = met.at;
          is = λ w changes. subst (λ m. IsSo s w (Registration g m)) (sym found.2) (becomes_so s place.sender change met.unit w g found.0 changes met.is);
        }
    only (Reservation x) got =
        let met = gathered.some q some in
        record {
          from = met.unit;
          at = met.at;
          is = λ w changes. subst (λ y. IsSo s w (Reservation y)) (sym (eqb-true x change.reservation (sym (made.reservation x) ∙ got))) changes.reservation;
        }
    only (Attentions n) got =
        let found = made.told.only n got in
        let pends = (first_parts ATTENTION_SETS o.view.pending found.1 found.3).1 in
        let met = gathered.only s.own found.0 found.1 is.known.fits.scope.own (made.are_own found.0 ∙ (first_parts MOST_REGISTRATIONS made.owners found.0 found.2).1) pends in
        record {
          from = met.unit;
          at = met.at;
          is = λ w changes. subst (λ m. IsSo s w (Attentions m)) (sym found.4) (changes.told found.0 found.1 is.other met.is met.pending);
        }
