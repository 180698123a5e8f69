-- States of which a tally has everything already.
use Rattle.pr_domain.proofs.Common.{◌≡◌, ℕ, zero, suc, ◌+◌, ◌<◌, true, List, [], length, is_some, IfSome, IfNone, ◌==◌, Some, None, sym, refl, ap, ◌∙◌, subst, inl, arith, false≢true, nat_tests, has_wide, has, BitSet, Command, UnitState, Test, has_at, view_in, Scope, Item, Registration, Reservation, Attentions, IsSo, Shows, Within, Possibilities, holds_at-get_or, IsPlace, IsAt, Place, Reading, Region, Tally, IsRegistered, has_part, has_tallied, arm_of, Leaves, Grows, IsReadAt, MOST_ARMS}
use Rattle.std.proofs.Common.{slice_index_or}
use Rattle.pr_domain.specs.inside.Tallies.{HasFound, way_of, IsRightReading}
use Rattle.pr_domain.proofs.lemmas.Tallies.DataArms.{arm_way, at_read}
use Rattle.pr_domain.proofs.lemmas.Twins.RetypedStates.{OnlyReads, only_reads, left_there}

pub has_found : (t : Tally) (way hosts : ℕ) (d found : Possibilities) → way < length t.ways → ((s : Scope) → s.hosts ≡ hosts → Within (view_in s found) (view_in s (slice_index_or t.ways way d)))
    → HasFound t way hosts found
has_found t way hosts d found there within = record {
  registrations = λ g r small is. holds_at-get_or (λ p. has_part p (Registration g r)) t.ways way d there ∙ (within any refl (Registration g r) (small, is)).1;
  reservations = λ x is. holds_at-get_or (λ p. has_part p (Reservation x)) t.ways way d there ∙ within any refl (Reservation x) is;
}
  where
    any : Scope
    any = record { own = 0; hosts = hosts; keys = [] }

-- what is so in the states of a region is among what each has there at most
pub tallied_there : (t : Tally) (way : ℕ) (s : Scope) (view : Possibilities) (place : Place) (senders : BitSet) (region : Region) (most : List BitSet) (found : Possibilities) → IsPlace s view place
    → found.registrations ≡ most → ((x : ℕ) → has_wide found.reservations x ≡ (x == place.reservation)) → HasFound t way place.hosts found
    → (u : UnitState) (i : Item) → IsAt (view_in s view) place senders region u → ((g r : ℕ) → IsSo s u (Registration g r) → has_at most g r ≡ true) → IsRegistered s u i → has_tallied t way i ≡ true
tallied_there t way s view place senders region most found is registrations reservations has u (Registration g r) at there so =
    has.registrations g r (subst (λ n. g < n) is.hosts so.0) (subst (λ ws. has_at ws g r ≡ true) (sym registrations) (there g r so))
tallied_there t way s view place senders region most found is registrations reservations has u (Reservation x) at there so =
    let same : x ≡ place.reservation = so ∙ sym at.reservation in
    has.reservations x (reservations x ∙ grind (arith, nat_tests))
tallied_there t way s view place senders region most found is registrations reservations has u (Attentions q) at there so = absurd so

-- a reading whose states are there adds nothing
pub reading_there : (s : Scope) (c : Command) (tests : List Test) (view : Possibilities) (place : Place) (r : ℕ) (w : BitSet) (b : Reading) (way : ℕ) (t : Tally) → IsRightReading s c tests view place r b
    → ((m : ℕ) → has w m ≡ (m == r)) → (IfSome b.arm (λ n. n < MOST_ARMS) → way ≡ way_of b.arm) → IfNone b.arm (way ≡ 0)
    → ((u : UnitState) (i : Item) → IsAt (view_in s view) place w b.region u → IsRegistered s u i → (has_tallied t 1 i ≡ true) × (has_tallied t (3 + way) i ≡ true))
    → Grows (view_in s view) c tests t t (IsReadAt s view place r b)
reading_there s c tests view place r w b way t right only some none there = record {
  kept = λ m i has. has;
  all = λ u m i shown read leaves. all m u i shown read leaves;
  only = λ m i q has pending. inl has;
}
  where
    alone : (u : UnitState) → OnlyReads s c u
    alone u = only_reads s c u right.reads

    known : (u : UnitState) (i : Item) → Shows (view_in s view) u → IsReadAt s view place r b u → IsRegistered s u i → (has_tallied t 1 i ≡ true) × (has_tallied t (3 + way) i ≡ true)
    known u i shown read so = there u i (at_read s view place r w b u right.is only shown read) so

    same_arm : (m n : ℕ) → arm_of m ≡ arm_of n → m ≡ n
    same_arm zero zero is = refl
    same_arm zero (suc n) is = let bad : None ≡ Some n = is in cc
    same_arm (suc m) zero is = let bad : Some m ≡ None = is in cc
    same_arm (suc m) (suc n) is = let both : Some m ≡ Some n = is in cc

    all : (m : ℕ) (u : UnitState) (i : Item) → Shows (view_in s view) u → IsReadAt s view place r b u → Leaves s c tests m u i → has_tallied t m i ≡ true
    all zero u i shown read leaves = absurd (false≢true (sym (alone u).free ∙ leaves.0))
    all (suc zero) u i shown read leaves = (known u i shown read leaves.1).0
    all (suc (suc zero)) u i shown read leaves = absurd (false≢true (sym (ap is_some (alone u).whole) ∙ leaves.1))
    all (suc (suc (suc n))) u i shown read leaves =
        let so = left_there s c tests right.reads u (suc (suc (suc n))) i leaves in
        let same : way ≡ n = same_arm way n (sym (arm_way tests u c b.arm way right.few some none (right.taken u shown read)) ∙ leaves.2) in
        subst (λ k. has_tallied t k i ≡ true) (let e = same in omega arith) (known u i shown read so).1
