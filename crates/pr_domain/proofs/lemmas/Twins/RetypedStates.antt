-- A state under a reservation of another type that has the same holders: a command that reads ends alike there.
use Rattle.pr_domain.proofs.Common.{◌≡◌, ℕ, zero, suc, ◌+◌, ◌<◌, true, false, not, ◌&&◌, ◌||◌, ◌≢◌, ◌⊎◌, List, is_some, nat_lt, ◌==◌, Some, None, Option, option_map, sym, refl, ap, ◌∙◌, subst, inl, inr, arith, false≢true, not-true, and_parts, cases_eq, or_cases, and_from, or_left, or_right, nat_tests, has_wide, has, Command, Held, One, command_conflicts, command_fault, good, data_of, UnitState, effect, is_written, test_fits, Test, is_reservation, view_in, Scope, number_of, Item, Registration, Reservation, Attentions, IsSo, Shows, Possibilities, IsPlace, first_test, Place, same_reservation, Tally, IsRegistered, has_tallied, Leaves, IsFound, Grows, IsReserved, IsOwners, eq-eqb}
use Rattle.std.proofs.Common.{unwrap_or}
use Rattle.std.specs.FinMap as map
use Rattle.std.specs.List.{All as Each}
use Rattle.pr_cdb.specs.declared.command.Command.TheVariants as command
use Rattle.pr_registry.specs.declared.held.Held.TheVariants.{All}
use Rattle.pr_registry.specs.Hosts.{Keys}
use Rattle.pr_registry.specs.Registrations.{HasHolder, is_all}
use Rattle.pr_unit.specs.Replies.{reservation}
use Rattle.pr_script.specs.declared.grammar.TheConstants.{WRITTEN_LENGTH}
use Rattle.pr_script.specs.Grammar.{is_read_keys, is_read_reservation}
use Rattle.pr_regions.proofs.lemmas.Readings.ReservationArms.{key_in, first_found}
use Rattle.pr_domain.specs.inside.Tallies.{IsNothing}
use Rattle.pr_domain.specs.inside.Twins.{AreTwins, IsTwin, has_with_twin}
use Rattle.pr_regions.proofs.lemmas.Portions.GatheredStates.{number_at, held_at}
use Rattle.pr_domain.proofs.lemmas.Tallies.Origins.{still_registered}

-- the same state with this reservation
abbrev pub retyped : UnitState → Option Held → UnitState
retyped u held = record u { registry = record u.registry { held = held } }

turned : (v w : Option Held) → AreTwins v w → AreTwins w v
turned (Some (One t g)) (Some (One k h)) same = sym same
turned (Some (All t)) (Some (All k)) same = tt
turned _ _ same = absurd same

-- ---- it is shown as well

holder_kept : (keys : Keys) (hosts : ℕ) (v w : Option Held) → AreTwins v w → is_reservation hosts w ≡ true → HasHolder keys v → HasHolder keys w
holder_kept keys hosts (Some (One t g)) (Some (One k h)) same fits has =
    (not-true (is_all k) (and_parts (not (is_all k)) (nat_lt h hosts) fits).0, subst (λ n. map.contains_key keys n ≡ true) same has.1)
holder_kept keys hosts (Some (All t)) (Some (All k)) same fits has = (fits, has.1)
holder_kept keys hosts _ _ same fits has = absurd same

shown_retyped : (s : Scope) (view : Possibilities) (u : UnitState) (w : Option Held) → Shows (view_in s view) u → AreTwins u.registry.held w → is_reservation s.hosts w ≡ true
    → has_wide view.reservations (number_of s.hosts w) ≡ true → Shows (view_in s view) (retyped u w)
shown_retyped s view u w shown same fits possible = record {
  formed = record {
    registry = record {
      hosts = shown.formed.registry.hosts;
      keys = shown.formed.registry.keys;
      held = holder_kept u.registry.keys s.hosts u.registry.held w same fits shown.formed.registry.held;
      generation = shown.formed.registry.generation;
    };
    pending = shown.formed.pending;
  };
  hosts = shown.hosts;
  registrations = shown.registrations;
  reservation = (number_of s.hosts w, (possible, refl));
  pending = shown.pending;
}

-- ---- a command that reads ends alike

-- it ends GOOD and changes nothing
pub record OnlyReads (s : Scope) (c : Command) (u : UnitState) : Type 0 where
  pub free : command_conflicts u.registry s.own c ≡ false
  pub whole : command_fault u.registry s.own c ≡ None
  pub still : (effect u s.own c).registry ≡ u.registry

pub only_reads : (s : Scope) (c : Command) (u : UnitState) → (is_read_keys c || is_read_reservation c) ≡ true → OnlyReads s c u
only_reads s (command.ReadKeys alloc) u reads = record { free = refl; whole = refl; still = refl }
only_reads s (command.ReadReservation alloc) u reads = record { free = refl; whole = refl; still = refl }
only_reads s _ u reads = absurd (false≢true reads)

-- what is left is what is there
pub left_there : (s : Scope) (c : Command) (tests : List Test) → (is_read_keys c || is_read_reservation c) ≡ true → (u : UnitState) (way : ℕ) (i : Item) → Leaves s c tests way u i → IsRegistered s u i
left_there s c tests reads u zero i leaves = leaves.1
left_there s c tests reads u (suc zero) i leaves = leaves.1
left_there s c tests reads u (suc (suc zero)) i leaves = leaves.2
left_there s c tests reads u (suc (suc (suc n))) i leaves = still_registered s u (effect u s.own c) i (only_reads s c u reads).still leaves.3

-- the key of the reservation that is read
same_key : (keys : Keys) (v w : Option Held) → AreTwins v w → option_map (λ r. r.0) (reservation keys w) ≡ option_map (λ r. r.0) (reservation keys v)
same_key keys (Some (One t g)) (Some (One k h)) same = ap (λ n. Some (unwrap_or (map.get keys n) 0)) (sym same)
same_key keys (Some (All t)) (Some (All k)) same = refl
same_key keys _ _ same = absurd same

module _ (s : Scope) (view : Possibilities) (c : Command) (tests : List Test) (reads : (is_read_keys c || is_read_reservation c) ≡ true) (written : is_written s.keys c ≡ true)
    (fit : Each (λ t. test_fits s.keys c t ≡ true) tests) where
  -- the same arm takes the data
  taken_alike : (u : UnitState) (w : Option Held) → Shows (view_in s view) u → Shows (view_in s view) (retyped u w) → AreTwins u.registry.held w
      → first_test tests (good (data_of (retyped u w).registry c)) ≡ first_test tests (good (data_of u.registry c))
  taken_alike u w shown also same = at c reads written fit
    where
      at : (c : Command) → (is_read_keys c || is_read_reservation c) ≡ true → is_written s.keys c ≡ true → Each (λ t. test_fits s.keys c t ≡ true) tests
          → first_test tests (good (data_of (retyped u w).registry c)) ≡ first_test tests (good (data_of u.registry c))
      at (command.ReadKeys alloc) reads written fit = refl
      at (command.ReadReservation alloc) reads written fit =
          let whole : alloc ≡ WRITTEN_LENGTH = grind (arith, nat_tests) in
          let key = key_in u.registry in
          subst (λ n. first_test tests (good (data_of (retyped u w).registry (command.ReadReservation n))) ≡ first_test tests (good (data_of u.registry (command.ReadReservation n)))) (sym whole)
          (first_found s.keys (retyped u w) tests key also.formed.registry fit (same_key u.registry.keys u.registry.held w same) ∙ sym (first_found s.keys u tests key shown.formed.registry fit refl))
      at _ reads written fit = absurd (false≢true reads)

  -- it goes the same way, and leaves what is there
  leaves_alike : (u : UnitState) (w : Option Held) (way : ℕ) (i j : Item) → Shows (view_in s view) u → Shows (view_in s view) (retyped u w) → AreTwins u.registry.held w
      → Leaves s c tests way u i → IsRegistered s (retyped u w) j → Leaves s c tests way (retyped u w) j
  leaves_alike u w zero i j shown also same leaves there = absurd (false≢true (sym (only_reads s c u reads).free ∙ leaves.0))
  leaves_alike u w (suc zero) i j shown also same leaves there = ((only_reads s c (retyped u w) reads).free, there)
  leaves_alike u w (suc (suc zero)) i j shown also same leaves there = absurd (false≢true (sym (ap is_some (only_reads s c u reads).whole) ∙ leaves.1))
  leaves_alike u w (suc (suc (suc n))) i j shown also same leaves there =
      let known = only_reads s c (retyped u w) reads in
      (known.free, known.whole, taken_alike u w shown also same ∙ leaves.2, still_registered s (effect (retyped u w) s.own c) (retyped u w) j (sym known.still) there)

  -- ---- the states under a twin

  pub twin_grows : (keys : List ℕ) (place : Place) (x : ℕ) (none old new : Tally) → IsOwners s keys view place → IsTwin view place x → IsNothing none
      → ((way : ℕ) (i : Item) → has_tallied new way i ≡ has_with_twin old x place.reservation way i)
      → Grows (view_in s view) c tests none old (IsReserved s place.reservation) → Grows (view_in s view) c tests none new (IsReserved s (place.reservation + 1))
  twin_grows keys place x none old new owners twin nothing joined grows = record {
    kept = λ way i has. absurd (false≢true (sym (nothing way i) ∙ has));
    all = λ u way i shown among leaves. all u way i shown leaves among (cases_eq (number_of s.hosts u.registry.held) place.reservation);
    only = λ way i q has pending. only way i q pending (sym (joined way i) ∙ has);
  }
    where
      n : ℕ
      n = place.reservation

      kept : (way : ℕ) (i : Item) → has_tallied old way i ≡ true → has_tallied new way i ≡ true
      kept way (Registration g r) has = joined way (Registration g r) ∙ has
      kept way (Reservation z) has = joined way (Reservation z) ∙ or_left (has_tallied old way (Reservation z)) (z == n && has_tallied old way (Reservation x)) has
      kept way (Attentions q) has = joined way (Attentions q) ∙ has

      -- the place of the twin
      other : Place
      other = record place {
        reservation = x;
        held = twin.twin;
        below = (let before = twin.below in let last = place.below in omega arith);
        number = twin.number;
        fits = twin.fits;
      }

      is_other : IsPlace s view other
      is_other = record {
        hosts = owners.is.hosts;
        fits = owners.is.fits;
        possible = twin.possible;
      }

      before : number_of s.hosts twin.twin < n
      before = subst (λ y. y < n) (number_at s view other is_other) twin.below

      -- a state under the one reservation, and the same under the other
      under_twin : (u : UnitState) → Shows (view_in s view) u → IsSo s u (Reservation n) → AreTwins u.registry.held twin.twin
      under_twin u shown so = subst (λ v. AreTwins v twin.twin) (sym (same_reservation s view place u owners.is shown so)) (turned twin.twin place.held twin.same)

      under_place : (u : UnitState) → Shows (view_in s view) u → IsSo s u (Reservation x) → AreTwins u.registry.held place.held
      under_place u shown so = subst (λ v. AreTwins v place.held) (sym (same_reservation s view other u is_other shown so)) twin.same

      shown_twin : (u : UnitState) → Shows (view_in s view) u → IsSo s u (Reservation n) → Shows (view_in s view) (retyped u twin.twin)
      shown_twin u shown so =
          shown_retyped s view u twin.twin shown (under_twin u shown so) (held_at s view other is_other) (subst (λ y. has_wide view.reservations y ≡ true) (number_at s view other is_other) twin.possible)

      shown_place : (u : UnitState) → Shows (view_in s view) u → IsSo s u (Reservation x) → Shows (view_in s view) (retyped u place.held)
      shown_place u shown so =
          shown_retyped s view u place.held shown (under_place u shown so) (held_at s view place owners.is) (subst (λ y. has_wide view.reservations y ≡ true) (number_at s view place owners.is) owners.is.possible)

      here : (u : UnitState) (way : ℕ) (i : Item) → Shows (view_in s view) u → IsSo s u (Reservation n) → Leaves s c tests way u i → has_tallied new way i ≡ true
      here u way (Registration g r) shown so leaves =
          let also = shown_twin u shown so in
          kept way (Registration g r) (grows.all (retyped u twin.twin) way (Registration g r) also before
          (leaves_alike u twin.twin way (Registration g r) (Registration g r) shown also (under_twin u shown so) leaves (left_there s c tests reads u way (Registration g r) leaves)))
      here u way (Reservation y) shown so leaves =
          let also = shown_twin u shown so in
          let had = grows.all (retyped u twin.twin) way (Reservation x) also before
          (leaves_alike u twin.twin way (Reservation y) (Reservation x) shown also (under_twin u shown so) leaves (number_at s view other is_other)) in
          let same : y ≡ n = left_there s c tests reads u way (Reservation y) leaves ∙ sym so in
          joined way (Reservation y)
          ∙ or_right (has_tallied old way (Reservation y)) (y == n && has_tallied old way (Reservation x)) (and_from (y == n) (has_tallied old way (Reservation x)) (subst (λ z. (y == z) ≡ true) same (eq-eqb y y refl)) had)
      here u way (Attentions q) shown so leaves = absurd (left_there s c tests reads u way (Attentions q) leaves)

      all : (u : UnitState) (way : ℕ) (i : Item) → Shows (view_in s view) u → Leaves s c tests way u i → IsReserved s (n + 1) u → (number_of s.hosts u.registry.held ≡ n) ⊎ (number_of s.hosts u.registry.held ≢ n) → has_tallied new way i ≡ true
      all u way i shown leaves among (inl same) = here u way i shown (sym same) leaves
      all u way i shown leaves among (inr differs) = kept way i (grows.all u way i shown (omega arith) leaves)

      Found : ℕ → Item → ℕ → Type 0
      Found way i q = (has_tallied none way i ≡ true) ⊎ IsFound (view_in s view) c tests (IsReserved s (n + 1)) way i q

      wider : (way : ℕ) (i : Item) (q : ℕ) → (has_tallied none way i ≡ true) ⊎ IsFound (view_in s view) c tests (IsReserved s n) way i q → Found way i q
      wider way i q (inl had) = inl had
      wider way i q (inr found) = inr (record {
        unit = found.unit;
        shown = found.shown;
        among = (let below = found.among in omega arith);
        leaves = found.leaves;
        pending = found.pending;
      })

      back : (way q : ℕ) → (has_tallied none way (Reservation x) ≡ true) ⊎ IsFound (view_in s view) c tests (IsReserved s n) way (Reservation x) q → Found way (Reservation n) q
      back way q (inl had) = absurd (false≢true (sym (nothing way (Reservation x)) ∙ had))
      back way q (inr found) =
          let u = found.unit in
          let so : IsSo s u (Reservation x) = left_there s c tests reads u way (Reservation x) found.leaves in
          let also = shown_place u found.shown so in
          inr (record {
            unit = retyped u place.held;
            shown = also;
            among = subst (λ y. y < n + 1) (number_at s view place owners.is) (omega arith);
            leaves = leaves_alike u place.held way (Reservation x) (Reservation n) found.shown also (under_place u found.shown so) found.leaves (number_at s view place owners.is);
            pending = found.pending;
          })

      only : (way : ℕ) (i : Item) (q : ℕ) → has view.pending q ≡ true → has_with_twin old x n way i ≡ true → Found way i q
      only way (Registration g r) q pending had = wider way (Registration g r) q (grows.only way (Registration g r) q had pending)
      only way (Attentions m) q pending had = wider way (Attentions m) q (grows.only way (Attentions m) q had pending)
      only way (Reservation z) q pending had = at (or_cases (has_tallied old way (Reservation z)) (z == n && has_tallied old way (Reservation x)) had)
        where
          at : (has_tallied old way (Reservation z) ≡ true) ⊎ ((z == n && has_tallied old way (Reservation x)) ≡ true) → Found way (Reservation z) q
          at (inl before) = wider way (Reservation z) q (grows.only way (Reservation z) q before pending)
          at (inr both) =
              let parts = and_parts (z == n) (has_tallied old way (Reservation x)) both in
              let tells = parts.0 in
              let same : z ≡ n = grind (arith, nat_tests) in
              subst (λ y. Found way (Reservation y) q) (sym same) (back way q (grows.only way (Reservation x) q parts.1 pending))
