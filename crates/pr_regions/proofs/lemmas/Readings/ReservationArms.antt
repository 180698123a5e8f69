-- Which arm takes the data of READ RESERVATION.
use Rattle.pr_regions.proofs.Common.{◌≡◌, ℕ, zero, suc, ◌+◌, ◌<◌, ◌≤◌, Bool, true, false, cond, not, ◌≢◌, ◌⊎◌, List, [], ◌∷◌, ◌++◌, length, get_or, is_some, is_none, if◌then◌else◌, IsTrue, nat_lt, ◌==◌, Some, None, Option, option_map, unwrap_or, sym, refl, ap, ◌∙◌, subst, inl, inr, arith, lit<, position, false≢true, nat_tests, eqb_tells, Kind, is_key, State, key_of, Held, UnitState, matches, WRITTEN_LENGTH, Scope, key_at, Registration, IsSo, IsInRegion, any, only, is_of_registrant, Leaves, IsKnown, answer, eq-eqb, Contains, One, HasHolder, one_registration}
use Rattle.std.specs.List.{All, prefix_len}
use Rattle.std.proofs.lemmas.Option.{slice_get-get_or}
use Rattle.std.proofs.lemmas.List.Elements.{Contains-push, Contains-push_cases, Contains-append_left}
use Rattle.std.proofs.Common.{◌^◌}
use Rattle.pr_cdb.specs.declared.command.Command.TheVariants.{ReadReservation}
use Rattle.pr_cdb.specs.ReadBack.{holder}
use Rattle.pr_cdb.specs.inside.KeyWidths.{HasKey}
use Rattle.pr_registry.specs.declared.held.Held.TheVariants.{All as Everybody}
use Rattle.pr_registry.specs.Registrations.{IsWellFormed}
use Rattle.pr_registry.proofs.lemmas.Contents.{holder_read}
use Rattle.pr_unit.specs.Replies.{reservation}
use Rattle.pr_script.specs.declared.script.Test.{Test}
use Rattle.pr_script.specs.declared.script.Test.TheVariants as test
use Rattle.pr_script.specs.Grammar.{test_fits}
use Rattle.pr_script.specs.Takes.{is_held_by, is_unheld}
use Rattle.pr_regions.specs.declared.region.Reading.{Reading}
use Rattle.pr_regions.specs.Readings.{first_test, IsRead, AreReadings}
use Rattle.pr_regions.specs.inside.Reads.{passes_held, AreHeldSoFar}
use Rattle.pr_regions.proofs.lemmas.Regions.Effects.{is_registered-number}
use Rattle.pr_regions.proofs.lemmas.Parts.Branches.{left_to, everyone, in_region, from_region}
use Rattle.pr_regions.proofs.lemmas.Portions.GatheredStates.{few_keys}
use Rattle.pr_regions.proofs.lemmas.Readings.KeyArms.{are_readings}

-- ---- what a test finds in the data

-- the tests that may stand under READ RESERVATION
abbrev pub Fit : List ℕ → List Test → Type 0
Fit keys tests = All (λ t. test_fits keys (ReadReservation WRITTEN_LENGTH) t ≡ true) tests

abbrev pub key_in : State → Option ℕ
key_in u = option_map (λ r. r.0) (reservation u.keys u.held)

-- the key of a reservation has 64 bits
key_fits : (u : State) → IsWellFormed u → HasKey (reservation u.keys u.held)
key_fits u w = at u.held
  where
    of_host : (g : ℕ) (o : Option ℕ) → key_of u g ≡ o → unwrap_or o 0 < 2 ^ 64
    of_host g None is = lit< tt
    of_host g (Some k) is = (w.keys g k is).1.1

    at : (v : Option Held) → HasKey (reservation u.keys v)
    at None = tt
    at (Some (One t g)) = of_host g (key_of u g) refl
    at (Some (Everybody t)) = lit< tt

held_by_data : (o : Option (ℕ × Kind)) (k : ℕ) → is_held_by (Some (holder o)) k ≡ is_key (option_map (λ r. r.0) o) k
held_by_data None k = refl
held_by_data (Some r) k = refl

unheld_by_data : (o : Option (ℕ × Kind)) → is_unheld (Some (holder o)) ≡ is_none (option_map (λ r. r.0) o)
unheld_by_data None = refl
unheld_by_data (Some r) = refl

finds : (keys : List ℕ) (u : UnitState) (t : Test) → IsWellFormed u.registry → test_fits keys (ReadReservation WRITTEN_LENGTH) t ≡ true
    → matches t (answer u (ReadReservation WRITTEN_LENGTH)) ≡ passes_held (key_in u.registry) t
finds keys u (test.GoodHas k) w fits = absurd (false≢true fits)
finds keys u (test.GoodHeld k) w fits =
    ap (λ o. is_held_by o k) (holder_read u.registry.generation (reservation u.registry.keys u.registry.held) (key_fits u.registry w)) ∙ held_by_data (reservation u.registry.keys u.registry.held) k
finds keys u test.GoodUnheld w fits =
    ap is_unheld (holder_read u.registry.generation (reservation u.registry.keys u.registry.held) (key_fits u.registry w)) ∙ unheld_by_data (reservation u.registry.keys u.registry.held)
finds keys u _ w fits = refl

-- two tests that agree on a list pass it alike
prefix_alike : {X : Type 0} (p q : X → Bool) (xs : List X) → All (λ x. p x ≡ q x) xs → prefix_len (λ x. not (p x)) xs ≡ prefix_len (λ x. not (q x)) xs
prefix_alike p q [] same = refl
prefix_alike p q (x ∷ xs) same =
    (λ i. cond (not (same 0 x (omega arith) i)) (1 + prefix_alike p q xs (λ k d small. same (suc k) d (omega arith)) i) 0)

pub position_alike : {X : Type 0} (p q : X → Bool) (xs : List X) → All (λ x. p x ≡ q x) xs → position p xs ≡ position q xs
position_alike p q xs same = ap (λ n. cond (nat_lt n (length xs)) (Some n) None) (prefix_alike p q xs same)

pub first_found : (keys : List ℕ) (u : UnitState) (tests : List Test) (key : Option ℕ) → IsWellFormed u.registry → Fit keys tests → key_in u.registry ≡ key
    → first_test tests (answer u (ReadReservation WRITTEN_LENGTH)) ≡ position (passes_held key) tests
first_found keys u tests key w fit is =
    position_alike (λ t. matches t (answer u (ReadReservation WRITTEN_LENGTH))) (passes_held key) tests
    (λ k d small. finds keys u (get_or tests k d) w (fit k d small) ∙ ap (λ o. passes_held o (get_or tests k d)) is)

-- ---- where the key is known

-- in all states the data is the same
pub read_everywhere : (keys : List ℕ) (hosts : ℕ) (held : Option Held) (sender own : ℕ) (tests : List Test) (key : Option ℕ) (b : Reading) → Fit keys tests
    → Leaves b.region any any None → b.arm ≡ position (passes_held key) tests
    → ((s : Scope) (u : UnitState) → IsKnown keys hosts held sender own s u → key_in u.registry ≡ key)
    → AreReadings keys hosts tests (ReadReservation WRITTEN_LENGTH) held sender own (b ∷ [])
read_everywhere keys hosts held sender own tests key b fit leaves arm is =
    are_readings keys hosts held sender own (ReadReservation WRITTEN_LENGTH) tests (b ∷ [])
    (λ s u known. record {
      reading = b;
      listed = (0, omega arith, refl);
      inside = in_region s u sender b.region any any None (few_keys s.keys known.scope.keys) leaves (record { registrations = λ g r apart so. everyone u.registry.held g r; somebody = tt });
    })
    (λ s u x known there inside.
    first_found keys u tests key known.formed.registry fit (is s u known) ∙ sym arm ∙ ap (λ (y : Reading). y.arm) (alone x there))
  where
    alone : (x : Reading) → Contains (b ∷ []) x → b ≡ x
    alone x (zero, small, same) = same
    alone x (suc k, small, same) = absurd (omega arith)

pub key_of_none : (keys : List ℕ) (hosts : ℕ) (held : Option Held) (sender own : ℕ) → held ≡ None
    → (s : Scope) (u : UnitState) → IsKnown keys hosts held sender own s u → key_in u.registry ≡ None
key_of_none keys hosts held sender own is s u known = ap (λ v. option_map (λ r. r.0) (reservation u.registry.keys v)) (known.held ∙ is)

pub key_of_all : (keys : List ℕ) (hosts : ℕ) (held : Option Held) (kind : Kind) (sender own : ℕ) → held ≡ Some (Everybody kind)
    → (s : Scope) (u : UnitState) → IsKnown keys hosts held sender own s u → key_in u.registry ≡ Some 0
key_of_all keys hosts held kind sender own is s u known = ap (λ v. option_map (λ r. r.0) (reservation u.registry.keys v)) (known.held ∙ is)

pub key_of_sender : (keys : List ℕ) (hosts : ℕ) (held : Option Held) (kind : Kind) (h sender own : ℕ) → held ≡ Some (One kind h) → h ≡ sender
    → (s : Scope) (u : UnitState) → IsKnown keys hosts held sender own s u → key_in u.registry ≡ Some (unwrap_or (key_at keys own) 0)
key_of_sender keys hosts held kind h sender own is same s u known =
    ap (λ v. option_map (λ r. r.0) (reservation u.registry.keys v)) (known.held ∙ is)
    ∙ ap (λ g. Some (unwrap_or (key_of u.registry g) 0)) same
    ∙ ap (λ o. Some (unwrap_or o 0)) (known.sender.2 ∙ ap (λ l. key_at l own) known.keys)

-- ---- by the holder's key

-- another host holds it alone
abbrev pub held_by : Kind → ℕ → Option Held
held_by kind h = Some (One kind h)

-- the holder's registration is a key's
pub record HasHeld (s : Scope) (h : ℕ) (u : UnitState) : Type 0 where
  pub number : ℕ
  pub so : IsSo s u (Registration h number)
  pub some : 1 ≤ number

held_number : (keys : List ℕ) (hosts : ℕ) (kind : Kind) (h sender own : ℕ) (s : Scope) (u : UnitState) → IsKnown keys hosts (held_by kind h) sender own s u → HasHeld s h u
held_number keys hosts kind h sender own s u known =
    at (key_of u.registry h) refl (subst (λ (v : Option Held). HasHolder u.registry.keys v) known.held known.formed.registry.held).1
  where
    positive : (n : ℕ) → is_of_registrant n ≡ true → 1 ≤ n
    positive zero is = absurd (false≢true is)
    positive (suc i) is = omega arith

    at : (o : Option ℕ) → key_of u.registry h ≡ o → IsTrue (is_some (key_of u.registry h)) → HasHeld s h u
    at None is there = absurd (false≢true (sym (ap is_some is) ∙ there))
    at (Some k) is there =
        let it = known.numbered h (subst (λ n. h < n) known.registry (known.formed.registry.keys h k is).0) in
        record { number = it.0; so = it.1; some = positive it.0 (sym (is_registered-number s.keys u.registry h it.0 (record { known = it.1.1; key = it.1.2 })) ∙ there) }

-- where the holder has the number n, whoever is left n to it is in the region
holder_in_region : (keys : List ℕ) (hosts : ℕ) (kind : Kind) (h sender own : ℕ) (s : Scope) (u : UnitState) (n : ℕ) → IsKnown keys hosts (held_by kind h) sender own s u → IsSo s u (Registration h n)
    → (g r : ℕ) → g ≢ sender → IsSo s u (Registration g r) → left_to (only n) any u.registry.held g r ≡ true
holder_in_region keys hosts kind h sender own s u n known so g r apart at_g =
    ap (λ v. left_to (only n) any v g r) known.held ∙ by_place (h == g) refl
  where
    by_place : (b : Bool) → (h == g) ≡ b → (if h == g then only n r else any r) ≡ true
    by_place true is =
        let same : g ≡ h = grind (arith, nat_tests) in
        let number : r ≡ n = one_registration s u h r n known.scope (subst (λ x. IsSo s u (Registration x r)) same at_g) so in
        ap (λ b. if b then only n r else any r) is ∙ ap (only n) number ∙ eq-eqb n n refl
    by_place false is = ap (λ b. if b then only n r else any r) is

-- the arm of a state in which the holder has the key at i
held_arm : (keys : List ℕ) (hosts : ℕ) (kind : Kind) (h sender own : ℕ) (tests : List Test) (i key : ℕ) (s : Scope) (u : UnitState) → Fit keys tests → i < length keys → key ≡ get_or keys i key
    → IsKnown keys hosts (held_by kind h) sender own s u → IsSo s u (Registration h (suc i)) → first_test tests (answer u (ReadReservation WRITTEN_LENGTH)) ≡ position (passes_held (Some key)) tests
held_arm keys hosts kind h sender own tests i key s u fit small is known so =
    let there : key_of u.registry h ≡ Some key = so.2 ∙ ap (λ l. key_at l (suc i)) known.keys ∙ slice_get-get_or keys i key small ∙ ap Some (sym is) in
    first_found keys u tests (Some key) known.formed.registry fit
    (ap (λ v. option_map (λ r. r.0) (reservation u.registry.keys v)) known.held ∙ ap (λ o. Some (unwrap_or o 0)) there)

pub held_more : (keys : List ℕ) (hosts : ℕ) (kind : Kind) (h sender own : ℕ) (tests : List Test) (i key : ℕ) (readings : List Reading) (b : Reading) → Fit keys tests → i < length keys → key ≡ get_or keys i key → h ≢ sender
    → Leaves b.region (only (i + 1)) any None → b.arm ≡ position (passes_held (Some key)) tests
    → AreHeldSoFar keys hosts kind h sender own (ReadReservation WRITTEN_LENGTH) tests i readings
    → AreHeldSoFar keys hosts kind h sender own (ReadReservation WRITTEN_LENGTH) tests (i + 1) (readings ++ b ∷ [])
held_more keys hosts kind h sender own tests i key readings b fit small is apart leaves arm so_far = record {
  covered = λ s u n known so some few. by_number s u n known so some few (eqb_tells n (i + 1));
  right = λ s u x known there inside. by_place s u x known inside (Contains-push_cases readings b x there);
}
  where
    by_number : (s : Scope) (u : UnitState) (n : ℕ) → IsKnown keys hosts (held_by kind h) sender own s u → IsSo s u (Registration h n) → 1 ≤ n → n ≤ i + 1
        → (((n == i + 1) ≡ true) × (n ≡ i + 1)) ⊎ (((n == i + 1) ≡ false) × (n ≢ i + 1)) → IsRead s sender (readings ++ b ∷ []) u
    by_number s u n known so some few (inl same) = record {
      reading = b;
      listed = Contains-push readings b;
      inside = in_region s u sender b.region (only (i + 1)) any None (few_keys s.keys known.scope.keys) leaves (record {
        registrations = holder_in_region keys hosts kind h sender own s u (i + 1) known (subst (λ m. IsSo s u (Registration h m)) same.1 so);
        somebody = tt;
      });
    }
    by_number s u n known so some few (inr other) =
        let differs = other.1 in
        let old = so_far.covered s u n known so some (omega arith) in
        record { reading = old.reading; listed = Contains-append_left readings (b ∷ []) old.reading old.listed; inside = old.inside }

    by_place : (s : Scope) (u : UnitState) (x : Reading) → IsKnown keys hosts (held_by kind h) sender own s u → IsInRegion s sender x.region u → Contains readings x ⊎ (b ≡ x)
        → first_test tests (answer u (ReadReservation WRITTEN_LENGTH)) ≡ x.arm
    by_place s u x known inside (inl there) = so_far.right s u x known there inside
    by_place s u x known inside (inr same) =
        let here : IsInRegion s sender b.region u = subst (λ (y : Reading). IsInRegion s sender y.region u) (sym same) inside in
        let it = held_number keys hosts kind h sender own s u known in
        let there = from_region s u sender b.region (only (i + 1)) any None (few_keys s.keys known.scope.keys) leaves here in
        let fits : only (i + 1) it.number ≡ true =
        sym (ap (λ b. if b then only (i + 1) it.number else any it.number) (eq-eqb h h refl)) ∙ sym (ap (λ v. left_to (only (i + 1)) any v h it.number) known.held) ∙ there.registrations h it.number apart it.so in
        let number : it.number ≡ suc i = grind (arith, nat_tests) in
        held_arm keys hosts kind h sender own tests i key s u fit small is known (subst (λ m. IsSo s u (Registration h m)) number it.so) ∙ sym arm ∙ ap (λ (y : Reading). y.arm) same

pub held_all : (keys : List ℕ) (hosts : ℕ) (kind : Kind) (h sender own : ℕ) (tests : List Test) (count : ℕ) (readings : List Reading) → count ≡ length keys
    → AreHeldSoFar keys hosts kind h sender own (ReadReservation WRITTEN_LENGTH) tests count readings
    → AreReadings keys hosts tests (ReadReservation WRITTEN_LENGTH) (held_by kind h) sender own readings
held_all keys hosts kind h sender own tests count readings all so_far =
    are_readings keys hosts (held_by kind h) sender own (ReadReservation WRITTEN_LENGTH) tests readings
    (λ s u known.
    let it = held_number keys hosts kind h sender own s u known in
    let few = it.so.1 in
    let same = ap length known.keys in
    so_far.covered s u it.number known it.so it.some (omega arith))
    (λ s u b known there inside. so_far.right s u b known there inside)
