-- What is possible in the view that a value of the program is.
use Rattle.pr_views.proofs.Common.{◌≡◌, ℕ, ◌+◌, ◌<◌, ◌≤◌, Bool, true, false, ◌⊎◌, ◌↔◌, List, length, Some, None, Option, sym, refl, ap, ◌∙◌, subst, inl, inr, arith, slice_get, false≢true, cases_lt, has, contains-nobody, AreDeclared, has_at, Registration, Reservation, Attentions, contains_at, Fits, option_map_or}
use Rattle.std.specs.FinSet as set
use Rattle.std.specs.Prelude.{Result, Ok, Err, IfOk}
use Rattle.std.specs.List.{All}
use Rattle.std.proofs.lemmas.Bool.{false_from_ne_true}
use Rattle.std.proofs.lemmas.Option.{slice_get_within, get_or_from_slice_get}
use Rattle.pr_cdb.specs.declared.codes.TheConstants.{MOST_NEXUSES}
use Rattle.pr_registry.proofs.lemmas.Sets.{same_hosts}
use Rattle.pr_sets.specs.Numbers.{Numbers, Within as WithinNumbers, AllBelow}
use Rattle.pr_sets.specs.declared.view_set.ViewSet.{Ghosts as ViewSet}
use Rattle.pr_views.specs.declared.view.ViewOf.{ViewOf}
use Rattle.pr_views.specs.declared.possibilities.Possibilities.{Possibilities}
use Rattle.pr_views.specs.Possibilities.{Item}
use Rattle.pr_views.specs.Views.{View, IsPossible, Within}
use Rattle.pr_views.specs.Portions.{view_in}
use Rattle.pr_views.specs.Rooms.{scope_of, view_of, AreInRange}

-- what holds of each element holds of one that is read
read : {X : Type 0} (P : X → Type 0) (xs : List X) (i : ℕ) (x : X) → All P xs → slice_get xs i ≡ Some x → P x
read P xs i x all is = subst P (get_or_from_slice_get xs i x x is) (all i x (slice_get_within xs i x is))

-- words in range are a view whose possibilities fit, where they have nothing past the nexuses that are there
pub words_fit : (own hosts : ℕ) (keys : List ℕ) (p : Possibilities) → (1 ≤ hosts) × (hosts ≤ MOST_NEXUSES) → own < hosts → AreDeclared keys → AreInRange hosts keys p
    → ((g r : ℕ) → hosts ≤ g → has_at p.registrations g r ≡ false) → Fits (view_in (record { own = own; hosts = hosts; keys = keys }) p)
words_fit own hosts keys p counted small declared range past = record {
  scope = record { hosts = counted; own = small; keys = declared };
  registrations = λ g r is. at g r is (cases_lt g hosts);
  reservations = range.reservations;
  pending = range.pending;
}
  where
    at : (g r : ℕ) → has_at p.registrations g r ≡ true → (g < hosts) ⊎ (hosts ≤ g) → r ≤ length keys
    at g r is (inl there) = range.registrations g r there is
    at g r is (inr late) = absurd (false≢true (sym (past g r late) ∙ is))

pub contains_no : (s : Numbers) → s ≡ set.empty → (n : ℕ) → set.contains s n ≡ false
contains_no s none n = ap (λ t. set.contains t n) none ∙ contains-nobody n

pub contains_none : {S : Type 0} (members : S → Numbers) (each : List S) → All (λ s. members s ≡ set.empty) each → (g n : ℕ) → contains_at members each g n ≡ false
contains_none {S = S} members each all g n = at (slice_get each g) refl
  where
    at : (o : Option S) → slice_get each g ≡ o → option_map_or (λ s. set.contains (members s) n) o false ≡ false
    at None there = refl
    at (Some s) there = contains_no (members s) (read (λ t. members t ≡ set.empty) each g s all there) n

empty_from_none : {S : Type 0} (members : S → Numbers) (s : S) → ((n : ℕ) → set.contains (members s) n ≡ true → ⊥) → members s ≡ set.empty
empty_from_none members s none =
    same_hosts (members s) set.empty (λ n. false_from_ne_true (set.contains (members s) n) (none n) ∙ sym (contains-nobody n))

pub nothing_possible : (v : View) → ((g n : ℕ) → g < v.scope.hosts → v.registrations g n ≡ false) → ((x : ℕ) → v.reservations x ≡ false) → ((q : ℕ) → v.pending q ≡ false)
    → (i : Item) → IsPossible v i → ⊥
nothing_possible v registrations reservations pending (Registration g r) is = false≢true (sym (registrations g r is.0) ∙ is.1)
nothing_possible v registrations reservations pending (Reservation x) is = false≢true (sym (reservations x) ∙ is)
nothing_possible v registrations reservations pending (Attentions q) is = false≢true (sym (pending q) ∙ is)

module _ {S : Type 0} {sets : ViewSet S} where
  -- ---- nothing is possible

  pub no_registrations : (v : ViewOf S sets) → ((own : ℕ) (i : Item) → IsPossible (view_of own v) i → ⊥) → (g n : ℕ) → g < v.hosts → contains_at sets.members v.registrations g n ≡ false
  no_registrations v none g n small = false_from_ne_true (contains_at sets.members v.registrations g n) (λ is. none 0 (Registration g n) (small, is))

  pub no_reservations : (v : ViewOf S sets) → ((own : ℕ) (i : Item) → IsPossible (view_of own v) i → ⊥) → sets.members v.reservations ≡ set.empty
  no_reservations v none = empty_from_none sets.members v.reservations (λ x is. none 0 (Reservation x) is)

  pub no_attentions : (v : ViewOf S sets) → ((own : ℕ) (i : Item) → IsPossible (view_of own v) i → ⊥) → sets.members v.pending ≡ set.empty
  no_attentions v none = empty_from_none sets.members v.pending (λ q is. none 0 (Attentions q) is)

  -- ---- one within the other

  pub view_within : (v w : ViewOf S sets) → v.hosts ≡ w.hosts → ((g n : ℕ) → g < v.hosts → contains_at sets.members v.registrations g n ≡ true → contains_at sets.members w.registrations g n ≡ true)
      → WithinNumbers (sets.members v.reservations) (sets.members w.reservations) → WithinNumbers (sets.members v.pending) (sets.members w.pending)
      → (own : ℕ) → Within (view_of own v) (view_of own w)
  view_within v w hosts registrations reservations pending own (Registration g r) is = (subst (λ n. g < n) hosts is.0, registrations g r is.0 is.1)
  view_within v w hosts registrations reservations pending own (Reservation x) is = reservations x is
  view_within v w hosts registrations reservations pending own (Attentions q) is = pending q is

  pub registrations_within : (v w : ViewOf S sets) → ((own : ℕ) → Within (view_of own v) (view_of own w))
      → (g n : ℕ) → g < v.hosts → contains_at sets.members v.registrations g n ≡ true → contains_at sets.members w.registrations g n ≡ true
  registrations_within v w all g n small is = (all 0 (Registration g n) (small, is)).1

  pub reservations_within : (v w : ViewOf S sets) → ((own : ℕ) → Within (view_of own v) (view_of own w)) → WithinNumbers (sets.members v.reservations) (sets.members w.reservations)
  reservations_within v w all x is = all 0 (Reservation x) is

  pub attentions_within : (v w : ViewOf S sets) → ((own : ℕ) → Within (view_of own v) (view_of own w)) → WithinNumbers (sets.members v.pending) (sets.members w.pending)
  attentions_within v w all q is = all 0 (Attentions q) is

  -- ---- its possibilities fit

  pub registration_in_range : ((s : S) → AllBelow (sets.room s) (sets.members s)) → (v : ViewOf S sets) (g r : ℕ) → contains_at sets.members v.registrations g r ≡ true → r ≤ length v.keys.items
  registration_in_range below v g r is = at (slice_get v.registrations g) refl is
    where
      at : (o : Option S) → slice_get v.registrations g ≡ o → option_map_or (λ s. set.contains (sets.members s) r) o false ≡ true → r ≤ length v.keys.items
      at None there has = absurd (false≢true has)
      at (Some s) there has =
          let whole = read (λ t. sets.room t ≡ length v.keys.items + 1) v.registrations g s v.room_of_registrations there in
          let small = below s r has in
          omega arith

  pub fits : ((s : S) → AllBelow (sets.room s) (sets.members s)) → (v : ViewOf S sets) (own : ℕ) → own < v.hosts → Fits (view_of own v)
  fits below v own small = record {
    scope = record { hosts = (v.some, v.few); own = small; keys = v.declared };
    registrations = registration_in_range below v;
    reservations = λ x is. subst (λ n. x < n) v.room_of_reservations (below v.reservations x is);
    pending = λ q is. subst (λ n. q < n) v.room_of_pending (below v.pending q is);
  }

-- ---- views by any sets

same_truth : (a b : Bool) → (a ≡ true → b ≡ true) → (b ≡ true → a ≡ true) → a ≡ b
same_truth true b there back = sym (there refl)
same_truth false b there back = sym (false_from_ne_true b (λ is. false≢true (back is)))

-- those of as many nexuses and the same keys are the same where the same is possible in them
pub same_view : {S T : Type 0} {sets : ViewSet S} {others : ViewSet T} (own : ℕ) (v : ViewOf S sets) (w : ViewOf T others) → v.keys.items ≡ w.keys.items → v.hosts ≡ w.hosts
    → Within (view_of own v) (view_of own w) → Within (view_of own w) (view_of own v) → view_of own v ≡ view_of own w
same_view {sets = sets} {others = others} own v w keys hosts there back = λ i. record {
  scope = record { own = own; hosts = hosts i; keys = keys i };
  registrations = λ g n. at g n (cases_lt g v.hosts) i;
  reservations = λ x. same_truth (set.contains (sets.members v.reservations) x) (set.contains (others.members w.reservations) x) (there (Reservation x)) (back (Reservation x)) i;
  pending = λ q. same_truth (set.contains (sets.members v.pending) q) (set.contains (others.members w.pending) q) (there (Attentions q)) (back (Attentions q)) i;
}
  where
    at : (g n : ℕ) → (g < v.hosts) ⊎ (v.hosts ≤ g) → contains_at sets.members v.registrations g n ≡ contains_at others.members w.registrations g n
    at g n (inl small) =
        same_truth (contains_at sets.members v.registrations g n) (contains_at others.members w.registrations g n)
        (λ is. (there (Registration g n) (small, is)).1) (λ is. (back (Registration g n) (subst (λ h. g < h) hosts small, is)).1)
    at g n (inr late) = v.past g n late ∙ sym (w.past g n (subst (λ h. h ≤ g) hosts late))

-- so it is of a view that was made of the possibilities of another, if it was made
pub same_if_made : {S T E : Type 0} {sets : ViewSet S} {others : ViewSet T} (v : ViewOf S sets) (p : Possibilities) (r : Result (ViewOf T others) E)
    → ((own : ℕ) (i : Item) → IsPossible (view_in (scope_of own v) p) i ↔ IsPossible (view_of own v) i) → IfOk r (λ w. w.keys.items ≡ v.keys.items) → IfOk r (λ w. w.hosts ≡ v.hosts)
    → IfOk r (λ w. (own : ℕ) (i : Item) → IsPossible (view_of own w) i ↔ IsPossible (view_in (scope_of own w) p) i) → IfOk r (λ w. (own : ℕ) → view_of own w ≡ view_of own v)
same_if_made v p (Ok w) words keys hosts made = λ own.
    let scope : scope_of own w ≡ scope_of own v = λ i. record { own = own; hosts = hosts i; keys = keys i } in
    same_view own w v keys hosts
    (λ i is. (words own i).0 (subst (λ s. IsPossible (view_in s p) i) scope ((made own i).0 is)))
    (λ i is. (made own i).1 (subst (λ s. IsPossible (view_in s p) i) (sym scope) ((words own i).1 is)))
same_if_made v p (Err e) words keys hosts made = tt
