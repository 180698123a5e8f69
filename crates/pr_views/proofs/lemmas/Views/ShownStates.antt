-- A state that a view shows, from what is chosen for each nexus, a reservation and the owner's attentions.
use Rattle.pr_views.proofs.Common.{◌≡◌, ℕ, zero, suc, ◌<◌, ◌≤◌, Bool, true, false, cond, not, ◌&&◌, ◌≢◌, List, length, is_some, IsTrue, nat_lt, ◌==◌, Some, None, Option, sym, refl, ap, ◌∙◌, subst, lit<, lt-ltb, and_parts, ltb-true, is_all, Held, One, All, UnitState, AreDeclared, is_reservation, Registration, Reservation, Attentions, IsSo, Fits}
use Rattle.std.specs.FinSet as set
use Rattle.std.proofs.lemmas.Bool.{not-true, eqb-true, eq-eqb}
use Rattle.std.proofs.lemmas.Option.{slice_get_within, get_or_from_slice_get}
use Rattle.pr_attention.specs.Attentions.{is_attention}
use Rattle.pr_attention.specs.Flagged.{codes_of}
use Rattle.pr_attention.proofs.lemmas.Bits.{AreAttentions-codes_of}
use Rattle.pr_registry.specs.Tables.{map_where}
use Rattle.pr_registry.specs.Registrations.{HasHolder, IsKey, key_of}
use Rattle.pr_registry.proofs.lemmas.Sets.{get-map_where, not_empty_from_some}
use Rattle.pr_unit.specs.Tables.{of_host}
use Rattle.pr_unit.specs.UnitStates.{IsWellFormed}
use Rattle.pr_unit.proofs.lemmas.Attentions.Pairs.{contains-of_host}
use Rattle.pr_roles.specs.Keys.{key_at}
use Rattle.pr_views.specs.Possibilities.{Scope, IsScope, number_of, count_of_attentions}
use Rattle.pr_views.specs.Views.{View, Shows, Within}
use Rattle.pr_views.proofs.lemmas.Possibilities.Numbers.{key_there}

-- The state of these choices: of each nexus the registration of this number, the reservation, and of the
-- owner's attentions those of this number. Nothing is pending for the others.
abbrev pub state_of : Scope → (ℕ → ℕ) → Option Held → ℕ → UnitState
state_of s f held q = record {
  registry = record { hosts = s.hosts; keys = map_where s.hosts (λ g. key_at s.keys (f g)); held = held; generation = 0 };
  pending = of_host s.own (codes_of q);
}

-- ---- what is so in it

key-state_of : (s : Scope) (f : ℕ → ℕ) (held : Option Held) (q g : ℕ) → g < s.hosts → key_of (state_of s f held q).registry g ≡ key_at s.keys (f g)
key-state_of s f held q g there =
    get-map_where s.hosts (λ h. key_at s.keys (f h)) g ∙ ap (λ b. cond b (key_at s.keys (f g)) None) (lt-ltb g s.hosts there)

pub registration-state_of : (s : Scope) (f : ℕ → ℕ) (held : Option Held) (q g : ℕ) → g < s.hosts → f g ≤ length s.keys → IsSo s (state_of s f held q) (Registration g (f g))
registration-state_of s f held q g there small = (there, small, key-state_of s f held q g there)

pub reservation-state_of : (s : Scope) (f : ℕ → ℕ) (held : Option Held) (q : ℕ) → IsSo s (state_of s f held q) (Reservation (number_of s.hosts held))
reservation-state_of s f held q = refl

pub attentions-state_of : (s : Scope) (f : ℕ → ℕ) (held : Option Held) (q : ℕ) → q < count_of_attentions → IsSo s (state_of s f held q) (Attentions q)
attentions-state_of s f held q small =
    (small, λ code. contains-of_host s.own (codes_of q) s.own code ∙ ap (λ b. b && set.contains (codes_of q) code) (eq-eqb s.own s.own refl))

-- ---- it is well formed

key_is_key : (keys : List ℕ) (r k : ℕ) → AreDeclared keys → key_at keys r ≡ Some k → IsKey k
key_is_key keys zero k declared is = let bad : None ≡ Some k = is in cc
key_is_key keys (suc i) k declared is =
    subst IsKey (get_or_from_slice_get keys i k 0 is) (declared.each i 0 (slice_get_within keys i k is))

registered : (keys : List ℕ) (r : ℕ) → r ≤ length keys → r ≢ 0 → (k : ℕ) × (key_at keys r ≡ Some k)
registered keys zero small some = absurd (some refl)
registered keys (suc i) small some = key_there keys i small

-- a single holder is registered by its choice, or all registrants are at least one
abbrev pub IsHeldBy : Scope → (ℕ → ℕ) → Option Held → Type 0
IsHeldBy s f None = Unit {0}
IsHeldBy s f (Some (One kind h)) = f h ≢ 0
IsHeldBy s f (Some (All kind)) = (g : ℕ) × (g < s.hosts) × (f g ≢ 0)

has_holder : (s : Scope) (f : ℕ → ℕ) (held : Option Held) (q : ℕ) → ((g : ℕ) → g < s.hosts → f g ≤ length s.keys) → is_reservation s.hosts held ≡ true → IsHeldBy s f held
    → HasHolder (state_of s f held q).registry.keys held
has_holder s f None q numbers fits holder = tt
has_holder s f (Some (One kind h)) q numbers fits holder =
    let parts = and_parts (not (is_all kind)) (nat_lt h s.hosts) fits in
    let small = ltb-true h s.hosts parts.1 in
    let key = registered s.keys (f h) (numbers h small) holder in
    (not-true (is_all kind) parts.0, ap is_some (key-state_of s f (Some (One kind h)) q h small ∙ key.1))
has_holder s f (Some (All kind)) q numbers fits holder =
    let key = registered s.keys (f holder.0) (numbers holder.0 holder.1) holder.2 in
    (fits, not_empty_from_some _ holder.0 key.0 (key-state_of s f (Some (All kind)) q holder.0 holder.1 ∙ key.1))

pub well_formed-state_of : (s : Scope) (f : ℕ → ℕ) (held : Option Held) (q : ℕ) → IsScope s → ((g : ℕ) → g < s.hosts → f g ≤ length s.keys) → is_reservation s.hosts held ≡ true → IsHeldBy s f held
    → IsWellFormed (state_of s f held q)
well_formed-state_of s f held q scope numbers fits holder = record {
  registry = record {
    hosts = scope.hosts;
    keys = λ h k is. at h k (nat_lt h s.hosts) refl (sym (get-map_where s.hosts (λ g. key_at s.keys (f g)) h) ∙ is);
    held = has_holder s f held q numbers fits holder;
    generation = lit< tt;
  };
  pending = λ h code is. pending h code (and_parts (h == s.own) (set.contains (codes_of q) code) (sym (contains-of_host s.own (codes_of q) h code) ∙ is));
}
  where
    at : (h k : ℕ) (b : Bool) → nat_lt h s.hosts ≡ b → cond b (key_at s.keys (f h)) None ≡ Some k → (h < s.hosts) × IsKey k
    at h k true there is = (ltb-true h s.hosts there, key_is_key s.keys (f h) k scope.keys is)
    at h k false there is = let bad : None ≡ Some k = is in cc

    pending : (h code : ℕ) → ((h == s.own) ≡ true) × (set.contains (codes_of q) code ≡ true) → (h < s.hosts) × IsTrue (is_attention code)
    pending h code is =
        (subst (λ n. n < s.hosts) (sym (eqb-true h s.own is.0)) scope.own, AreAttentions-codes_of q code is.1)

-- ---- the view shows it

pub shown : (v : View) (f : ℕ → ℕ) (held : Option Held) (q : ℕ) → Fits v → ((g : ℕ) → g < v.scope.hosts → v.registrations g (f g) ≡ true)
    → is_reservation v.scope.hosts held ≡ true → v.reservations (number_of v.scope.hosts held) ≡ true → IsHeldBy v.scope f held → v.pending q ≡ true
    → Shows v (state_of v.scope f held q)
shown v f held q fits possible kept reservation holder pending =
    let numbers = λ (g : ℕ) (there : g < v.scope.hosts). fits.registrations g (f g) (possible g there) in
    record {
      formed = well_formed-state_of v.scope f held q fits.scope numbers kept holder;
      hosts = refl;
      registrations = λ g there. (f g, ((there, possible g there), registration-state_of v.scope f held q g there (numbers g there)));
      reservation = (number_of v.scope.hosts held, (reservation, reservation-state_of v.scope f held q));
      pending = (q, (pending, attentions-state_of v.scope f held q (fits.pending q pending)));
    }

-- a view of as many and the same keys in which more is possible shows the state too
pub shown_within : (v w : View) (u : UnitState) → v.scope ≡ w.scope → Within v w → Shows v u → Shows w u
shown_within v w u same within shows = record {
  formed = shows.formed;
  hosts = shows.hosts ∙ ap (λ s. s.hosts) same;
  registrations = λ g there.
      let one = shows.registrations g (subst (λ s. g < s.hosts) (sym same) there) in
      (one.0, (within (Registration g one.0) one.1.0, subst (λ s. IsSo s u (Registration g one.0)) same one.1.1));
  reservation = (shows.reservation.0, (within (Reservation shows.reservation.0) shows.reservation.1.0, subst (λ s. IsSo s u (Reservation shows.reservation.0)) same shows.reservation.1.1));
  pending = (shows.pending.0, (within (Attentions shows.pending.0) shows.pending.1.0, subst (λ s. IsSo s u (Attentions shows.pending.0)) same shows.pending.1.1));
}
