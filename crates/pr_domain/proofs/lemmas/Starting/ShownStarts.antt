-- Starts that a view of the alternatives shows: with nothing pending for the others they are allowed.
use Rattle.pr_domain.proofs.Common.{◌≡◌, ℕ, ◌<◌, true, ◌&&◌, ◌==◌, Some, Contains, sym, refl, ap, ◌∙◌, subst, and_parts, has_wide, codes_of, UnitState, is_pending, IsWellFormed, is_reservation, Scenario, nexus, view_in, Scope, Item, Attentions, IsSo, Shows, Possibilities, reservation_of, AreAlternatives, eq-eqb, eqb-true}
use Rattle.std.specs.FinSet as set
use Rattle.pr_unit.specs.Tables.{of_host}
use Rattle.pr_unit.proofs.lemmas.Attentions.Pairs.{contains-of_host}
use Rattle.pr_unit.proofs.lemmas.UnitStates.AlikeStates.{IsLike}
use Rattle.pr_domain.specs.Starting.{StartsSo}
use Rattle.pr_regions.proofs.lemmas.Showing.AlikeStates.{so_like}

-- the same state, with nothing pending for any but the owner
abbrev pub alone : UnitState → ℕ → ℕ → UnitState
alone u own q = record { registry = u.registry; pending = of_host own (codes_of q) }

pub like_alone : (s : Scope) (u : UnitState) (q : ℕ) → IsSo s u (Attentions q) → IsLike s.own u (alone u s.own q)
like_alone s u q so = record {
  registry = refl;
  pending = λ code. contains-of_host s.own (codes_of q) s.own code ∙ ap (λ b. b && set.contains (codes_of q) code) (eq-eqb s.own s.own refl) ∙ sym (so.1 code);
}

-- what is pending in it
pub pending_alone : (s : Scope) (u : UnitState) (q h code : ℕ) → is_pending (alone u s.own q) h code ≡ true → (h ≡ s.own) × (set.contains (codes_of q) code ≡ true)
pending_alone s u q h code is =
    let parts = and_parts (h == s.own) (set.contains (codes_of q) code) (sym (contains-of_host s.own (codes_of q) h code) ∙ is) in
    (eqb-true h s.own parts.0, parts.1)

pub formed_alone : (s : Scope) (u : UnitState) (q : ℕ) → IsSo s u (Attentions q) → IsWellFormed u → IsWellFormed (alone u s.own q)
formed_alone s u q so formed = record {
  registry = formed.registry;
  pending = λ h code is.
      let parts = pending_alone s u q h code is in
      let was = formed.pending s.own code (so.1 code ∙ parts.1) in
      (subst (λ n. n < u.registry.hosts) (sym parts.0) was.0, was.1);
}

-- what is so in a shown state is so in an allowed start
pub starts_so : (sc : Scenario) (s : Scope) (p : Possibilities) (u : UnitState) (i : Item) → AreAlternatives sc s p → Shows (view_in s p) u → IsSo s u i → StartsSo sc (view_in s p) i
starts_so sc s p u i are shown so = record {
  unit = start;
  allowed = record {
    formed = formed_alone s u q seen shown.formed;
    hosts = shown.hosts ∙ are.hosts;
    registrations = λ g n is.
        let found = shown.registrations g (are.there g n is) in
        subst (Contains n.start) (sym found.1.1.2) ((are.registrations g found.0 n is found.1.1.1).0 found.1.0.1);
    reservation = (are.reservations u.registry.held fits).0 (subst (λ x. has_wide p.reservations x ≡ true) shown.reservation.1.1 shown.reservation.1.0);
    pending = λ h code n is pends.
        let parts = pending_alone s u q h code pends in
        (are.pending q n seen.0 (subst (λ g. nexus sc g ≡ Some n) parts.0 is)).0 shown.pending.1.0 code parts.1;
  };
  is = so_like s u start i (like_alone s u q seen) so;
}
  where
    q : ℕ
    q = shown.pending.0

    seen : IsSo s u (Attentions q)
    seen = shown.pending.1.1

    start : UnitState
    start = alone u s.own q

    fits : is_reservation s.hosts u.registry.held ≡ true
    fits = subst (λ n. is_reservation n u.registry.held ≡ true) shown.hosts (reservation_of u.registry shown.formed.registry)
