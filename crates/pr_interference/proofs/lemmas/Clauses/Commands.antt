-- What a command that a clause names asks for, and a command of each clause.
use Rattle.pr_interference.proofs.Common.{◌≡◌, ℕ, Bool, true, false, ◌&&◌, ◌⊎◌, List, if◌then◌else◌, ◌==◌, Some, None, Option, sym, refl, ap, ◌∙◌, subst, inl, inr, arith, false≢true, and_parts, nat_tests, Command, Kind, Plain, is_kind, kind_of, IsKey, Held, request_looks, UnitState, is_declared, is_action, AreDeclared, names, Action, number_in, purpose_of_preempt, purpose_of, Purpose, purpose_for, eqb-true}
use Rattle.pr_unit.specs.declared.demand.Demand.TheVariants.{Register, Unregister, Reserve, Release, Clear, PreemptAll, Preempt}
use Rattle.pr_cdb.specs.declared.command.Command.TheVariants as command
use Rattle.pr_registry.proofs.lemmas.Kinds.{same_kind}
use Rattle.pr_unit.proofs.lemmas.UnitStates.Releases.{HasNoEffect, held_or_unreleased}
use Rattle.pr_roles.specs.declared.role.Action.TheVariants as action
use Rattle.pr_unit.specs.Demands.{registering, preempting}
use Rattle.pr_regions.specs.Purposes.{numbered}
use Rattle.std.proofs.lemmas.List.Folds.{Any-from_list_any}

-- ---- keys

pub declared_key : (keys : List ℕ) (key : ℕ) → AreDeclared keys → is_declared keys key ≡ true → IsKey key
declared_key keys key declared is =
    let found = Any-from_list_any (λ k. k == key) keys is in
    subst IsKey (found.3 ∙ eqb-true found.1 key found.4) (declared.each found.0 found.1 found.2)

not_zero : (key : ℕ) → IsKey key → (key == 0) ≡ false
not_zero key is = let some = is.0 in grind (arith, nat_tests)

-- ---- what is meant

pub record IsMeant (keys : List ℕ) (a : Action) (held : Option Held) (c : Command) : Type 0 where
  pub purpose : Purpose
  pub meant : purpose_for keys a held ≡ Some purpose
  pub asked : purpose_of keys c ≡ Some purpose

pub alone : (b : Bool) → (b && true) ≡ true → b ≡ true
alone b is = (and_parts b true is).0

pub registers_key : (keys : List ℕ) (sark key : ℕ) → AreDeclared keys → is_declared keys key ≡ true → (sark == key) ≡ true → numbered keys (registering sark) ≡ Some (Register (number_in keys key))
registers_key keys sark key declared is same =
    ap (λ k. numbered keys (registering k)) (eqb-true sark key same)
    ∙ ap (λ b. numbered keys (if b then Unregister else Register key)) (not_zero key (declared_key keys key declared is))

unregisters : (keys : List ℕ) (sark : ℕ) → (sark == 0) ≡ true → numbered keys (registering sark) ≡ Some Unregister
unregisters keys sark same = ap (λ b. numbered keys (if b then Unregister else Register sark)) same

-- a PREEMPT has a purpose
pub preempts_as : (keys : List ℕ) (key : ℕ) (t : Kind) → numbered keys (preempting key (Some t)) ≡ Some (purpose_of_preempt keys key t)
preempts_as keys key t = at (key == 0)
  where
    at : (b : Bool) → numbered keys (if b then PreemptAll (Some t) else Preempt key (Some t)) ≡ Some (if b then PreemptAll t else Preempt (number_in keys key) t)
    at true = refl
    at false = refl

preempts_key : (keys : List ℕ) (sark key : ℕ) (k t : Kind) → (sark == key && (is_kind k t && true)) ≡ true → numbered keys (preempting sark (Some k)) ≡ Some (purpose_of_preempt keys key t)
preempts_key keys sark key k t is =
    let parts = and_parts (sark == key) (is_kind k t && true) is in
    (λ i. numbered keys (preempting (eqb-true sark key parts.0 i) (Some (same_kind k t (alone (is_kind k t) parts.1) i)))) ∙ preempts_as keys key t

is_meant : (keys : List ℕ) (a : Action) (c : Command) (u : UnitState) (p : Purpose) → purpose_for keys a u.registry.held ≡ Some p → purpose_of keys c ≡ Some p → IsMeant keys a u.registry.held c
is_meant keys a c u p meant asked = record { purpose = p; meant = meant; asked = asked }

released_as : (keys : List ℕ) (u : UnitState) (h rk : ℕ) (kind : Kind) → IsMeant keys action.Release u.registry.held (command.Release rk kind) ⊎ HasNoEffect u h (command.Release rk kind)
released_as keys u h rk kind = by (held_or_unreleased u h rk kind u.registry.held refl)
  where
    by : ((v : Held) × (u.registry.held ≡ Some v) × (kind_of v ≡ kind)) ⊎ HasNoEffect u h (command.Release rk kind) → IsMeant keys action.Release u.registry.held (command.Release rk kind) ⊎ HasNoEffect u h (command.Release rk kind)
    by (inl x) = inl (is_meant keys action.Release (command.Release rk kind) u (Release (kind_of x.0)) (ap (purpose_for keys action.Release) x.1) (ap (λ k. Some (Release k)) (sym x.2)))
    by (inr none) = inr none

-- a service action that a clause names asks for what the clause means, or has no effect
pub meant : (keys : List ℕ) (a : Action) (c : Command) (u : UnitState) (h : ℕ) → AreDeclared keys → is_action keys a ≡ true → request_looks (Plain c) ≡ false → names a c ≡ true
    → IsMeant keys a u.registry.held c ⊎ HasNoEffect u h c
meant keys a command.TestUnitReady u h declared fits acts named = absurd (false≢true (sym acts))
meant keys a command.RequestSense u h declared fits acts named = absurd (false≢true (sym acts))
meant keys a (command.Read lba blocks) u h declared fits acts named = absurd (false≢true (sym acts))
meant keys a (command.Write lba blocks) u h declared fits acts named = absurd (false≢true (sym acts))
meant keys a (command.ReadKeys alloc) u h declared fits acts named = absurd (false≢true (sym acts))
meant keys a (command.ReadReservation alloc) u h declared fits acts named = absurd (false≢true (sym acts))
meant keys a (command.ReportCapabilities alloc) u h declared fits acts named = absurd (false≢true (sym acts))
meant keys a (command.Preempt rk sark None) u h declared fits acts named = absurd (false≢true named)
meant keys a (command.PreemptAbort rk sark None) u h declared fits acts named = absurd (false≢true named)
meant keys (action.Register key) (command.Register rk sark) u h declared fits acts named = inl (is_meant keys (action.Register key) (command.Register rk sark) u (Register (number_in keys key)) refl (registers_key keys sark key declared fits (alone _ named)))
meant keys action.Unregister (command.Register rk sark) u h declared fits acts named = inl (is_meant keys action.Unregister (command.Register rk sark) u Unregister refl (unregisters keys sark (alone _ named)))
meant keys (action.Register key) (command.RegisterIgnore sark) u h declared fits acts named = inl (is_meant keys (action.Register key) (command.RegisterIgnore sark) u (Register (number_in keys key)) refl (registers_key keys sark key declared fits (alone _ named)))
meant keys action.Unregister (command.RegisterIgnore sark) u h declared fits acts named = inl (is_meant keys action.Unregister (command.RegisterIgnore sark) u Unregister refl (unregisters keys sark (alone _ named)))
meant keys (action.Reserve t) (command.Reserve rk kind) u h declared fits acts named = inl (is_meant keys (action.Reserve t) (command.Reserve rk kind) u (Reserve t) refl (ap (λ k. Some (Reserve k)) (same_kind kind t (alone _ named))))
meant keys action.Release (command.Release rk kind) u h declared fits acts named = released_as keys u h rk kind
meant keys action.Clear (command.Clear rk) u h declared fits acts named = inl (is_meant keys action.Clear (command.Clear rk) u Clear refl refl)
meant keys (action.Preempt key t) (command.Preempt rk sark (Some kind)) u h declared fits acts named = inl (is_meant keys (action.Preempt key t) (command.Preempt rk sark (Some kind)) u (purpose_of_preempt keys key t) refl (preempts_key keys sark key kind t named))
meant keys (action.Preempt key t) (command.PreemptAbort rk sark (Some kind)) u h declared fits acts named = inl (is_meant keys (action.Preempt key t) (command.PreemptAbort rk sark (Some kind)) u (purpose_of_preempt keys key t) refl (preempts_key keys sark key kind t named))
meant keys _ _ u h declared fits acts named = absurd (false≢true named)
