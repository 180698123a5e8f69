-- A command without conflict and fault leaves a well formed state well formed.
use Rattle.pr_unit.proofs.Common.{◌≡◌, ℕ, ◌<◌, Bool, true, false, not, ◌||◌, if◌then◌else◌, IsTrue, ◌==◌, Some, None, Option, sym, refl, ◌∙◌, subst, arith, false≢true, nat_tests, MOST_NEXUSES, Command, reservations_preempted, reservations_released, registrations_preempted, Pairs, each_with, UnitState, IsWellFormed, and_parts, Kind, Hosts, is_pending, effect, pending_after}
use Rattle.std.proofs.Common.{is_some}
use Rattle.std.specs.FinSet as set
use Rattle.std.specs.FinMap as map
use Rattle.std.proofs.lemmas.Bool.{eq-eqb, false_from_ne_true}
use Rattle.pr_cdb.specs.declared.codes.TheConstants.{INVALID_FIELD_IN_CDB, INVALID_FIELD_IN_PARAMETER_LIST}
use Rattle.pr_registry.specs.declared.change.Change.{Change}
use Rattle.pr_registry.specs.declared.held.Held.{Held}
use Rattle.pr_registry.specs.declared.held.Held.TheVariants.{One, All}
use Rattle.pr_registry.specs.Hosts.{Keys, just, without}
use Rattle.pr_registry.specs.Registrations.{State, key_of, is_registered, IsWellFormed as IsWellFormedRegistry}
use Rattle.pr_registry.specs.Changes.{Case, ReplacesAll, ReplacesHolder, RemovesKey, is_held_by_all, preempt_case, is_replacing, removed_by_preempt}
use Rattle.pr_registry.specs.Premises.{HasKindIfReplacing}
use Rattle.pr_registry.proofs.lemmas.Sets.{get-insert, get-empty, get-without}
use Rattle.pr_registry.proofs.lemmas.States.{well_formed-registered, well_formed-unregistered, well_formed-reserved, well_formed-released, well_formed-cleared, well_formed-preempted}
use Rattle.pr_registry.proofs.lemmas.ToldRegistrants.{AreOthers, TellsOthers, tells_nobody, tells_on_unregister, tells_on_release, tells_on_clear, tells_on_preempt}
use Rattle.pr_unit.specs.declared.demand.Demand.TheVariants.{Register, Unregister, Reserve, Release, Clear, PreemptAll, Preempt}
use Rattle.pr_unit.specs.Attentions.{is_attention}
use Rattle.pr_unit.specs.Demands.{Asked, demand_of}
use Rattle.pr_unit.specs.NamedKeys.{named}
use Rattle.pr_unit.specs.Conduct.{illegal, preempt_fault, preempt_all_fault, leaves, unregistering, conduct}
use Rattle.pr_unit.specs.UnitStates.{registry_after, change}
use Rattle.pr_unit.specs.Laws.{EffectsAreWellFormed}
use Rattle.pr_unit.specs.inside.Readiness.{IsReady}
use Rattle.pr_unit.specs.inside.Told.{AreBelow, TellsBelow}
use Rattle.pr_unit.proofs.lemmas.Attentions.Pairs.{contains-union-pairs, contains-each_with}
use Rattle.pr_unit.proofs.lemmas.Attentions.ToldAttentions.{contains-untold}
use Rattle.pr_unit.proofs.lemmas.Demands.{IsBounded, free_parts, ready, bounded}

-- a PREEMPT without a fault has a type where it replaces
has_kind : (kind : Option Kind) (case : Case) → preempt_fault kind (is_replacing case) ≡ None → HasKindIfReplacing kind case
has_kind (Some t) case none = λ _. refl
has_kind None RemovesKey none = λ replaces. absurd (false≢true replaces)
has_kind None ReplacesAll none = let bad : Some (illegal INVALID_FIELD_IN_CDB 0) ≡ None = none in cc
has_kind None (ReplacesHolder t) none = let bad : Some (illegal INVALID_FIELD_IN_CDB 0) ≡ None = none in cc

-- of the key zero it replaces the reservation of all registrants
pub has_kind-all : (u : State) (kind : Option Kind) → preempt_all_fault u kind ≡ None → HasKindIfReplacing kind (preempt_case u.keys u.held 0)
has_kind-all u kind none = at u.held none
  where
    at : (held : Option Held) → (if not (is_held_by_all held) then Some (illegal INVALID_FIELD_IN_PARAMETER_LIST 0) else preempt_fault kind true) ≡ None → HasKindIfReplacing kind (preempt_case u.keys held 0)
    at (Some (All t)) none = has_kind kind ReplacesAll none
    at None none = let bad : Some (illegal INVALID_FIELD_IN_PARAMETER_LIST 0) ≡ None = none in cc
    at (Some (One t g)) none = let bad : Some (illegal INVALID_FIELD_IN_PARAMETER_LIST 0) ≡ None = none in cc

well_formed-unregister : (u : State) (h : ℕ) (there : Bool) → IsWellFormedRegistry u → IsWellFormedRegistry (if there then unregistering u h else leaves u).after
well_formed-unregister u h true w = well_formed-unregistered u h w
well_formed-unregister u h false w = w

well_formed-after : (u : State) (h : ℕ) (o : Asked) → IsWellFormedRegistry u → h < u.hosts → IsReady u h o → IsBounded o → (conduct u h o).fault ≡ None → IsWellFormedRegistry (conduct u h o).after
well_formed-after u h (Register key) w there ready small whole = well_formed-registered u h key w there (ready, small)
well_formed-after u h Unregister w there ready small whole = well_formed-unregister u h (is_registered u h) w
well_formed-after u h (Reserve kind) w there ready small whole = well_formed-reserved u h kind w ready
well_formed-after u h (Release kind) w there ready small whole = well_formed-released u h kind w
well_formed-after u h Clear w there ready small whole = well_formed-cleared u w
well_formed-after u h (PreemptAll kind) w there ready small whole = well_formed-preempted u h 0 kind w ready (has_kind-all u kind whole)
well_formed-after u h (Preempt key kind) w there ready small whole = well_formed-preempted u h key kind w ready.0 (has_kind kind (preempt_case u.keys u.held key) whole)
well_formed-after u h _ w there ready small whole = w

-- no command changes how many hosts there are
hosts-unregister : (u : State) (h : ℕ) (there : Bool) → (if there then unregistering u h else leaves u).after.hosts ≡ u.hosts
hosts-unregister u h true = refl
hosts-unregister u h false = refl

hosts-by : (u : State) (h : ℕ) (o : Asked) → (conduct u h o).after.hosts ≡ u.hosts
hosts-by u h Unregister = hosts-unregister u h (is_registered u h)
hosts-by u h _ = refl

pub hosts-after : (u : State) (h : ℕ) (c : Command) → (registry_after u h c).hosts ≡ u.hosts
hosts-after u h c = hosts-by u h (demand_of c)

-- only other registrants are told
tells_unregister : (u : State) (h : ℕ) (there : Bool) → TellsOthers u h (if there then unregistering u h else leaves u).change
tells_unregister u h true = tells_on_unregister u h
tells_unregister u h false = tells_nobody u h

tells_others : (u : State) (h : ℕ) (o : Asked) → TellsOthers u h (conduct u h o).change
tells_others u h Unregister = tells_unregister u h (is_registered u h)
tells_others u h (Release kind) = tells_on_release u h kind
tells_others u h Clear = tells_on_clear u h
tells_others u h (PreemptAll kind) = tells_on_preempt u h 0 kind
tells_others u h (Preempt key kind) = tells_on_preempt u h key kind
tells_others u h _ = tells_nobody u h

-- so what is pending for its sender stays
pub own_pending : (u : UnitState) (h : ℕ) (c : Command) (code : ℕ) → is_pending (effect u h c) h code ≡ is_pending u h code
own_pending u h c code = contains-untold u.pending (change u.registry h c) h code (record { untold_03 = out _ tells.told_03; untold_04 = out _ tells.told_04; untold_05 = out _ tells.told_05 })
  where
    tells : TellsOthers u.registry h (change u.registry h c)
    tells = tells_others u.registry h (demand_of c)

    out : (s : Hosts) → AreOthers u.registry h s → set.contains s h ≡ false
    out s are = false_from_ne_true _ (λ there. false≢true (sym (are h there).1 ∙ eq-eqb h h refl))

-- a registrant is a host that is there
in_range : (u : State) (q : ℕ) → IsWellFormedRegistry u → is_registered u q ≡ true → q < u.hosts
in_range u q w there = at (key_of u q) refl there
  where
    at : (o : Option ℕ) → key_of u q ≡ o → is_some o ≡ true → q < u.hosts
    at None is there = absurd (false≢true there)
    at (Some k) is there = (w.keys q k is).0

abbrev IsOfHost : ℕ → ℕ → ℕ → Type 0
IsOfHost hosts q code = (q < hosts) × IsTrue (is_attention code)

either_way : (a b : Bool) (P : Type 0) → (a || b) ≡ true → (a ≡ true → P) → (b ≡ true → P) → P
either_way true b P is left right = left refl
either_way false b P is left right = right is

-- who is told is a host that is there
told_with : (u : State) (h : ℕ) (s : Hosts) (k q code : ℕ) → IsWellFormedRegistry u → AreOthers u h s → IsTrue (is_attention k) → set.contains (each_with s k) (q, code) ≡ true → IsOfHost u.hosts q code
told_with u h s k q code w are known is =
    let parts = and_parts (set.contains s q) (code == k) (sym (contains-each_with s k q code) ∙ is) in
    let same : k ≡ code = grind (arith, nat_tests) in
    (in_range u q w (are q parts.0).0, subst (λ x. IsTrue (is_attention x)) same known)

-- a pair is pending after a change since it was before, or since one of the three codes was told
told_is_of_host : (u : UnitState) (h : ℕ) (c : Change) (q code : ℕ) → IsWellFormed u → TellsOthers u.registry h c
    → set.contains (pending_after u.pending c) (q, code) ≡ true → IsOfHost u.registry.hosts q code
told_is_of_host u h c q code w tells is =
    let e3 = each_with c.told_03 reservations_preempted in
    let e4 = each_with c.told_04 reservations_released in
    let e5 = each_with c.told_05 registrations_preempted in
    let s3 = set.union u.pending e3 in
    let s4 = set.union s3 e4 in
    let P = IsOfHost u.registry.hosts q code in
    let has = λ (s : Pairs). set.contains s (q, code) in
    either_way (has s4) (has e5) P (sym (contains-union-pairs s4 e5 (q, code)) ∙ is)
    (λ in4. either_way (has s3) (has e4) P (sym (contains-union-pairs s3 e4 (q, code)) ∙ in4)
    (λ in3. either_way (has u.pending) (has e3) P (sym (contains-union-pairs u.pending e3 (q, code)) ∙ in3)
    (λ old. w.pending q code old)
    (λ new. told_with u.registry h c.told_03 reservations_preempted q code w.registry tells.told_03 refl new))
    (λ new. told_with u.registry h c.told_04 reservations_released q code w.registry tells.told_04 refl new))
    (λ new. told_with u.registry h c.told_05 registrations_preempted q code w.registry tells.told_05 refl new)

pub effects_are_well_formed : EffectsAreWellFormed
effects_are_well_formed u h c w there fits free whole =
    record {
      registry = well_formed-after u.registry h (demand_of c) w.registry there (ready u.registry h c (free_parts u.registry h c free).0) (bounded c fits) whole;
      pending = λ q code is. let of_host = told_is_of_host u h (change u.registry h c) q code w (tells_others u.registry h (demand_of c)) is in
          (rw (hosts-after u.registry h c) of_host.0, of_host.1);
    }

-- a command tells hosts that have a place
pub tells_below : (u : State) (h : ℕ) (c : Command) → IsWellFormedRegistry u → TellsBelow MOST_NEXUSES (change u h c)
tells_below u h c w =
    let tells = tells_others u h (demand_of c) in
    let c = change u h c in
    record { told_03 = below c.told_03 tells.told_03; told_04 = below c.told_04 tells.told_04; told_05 = below c.told_05 tells.told_05 }
  where
    below : (s : Hosts) → AreOthers u h s → AreBelow MOST_NEXUSES s
    below s are q is =
        let there = in_range u q w (are q is).0 in
        let most = w.hosts.1 in
        omega arith

-- ---- the key of a host afterwards: none, the one from before, or the one that the demand names

module _ (P : Option ℕ → Type 0) (none : P None) where
  key_if : (b : Bool) (x y : Option ℕ) → P x → P y → P (if b then x else y)
  key_if true x y is also = is
  key_if false x y is also = also

  key_without : (keys : Keys) (removed : Hosts) (g : ℕ) → P (map.get keys g) → P (map.get (without keys removed) g)
  key_without keys removed g is = subst P (sym (get-without keys removed g)) (key_if (set.contains removed g) None (map.get keys g) none is)

  key_unregister : (u : State) (h g : ℕ) (there : Bool) → P (key_of u g) → P (key_of (if there then unregistering u h else leaves u).after g)
  key_unregister u h g true is = key_without u.keys (just h) g is
  key_unregister u h g false is = is

  key_preempt : (u : State) (h sark g : ℕ) → P (key_of u g) → P (map.get (without u.keys (removed_by_preempt u.keys h sark (preempt_case u.keys u.held sark))) g)
  key_preempt u h sark g is = key_without u.keys (removed_by_preempt u.keys h sark (preempt_case u.keys u.held sark)) g is

  pub key_by : (u : State) (h g : ℕ) (o : Asked) → P (key_of u g) → ((k : ℕ) → named o ≡ Some k → P (Some k)) → P (key_of (conduct u h o).after g)
  key_by u h g (Register key) is new = subst P (sym (get-insert u.keys h key g)) (key_if (g == h) (Some key) (map.get u.keys g) (new key refl) is)
  key_by u h g Unregister is new = key_unregister u h g (is_registered u h) is
  key_by u h g Clear is new = subst P (sym (get-empty g)) none
  key_by u h g (PreemptAll kind) is new = key_preempt u h 0 g is
  key_by u h g (Preempt key kind) is new = key_preempt u h key g is
  key_by u h g _ is new = is
