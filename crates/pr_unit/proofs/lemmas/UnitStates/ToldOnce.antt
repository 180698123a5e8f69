-- A command tells a host of one attention at most.
use Rattle.pr_unit.proofs.Common.{◌≡◌, ℕ, Bool, true, false, not, ◌&&◌, ◌||◌, if◌then◌else◌, ◌==◌, Option, refl, ap, ◌∙◌, or-false, Command, Kind, Hosts, Pairs, reservations_preempted, reservations_released, registrations_preempted, no_change, pending_after, contains-nobody}
use Rattle.std.specs.FinSet as set
use Rattle.std.proofs.Math.Bool.{and-false}
use Rattle.pr_registry.specs.declared.change.Change.{Change}
use Rattle.pr_registry.specs.Hosts.{nobody}
use Rattle.pr_registry.specs.Registrations.{State, others, is_registered}
use Rattle.pr_registry.specs.Changes.{is_new_type, preempt_case, removed_by_preempt, change_on_preempt}
use Rattle.pr_registry.proofs.lemmas.Sets.{contains-remove, contains-difference}
use Rattle.pr_unit.specs.declared.demand.Demand.TheVariants.{Unregister, Release, Clear, PreemptAll, Preempt}
use Rattle.pr_unit.specs.Conduct.{leaves, unregistering, conduct}
use Rattle.pr_unit.specs.Demands.{Asked, demand_of}
use Rattle.pr_unit.specs.UnitStates.{change}
use Rattle.pr_unit.proofs.lemmas.Attentions.ToldAttentions.{is_pending_after, contains-told}

-- this code is pending then, if it is told at all, and what was pending before
pub record IsToldOnce (t : Change) (h : ℕ) : Type 0 where
  pub code : ℕ
  pub told : Bool
  pub pending : (p : Pairs) (x : ℕ) → set.contains (pending_after p t) (h, x) ≡ (set.contains p (h, x) || (told && x == code))

-- of the three the host is told of one at most
data TellsOne (t : Change) (h : ℕ) : Type 0 where
  of_preempted_reservations : set.contains t.told_04 h ≡ false → set.contains t.told_05 h ≡ false → TellsOne t h
  of_released_reservations : set.contains t.told_03 h ≡ false → set.contains t.told_05 h ≡ false → TellsOne t h
  of_preempted_registrations : set.contains t.told_03 h ≡ false → set.contains t.told_04 h ≡ false → TellsOne t h

told_by : (t : Change) (h : ℕ) → TellsOne t h → IsToldOnce t h
told_by t h (of_preempted_reservations b c) = record {
  code = reservations_preempted;
  told = set.contains t.told_03 h;
  pending = λ p x. contains-told p t h x ∙ (λ i. is_pending_after (set.contains p (h, x)) (set.contains t.told_03 h) (b i) (c i) x) ∙ or-false _ ∙ or-false _;
}
told_by t h (of_released_reservations a c) = record {
  code = reservations_released;
  told = set.contains t.told_04 h;
  pending = λ p x. contains-told p t h x ∙ (λ i. is_pending_after (set.contains p (h, x)) (a i) (set.contains t.told_04 h) (c i) x) ∙ or-false _ ∙ ap (λ w. w || (set.contains t.told_04 h && x == reservations_released)) (or-false (set.contains p (h, x)));
}
told_by t h (of_preempted_registrations a b) = record {
  code = registrations_preempted;
  told = set.contains t.told_05 h;
  pending = λ p x. contains-told p t h x ∙ (λ i. is_pending_after (set.contains p (h, x)) (a i) (b i) (set.contains t.told_05 h) x)
      ∙ ap (λ w. w || (set.contains t.told_05 h && x == registrations_preempted)) (or-false _ ∙ or-false _);
}

tells_nobody : (h : ℕ) → TellsOne no_change h
tells_nobody h = of_preempted_reservations (contains-nobody h) (contains-nobody h)

on_unregister : (u : State) (g h : ℕ) (there : Bool) → TellsOne (if there then unregistering u g else leaves u).change h
on_unregister u g h true = of_released_reservations (contains-nobody h) (contains-nobody h)
on_unregister u g h false = tells_nobody h

-- who is removed isn't told of the reservation too
on_preempt : (u : State) (g sark : ℕ) (kind : Option Kind) (h : ℕ) → TellsOne (change_on_preempt u g sark kind) h
on_preempt u g sark kind h = at (set.contains removed h) refl
  where
    removed : Hosts
    removed = removed_by_preempt u.keys g sark (preempt_case u.keys u.held sark)

    released : (new : Bool) → set.contains removed h ≡ true → set.contains (if new then set.difference (others u g) removed else nobody) h ≡ false
    released true is = contains-difference (others u g) removed h ∙ ap (λ b. set.contains (others u g) h && not b) is ∙ and-false (set.contains (others u g) h)
    released false is = contains-nobody h

    at : (b : Bool) → set.contains removed h ≡ b → TellsOne (change_on_preempt u g sark kind) h
    at true is = of_preempted_registrations (contains-nobody h) (released (is_new_type kind (preempt_case u.keys u.held sark)) is)
    at false is = of_released_reservations (contains-nobody h) (contains-remove removed g h ∙ ap (λ b. not (h == g) && b) is ∙ and-false (not (h == g)))

by_demand : (u : State) (g h : ℕ) (o : Asked) → TellsOne (conduct u g o).change h
by_demand u g h Unregister = on_unregister u g h (is_registered u g)
by_demand u g h (Release kind) = of_released_reservations (contains-nobody h) (contains-nobody h)
by_demand u g h Clear = of_preempted_reservations (contains-nobody h) (contains-nobody h)
by_demand u g h (PreemptAll kind) = on_preempt u g 0 kind h
by_demand u g h (Preempt key kind) = on_preempt u g key kind h
by_demand u g h _ = tells_nobody h

pub told_once : (u : State) (g : ℕ) (c : Command) (h : ℕ) → IsToldOnce (change u g c) h
told_once u g c h = told_by (change u g c) h (by_demand u g h (demand_of c))
