-- Only other registrants are told.
use Rattle.pr_registry.proofs.Common.{◌≡◌, ℕ, Bool, true, false, not, ◌&&◌, is_some, if◌then◌else◌, ◌==◌, Some, None, Option, sym, refl, ◌∙◌, false≢true, preempt_case, removed_by_preempt, Hosts, nobody, is_key, hosts_in, hosts_with, State, is_registered}
use Rattle.std.specs.FinSet as set
use Rattle.std.specs.FinMap as map
use Rattle.std.proofs.lemmas.Bool.{and_parts, not-true}
use Rattle.pr_cdb.specs.declared.command.Kind.{Kind}
use Rattle.pr_registry.specs.declared.change.Change.{Change}
use Rattle.pr_registry.specs.Registrations.{others, registrants, holds_alone}
use Rattle.pr_registry.specs.Changes.{Case, ReplacesAll, ReplacesHolder, RemovesKey, no_change, is_new_type, is_released, is_told_of_loss, change_on_unregister, change_on_release, change_on_clear, change_on_preempt}
use Rattle.pr_registry.proofs.lemmas.Sets.{contains-nobody, contains-remove, contains-difference, contains-hosts_in, contains-hosts_with}

-- each of these hosts is registered
abbrev AreRegistered : State → Hosts → Type 0
AreRegistered u s = (q : ℕ) → set.contains s q ≡ true → is_registered u q ≡ true

-- and is not this one
abbrev pub AreOthers : State → ℕ → Hosts → Type 0
AreOthers u h s = (q : ℕ) → set.contains s q ≡ true → (is_registered u q ≡ true) × ((q == h) ≡ false)

pub record TellsOthers (u : State) (h : ℕ) (c : Change) : Type 0 where
  pub told_03 : AreOthers u h c.told_03
  pub told_04 : AreOthers u h c.told_04
  pub told_05 : AreOthers u h c.told_05

AreRegistered-hosts_in : (u : State) → AreRegistered u (hosts_in u.keys)
AreRegistered-hosts_in u q is = sym (contains-hosts_in u.keys q) ∙ is

AreRegistered-hosts_with : (u : State) (k : ℕ) → AreRegistered u (hosts_with u.keys k)
AreRegistered-hosts_with u k q is = at (map.get u.keys q) (sym (contains-hosts_with u.keys k q) ∙ is)
  where
    at : (o : Option ℕ) → is_key o k ≡ true → is_some o ≡ true
    at None is = absurd (false≢true is)
    at (Some j) is = refl

AreOthers-remove : (u : State) (s : Hosts) (h : ℕ) → AreRegistered u s → AreOthers u h (set.remove s h)
AreOthers-remove u s h are q is =
    let parts = and_parts (not (q == h)) (set.contains s q) (sym (contains-remove s h q) ∙ is) in
    (are q parts.1, not-true (q == h) parts.0)

AreRegistered-removed : (u : State) (h sark : ℕ) (case : Case) → AreRegistered u (removed_by_preempt u.keys h sark case)
AreRegistered-removed u h sark ReplacesAll q is = (AreOthers-remove u (hosts_in u.keys) h (AreRegistered-hosts_in u) q is).0
AreRegistered-removed u h sark (ReplacesHolder t) q is = (AreOthers-remove u (hosts_with u.keys sark) h (AreRegistered-hosts_with u sark) q is).0
AreRegistered-removed u h sark RemovesKey q is = AreRegistered-hosts_with u sark q is

AreOthers-nobody : (u : State) (h : ℕ) → AreOthers u h nobody
AreOthers-nobody u h q is = absurd (false≢true (sym (contains-nobody q) ∙ is))

AreOthers-others : (u : State) (h : ℕ) → AreOthers u h (others u h)
AreOthers-others u h = AreOthers-remove u (registrants u) h (AreRegistered-hosts_in u)

AreOthers-difference : (u : State) (h : ℕ) (s t : Hosts) → AreOthers u h s → AreOthers u h (set.difference s t)
AreOthers-difference u h s t are q is = are q (and_parts (set.contains s q) (not (set.contains t q)) (sym (contains-difference s t q) ∙ is)).0

AreOthers-if : (u : State) (h : ℕ) (b : Bool) (s : Hosts) → AreOthers u h s → AreOthers u h (if b then s else nobody)
AreOthers-if u h true s are = are
AreOthers-if u h false s are = AreOthers-nobody u h

pub tells_nobody : (u : State) (h : ℕ) → TellsOthers u h no_change
tells_nobody u h = record { told_03 = AreOthers-nobody u h; told_04 = AreOthers-nobody u h; told_05 = AreOthers-nobody u h }

-- that a reservation was released
tells_of_loss : (u : State) (h : ℕ) (b : Bool) → TellsOthers u h (record no_change { told_04 = if b then others u h else nobody })
tells_of_loss u h b = record { told_03 = AreOthers-nobody u h; told_04 = AreOthers-if u h b (others u h) (AreOthers-others u h); told_05 = AreOthers-nobody u h }

pub tells_on_unregister : (u : State) (h : ℕ) → TellsOthers u h (change_on_unregister u h)
tells_on_unregister u h =
    let tells = tells_of_loss u h (holds_alone u.held h && is_told_of_loss u.held) in
    record { told_03 = tells.told_03; told_04 = tells.told_04; told_05 = tells.told_05 }

pub tells_on_release : (u : State) (h : ℕ) (kind : Kind) → TellsOthers u h (change_on_release u h kind)
tells_on_release u h kind = tells_of_loss u h (is_released u h kind && is_told_of_loss u.held)

pub tells_on_clear : (u : State) (h : ℕ) → TellsOthers u h (change_on_clear u h)
tells_on_clear u h = record { told_03 = AreOthers-others u h; told_04 = AreOthers-nobody u h; told_05 = AreOthers-nobody u h }

pub tells_on_preempt : (u : State) (h sark : ℕ) (kind : Option Kind) → TellsOthers u h (change_on_preempt u h sark kind)
tells_on_preempt u h sark kind =
    let case = preempt_case u.keys u.held sark in
    let removed = removed_by_preempt u.keys h sark case in
    record {
      told_03 = AreOthers-nobody u h;
      told_04 = AreOthers-if u h (is_new_type kind case) (set.difference (others u h) removed) (AreOthers-difference u h (others u h) removed (AreOthers-others u h));
      told_05 = AreOthers-remove u removed h (AreRegistered-removed u h sark case);
    }
