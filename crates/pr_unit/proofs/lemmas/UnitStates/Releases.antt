-- A RELEASE that releases nothing.
use Rattle.pr_unit.proofs.Common.{◌≡◌, ℕ, Bool, true, false, ◌&&◌, if◌then◌else◌, Some, None, Option, refl, ap, ◌∙◌, Command, UnitState, effect, ◌⊎◌, inl, inr, Kind, Hosts, no_change, contains-nobody}
use Rattle.std.specs.FinSet as set
use Rattle.std.proofs.lemmas.Bool.{and_right}
use Rattle.pr_cdb.specs.declared.command.Command.TheVariants as command
use Rattle.pr_registry.specs.declared.held.Held.{Held}
use Rattle.pr_registry.specs.Hosts.{nobody}
use Rattle.pr_registry.specs.Registrations.{others, is_holder, kind_of}
use Rattle.pr_registry.specs.Changes.{is_held_as, is_kind, is_released, is_told_of_loss}
use Rattle.pr_registry.proofs.lemmas.Kinds.{same_kind}
use Rattle.pr_unit.proofs.lemmas.Attentions.ToldAttentions.{contains-untold}
use Rattle.pr_unit.proofs.lemmas.UnitStates.AlikeStates.{IsLike}

abbrev pub HasNoEffect : UnitState → ℕ → Command → Type 0
HasNoEffect u h c = (own : ℕ) → IsLike own u (effect u h c)

no_told : (told : Hosts) (b : Bool) → b ≡ false → (q : ℕ) → set.contains (if b then told else nobody) q ≡ false
no_told told b is q = ap (λ x. set.contains (if x then told else nobody) q) is ∙ contains-nobody q

-- a RELEASE that releases nothing
unreleased : (u : UnitState) (h rk : ℕ) (kind : Kind) → is_released u.registry h kind ≡ false → HasNoEffect u h (command.Release rk kind)
unreleased u h rk kind none own = record {
  registry = ap (λ b. record u.registry { held = if b then None else u.registry.held }) none;
  pending = λ code.
      let tells : Hosts = if is_released u.registry h kind && is_told_of_loss u.registry.held then others u.registry h else nobody in
      let quiet : (is_released u.registry h kind && is_told_of_loss u.registry.held) ≡ false = ap (λ b. b && is_told_of_loss u.registry.held) none in
      contains-untold u.pending (record no_change { told_04 = tells }) own code
      (record { untold_03 = contains-nobody own; untold_04 = no_told (others u.registry h) _ quiet own; untold_05 = contains-nobody own });
}

-- a RELEASE is of the reservation that is held, or releases nothing
pub held_or_unreleased : (u : UnitState) (h rk : ℕ) (kind : Kind) (held : Option Held) → u.registry.held ≡ held → ((v : Held) × (held ≡ Some v) × (kind_of v ≡ kind)) ⊎ HasNoEffect u h (command.Release rk kind)
held_or_unreleased u h rk kind None is = inr (unreleased u h rk kind (ap (λ v. is_holder u.registry h && is_held_as v kind) is ∙ and_right (is_holder u.registry h) false refl))
held_or_unreleased u h rk kind (Some v) is = at (is_kind (kind_of v) kind) refl
  where
    at : (b : Bool) → is_kind (kind_of v) kind ≡ b → ((w : Held) × (Some v ≡ Some w) × (kind_of w ≡ kind)) ⊎ HasNoEffect u h (command.Release rk kind)
    at true same = inl (v, refl, same_kind (kind_of v) kind same)
    at false other = inr (unreleased u h rk kind (ap (λ w. is_holder u.registry h && is_held_as w kind) is ∙ and_right (is_holder u.registry h) (is_kind (kind_of v) kind) other))
