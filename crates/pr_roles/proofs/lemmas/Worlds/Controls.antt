-- What the nexuses do as a run begins, and after a command of one of them.
use Rattle.pr_roles.proofs.Common.{◌≡◌, ℕ, zero, suc, ◌<◌, List, ◌∷◌, length, slice_get, Some, None, Option, option_map, refl, ap, ◌∙◌, none-some, same_Some, slice_get-map, slice_get_within, UnitState, Nexus, Scenario, world_from, option_map_or, Reply, Task, nexus, task, World}
use Rattle.std.specs.Prelude.{◌≢◌, slice_set}
use Rattle.pr_cdb.specs.declared.wire.Wire.{Wire}
use Rattle.pr_roles.specs.Worlds.{Control, Free, control, control_after, control_of, after}

-- what has a task is there
pub there : (s : Scenario) (h : ℕ) (t : Task) → task s h ≡ Some t → h < length s.nexuses
there s h t is = at (nexus s h) refl is
  where
    at : (o : Option Nexus) → nexus s h ≡ o → option_map_or (λ n. Some n.task) o None ≡ Some t → h < length s.nexuses
    at None none is = absurd (none-some t is)
    at (Some n) some is = slice_get_within s.nexuses h n some

-- and begins with it
pub at_start : (s : Scenario) (u : UnitState) (h : ℕ) (t : Task) → task s h ≡ Some t → control (world_from s u) h ≡ control_of t
at_start s u h t is = at (nexus s h) refl is
  where
    at : (o : Option Nexus) → nexus s h ≡ o → option_map_or (λ n. Some n.task) o None ≡ Some t → control (world_from s u) h ≡ control_of t
    at None none is = absurd (none-some t is)
    at (Some n) some is =
        ap (λ o. option_map_or (λ c. c) o Free) (slice_get-map (λ n. control_of n.task) s.nexuses h ∙ ap (option_map (λ n. control_of n.task)) some)
        ∙ ap control_of (same_Some n.task t is)

-- one that is not there does nothing
pub nobody_at_start : (s : Scenario) (u : UnitState) (h : ℕ) → task s h ≡ None → control (world_from s u) h ≡ Free
nobody_at_start s u h is = at (nexus s h) refl is
  where
    at : (o : Option Nexus) → nexus s h ≡ o → option_map_or (λ n. Some n.task) o None ≡ None → control (world_from s u) h ≡ Free
    at None none is = ap (λ o. option_map_or (λ c. c) o Free) (slice_get-map (λ n. control_of n.task) s.nexuses h ∙ ap (option_map (λ n. control_of n.task)) none)
    at (Some n) some is = let bad : Some n.task ≡ None = is in cc

-- ---- after a command

at_itself : (cs : List Control) (h : ℕ) (x : Control) → slice_get (slice_set cs h x) h ≡ option_map (λ c. x) (slice_get cs h)
at_itself (c ∷ cs) (suc h) x = at_itself cs h x
at_itself _ _ x = refl

at_another : (cs : List Control) (g h : ℕ) (x : Control) → h ≢ g → slice_get (slice_set cs g x) h ≡ slice_get cs h
at_another (c ∷ cs) zero zero x other = absurd (other refl)
at_another (c ∷ cs) (suc g) (suc h) x other = at_another cs g h x (λ same. other (ap suc same))
at_another _ _ _ x other = refl

pub control_other : (w : World) (g line : ℕ) (wire : Wire) (r : Reply) (u : UnitState) (h : ℕ) → h ≢ g → control (after w g line wire r u) h ≡ control w h
control_other w g line wire r u h other = ap (λ o. option_map_or (λ c. c) o Free) (at_another w.controls g h (control_after line (control w g) r) other)

-- of itself, whatever it does
pub control_own : (w : World) (h line : ℕ) (wire : Wire) (r : Reply) (u : UnitState) → control (after w h line wire r u) h ≡ control_after line (control w h) r
control_own w h line wire r u = ap (λ o. option_map_or (λ c. c) o Free) (at_itself w.controls h (control_after line (control w h) r)) ∙ at (slice_get w.controls h)
  where
    at : (o : Option Control) → option_map_or (λ c. c) (option_map (λ c. control_after line (option_map_or (λ c. c) o Free) r) o) Free ≡ control_after line (option_map_or (λ c. c) o Free) r
    at None = refl
    at (Some c) = refl
