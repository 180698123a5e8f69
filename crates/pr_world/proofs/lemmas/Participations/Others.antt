-- A nexus among the others.
use Rattle.pr_world.proofs.Common.{◌≡◌, ℕ, ◌<◌, Bool, List, [], ◌∷◌, ◌++◌, map, length, get_or, slice_get, slice_set, Some, None, Option, option_map, sym, refl, ap, ◌∙◌, append-nil, option_map_or, map-set_same, map-set, slice_get-map, slice_get-get_or, spelling, Command, UnitState, Nexus, Scenario, plan, Free, control_after, World, control, Entry, How, Item, Sent, is_free, is_planned, Participation, schedule_by, StandsFor}
use Rattle.pr_roles.specs.Worlds.{after}
use Rattle.pr_roles.specs.Schedules.{Sends}
use Rattle.pr_world.specs.inside.Participations.{IsSent}

-- ---- a participation among the participations

abbrev pub with_participation : List Participation → ℕ → Participation → List Participation
with_participation xs h y = slice_set xs h y

abbrev pub world_by : UnitState → List Participation → List Item → World
world_by u xs es = record { unit = u; controls = map (λ x. x.control) xs; history = es }

pub at_participation : (xs : List Participation) (h : ℕ) (x : Participation) → h < length xs → get_or xs h x ≡ x → slice_get xs h ≡ Some x
at_participation xs h x there is = slice_get-get_or xs h x there ∙ ap Some is

pub control_at : (u : UnitState) (xs : List Participation) (es : List Item) (h : ℕ) (x : Participation) → slice_get xs h ≡ Some x → control (world_by u xs es) h ≡ x.control
control_at u xs es h x is = ap (λ o. option_map_or (λ c. c) o Free) (slice_get-map (λ s. s.control) xs h ∙ ap (option_map (λ s. s.control)) is)

pub plan_at : (u : UnitState) (xs : List Participation) (es : List Item) (h : ℕ) (x : Participation) → slice_get xs h ≡ Some x → plan (schedule_by u xs es) h ≡ x.plan
plan_at u xs es h x is = ap (λ o. option_map_or (λ p. p) o []) (slice_get-map (λ s. s.plan) xs h ∙ ap (option_map (λ s. s.plan)) is)

-- nothing was sent, and all is as it was
pub rests : (u v : UnitState) (xs : List Participation) (es : List Item) (h : ℕ) (x y : Participation) → get_or xs h x ≡ x → y.control ≡ x.control → v ≡ u
    → world_by v (with_participation xs h y) (es ++ []) ≡ world_by u xs es
rests u v xs es h x y at same is =
    let controls = map-set_same (λ s. s.control) xs h y x (same ∙ ap (λ s. s.control) (sym at)) in
    λ i. record { unit = is i; controls = controls i; history = append-nil es i }

-- this entry was sent, and the reply taken
pub world_after : (so : How) (u v : UnitState) (xs : List Participation) (es : List Item) (h line : ℕ) (c : Command) (e : Entry) (x y : Participation) → slice_get xs h ≡ Some x
    → IsSent so u h c e v → y.control ≡ control_after line x.control e.reply → world_by v (with_participation xs h y) (es ++ Sent e ∷ []) ≡ after (world_by u xs es) h line (spelling c) e.reply v
world_after so u v xs es h line c e x y at sent takes =
    let controls = map-set (λ s. s.control) xs h y ∙ ap (λ k. slice_set (map (λ s. s.control) xs) h k) (takes ∙ ap (λ k. control_after line k e.reply) (sym (control_at u xs es h x at))) in
    λ i. record { unit = v; controls = controls i; history = es ++ Sent (sent.entry i) ∷ [] }

pub sends : (so : How) (u v : UnitState) (xs : List Participation) (es : List Item) (h line : ℕ) (c : Command) (e : Entry) (x y : Participation) → slice_get xs h ≡ Some x
    → IsSent so u h c e v → y.control ≡ control_after line x.control e.reply → Sends (world_by u xs es) h line c so (world_by v (with_participation xs h y) (es ++ Sent e ∷ []))
sends so u v xs es h line c e x y at sent takes = record {
  reply = e.reply;
  unit = v;
  answer = sent.taken;
  world = world_after so u v xs es h line c e x y at sent takes;
}

-- ---- the task at a participation

pub record HasTask (s : Scenario) (h : ℕ) (free : Bool) : Type 0 where
  pub nexus : Nexus
  pub is : slice_get s.nexuses h ≡ Some nexus
  pub planned : is_planned nexus.task ≡ free

pub has_task : (s : Scenario) (u : UnitState) (xs : List Participation) (h : ℕ) (x : Participation) → StandsFor s u xs → slice_get xs h ≡ Some x → HasTask s h (is_free x.control)
has_task s u xs h x stands at = by (slice_get s.nexuses h) refl (sym (slice_get-map (λ n. is_planned n.task) s.nexuses h) ∙ ap (λ l. slice_get l h) (sym stands.tasks) ∙ slice_get-map (λ t. is_free t.control) xs h ∙ ap (option_map (λ t. is_free t.control)) at)
  where
    by : (o : Option Nexus) → slice_get s.nexuses h ≡ o → option_map (λ n. is_planned n.task) o ≡ Some (is_free x.control) → HasTask s h (is_free x.control)
    by None is same = let bad : None ≡ Some (is_free x.control) = same in cc
    by (Some n) is same = record { nexus = n; is = is; planned = let same : Some (is_planned n.task) ≡ Some (is_free x.control) = same in cc }
