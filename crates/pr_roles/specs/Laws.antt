-- Agrees with docs/MODEL.md, 'Starts'.
-- Laws of starts, of refusals, of resets, and of fetches.
use Rattle.std.specs.Prelude.{◌≡◌, ◌≢◌, ◌≤◌, ◌↔◌, ℕ, Bool, true, false, ◌==◌, ◌&&◌, IsTrue, List, Some, IsSome}
use Rattle.std.specs.List.{slice_get, count_by}
use Rattle.pr_roles.specs.declared.item.Item.{Item}
use Rattle.pr_roles.specs.declared.how.How.{How}
use Rattle.pr_roles.specs.declared.how.How.TheVariants as how
use Rattle.pr_roles.specs.Answers.{refusals_by, most_refusals, may_come}
use Rattle.pr_roles.specs.Worlds.{World, Event, Host, Guest, UnitReset, Fetched, Happens, Run, world_from, resets_in, may_reset}
use Rattle.pr_unit.specs.Laws.{IsQuiet}
use Rattle.pr_unit.specs.UnitStates.{UnitState, is_pending}
use Rattle.pr_roles.specs.Scenarios.{Scenario}
use Rattle.pr_roles.specs.Fitting.{Fits}
use Rattle.pr_roles.specs.Starts.{IsAllowedStart, CanStart}
use Rattle.pr_roles.specs.FirstStarts.{starts, first_under, first_state}

-- Some state is allowed to start from exactly where one of the reservations can be well formed.
abbrev pub StartsAreFound : Type 0
StartsAreFound = (s : Scenario) → Fits s → (IsSome (first_under (starts s) s.reservations) ↔ CanStart s)

-- The first start takes the earliest reservation that some allowed start has: where that of an allowed start
-- is written, that of the first start is written there or before.
abbrev pub FirstStartsAreEarliest : Type 0
FirstStartsAreEarliest =
    (s : Scenario) (first u : UnitState) (i : ℕ) → first_state s ≡ Some first → IsAllowedStart s u
    → slice_get s.reservations i ≡ Some u.registry.held
    → (j : ℕ) × (j ≤ i) × (slice_get s.reservations j ≡ Some first.registry.held)

-- ---- refusals

-- the same refusal
abbrev pub is_same_refusal : How → How → Bool
is_same_refusal how.Plain other = false
is_same_refusal how.Early other = false
is_same_refusal how.Busy how.Plain = false
is_same_refusal how.Busy how.Early = false
is_same_refusal how.Busy how.Busy = true
is_same_refusal how.Busy how.Full = false
is_same_refusal how.Full how.Plain = false
is_same_refusal how.Full how.Early = false
is_same_refusal how.Full how.Busy = false
is_same_refusal how.Full how.Full = true

-- an event in which h is refused so
abbrev pub is_refused_in : ℕ → How → Event → Bool
is_refused_in h how (Host g other) = g == h && is_same_refusal how other
is_refused_in h how (Guest g wire other) = g == h && is_same_refusal how other
is_refused_in h how UnitReset = false
is_refused_in h how (Fetched g code) = false

-- the history of a run tells how often a nexus was refused
abbrev pub RefusalsAreCounted : Type 0
RefusalsAreCounted =
    (s : Scenario) (u : UnitState) (es : List Event) (w : World) → Run s (world_from s u) es w
    → (h : ℕ) (how : How) → refusals_by w.history h how ≡ count_by (is_refused_in h how) es

-- and in no run that is more often than the scenario has it
abbrev pub RefusalsAreDeclared : Type 0
RefusalsAreDeclared =
    (s : Scenario) (u : UnitState) (es : List Event) (w : World) → Run s (world_from s u) es w
    → (h : ℕ) (how : How) → count_by (is_refused_in h how) es ≤ most_refusals s h how

-- a scenario of version 1 has none: all its commands are answered by the unit
abbrev pub FirstVersionIsPlain : Type 0
FirstVersionIsPlain =
    (s : Scenario) → Fits s → s.version ≡ 1 → (es : List Item) (h : ℕ) (k : How) → IsTrue (may_come s es h k) → k ≡ how.Plain

-- ---- resets

abbrev pub is_reset_event : Event → Bool
is_reset_event (Host h how) = false
is_reset_event (Guest g wire how) = false
is_reset_event UnitReset = true
is_reset_event (Fetched h code) = false

-- the history of a run tells how often the unit was reset
abbrev pub ResetsAreCounted : Type 0
ResetsAreCounted =
    (s : Scenario) (u : UnitState) (es : List Event) (w : World) → Run s (world_from s u) es w → resets_in w.history ≡ count_by is_reset_event es

-- and in no run that is more often than the scenario has it
abbrev pub ResetsAreDeclared : Type 0
ResetsAreDeclared =
    (s : Scenario) (u : UnitState) (es : List Event) (w : World) → Run s (world_from s u) es w → count_by is_reset_event es ≤ s.resets

-- in a scenario of version 1 there is none
abbrev pub FirstVersionHasNoReset : Type 0
FirstVersionHasNoReset = (s : Scenario) → Fits s → s.version ≡ 1 → (es : List Item) → may_reset s es ≡ false

-- ---- fetches

-- nobody but the scripts and the guests sends on any path, so that nothing is fetched
abbrev pub NobodyShares : Scenario → Type 0
NobodyShares s = (h : ℕ) → s.shared h ≡ false

-- what a fetch leaves: one attention of that nexus is pending no more, and nothing else is another
pub record IsAfterFetch (w : World) (h code : ℕ) (v : World) : Type 0 where
  pub gone : is_pending v.unit h code ≡ false
  pub quiet : IsQuiet w.unit h v.unit
  pub others : (other : ℕ) → other ≢ code → is_pending v.unit h other ≡ is_pending w.unit h other
  pub controls : v.controls ≡ w.controls
  pub history : v.history ≡ w.history

-- no script hears of a fetch
abbrev pub FetchesAreUnheard : Type 0
FetchesAreUnheard = (s : Scenario) (w : World) (h code : ℕ) (v : World) → Happens s w (Fetched h code) v → IsAfterFetch w h code v
