-- What a fetch comes to.
use Rattle.pr_world.proofs.Common.{◌≡◌, ℕ, ◌<◌, true, false, List, [], ◌∷◌, ◌++◌, length, get_or, refl, sym, ap, ◌∙◌, subst, UnitState, Scenario, Schedule, Fetched, Item, Step, IsReached, Participation, schedule_by}
use Rattle.std.specs.Prelude.{◌&&◌}
use Rattle.std.specs.FinSet as set
use Rattle.std.proofs.lemmas.List.Folds.{list_any_none}
use Rattle.pr_attention.specs.Attentions.{Codes, attentions}
use Rattle.pr_attention.specs.CodeSets.{no_code, IsLowest as IsLowestCode}
use Rattle.pr_attention.proofs.lemmas.Sets.{contains-no_code}
use Rattle.pr_unit.proofs.lemmas.Steps.EasedSteps.{one_of}
use Rattle.pr_unit.specs.UnitStates.{IsWellFormed, is_pending, is_any_pending, after_report}
use Rattle.pr_roles.specs.declared.step.Step.TheVariants as step
use Rattle.pr_roles.specs.Schedules.{FetchIf, FetchTurn, Fetches, IsLowest}
use Rattle.pr_audit.proofs.lemmas.Auditing.Histories.{run_then}
use Rattle.pr_world.proofs.lemmas.Replays.Runs.{reached_by}

-- ---- what is pending for one

-- Where these codes are pending for h, the lowest of them is the lowest.
pub lowest_of : (u : UnitState) (h code : ℕ) (codes : Codes) → ((x : ℕ) → set.contains codes x ≡ is_pending u h x) → IsLowestCode codes code → IsLowest u h code
lowest_of u h code codes same lowest = record { pending = sym (same code) ∙ lowest.pending; least = λ other is. lowest.least other (same other ∙ is) }

-- where something is pending, one of the four is
pub some_pending : (u : UnitState) (h code : ℕ) → IsWellFormed u → is_pending u h code ≡ true → is_any_pending u h ≡ true
some_pending u h code formed is = one_of (is_pending u h) code attentions (formed.pending h code is).1 is

-- where none of these is there, nothing is pending
pub none_pending : (u : UnitState) (h : ℕ) (codes : Codes) → ((x : ℕ) → set.contains codes x ≡ is_pending u h x) → codes ≡ no_code → is_any_pending u h ≡ false
none_pending u h codes same none = list_any_none (is_pending u h) attentions (λ i d below. nothing (get_or attentions i d))
  where
    nothing : (code : ℕ) → is_pending u h code ≡ false
    nothing code = sym (same code) ∙ ap (λ s. set.contains s code) none ∙ contains-no_code code

-- ---- a turn

pub fetch_passed : (s : Scenario) (x : Schedule) (h : ℕ) → (s.shared h && is_any_pending x.world.unit h) ≡ false → FetchTurn s x h x
fetch_passed s x h over = subst (λ b. FetchIf b x h x) (sym over) refl

-- the same, by the steps that led here
pub reached_unfetched : (s : Scenario) (x : Schedule) (h : ℕ) → (s.shared h && is_any_pending x.world.unit h) ≡ false → (steps : List Step) → IsReached s steps x → IsReached s (steps ++ step.Fetched h ∷ []) x
reached_unfetched s x h over steps reached = reached_by s steps x x (step.Fetched h) (fetch_passed s x h over) reached reached.events reached.run

module _ (s : Scenario) (u v : UnitState) (xs : List Participation) (es : List Item) (h code : ℕ) (shares : s.shared h ≡ true) (formed : IsWellFormed u) (lowest : IsLowest u h code) (after : v ≡ after_report u h code) where
  abbrev x : Schedule
  x = schedule_by u xs es

  abbrev y : Schedule
  y = schedule_by v xs es

  fetches : Fetches x h y
  fetches = record { code = code; lowest = lowest; schedule = ap (λ z. schedule_by z xs es) after }

  pub fetch_made : FetchTurn s x h y
  fetch_made = subst (λ b. FetchIf b x h y) (sym (ap (λ b. b && is_any_pending u h) shares ∙ some_pending u h code formed lowest.pending)) fetches

  pub reached_fetched : h < length s.nexuses → (steps : List Step) → IsReached s steps x → IsReached s (steps ++ step.Fetched h ∷ []) y
  unfolding fetches
  reached_fetched there steps reached =
      reached_by s steps x y (step.Fetched h) fetch_made reached (reached.events ++ Fetched h code ∷ [])
      (run_then s _ x.world y.world reached.events (Fetched h code) reached.run (record { there = there; shares = shares; pending = lowest.pending; world = ap (λ z. z.world) fetches.schedule }))
