-- Agrees with docs/VERDICTS.md, 'Why: `fence outline`'.
-- What holds of the outlines and tables that values of the program are.
use Rattle.std.specs.Prelude.{◌≡◌, ℕ, List, length}
use Rattle.std.specs.List.{All}
use Rattle.pr_sets.specs.declared.view_set.ViewSet.{Ghosts as ViewSet}
use Rattle.pr_views.specs.declared.view.ViewOf.{ViewOf}
use Rattle.pr_roles.specs.Scenarios.{Scenario, task}
use Rattle.pr_views.specs.declared.outline.OutlineBy.{OutlineBy}
use Rattle.pr_roles.specs.declared.refusal.Refusal.{Refusal}
use Rattle.pr_views.specs.declared.table.Table.{Table as KeptTable}
use Rattle.pr_views.specs.Tables.{outline_of}
use Rattle.pr_verify.specs.Outlines.{OnScripted, IsListed, IsSound, IsFitting}
use Rattle.pr_verify.specs.LeastOutlines.{IsLeastSound}
use Rattle.pr_verify.specs.Refusals.{IsRefusal}

-- the views can be ones of this scenario: they have its keys, and speak of as many nexuses
abbrev pub IsMadeFor : {S : Type 0} {sets : ViewSet S} → Scenario → OutlineBy (ViewOf S sets) → Type 0
IsMadeFor s o = All (λ e. (e.1.keys.items ≡ s.keys) × (e.1.hosts ≡ length s.nexuses)) o.views.items

-- so can those of each table
abbrev pub AreMadeFor : Scenario → List KeptTable → Type 0
AreMadeFor s tables = All (λ t. IsMadeFor s t.outline) tables

-- ---- what holds of them, by the script of a host, if it has one

-- there is one view for each of its sends, and the outline is the least sound one
abbrev pub IsListedFor : {S : Type 0} {sets : ViewSet S} → Scenario → ℕ → OutlineBy (ViewOf S sets) → Type 0
IsListedFor s h o = OnScripted (task s h) (λ script budget. IsListed script (outline_of o))

abbrev pub IsLeastFor : {S : Type 0} {sets : ViewSet S} → Scenario → ℕ → OutlineBy (ViewOf S sets) → Type 0
IsLeastFor s h o = OnScripted (task s h) (λ script budget. IsLeastSound s script (outline_of o))

-- an outline of its own host is sound, it fits, and this is the first reason against it
abbrev pub IsSoundFor : {S : Type 0} {sets : ViewSet S} → Scenario → OutlineBy (ViewOf S sets) → Type 0
IsSoundFor s o = OnScripted (task s o.host) (λ script budget. IsSound s script (outline_of o))

abbrev pub IsFittingFor : {S : Type 0} {sets : ViewSet S} → Scenario → OutlineBy (ViewOf S sets) → Type 0
IsFittingFor s o = OnScripted (task s o.host) (λ script budget. IsFitting s script budget (outline_of o))

abbrev pub IsRefusalFor : {S : Type 0} {sets : ViewSet S} → Scenario → OutlineBy (ViewOf S sets) → Refusal → Type 0
IsRefusalFor s o refusal = OnScripted (task s o.host) (λ script budget. IsRefusal s script budget (outline_of o) refusal)
