-- Agrees with docs/VERDICTS.md, 'Why: `fence outline`'.
-- What is known at each send of a script, for whoever wants to see why its scenario is accepted or refused.
use Rattle.std.specs.Prelude.{◌≡◌, ◌↔◌, ℕ, ◌<◌, IsTrue, List, length, map, Some}
use Rattle.std.specs.List.{All, AllPairs, AllZip, Contains, filter, range_with_len}
use Rattle.pr_cdb.specs.declared.reply.Reply.{Reply}
use Rattle.pr_cdb.specs.declared.wire.Request.TheVariants.{Plain}
use Rattle.pr_unit.specs.UnitStates.{UnitState}
use Rattle.pr_script.specs.Scripts.{Stmts}
use Rattle.pr_script.specs.declared.landing.Class.{Class}
use Rattle.pr_roles.specs.DeclaredRefusals.{Answered, refusals_of}
use Rattle.pr_roles.specs.Scenarios.{Scenario, task}
use Rattle.pr_roles.specs.Tasks.{has_script}
use Rattle.pr_regions.specs.Readings.{first_test}
use Rattle.pr_verify.specs.Places.{Place, places_of}
use Rattle.pr_views.specs.Tables.{Outline, Row, Table}
use Rattle.pr_verify.specs.Outlines.{OnScripted, IsShownAt, KeepsToRole}
use Rattle.pr_verify.specs.Refusals.{class_number, LacksArm}
use Rattle.pr_verify.specs.LeastOutlines.{IsLeastSound}

-- from a state that is shown at the place, the host's command ends with a reply that this arm takes, counted from 0
pub record TakesArm (s : Scenario) (o : Outline) (p : Place) (arm : ℕ) : Type 0 where
  pub from : UnitState
  pub shown : IsShownAt o p.line from
  pub reply : Reply
  pub after : UnitState
  pub answer : Answered (refusals_of s o.host) from o.host (Plain p.command) reply after
  pub taken : first_test p.tests reply ≡ Some arm

-- such is the row of the place: each possibility comes from some answer, and each list is in order
pub record IsRow (s : Scenario) (o : Outline) (p : Place) (r : Row) : Type 0 where
  pub command : r.command ≡ p.command
  pub tests : r.tests ≡ p.tests
  pub permitted : IsTrue r.permitted ↔ KeepsToRole s o p
  pub arms : (arm : ℕ) → Contains r.arms arm ↔ TakesArm s o p arm
  pub arms_rise : AllPairs (λ m n. m < n) r.arms
  pub unarmed : (class : Class) → Contains r.unarmed class ↔ LacksArm s o p class
  pub unarmed_rise : AllPairs (λ c d. class_number c < class_number d) r.unarmed

-- the least sound outline of the script, and the rows of its places in order
pub record IsTable (s : Scenario) (script : Stmts) (t : Table) : Type 0 where
  pub least : IsLeastSound s script t.outline
  pub rows : AllZip (IsRow s t.outline) (places_of script) t.rows

-- a table for each host that has a script, in the order of the scenario
pub record AreTables (s : Scenario) (ts : List Table) : Type 0 where
  pub hosts : map (λ t. t.outline.host) ts ≡ filter (λ h. has_script (task s h)) (range_with_len 0 (length s.nexuses))
  pub each : All (λ t. OnScripted (task s t.outline.host) (λ script budget. IsTable s script t)) ts
