-- What is found of a host, by its budget and its table; and of one host after another.
use Rattle.pr_verify.proofs.Common.{◌≡◌, ℕ, ◌+◌, ◌<◌, ◌≤◌, true, false, List, map, length, IfErr, Some, None, Ok, Err, Option, Result, sym, refl, ap, ◌∙◌, subst, cost_of_all, Stmts, script_of, Task, Scripted, task, Scenario, IsSafe, IsLeastSound, Outline, HasOutline, OnScripted, HaveOutlines, SendsFit, places_of, IsScripted, Refusal, Spot, place_of, below_more}
use Rattle.std.specs.Option.{option_or, IfNone, IfSome}
use Rattle.std.specs.Result.{OnOk, result_err}
use Rattle.pr_roles.specs.Scenarios.{Planned, on_shared_paths}
use Rattle.pr_script.specs.declared.script.Script.{Script}
use Rattle.pr_verify.specs.Laws.{OutlinesMakeSafe}
use Rattle.pr_roles.specs.Tasks.{has_script}
use Rattle.pr_verify.specs.Outlines.{IsCarried, HostSendsFit}
use Rattle.pr_verify.specs.Verdicts.{IsFirstReason}
use Rattle.pr_verify.specs.inside.Reviewing.{IsReason, IsFirstMisfit, IsOver}
use Rattle.pr_verify.specs.inside.Tabling.{IsCosted, IsJudgement}
use Rattle.pr_verify.proofs.lemmas.Outlines.Checks.{has_outline}
use Rattle.pr_verify.proofs.lemmas.Reviewing.Findings.{is_fitting, is_refusal}
use Rattle.pr_verify.proofs.lemmas.Rooms.Scripts.{on_script}
use Rattle.pr_verify.proofs.lemmas.Verdicts.Reasons.{has_reason, first_is_final}

-- there is a script, and a budget
pub scripted_is : (t : Option Task) → IsScripted t → (script : Stmts) × (budget : ℕ) × (t ≡ Some (Scripted script budget))
scripted_is (Some (Scripted script budget)) scripted = (script, budget, refl)
scripted_is _ scripted = absurd scripted

-- without a script nothing is asked
unscripted : (t : Option Task) (P : Stmts → ℕ → Type 0) → has_script t ≡ false → OnScripted t P
unscripted None P past = tt
unscripted (Some (Scripted script budget)) P past = let bad : true ≡ false = past in cc
unscripted (Some (Planned commands)) P past = tt

-- what the check of the cost says
pub costed : (s : Scenario) (h : ℕ) (script : Script) (budget : ℕ) (checked : Result (Unit {0}) Refusal) (over : Option Refusal) → over ≡ result_err checked → OnOk checked (cost_of_all (script_of script) ≤ budget) → IfErr checked (IsOver script budget h)
    → IsCosted s h (script_of script) budget over
costed s h script budget (Ok u) over same within past = subst (IsCosted s h (script_of script) budget) (sym same) within
costed s h script budget (Err refusal) over same within past =
    subst (IsCosted s h (script_of script) budget) (sym (same ∙ ap (λ r. Some r) past.1)) (refl, past.0, refl)

-- what is found of a host: the budget comes first
module _ (s : Scenario) (h : ℕ) (script : Stmts) (budget : ℕ) (is : task s h ≡ Some (Scripted script budget)) (o : Outline) (host : o.host ≡ h) (least : IsLeastSound s script o) (fields : SendsFit script) (spots : List Spot)
    (places : map place_of spots ≡ places_of script) where
  pub judgement : (over misfit : Option Refusal) → IsCosted s h script budget over → IsFirstMisfit s o spots misfit → IsJudgement s h (option_or over misfit)
  judgement (Some refusal) misfit over found = record { script = script; budget = budget; is = is; reason = over }
  judgement None None within fit = (
    on_script (task s h) script budget (HasOutline s h) is (has_outline s h script budget host least.sound (is_fitting s script o spots places budget within fit)),
    on_script (task s h) script budget (λ (b : Stmts) (n : ℕ). SendsFit b) is fields,
  )
  judgement None (Some refusal) within one =
      has_reason s h script budget is o host least refusal (is_refusal s script o spots places budget refusal within least.sound one) (λ memory. subst (IsReason s o (place_of one.spot)) memory one.reason)

-- ---- of one host after another

-- so is it of each host before this one, or this is the first reason against one
abbrev pub IsJudgementBefore : Scenario → ℕ → Option Refusal → Type 0
IsJudgementBefore s n None = ((h : ℕ) → h < n → IsCarried s h) × ((h : ℕ) → h < n → HostSendsFit s h)
IsJudgementBefore s n (Some refusal) = IsFirstReason s refusal

module _ (s : Scenario) where
  -- of one more
  pub judged_next : (n : ℕ) (before here : Option Refusal) → IsJudgementBefore s n before → IsJudgement s n here → IsJudgementBefore s (n + 1) (option_or before here)
  judged_next n (Some refusal) here first also = first
  judged_next n None (Some refusal) all has = record { host = n; reason = has; before = all.0 }
  judged_next n None None all here = (below_more (λ h. OnScripted (task s h) (HasOutline s h)) n all.0 here.0, below_more (λ h. OnScripted (task s h) (λ script budget. SendsFit script)) n all.1 here.1)

  -- of one more, which has no script
  pub judged_past : (n : ℕ) (before : Option Refusal) → IsJudgementBefore s n before → has_script (task s n) ≡ false → IsJudgementBefore s (n + 1) before
  judged_past n (Some refusal) first past = first
  judged_past n None all past = judged_next n None None all (unscripted (task s n) (HasOutline s n) past, unscripted (task s n) (λ (script : Stmts) (budget : ℕ). SendsFit script) past)

  -- ---- of all

  module _ (refusal : Option Refusal) (judged : IsJudgementBefore s (length s.nexuses) refusal) where
    pub outlines_there : IfNone refusal (HaveOutlines s)
    outlines_there = at refusal judged
      where
        at : (r : Option Refusal) → IsJudgementBefore s (length s.nexuses) r → IfNone r (HaveOutlines s)
        at None all = all.0
        at (Some r) first = tt

    pub safe_all : OutlinesMakeSafe → IfNone refusal (IsSafe (on_shared_paths s))
    safe_all make = at refusal judged
      where
        at : (r : Option Refusal) → IsJudgementBefore s (length s.nexuses) r → IfNone r (IsSafe (on_shared_paths s))
        at None all = make s all.1 all.0
        at (Some r) first = tt

    pub reason_first : IfSome refusal (IsFirstReason s)
    reason_first = at refusal judged
      where
        at : (r : Option Refusal) → IsJudgementBefore s (length s.nexuses) r → IfSome r (IsFirstReason s)
        at None all = tt
        at (Some r) first = first

    pub outlines_missing : IfSome refusal (λ r. ¬ HaveOutlines s)
    outlines_missing = at refusal judged
      where
        at : (r : Option Refusal) → IsJudgementBefore s (length s.nexuses) r → IfSome r (λ q. ¬ HaveOutlines s)
        at None all = tt
        at (Some r) first = first_is_final s r first
