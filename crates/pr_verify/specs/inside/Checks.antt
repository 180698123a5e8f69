-- The checks of hosts that are made side by side: what each says, where it is made, and what they come to.
use Rattle.std.specs.Prelude.{◌≡◌, ◌≢◌, ℕ, ◌+◌, ◌<◌, List, length, slice_index_or, Result, IfErr, OnOk}
use Rattle.pr_roles.specs.Scenarios.{Scenario, scenario_of}
use Rattle.pr_verify.specs.declared.each.Begun.{Begun}
use Rattle.pr_verify.specs.declared.each.Begun.TheVariants as begun
use Rattle.pr_verify.specs.declared.each.Check.{Check}
use Rattle.pr_verify.specs.declared.each.Check.TheVariants as check
use Rattle.pr_verify.specs.declared.each.CheckOf.{CheckOf}
use Rattle.pr_roles.specs.declared.refusal.Refusal.{Refusal}
use Rattle.pr_roles.specs.declared.refusal.Refusal.TheVariants.{Memory}
use Rattle.pr_verify.specs.Outlines.{IsCarried, HostSendsFit}
use Rattle.pr_verify.specs.Verdicts.{HasReason, IsVerdict}

-- the host has this reason against it, unless memory was refused
abbrev pub IsReasonOf : Scenario → ℕ → Refusal → Type 0
IsReasonOf s h refusal = refusal ≢ Memory → HasReason s h refusal

-- What the check of a host says: the host has an outline that is sound and fits, if it is scripted, and what it sends is in
-- range; else a reason against it, unless memory was refused.
abbrev pub IsAnswerFor : Scenario → ℕ → Result (Unit {0}) Refusal → Type 0
IsAnswerFor s h answer =
    OnOk answer (IsCarried s h) × (OnOk answer (HostSendsFit s h) × IfErr answer (IsReasonOf s h))

-- ---- where it is made

-- such an answer was promised
abbrev pub IsPromised : Scenario → ℕ → CheckOf → Type 0
IsPromised s h promise = (scenario_of promise.scenario.value ≡ s) × (promise.host ≡ h)

-- by a thread; or the check is still to be made
abbrev pub IsBegunFor : Scenario → ℕ → Begun → Type 0
IsBegunFor s h (begun.InThread handle) = IsPromised s h handle.promise
IsBegunFor s h (begun.ToMake host) = (host ≡ h) × (h < length s.nexuses)

-- by a thread; or the check was made
abbrev pub IsCheckFor : Scenario → ℕ → Check → Type 0
IsCheckFor s h (check.InThread handle) = IsPromised s h handle.promise
IsCheckFor s h (check.Made answer) = IsAnswerFor s h answer

-- each of a list, which are numbered from n
abbrev pub EachFrom : {X : Type 0} → (ℕ → X → Type 0) → ℕ → List X → Type 0
EachFrom {X} P n xs = (i : ℕ) (d : X) → i < length xs → P (n + i) (slice_index_or xs i d)

-- ---- what they come to

-- Each scripted host before n has an outline that is sound and fits, and what it sends is in range; else this is the first
-- reason against one, or memory was refused.
abbrev pub IsAnswerBefore : Scenario → ℕ → Result (Unit {0}) Refusal → Type 0
IsAnswerBefore s n answer =
    OnOk answer ((h : ℕ) → h < n → IsCarried s h) × (OnOk answer ((h : ℕ) → h < n → HostSendsFit s h) × IfErr answer (IsVerdict s))

-- so all of its hosts
abbrev pub IsAnswerForAll : Scenario → Result (Unit {0}) Refusal → Type 0
IsAnswerForAll s answer = IsAnswerBefore s (length s.nexuses) answer

-- So do all of these checks together, of whichever scenario they are.
abbrev pub ComeTo : List Check → Result (Unit {0}) Refusal → Type 0
ComeTo checks answer = (s : Scenario) → EachFrom (IsCheckFor s) 0 checks → IsAnswerBefore s (length checks) answer
