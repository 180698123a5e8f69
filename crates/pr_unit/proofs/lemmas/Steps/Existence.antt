-- Each request has an answer.
use Rattle.pr_unit.proofs.Common.{◌≡◌, ℕ, Bool, true, false, ◌||◌, List, [], ◌∷◌, if◌then◌else◌, Some, None, Option, refl, Reply, Sense, Request, Plain, Faulty, power_on, command_fault, good, check, report, data_of, last_decision, decision, StepBy, UnitState, is_pending, is_any_pending, effect, after_report, Decision, PowerOn, Conflicting, Attention, conflicts, fault}
use Rattle.std.specs.List.{list_any}
use Rattle.pr_unit.specs.Attentions.{attentions}
use Rattle.pr_unit.specs.Replies.{conflict}
use Rattle.pr_unit.specs.Laws.{EveryRequestHasAStep}

record Found (p : ℕ → Bool) : Type 0 where
  pub item : ℕ
  pub passes : p item ≡ true

found : (p : ℕ → Bool) (xs : List ℕ) → list_any p xs ≡ true → Found p
found p [] is = let bad : false ≡ true = is in cc
found p (x ∷ xs) is = at (p x) refl is (found p xs)
  where
    at : (b : Bool) → p x ≡ b → (b || list_any p xs) ≡ true → (list_any p xs ≡ true → Found p) → Found p
    at true here is later = record { item = x; passes = here }
    at false here is later = later is

-- a request that is decided so has an answer
record HasStepBy (l : Decision) (u : UnitState) (h : ℕ) (q : Request) : Type 0 where
  pub reply : Reply
  pub after : UnitState
  pub step : StepBy l u h q reply after

by_attention : (u : UnitState) (h : ℕ) (q : Request) → is_any_pending u h ≡ true → HasStepBy Attention u h q
by_attention u h q is =
    let one = found (λ code. is_pending u h code) attentions is in
    record { reply = report q one.item; after = after_report u h one.item; step = record { code = one.item; pending = one.passes; reply = refl; after = refl } }

-- what neither conflicts nor meets an attention
by_fault : (u : UnitState) (h : ℕ) (q : Request) → HasStepBy (last_decision (fault u.registry h q)) u h q
by_fault u h (Faulty sense) = record { reply = check sense; after = u; step = (refl, refl) }
by_fault u h (Plain c) = at (command_fault u.registry h c)
  where
    at : (f : Option Sense) → HasStepBy (last_decision f) u h (Plain c)
    at None = record { reply = good (data_of u.registry c); after = effect u h c; step = (refl, refl) }
    at (Some sense) = record { reply = check sense; after = u; step = (refl, refl) }

first_line : (u : UnitState) (h : ℕ) (q : Request) (a b c : Bool) (last : Decision) → (c ≡ true → HasStepBy Attention u h q) → HasStepBy last u h q
    → HasStepBy (if a then PowerOn else (if b then Conflicting else (if c then Attention else last))) u h q
first_line u h q true b c last any rest = record { reply = report q power_on; after = after_report u h power_on; step = (refl, refl) }
first_line u h q false true c last any rest = record { reply = conflict; after = u; step = (refl, refl) }
first_line u h q false false true last any rest = any refl
first_line u h q false false false last any rest = rest

by_decision : (u : UnitState) (h : ℕ) (q : Request) → HasStepBy (decision u h q) u h q
by_decision u h q =
    first_line u h q (is_pending u h power_on) (conflicts u.registry h q) (is_any_pending u h) (last_decision (fault u.registry h q)) (by_attention u h q) (by_fault u h q)

pub every_request_has_a_step : EveryRequestHasAStep
every_request_has_a_step u h q =
    let s = by_decision u h q in
    record { reply = s.reply; after = s.after; step = s.step }
