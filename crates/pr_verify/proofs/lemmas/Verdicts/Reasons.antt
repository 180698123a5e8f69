-- Reasons against a host: what the least sound outline shows, every sound outline does.
use Rattle.pr_verify.proofs.Common.{◌≡◌, ℕ, ◌<◌, min, true, false, ◌≢◌, ◌⊎◌, List, [], ◌∷◌, map, is_some, if◌then◌else◌, ◌==◌, slice_get, Some, None, Contains, Option, option_and_then, sym, refl, ap, ◌∙◌, subst, inl, inr, arith, false≢true, eqb_tells, none-some, Plain, Step, UnitState, Stmts, Answered, refusals_of, command_permitted, Scripted, role, task, Scenario, View, shown_within, IsWithinIn, IsLeastSound, Outline, view_at, ShowsIn, IsShownAt, scope_in, IsSound, HasOutline, OnScripted, HaveOutlines, Place, places_of, first_difference, BreaksRole, IsRefusal, IsVerdict, Refusal}
use Rattle.pr_roles.specs.declared.refusal.Refusal.TheVariants.{NoArm, OutOfRole, OverBudget, Memory, NotSound}
use Rattle.pr_verify.specs.Laws.{ReasonsAreFinal}
use Rattle.pr_verify.specs.Refusals.{LacksArm, DiffersAt, LacksFirst}
use Rattle.pr_verify.specs.Verdicts.{HasReason, IsFirstReason}
use Rattle.pr_roles.proofs.lemmas.Worlds.Controls.{there}

-- ---- what each sound outline shows

module _ (s : Scenario) (script : Stmts) (o x : Outline) (least : IsLeastSound s script o) (host : x.host ≡ o.host) (sound : IsSound s script x) where
  pub shown_by_each : (line : ℕ) (u : UnitState) → IsShownAt o line u → IsShownAt x line u
  shown_by_each line u = at (view_at o.views line) (view_at x.views line) refl refl
    where
      at : (a b : Option View) → view_at o.views line ≡ a → view_at x.views line ≡ b → ShowsIn a u → ShowsIn b u
      at None b here there shown = absurd shown
      at (Some v) None here there shown = absurd (subst (IsWithinIn v) there (least.least x host sound line v here))
      at (Some v) (Some w) here there shown =
          shown_within v w u (least.sound.scenario line v here ∙ ap (scope_in s) (sym host) ∙ sym (sound.scenario line w there)) (subst (IsWithinIn v) there (least.least x host sound line v here)) shown

-- ---- so a reason is final

role_broken : (s : Scenario) (h : ℕ) (script : Stmts) (budget : ℕ) (o : Outline) (p : Place) → o.host ≡ h → IsLeastSound s script o → Contains (places_of script) p → BreaksRole s o p → HasOutline s h script budget → ⊥
role_broken s h script budget o p host least listed breaks one =
    let x = one.outline in
    let same : x.host ≡ o.host = one.host ∙ sym host in
    let shown = shown_by_each s script o x least same one.sound p.line breaks.from breaks.shown in
    let permitted = one.fitting.role p listed breaks.from breaks.reply breaks.after shown (subst (λ g. Step breaks.from g (Plain p.command) breaks.reply breaks.after) (sym same) breaks.step) breaks.good in
    false≢true (sym breaks.refused ∙ subst (λ g. command_permitted (role s g) breaks.from.registry g p.command ≡ true) same permitted)

arm_lacking : (s : Scenario) (h : ℕ) (script : Stmts) (budget : ℕ) (o : Outline) (p : Place) (class : _) → o.host ≡ h → IsLeastSound s script o → Contains (places_of script) p → LacksArm s o p class → HasOutline s h script budget → ⊥
arm_lacking s h script budget o p class host least listed lacks one =
    let x = one.outline in
    let same : x.host ≡ o.host = one.host ∙ sym host in
    let shown = shown_by_each s script o x least same one.sound p.line lacks.from lacks.shown in
    let some = one.fitting.arms p listed lacks.from lacks.reply lacks.after shown (subst (λ g. Answered (refusals_of s g) lacks.from g (Plain p.command) lacks.reply lacks.after) (sym same) lacks.answer) in
    false≢true (subst (λ f. is_some f ≡ true) (ap (option_and_then (slice_get p.next)) lacks.none) some)

pub reasons_are_final : ReasonsAreFinal
reasons_are_final s h script budget (OverBudget host cost) reason one = let over = reason.1 in let within = one.fitting.cost in absurd (omega arith)
reasons_are_final s h script budget (OutOfRole host line) reason one =
    let unfit = reason.shown.1 in
    role_broken s h script budget reason.outline unfit.place reason.host reason.least unfit.listed unfit.unfit one
reasons_are_final s h script budget (NoArm host line class) reason one =
    let unfit = reason.shown.1 in
    arm_lacking s h script budget reason.outline unfit.place class reason.host reason.least unfit.listed unfit.unfit.1.lacks one
reasons_are_final s h script budget _ reason one = reason

-- ---- of a scenario

pub first_is_final : (s : Scenario) (refusal : Refusal) → IsFirstReason s refusal → HaveOutlines s → ⊥
first_is_final s refusal first have =
    let one = first.reason in
    reasons_are_final s first.host one.script one.budget refusal one.reason
    (subst (λ t. OnScripted t (HasOutline s first.host)) one.is (have first.host (there s first.host (Scripted one.script one.budget) one.is)))

-- a refused scenario has no outlines that are sound and fit
pub none_fit : (s : Scenario) (refusal : Refusal) → IsVerdict s refusal → refusal ≢ Memory → HaveOutlines s → ⊥
none_fit s Memory first real have = real refl
none_fit s (NotSound host line) first real have = first
none_fit s refusal first real have = first_is_final s refusal first have

-- the first of the hosts with a reason
pub is_verdict : (s : Scenario) (h : ℕ) (refusal : Refusal) → (refusal ≢ Memory → HasReason s h refusal) → ((g : ℕ) → g < h → OnScripted (task s g) (HasOutline s g)) → IsVerdict s refusal
is_verdict s h (NoArm host line class) has before = record { host = h; reason = has (λ is. let e : NoArm host line class ≡ Memory = is in cc); before = before }
is_verdict s h (OutOfRole host line) has before = record { host = h; reason = has (λ is. let e : OutOfRole host line ≡ Memory = is in cc); before = before }
is_verdict s h (OverBudget host cost) has before = record { host = h; reason = has (λ is. let e : OverBudget host cost ≡ Memory = is in cc); before = before }
is_verdict s h Memory has before = tt
is_verdict s h (NotSound host line) has before = (has (λ is. let e : NotSound host line ≡ Memory = is in cc)).reason

-- ---- what the check of the least sound outline finds

differing_same : (ls : List ℕ) (line : ℕ) → first_difference ls ls ≡ Some line → ⊥
differing_same [] line is = none-some line is
differing_same (n ∷ ns) line is = at (eqb_tells n n) (differing_same ns line)
  where
    at : (((n == n) ≡ true) × (n ≡ n)) ⊎ (((n == n) ≡ false) × (n ≢ n)) → (first_difference ns ns ≡ Some line → ⊥) → ⊥
    at (inl same) rest = rest (sym (ap (λ b. if b then first_difference ns ns else Some (min n n)) same.0) ∙ is)
    at (inr other) rest = other.1 refl

module _ (s : Scenario) (h : ℕ) (script : Stmts) (budget : ℕ) (is : task s h ≡ Some (Scripted script budget)) (o : Outline) (host : o.host ≡ h) (least : IsLeastSound s script o) where
  never_unsound : (line : ℕ) → DiffersAt script o line ⊎ LacksFirst s script o line → ⊥
  never_unsound line (inl differs) =
      differing_same (map (λ (p : Place). p.line) (places_of script)) line (ap (λ ls. first_difference ls (map (λ (p : Place). p.line) (places_of script))) (sym least.sound.listed) ∙ differs)
  never_unsound line (inr first) = first.lacks.missing (least.sound.shows line first.lacks.unit first.lacks.asked)

  pub has_reason : (refusal : Refusal) → IsRefusal s script budget o refusal → refusal ≢ Memory → HasReason s h refusal
  has_reason (OverBudget g cost) refused real = record { script = script; budget = budget; is = is; reason = (refused.0 ∙ host, refused.1, refused.2) }
  has_reason Memory refused real = absurd (real refl)
  has_reason (NotSound g line) refused real = absurd (never_unsound line refused.2)
  has_reason _ refused real = record { script = script; budget = budget; is = is; reason = record { outline = o; host = host; least = least; shown = refused } }
