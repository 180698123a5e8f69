-- A step of a command is one of the ways in which it ends.
use Rattle.pr_domain.proofs.Common.{◌≡◌, ℕ, Bool, true, false, ◌⊎◌, IsTrue, Some, None, Option, sym, refl, ap, ◌∙◌, subst, inl, inr, cases_eq, Command, Reply, Sense, Plain, power_on, code_of, Attention, PowerOn, command_conflicts, command_fault, report, Step, UnitState, is_pending, is_any_pending, IsWellFormed, after_report, Answered, Refusals, Ending, Reports, Conflicts, Fails, EndsGood, Refuses, Ends, MayReport}
use Rattle.pr_attention.specs.Attentions.{each_attention}
use Rattle.pr_attention.proofs.lemmas.FourCodes.{listed, which}
use Rattle.std.proofs.lemmas.List.Folds.{list_any-from_Any}
use Rattle.pr_unit.specs.Laws.{IsQuiet}
use Rattle.pr_unit.specs.Steps.{Reports as ReportsSome}
use Rattle.pr_unit.proofs.lemmas.Steps.QuietSteps.{reported-quiet}
use Rattle.pr_roles.specs.declared.how.How.TheVariants as answer
use Rattle.pr_roles.specs.declared.how.How.{How}
use Rattle.pr_roles.specs.Answers.{Answers}
use Rattle.pr_roles.specs.DeclaredRefusals.{is_among}
use Rattle.pr_domain.specs.declared.reporting.Unserved.TheVariants as refused
use Rattle.pr_domain.specs.inside.Reporting.{IsLater, IsReport, comes}

report_ends : (d : Refusals) (u : UnitState) (h : ℕ) (c : Command) (r : Reply) (w : UnitState) (conflicting : Bool) → ((a : Attention) → IsTrue (comes d (Reports conflicting a))) → IsWellFormed u
    → is_pending u h power_on ≡ false → command_conflicts u.registry h c ≡ conflicting → ReportsSome u h (Plain c) r w → (ending : Ending) × IsTrue (comes d ending) × Ends ending c h u r w
report_ends d u h c r w conflicting come formed calm is_so step = by (which step.code (formed.pending h step.code step.pending).1)
  where
    by : (a : Attention) × (step.code ≡ code_of a) → (ending : Ending) × IsTrue (comes d ending) × Ends ending c h u r w
    by (a, same) = (
      Reports conflicting a,
      come a,
      (λ later. (calm, is_so), (ap (is_pending u h) (sym same) ∙ step.pending, step.reply ∙ ap (report (Plain c)) same, step.after ∙ ap (after_report u h) same)),
    )

step_ends : (d : Refusals) (u : UnitState) (h : ℕ) (c : Command) (r : Reply) (w : UnitState) → IsWellFormed u → Step u h (Plain c) r w → (ending : Ending) × IsTrue (comes d ending) × Ends ending c h u r w
step_ends d u h c r w formed step = at (is_pending u h power_on) (command_conflicts u.registry h c) (is_any_pending u h) (command_fault u.registry h c) refl refl refl refl
  where
    at : (p q any : Bool) (f : Option Sense) → is_pending u h power_on ≡ p → command_conflicts u.registry h c ≡ q → is_any_pending u h ≡ any → command_fault u.registry h c ≡ f
        → (ending : Ending) × IsTrue (comes d ending) × Ends ending c h u r w
    at true q any f p_is q_is any_is f_is = let s = rw p_is at step in (Reports false PowerOn, refl, (λ later. absurd (later refl), (p_is, s.0, s.1)))
    at false true any f p_is q_is any_is f_is = let s = rw (p_is, q_is) at step in (Conflicts, refl, (p_is, q_is, s.0, s.1))
    at false false true f p_is q_is any_is f_is = let s = rw (any_is, q_is, p_is) at step in report_ends d u h c r w false (λ a. refl) formed p_is q_is s
    at false false false (Some sense) p_is q_is any_is f_is = let s = rw (any_is, f_is, q_is, p_is) at step in (Fails, refl, (any_is, q_is, sense, f_is, s.0, s.1))
    at false false false None p_is q_is any_is f_is = let s = rw (any_is, f_is, q_is, p_is) at step in (EndsGood, refl, (any_is, q_is, f_is, s.0, s.1))

-- and so is an answer in which the unit has no part
pub answer_ends : (d : Refusals) (u : UnitState) (h : ℕ) (c : Command) (r : Reply) (w : UnitState) → IsWellFormed u → Answered d u h (Plain c) r w → (ending : Ending) × IsTrue (comes d ending) × Ends ending c h u r w
answer_ends d u h c r w formed x = by x.how x.declared x.answer
  where
    by : (k : How) → IsTrue (is_among d k) → Answers k u h (Plain c) r w → (ending : Ending) × IsTrue (comes d ending) × Ends ending c h u r w
    by answer.Plain declared is = step_ends d u h c r w formed is
    by answer.Early declared is = report_ends d u h c r w true (λ a. declared) formed is.calm is.kept is.reports
    by answer.Busy declared is = (Refuses refused.Busy, declared, is)
    by answer.Full declared is = (Refuses refused.Full, declared, is)

-- one that is pending is any
pub any_pending : (u : UnitState) (h : ℕ) (a : Attention) → is_pending u h (code_of a) ≡ true → is_any_pending u h ≡ true
any_pending u h a is =
    let there = listed a in
    list_any-from_Any (λ x. is_pending u h (code_of x)) each_attention (there.0, a, there.1, there.2, is)

-- where nothing is pending, no power on is
pub calm_from_quiet : (u : UnitState) (h : ℕ) → is_any_pending u h ≡ false → is_pending u h power_on ≡ false
calm_from_quiet u h quiet = at (is_pending u h power_on) refl
  where
    at : (b : Bool) → is_pending u h power_on ≡ b → is_pending u h power_on ≡ false
    at true is = let wrong = any_pending u h PowerOn is in cc
    at false is = is

report_step : (u : UnitState) (h : ℕ) (c : Command) (a : Attention) (r : Reply) (w : UnitState) → MayReport c h u false a → IsReport c h u a r w → Step u h (Plain c) r w
report_step u h c a r w may (there, reply, after) = by (cases_eq (code_of a) power_on)
  where
    by : (code_of a ≡ power_on) ⊎ IsLater a → Step u h (Plain c) r w
    by (inl first) = rw (ap (is_pending u h) (sym first) ∙ there) (reply ∙ ap (report (Plain c)) first, after ∙ ap (after_report u h) first)
    by (inr later) =
        let both = may later in
        rw (any_pending u h a there, both.1, both.0) (record { code = code_of a; pending = there; reply = reply; after = after })

quiet_self : (u : UnitState) (h : ℕ) → IsQuiet u h u
quiet_self u h = record { registry = refl; others = λ other code away. refl; own = λ code there. there }

-- so nothing but what is pending for it changes, or it is a step
pub steps_or_quiet : (ending : Ending) (u : UnitState) (h : ℕ) (c : Command) (r : Reply) (w : UnitState) → Ends ending c h u r w → Step u h (Plain c) r w ⊎ IsQuiet u h w
steps_or_quiet (Reports conflicting a) u h c r w ends = inr (subst (IsQuiet u h) (sym ends.1.2) (reported-quiet u h (code_of a)))
steps_or_quiet Conflicts u h c r w ends = inl (rw (ends.0, ends.1) (ends.2, ends.3))
steps_or_quiet Fails u h c r w ends = inl (rw (ends.0, ends.3, ends.1, calm_from_quiet u h ends.0) (ends.4, ends.5))
steps_or_quiet EndsGood u h c r w ends = inl (rw (ends.0, ends.2, ends.1, calm_from_quiet u h ends.0) (ends.3, ends.4))
steps_or_quiet (Refuses k) u h c r w ends = inr (subst (IsQuiet u h) (sym ends.1) (quiet_self u h))

pub ends_answer : (d : Refusals) (ending : Ending) (u : UnitState) (h : ℕ) (c : Command) (r : Reply) (w : UnitState) → IsTrue (comes d ending) → Ends ending c h u r w → Answered d u h (Plain c) r w
ends_answer d (Refuses refused.Full) u h c r w declared ends = record { how = answer.Full; declared = declared; answer = ends }
ends_answer d (Refuses refused.Busy) u h c r w declared ends = record { how = answer.Busy; declared = declared; answer = ends }
ends_answer d (Reports true a) u h c r w declared ends = by (cases_eq (code_of a) power_on)
  where
    by : (code_of a ≡ power_on) ⊎ IsLater a → Answered d u h (Plain c) r w
    by (inl first) = record { how = answer.Plain; declared = refl; answer = report_step u h c a r w (λ later. absurd (later first)) ends.1 }
    by (inr later) =
        let both = ends.0 later in
        record {
          how = answer.Early;
          declared = declared;
          answer = record { calm = both.0; kept = both.1; reports = record { code = code_of a; pending = ends.1.0; reply = ends.1.1; after = ends.1.2 } };
        }
ends_answer d (Reports false a) u h c r w declared ends = record { how = answer.Plain; declared = refl; answer = report_step u h c a r w ends.0 ends.1 }
ends_answer d Conflicts u h c r w declared ends = record { how = answer.Plain; declared = refl; answer = rw (ends.0, ends.1) (ends.2, ends.3) }
ends_answer d Fails u h c r w declared ends = record { how = answer.Plain; declared = refl; answer = rw (ends.0, ends.3, ends.1, calm_from_quiet u h ends.0) (ends.4, ends.5) }
ends_answer d EndsGood u h c r w declared ends = record { how = answer.Plain; declared = refl; answer = rw (ends.0, ends.2, ends.1, calm_from_quiet u h ends.0) (ends.3, ends.4) }
