-- Reports before the reservation is looked at. To a TEST UNIT READY, which never conflicts, the unit reports the same at once.
use Rattle.pr_verify.proofs.Common.{◌≡◌, ℕ, true, false, sym, refl, ap, ◌∙◌, inl, inr, false≢true, Command, Reply, Plain, Step, UnitState}
use Rattle.pr_cdb.specs.declared.command.Command.TheVariants.{RequestSense, TestUnitReady}
use Rattle.pr_cdb.specs.declared.reply.Status.TheVariants.{Good, CheckCondition}
use Rattle.pr_cdb.specs.declared.wire.Request.{Request}
use Rattle.pr_unit.specs.Attentions.{power_on, attentions}
use Rattle.pr_unit.specs.Conduct.{conflicts}
use Rattle.pr_unit.specs.Steps.{ReportsEarly}
use Rattle.pr_unit.specs.Laws.{IsQuiet}
use Rattle.pr_unit.specs.Replies.{is_good, report}
use Rattle.pr_unit.specs.SharedPaths.{IsFromLess}
use Rattle.pr_unit.specs.UnitStates.{IsWellFormed, is_pending, is_any_pending, after_report}
use Rattle.pr_unit.proofs.lemmas.Steps.EasedSteps.{eased_steps, one_of}
use Rattle.pr_unit.proofs.lemmas.Steps.FixedStates.{one_report}
use Rattle.pr_unit.proofs.lemmas.Steps.SharedSteps.{IsDecided, decided}

-- it never ends GOOD: a REQUEST SENSE doesn't conflict
pub early_bad : (u : UnitState) (h : ℕ) (c : Command) (r : Reply) (v : UnitState) → ReportsEarly u h (Plain c) r v → is_good r ≡ false
early_bad u h RequestSense r v early = absurd (false≢true early.kept)
early_bad u h _ r v early = ap is_good early.reports.reply

-- the TEST UNIT READY to which it is reported
tested : (u : UnitState) (h code : ℕ) (v : UnitState) → is_pending u h power_on ≡ false → is_any_pending u h ≡ true → is_pending u h code ≡ true → v ≡ after_report u h code
    → Step u h (Plain TestUnitReady) (report (Plain TestUnitReady) code) v
tested u h code v calm any is after = rw (any, calm) (record { code = code; pending = is; reply = refl; after = after })

-- a report that leaves a state with less is one from a state with less
pub eased_early : (u : UnitState) (h : ℕ) (q : Request) (r : Reply) (v w : UnitState) → IsWellFormed u → ReportsEarly u h q r v → IsQuiet v h w → IsFromLess (λ x y. ReportsEarly x h q r y) u h w
eased_early u h q r v w formed early less = at (decided x.from h (Plain TestUnitReady) told w x.answer)
  where
    code : ℕ
    code = early.reports.code

    told : Reply
    told = report (Plain TestUnitReady) code

    x : IsFromLess (λ y z. Step y h (Plain TestUnitReady) told z) u h w
    x = eased_steps u h (Plain TestUnitReady) told v w formed (tested u h code v early.calm (one_of (is_pending u h) code attentions (formed.pending h code early.reports.pending).1 early.reports.pending) early.reports.pending early.reports.after) less

    at : IsDecided x.from h (Plain TestUnitReady) told w → IsFromLess (λ y z. ReportsEarly y h q r z) u h w
    at (inl (inl first)) = absurd (false≢true (sym early.calm ∙ x.less.own power_on first.here))
    at (inl (inr kept)) = absurd (false≢true kept.kept)
    at (inr (inl same)) = record {
      from = x.from;
      less = x.less;
      answer = record {
        calm = same.calm;
        kept = ap (λ g. conflicts g h q) x.less.registry ∙ early.kept;
        reports = record {
          code = same.reports.code;
          pending = same.reports.pending;
          reply = early.reports.reply ∙ ap (report q) (one_report (Plain TestUnitReady) code same.reports.code same.reports.reply);
          after = same.reports.after;
        };
      };
    }
    at (inr (inr silent)) = let status : CheckCondition ≡ Good = ap (λ (y : Reply). y.status) silent.step.0 in cc
