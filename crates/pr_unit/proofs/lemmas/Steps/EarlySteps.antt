-- Reports before the reservation is looked at.
use Rattle.pr_unit.proofs.Common.{◌≡◌, ℕ, Bool, true, false, sym, ap, ◌∙◌, subst, false≢true, Reply, Request, power_on, UnitState, is_pending, IsWellFormed, after_report, conflicts}
use Rattle.std.specs.Prelude.{Ok, ◌<◌, ◌⊎◌, if◌then◌else◌}
use Rattle.std.proofs.Common.{inl, inr, refl}
use Rattle.pr_cdb.specs.Ranges.{FitsWhereRead}
use Rattle.pr_unit.proofs.lemmas.Steps.WellFormedSteps.{well_formed-taken}
use Rattle.pr_unit.specs.EarlyReports.{IsFollowedEarly, EarlyStep, TakenEarly, is_early}
use Rattle.pr_cdb.specs.declared.reply.Status.TheVariants.{Conflict, CheckCondition, Good}
use Rattle.pr_cdb.specs.ReplyData.{sense_bytes}
use Rattle.pr_unit.specs.Attentions.{attention_sense}
use Rattle.pr_unit.specs.Laws.{IsQuiet}
use Rattle.pr_unit.specs.Replies.{conflict, good, check, is_request_sense}
use Rattle.pr_unit.specs.SharedPaths.{Answering, IsFollowedShared}
use Rattle.pr_unit.specs.Steps.{Step, ReportsEarly}
use Rattle.pr_unit.proofs.lemmas.Steps.FixedStates.{one_report, reported_fixed}
use Rattle.pr_unit.proofs.lemmas.Steps.QuietSteps.{quiet_well_formed, reported-gone, reported-quiet}
use Rattle.pr_unit.proofs.lemmas.Steps.SharedSteps.{IsDecided, decided, less_reported, less_without}

early-quiet : (u : UnitState) (h : ℕ) (q : Request) (r : Reply) (v : UnitState) → ReportsEarly u h q r v → IsQuiet u h v
early-quiet u h q r v early = subst (IsQuiet u h) (sym early.reports.after) (reported-quiet u h early.reports.code)

pub well_formed-followed_early : (u : UnitState) (h : ℕ) (q : Request) (r : Reply) (follows : Bool) (v : UnitState) → IsWellFormed u → IsFollowedEarly u h q r follows v → IsWellFormed v
well_formed-followed_early u h q r true v w early = quiet_well_formed u v h w (early-quiet u h q r v early)
well_formed-followed_early u h q r false v w same = subst IsWellFormed (sym same.0) w

pub well_formed-taken_early : (u : UnitState) (h : ℕ) (q : Request) (r : Reply) (v : UnitState) → IsWellFormed u → h < u.registry.hosts → FitsWhereRead (Ok q) → TakenEarly u h q r v → IsWellFormed v
well_formed-taken_early u h q r v w there fits taken = at (is_early u h q) taken
  where
    at : (b : Bool) → EarlyStep b u h q r v → IsWellFormed v
    at true early = quiet_well_formed u v h w (early-quiet u h q r v early.0)
    at false step = well_formed-taken step w fits there

-- Of all the states from which it may be reported, where some of what is pending may be gone, this one leaves most: a power on is gone.
pub early_from_most : (u from : UnitState) (h : ℕ) (q : Request) (r : Reply) (w : UnitState) → IsQuiet u h from → ReportsEarly from h q r w
    → (v : UnitState) × ReportsEarly (after_report u h power_on) h q r v × IsQuiet v h w
early_from_most u from h q r w less early =
    let code = early.reports.code in
    let way = after_report u h power_on in
    let there = less_without u from h power_on less early.calm in (
      after_report way h code,
      record {
        calm = reported-gone u h power_on;
        kept = ap (λ g. conflicts g h q) (sym less.registry) ∙ early.kept;
        reports = record { code = code; pending = there.own code early.reports.pending; reply = early.reports.reply; after = λ i. after_report way h code };
      },
      subst (IsQuiet (after_report way h code) h) (sym early.reports.after) (less_reported way from h code there),
    )

-- two reports with the same reply leave the same state
same_report : (u : UnitState) (h : ℕ) (q : Request) (r : Reply) (v w : UnitState) → ReportsEarly u h q r v → ReportsEarly u h q r w → v ≡ w
same_report u h q r v w one other = reported_fixed u h q r v w one.reports other.reports

-- so what it leaves without the power on is the most
module _ (u : UnitState) (h : ℕ) (q : Request) (r : Reply) where
  abbrev way : UnitState
  way = after_report u h power_on

  abbrev early : Answering
  early x y = ReportsEarly x h q r y

  pub followed_early_shared : (v : UnitState) → IsFollowedEarly way h q r true v → IsFollowedShared early u h true v
  followed_early_shared v step = record {
    is = record { from = way; less = reported-quiet u h power_on; answer = step };
    most = λ w x. let found = early_from_most u x.from h q r w x.less x.answer in subst (λ y. IsQuiet y h w) (same_report way h q r found.0 v found.1 step) found.2;
  }

  pub not_followed_early_shared : (v : UnitState) → IsFollowedEarly way h q r false v → IsFollowedShared early u h false u
  not_followed_early_shared v none = (refl, λ w x. let found = early_from_most u x.from h q r w x.less x.answer in none.1 found.0 found.1)

  pub well_formed-followed_early_shared : (follows : Bool) (v : UnitState) → IsWellFormed u → IsFollowedShared early u h follows v → IsWellFormed v
  well_formed-followed_early_shared true v w leaves = quiet_well_formed leaves.is.from v h (quiet_well_formed u leaves.is.from h w leaves.is.less) (early-quiet leaves.is.from h q r v leaves.is.answer)
  well_formed-followed_early_shared false v w same = subst IsWellFormed (sym same.0) w

-- No reply comes in either order: where the request conflicts, a conflict or a power on is told in the one, and any other attention in
-- the other.
no_conflict : (b : Bool) (code : ℕ) → conflict ≡ (if b then good (sense_bytes (attention_sense code)) else check (attention_sense code)) → ⊥
no_conflict true code same = let bad : Conflict ≡ Good = ap (λ x. x.status) same in cc
no_conflict false code same = let bad : Conflict ≡ CheckCondition = ap (λ x. x.status) same in cc

pub in_one_order : (u other : UnitState) (h : ℕ) (q : Request) (r : Reply) (v w : UnitState) → other.registry ≡ u.registry → ReportsEarly u h q r v → Step other h q r w → ⊥
in_one_order u other h q r v w same told step = by (decided other h q r w step)
  where
    free_too : conflicts other.registry h q ≡ false → ⊥
    free_too free = false≢true (sym free ∙ ap (λ g. conflicts g h q) same ∙ told.kept)

    by : IsDecided other h q r w → ⊥
    by (inl (inl p)) =
        let one = one_report q told.reports.code power_on (sym told.reports.reply ∙ p.reply) in
        false≢true (sym told.calm ∙ ap (is_pending u h) (sym one) ∙ told.reports.pending)
    by (inl (inr c)) = no_conflict (is_request_sense q) told.reports.code (sym c.reply ∙ told.reports.reply)
    by (inr (inl t)) = free_too t.free
    by (inr (inr s)) = free_too s.free
