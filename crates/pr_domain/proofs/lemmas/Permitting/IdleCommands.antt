-- Where a command ends GOOD that does more than look: nothing is pending for its sender then, and it neither conflicts nor is at
-- fault.
use Rattle.pr_domain.proofs.Common.{◌≡◌, ℕ, Bool, true, false, sym, refl, ◌∙◌, arith, false≢true, nat_tests, Command, Reply, Plain, power_on, command_conflicts, Step, UnitState, is_pending, is_any_pending, IsWellFormed, Scope, Attentions, IsSo}
use Rattle.std.proofs.lemmas.Bool.{false_from_ne_true}
use Rattle.pr_cdb.specs.declared.command.Command.TheVariants as command
use Rattle.pr_unit.specs.Replies.{is_good, is_request_sense}
use Rattle.pr_unit.specs.Steps.{decision}
use Rattle.pr_unit.specs.TakenSteps.{ends_good}
use Rattle.pr_unit.proofs.lemmas.TakenSteps.Determinism.{good_by_decision}
use Rattle.pr_unit.proofs.lemmas.TakenSteps.GoodSteps.{good_effect}
use Rattle.pr_roles.specs.Permits.{is_always_permitted}
use Rattle.pr_domain.proofs.lemmas.Reporting.OwnerStates.{none_of_zero}
use Rattle.pr_domain.specs.inside.Permitting.{IsServed}

-- ---- nothing is pending

pub zero_from_idle : (s : Scope) (u : UnitState) → IsWellFormed u → is_any_pending u s.own ≡ false → IsSo s u (Attentions 0)
zero_from_idle s u formed idle = (omega arith, λ code. false_from_ne_true (is_pending u s.own code) (λ is. none code is) ∙ sym (none_of_zero code))
  where
    none : (code : ℕ) → is_pending u s.own code ≡ true → ⊥
    none code is = let known = (formed.pending s.own code is).1 in grind (arith, nat_tests)

-- ---- what ends GOOD

looks_not : (c : Command) → is_always_permitted c ≡ false → is_request_sense (Plain c) ≡ false
looks_not command.RequestSense is = absurd (false≢true (sym is))
looks_not _ is = refl

-- where something is pending, it does not end GOOD
busy_is_not_good : (u : UnitState) (h : ℕ) (c : Command) (on conflict : Bool) → is_pending u h power_on ≡ on → command_conflicts u.registry h c ≡ conflict → is_any_pending u h ≡ true
    → is_request_sense (Plain c) ≡ false → ends_good (decision u h (Plain c)) (Plain c) ≡ false
busy_is_not_good u h c true conflict is so busy looks = rw is looks
busy_is_not_good u h c false true is so busy looks = rw (is, so) refl
busy_is_not_good u h c false false is so busy looks = rw (busy, is, so) looks

good_is_idle : (u : UnitState) (h : ℕ) (c : Command) (r : Reply) (w : UnitState) → Step u h (Plain c) r w → is_good r ≡ true → is_request_sense (Plain c) ≡ false → is_any_pending u h ≡ false
good_is_idle u h c r w step good looks = false_from_ne_true (is_any_pending u h) (λ busy.
    false≢true (sym (busy_is_not_good u h c (is_pending u h power_on) (command_conflicts u.registry h c) refl refl busy looks) ∙ sym (good_by_decision u h (Plain c) r w step) ∙ good))

pub good_ends : (s : Scope) (u : UnitState) (c : Command) (r : Reply) (w : UnitState) → IsWellFormed u → Step u s.own (Plain c) r w → is_good r ≡ true → is_always_permitted c ≡ false → IsServed s c u
good_ends s u c r w formed step good looks =
    let takes = good_effect u s.own c r w step good (looks_not c looks) in
    record { idle = zero_from_idle s u formed (good_is_idle u s.own c r w step good (looks_not c looks)); free = takes.free; whole = takes.whole }
