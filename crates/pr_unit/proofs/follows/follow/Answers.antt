use Rattle.pr_unit.proofs.Common.{◌≡◌, ℕ, Bool, true, false, if◌then◌else◌, Option, sym, refl, ◌∙◌, subst, Reply, Sense, Request, power_on, last_decision, decision, StepBy, UnitState, is_pending, is_any_pending, unit_of, Decision, PowerOn, Conflicting, Attention, Done, AtFault, None, Some, conflicts, fault}
use Rattle.pr_unit.specs.Follows.{IsFollowed}
use Rattle.pr_unit.specs.inside.Following.{IsReported}
use Rattle.pr_unit.proofs.follows.follow.Goals as goal

-- a power on decides where it is pending
is_there : (a b c : Bool) (f : Option Sense) → (if a then PowerOn else (if b then Conflicting else (if c then Attention else last_decision f))) ≡ PowerOn → a ≡ true
is_there true b c f is = refl
is_there false true c f is = let bad : Conflicting ≡ PowerOn = is in cc
is_there false false true f is = let bad : Attention ≡ PowerOn = is in cc
is_there false false false None is = let bad : Done ≡ PowerOn = is in cc
is_there false false false (Some sense) is = let bad : AtFault sense ≡ PowerOn = is in cc

reports : (u : UnitState) (h : ℕ) (q : Request) (r : Reply) (v : UnitState) (follows : Bool) → decision u h q ≡ PowerOn → IsReported u h q r power_on follows v → IsFollowed u h q r follows v
reports u h q r v true is reported = subst (λ (d : Decision). StepBy d u h q r v) (sym is) (reported.1, reported.2)
reports u h q r v false is reported =
    let there = is_there (is_pending u h power_on) (conflicts u.registry h q) (is_any_pending u h) (fault u.registry h q) is in
    (reported.0, λ after step. reported.1 there (subst (λ (d : Decision). StepBy d u h q r after) is step).0)

pub returns-in-PowerOn : goal.returns-in-PowerOn
returns-in-PowerOn c =
    reports (unit_of c.args.registry.now c.args.pendings.now) c.args.host c.args.request c.args.reply.now (unit_of c.args.registry.now c.follow_report.new.pendings) c.follow_report.result (sym c.decide.ensures ∙ c.in-PowerOn.is) c.follow_report.ensures
