use Rattle.pr_verify.proofs.Common.{Some, None, refl, subst, arith, scenario_of, view_of, IsPermittedIn, IsRefusedIn, outline_of, place_of, IsFirstUnarmed}
use Rattle.pr_roles.proofs.lemmas.Scenarios.Nexuses.{role_read}
use Rattle.pr_verify.proofs.lemmas.Refusals.Classes.{all_past}
use Rattle.pr_verify.proofs.lemmas.Reviewing.FittingPlaces.{IsHere, keeps_role, breaks_role, kept_is, broken_is, has_arms, lacks_arm_first}
use Rattle.pr_verify.proofs.reviewing.review.Goals as goal

pub returns-then-not-permitted-clause-permitted : goal.returns-then-not-permitted-clause-permitted
returns-then-not-permitted-clause-permitted c =
    let own = c.args.asked.now.outline.now.host in
    let v = view_of own c.args.view.now in
    let p = place_of c.args.spot.now in
    let s = scenario_of c.args.asked.now.scenario.now in
    let refused = subst (λ clauses. IsRefusedIn v clauses p.command) (role_read s own c.nexus_in.result.now c.nexus_in.ensures.nexus) (c.permitted.ensures.refused c.if-not-permitted.true) in
    broken_is s (outline_of c.args.asked.now.outline.now) p v (record { at = c.requires.here; own = refl }) refused

pub returns-then-not-permitted-clause-misfit : goal.returns-then-not-permitted-clause-misfit
returns-then-not-permitted-clause-misfit c =
    let own = c.args.asked.now.outline.now.host in
    let v = view_of own c.args.view.now in
    let p = place_of c.args.spot.now in
    let s = scenario_of c.args.asked.now.scenario.now in
    let refused = subst (λ clauses. IsRefusedIn v clauses p.command) (role_read s own c.nexus_in.result.now c.nexus_in.ensures.nexus) (c.permitted.ensures.refused c.if-not-permitted.true) in
    (refl, refl, breaks_role s (outline_of c.args.asked.now.outline.now) p v (record { at = c.requires.here; own = refl }) refused)

pub returns-in-None-clause-permitted : goal.returns-in-None-clause-permitted
returns-in-None-clause-permitted c =
    let s = scenario_of c.args.asked.now.scenario.now in
    let own = c.args.asked.now.outline.now.host in
    let v = view_of own c.args.view.now in
    let p = place_of c.args.spot.now in
    let permitted = subst (λ clauses. IsPermittedIn v clauses p.command) (role_read s own c.nexus_in.result.now c.nexus_in.ensures.nexus) (c.permitted.ensures.permitted c.if-not-permitted.false) in
    kept_is s (outline_of c.args.asked.now.outline.now) p v (record { at = c.requires.here; own = refl }) permitted

pub returns-in-Some-clause-permitted : goal.returns-in-Some-clause-permitted
returns-in-Some-clause-permitted c =
    let s = scenario_of c.args.asked.now.scenario.now in
    let own = c.args.asked.now.outline.now.host in
    let v = view_of own c.args.view.now in
    let p = place_of c.args.spot.now in
    let permitted = subst (λ clauses. IsPermittedIn v clauses p.command) (role_read s own c.nexus_in.result.now c.nexus_in.ensures.nexus) (c.permitted.ensures.permitted c.if-not-permitted.false) in
    kept_is s (outline_of c.args.asked.now.outline.now) p v (record { at = c.requires.here; own = refl }) permitted

pub returns-in-None-clause-misfit : goal.returns-in-None-clause-misfit
returns-in-None-clause-misfit c =
    let s = scenario_of c.args.asked.now.scenario.now in
    let o = outline_of c.args.asked.now.outline.now in
    let own = c.args.asked.now.outline.now.host in
    let v = view_of own c.args.view.now in
    let p = place_of c.args.spot.now in
    let permitted = subst (λ clauses. IsPermittedIn v clauses p.command) (role_read s own c.nexus_in.result.now c.nexus_in.ensures.nexus) (c.permitted.ensures.permitted c.if-not-permitted.false) in
    let here : IsHere o p v = record { at = c.requires.here; own = refl } in
    let none = all_past c.args.outcomes.now 0 None (subst (IsFirstUnarmed 0 c.args.outcomes.now) c.in-None.is c.first_unarmed.ensures) in
    (has_arms s o p v here own c.args.outcomes.now c.requires.outcomes c.requires.written.next (λ class one. none class one (omega arith)), keeps_role s o p v here permitted)

pub returns-in-Some-clause-misfit : goal.returns-in-Some-clause-misfit
returns-in-Some-clause-misfit c =
    let s = scenario_of c.args.asked.now.scenario.now in
    let o = outline_of c.args.asked.now.outline.now in
    let own = c.args.asked.now.outline.now.host in
    let v = view_of own c.args.view.now in
    let p = place_of c.args.spot.now in
    let permitted = subst (λ clauses. IsPermittedIn v clauses p.command) (role_read s own c.nexus_in.result.now c.nexus_in.ensures.nexus) (c.permitted.ensures.permitted c.if-not-permitted.false) in
    let here : IsHere o p v = record { at = c.requires.here; own = refl } in
    (refl, refl, keeps_role s o p v here permitted, lacks_arm_first s o p v here own c.args.outcomes.now c.requires.outcomes c.in-Some.class c.in-Some.ensures.1.0 (λ other one. all_past c.args.outcomes.now 0 (Some c.in-Some.class) c.in-Some.ensures other one (omega arith)))
