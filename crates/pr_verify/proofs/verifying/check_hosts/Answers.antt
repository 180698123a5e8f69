use Rattle.pr_verify.proofs.Common.{IfErr, sym, subst, arith, err_from_is_err_and, task, scenario_of, are_counted, HasOutline, OnScripted, SendsFit, IsVerdict, below_more}
use Rattle.pr_verify.proofs.lemmas.Verdicts.Reasons.{is_verdict}
use Rattle.pr_verify.proofs.verifying.check_hosts.Goals as goal

pub overflow_cast-hosts : goal.overflow_cast-hosts
overflow_cast-hosts c = let few = (are_counted c.args.scenario.now c.parts.result.now c.len-hosts.result c.parts.ensures.value c.parts.ensures.fits c.len-hosts.ensures).few.1 in omega arith

pub loop-host-init : goal.loop-host-init
loop-host-init c = (λ h small. absurd (omega arith), λ h small. absurd (omega arith))

pub check_host-requires : goal.check_host-requires
check_host-requires c = let all = (are_counted c.args.scenario.now c.parts.result.now c.len-hosts.result c.parts.ensures.value c.parts.ensures.fits c.len-hosts.ensures).nexuses in let small = c.loop-host-test.true in omega arith

pub loop-host-preserved : goal.loop-host-preserved
loop-host-preserved c =
    let s = scenario_of c.args.scenario.now in (
      below_more (λ h. OnScripted (task s h) (HasOutline s h)) c.loop-host.host c.loop-host.invariant.0 c.in_ok-check_host.ensures.outline,
      below_more (λ h. OnScripted (task s h) (λ script budget. SendsFit script)) c.loop-host.host c.loop-host.invariant.1 c.in_ok-check_host.ensures.fields,
    )

pub returns-clause-outlines : goal.returns-clause-outlines
returns-clause-outlines c h small =
    let all = (are_counted c.args.scenario.now c.parts.result.now c.len-hosts.result c.parts.ensures.value c.parts.ensures.fits c.len-hosts.ensures).nexuses in
    c.loop-host.invariant.0 h (let last = c.loop-host-test.false in omega arith)

pub returns-clause-fields : goal.returns-clause-fields
returns-clause-fields c h small =
    let all = (are_counted c.args.scenario.now c.parts.result.now c.len-hosts.result c.parts.ensures.value c.parts.ensures.fits c.len-hosts.ensures).nexuses in
    c.loop-host.invariant.1 h (let last = c.loop-host-test.false in omega arith)

pub returns-in_err-check_host-clause-verdict : goal.returns-in_err-check_host-clause-verdict
returns-in_err-check_host-clause-verdict c =
    let s = scenario_of c.args.scenario.now in
    let p = err_from_is_err_and c.from_residual.result c.from_residual.ensures.1 in
    subst (λ r. IfErr r (IsVerdict s)) (sym p.1) (subst (IsVerdict s) (sym p.2) (is_verdict s c.loop-host.host _ c.in_err-check_host.ensures.reason c.loop-host.invariant.0))
