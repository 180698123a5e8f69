use Rattle.pr_verify.proofs.Common.{◌≡◌, ◌+◌, length, Vec, Global, sym, ap, ◌∙◌, subst, arith, scenario_of, are_counted}
use Rattle.pr_views.specs.declared.table.Table.{Table}
use Rattle.pr_verify.proofs.lemmas.Tabling.Judgements.{IsJudgementBefore}
use Rattle.pr_verify.proofs.lemmas.Tabling.Judgements.{judged_next, judged_past, outlines_there, safe_all, reason_first, outlines_missing}
use Rattle.pr_verify.proofs.lemmas.Tabling.Rows.{AreBeforeHost, one_table, no_table, are_tables}
use Rattle.pr_verify.proofs.judging.judge.Goals.{then-has_script+in_ok-table+in_ok-push, else-has_script}
use Rattle.pr_verify.proofs.judging.judge.Goals as goal

pub overflow_cast-hosts : goal.overflow_cast-hosts
overflow_cast-hosts c = let few = (are_counted c.args.scenario.now c.parts.result.now c.len-hosts.result c.parts.ensures.value c.parts.ensures.fits c.len-hosts.ensures).few.1 in omega arith

pub loop-host-preserved : goal.loop-host-preserved
loop-host-preserved c =
    let s = scenario_of c.args.scenario.now in
    let ts = c.loop-host.tables.items in
    let n = c.loop-host.host in
    elim c.if-has_script.branch [
      | then-has_script+in_ok-table+in_ok-push w ↦
          let t = w.in_ok-table.ensures in (
            subst (AreBeforeHost s (n + 1)) (sym (ap (λ (v : Vec Table Global). v.items) w.tables-is ∙ w.in_ok-push.ensures.items))
                (one_table s n ts _ c.loop-host.invariant.0 (sym c.has_script.ensures ∙ w.if-has_script.true) t.host t.table t.made),
            subst (IsJudgementBefore s (n + 1)) (sym (w.refusal-is ∙ w.or-refusal.ensures)) (judged_next s n c.loop-host.refusal _ c.loop-host.invariant.1 t.judgement),
          )
      | else-has_script w ↦ (
        subst (AreBeforeHost s (n + 1)) (sym (ap (λ (v : Vec Table Global). v.items) w.tables-is))
            (no_table s n ts c.loop-host.invariant.0 (sym c.has_script.ensures ∙ w.if-has_script.false)),
        subst (IsJudgementBefore s (n + 1)) (sym w.refusal-is) (judged_past s n c.loop-host.refusal c.loop-host.invariant.1 (sym c.has_script.ensures ∙ w.if-has_script.false)),
      )
    ]

pub returns-clause-tables : goal.returns-clause-tables
returns-clause-tables c =
    let s = scenario_of c.args.scenario.now in
    let all = (are_counted c.args.scenario.now c.parts.result.now c.len-hosts.result c.parts.ensures.value c.parts.ensures.fits c.len-hosts.ensures).nexuses in
    let last = c.loop-host-test.false in
    let whole : c.loop-host.host ≡ length s.nexuses = omega arith in
    are_tables s c.loop-host.tables.items (subst (λ n. AreBeforeHost s n c.loop-host.tables.items) whole c.loop-host.invariant.0)

pub returns-clause-safe : goal.returns-clause-safe
returns-clause-safe c =
    let s = scenario_of c.args.scenario.now in
    let all = (are_counted c.args.scenario.now c.parts.result.now c.len-hosts.result c.parts.ensures.value c.parts.ensures.fits c.len-hosts.ensures).nexuses in
    let last = c.loop-host-test.false in
    let whole : c.loop-host.host ≡ length s.nexuses = omega arith in
    safe_all s c.loop-host.refusal (subst (λ n. IsJudgementBefore s n c.loop-host.refusal) whole c.loop-host.invariant.1) c.outlines_make_safe.ensures

pub returns-clause-outlines : goal.returns-clause-outlines
returns-clause-outlines c =
    let s = scenario_of c.args.scenario.now in
    let all = (are_counted c.args.scenario.now c.parts.result.now c.len-hosts.result c.parts.ensures.value c.parts.ensures.fits c.len-hosts.ensures).nexuses in
    let last = c.loop-host-test.false in
    let whole : c.loop-host.host ≡ length s.nexuses = omega arith in
    outlines_there s c.loop-host.refusal (subst (λ n. IsJudgementBefore s n c.loop-host.refusal) whole c.loop-host.invariant.1)

pub returns-clause-reason : goal.returns-clause-reason
returns-clause-reason c =
    let s = scenario_of c.args.scenario.now in
    let all = (are_counted c.args.scenario.now c.parts.result.now c.len-hosts.result c.parts.ensures.value c.parts.ensures.fits c.len-hosts.ensures).nexuses in
    let last = c.loop-host-test.false in
    let whole : c.loop-host.host ≡ length s.nexuses = omega arith in
    reason_first s c.loop-host.refusal (subst (λ n. IsJudgementBefore s n c.loop-host.refusal) whole c.loop-host.invariant.1)

pub returns-clause-none : goal.returns-clause-none
returns-clause-none c =
    let s = scenario_of c.args.scenario.now in
    let all = (are_counted c.args.scenario.now c.parts.result.now c.len-hosts.result c.parts.ensures.value c.parts.ensures.fits c.len-hosts.ensures).nexuses in
    let last = c.loop-host-test.false in
    let whole : c.loop-host.host ≡ length s.nexuses = omega arith in
    outlines_missing s c.loop-host.refusal (subst (λ n. IsJudgementBefore s n c.loop-host.refusal) whole c.loop-host.invariant.1)
