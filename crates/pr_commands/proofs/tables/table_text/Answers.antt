use Rattle.pr_commands.proofs.Common.{ℕ, ◌∙◌}
use Rattle.pr_report.specs.declared.verdict.Verdict.{Verdict}
use Rattle.pr_commands.specs.Tables.{IsTableOf}
use Rattle.pr_commands.specs.inside.JudgedHosts.{scenario_in}
use Rattle.pr_commands.specs.inside.Judgements.{verdict_in}
use Rattle.pr_commands.proofs.lemmas.Checks.Verdicts.{refusal_of}
use Rattle.pr_commands.proofs.lemmas.Endings.Answers.{answered, cut, whole}
use Rattle.pr_commands.proofs.tables.table_text.Goals as goal

pub returns-in_err-put_answer-clause-ends : goal.returns-in_err-put_answer-clause-ends
returns-in_err-put_answer-clause-ends g c =
    let t = c.in_ok-judged.judged in
    let found = c.in_ok-judged.ensures.judged in
    let answer : ℕ × Verdict = (t.host, verdict_in t.judgement) in
    cut _ _ _ _ _ _ _ _ _ _ _ (answered _ _ _ _ (scenario_in t) answer found.0 (found.1.found, found.1.stands)) c.in_err-put_answer.ensures c.from_residual-in_err-put_answer.ensures.1

pub returns-clause-ends : goal.returns-clause-ends
returns-clause-ends g c =
    let t = c.in_ok-judged.judged in
    let found = c.in_ok-judged.ensures.judged in
    let answer : ℕ × Verdict = (t.host, verdict_in t.judgement) in
    whole (IsTableOf _ _) _ _ _ _ _ _ (answered _ _ _ _ (scenario_in t) answer found.0 (found.1.found, found.1.stands)) (c.is_err.ensures.value ∙ refusal_of t.judgement) c.in_ok-put_answer.ensures
