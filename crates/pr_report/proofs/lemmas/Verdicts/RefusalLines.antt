-- The line of a refusal names hosts as the scenario does.
use Rattle.pr_report.proofs.Common.{◌≡◌, ℕ, List, Option, Result, sym, ap, ◌∙◌, subst, scenario_of, Parts, names_in, names_of, Puts}
use Rattle.pr_roles.specs.declared.parts.Nexus.{Nexus as NexusPart}
use Rattle.pr_roles.specs.declared.refusal.Refusal.{Refusal}
use Rattle.pr_report.specs.declared.verdict.Verdict.{Verdict}
use Rattle.pr_report.specs.declared.verdict.Verdict.TheVariants.{Refused}
use Rattle.pr_report.specs.Verdicts.{reason_words, refused_line, verdict_text}
use Rattle.pr_trace.proofs.lemmas.TraceText.Lines.{names_of_scenario}

pub refusal_of_parts : {E : Type 0} (old new : Option (List ℕ)) (p q : Parts) (nexuses : List NexusPart) (refusal : Refusal) (verdict : Verdict) (r : Result (Unit {0}) E)
    → q ≡ p → nexuses ≡ q.nexuses.items → verdict ≡ Refused refusal → Puts old new (refused_line (reason_words (names_of nexuses) refusal)) r
    → Puts old new (verdict_text (names_in (scenario_of p)) verdict) r
refusal_of_parts old new p q nexuses refusal verdict r same items is puts =
    subst (λ v. Puts old new (verdict_text (names_in (scenario_of p)) v) r) (sym is)
    (subst (λ names. Puts old new (refused_line (reason_words names refusal)) r) (ap names_of (items ∙ ap (λ o. o.nexuses.items) same) ∙ names_of_scenario p) puts)
