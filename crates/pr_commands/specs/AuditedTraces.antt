-- Agrees with docs/FORMATS.md, 'Auditing'.
-- An audit says `legal` of the traces that replays and runs write.
use Rattle.std.specs.Prelude.{◌≡◌, ℕ, Bool, false, List, []}
use Rattle.pr_report.specs.declared.verdict.Verdict.TheVariants.{Legal}
use Rattle.pr_report.specs.Verdicts.{verdict_text}
use Rattle.pr_commands.specs.Audits.{IsAuditOf}
use Rattle.pr_commands.specs.Replays.{IsTraceOf}
use Rattle.pr_commands.specs.Runs.{IsRunOf}
use Rattle.pr_commands.specs.Steps.{has_wrong_count}

-- the line `legal` with a number; it has no names
abbrev pub legal_line : ℕ → List ℕ
legal_line items = verdict_text [] (Legal items)

-- An audit of the text and the trace answers `legal`: under the names of the text's scenario the trace is read as so many items,
-- and they are legal from its first start. It has no other answer.
pub record IsAuditedLegal (text trace : List ℕ) : Type 0 where
  pub items : ℕ
  pub legal : IsAuditOf trace text (legal_line items) false
  pub only : (answer : List ℕ) (refused : Bool) → IsAuditOf trace text answer refused → (answer ≡ legal_line items) × (refused ≡ false)

-- what a replay writes, whether a host is trapped or not
abbrev pub ReplaysAreAuditedLegal : Type 0
ReplaysAreAuditedLegal =
    (steps : List (List ℕ)) (text trace : List ℕ) (refused : Bool) → has_wrong_count steps ≡ false → IsTraceOf steps text trace refused
    → IsAuditedLegal text trace

-- what a run writes that isn't refused
abbrev pub RunsAreAuditedLegal : Type 0
RunsAreAuditedLegal = (text trace : List ℕ) → IsRunOf text trace false → IsAuditedLegal text trace
