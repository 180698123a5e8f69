use Rattle.pr_report.proofs.Common.{ℕ, view_of, row_of, send_text, names_of}
use Rattle.pr_report.proofs.lemmas.OutlineText.Sends.{page_grown, page_kept}
use Rattle.pr_report.proofs.outline.has_added.Goals as goal

pub returns-then-not-is_added-clause-full : goal.returns-then-not-is_added-clause-full
returns-then-not-is_added-clause-full c = page_kept _ _ _ _ _ _ _ (c.put_send.ensures 0) c.is_ok-is_added.ensures.value c.len-before.ensures.value c.truncate.ensures.items

pub returns-else-not-is_added-clause-added : goal.returns-else-not-is_added-clause-added
returns-else-not-is_added-clause-added c =
    let text = λ (own : ℕ). send_text (names_of c.args.nexuses.now) c.args.line (view_of own c.args.view.now) (row_of c.args.row.now) in
    page_grown _ _ text _ _ c.put_send.ensures c.is_ok-is_added.ensures.value
