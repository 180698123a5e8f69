use Rattle.pr_verify.proofs.Common.{ℕ, ◌≢◌, Some, sym, ap, ◌∙◌, arith, at_read, AllWithin-more, view_of, KeptView, view_at}
use Rattle.pr_verify.proofs.lemmas.Outlines.Lookups.{entries, view_at_found, view_at_none}
use Rattle.pr_verify.proofs.lacking.view_at.Goals as goal

pub returns-then-at-line-clause-value : goal.returns-then-at-line-clause-value
returns-then-at-line-clause-value c =
    let f = view_of c.args.outline.now.host in
    let xs = c.deref-at-items.result.now in
    let x = c.loop-at-item.result in
    ap (λ es. view_at (entries f es) c.args.line) (sym c.deref-at-items.ensures.value)
    ∙ view_at_found f xs c.args.line c.loop-at.at-index x c.loop-at-test.true c.loop-at.invariant (ap (λ e. e.0) (sym c.loop-at-item.is) ∙ c.if-at-line.true)
    ∙ ap (λ e. Some (f e.1)) (sym c.loop-at-item.is)

pub loop-at-preserved : goal.loop-at-preserved
loop-at-preserved c =
    AllWithin-more (λ (e : ℕ × KeptView). e.0 ≢ c.args.line) c.deref-at-items.result.now 0 c.loop-at.at-index c.loop-at.invariant
    (at_read c.deref-at-items.result.now (λ (e : ℕ × KeptView). e.0 ≢ c.args.line) c.loop-at.at-index c.loop-at-item.result c.loop-at-test.true c.loop-at-item.is c.if-at-line.false)

pub returns-clause-value : goal.returns-clause-value
returns-clause-value c =
    let f = view_of c.args.outline.now.host in
    ap (λ es. view_at (entries f es) c.args.line) (sym c.deref-at-items.ensures.value)
    ∙ view_at_none f c.deref-at-items.result.now c.args.line (λ k d small. c.loop-at.invariant k d (omega arith) (omega arith))
