use Rattle.pr_verify.proofs.Common.{◌≡◌, ℕ, min, length, Some, sym, ap, ◌∙◌, subst, arith, get_or_default, KeptView, Spot}
use Rattle.pr_verify.proofs.lemmas.Refusals.Differences.{IsOfRest, agrees_here, differs_here, first_longer, second_longer, as_long}
use Rattle.pr_verify.proofs.checking.first_difference.Goals as goal

pub returns-then-i-spots : goal.returns-then-i-spots
returns-then-i-spots c =
    ap (λ (e : ℕ × KeptView). Some e.0) c.index-views-i.is
    ∙ sym (first_longer (λ (e : ℕ × KeptView). e.0) (λ (p : Spot). p.line) c.args.views.now c.args.spots.now c.loop-i.i c.index-views-i.result c.loop-i-test.true c.if-i-spots.true c.loop-i.invariant)

pub returns-then-entry-spots : goal.returns-then-entry-spots
returns-then-entry-spots c =
    let f = λ (e : ℕ × KeptView). e.0 in
    let p = λ (p : Spot). p.line in
    let n = c.loop-i.i in
    let x = c.index-views-i.result in
    let y = c.index-spots-i.result in
    ap (λ l. Some l) (c.min.ensures ∙ (λ i. min (ap f c.index-views-i.is i) (ap p (get_or_default c.args.spots.now n c.index-spots-i-then-entry-spots.result y c.if-i-spots.false) i)))
    ∙ sym (differs_here f p c.args.views.now c.args.spots.now n x y c.loop-i-test.true c.if-i-spots.false (λ same. c.if-entry-spots.true (ap f c.index-views-i.is ∙ same)) c.loop-i.invariant)

pub loop-i-preserved : goal.loop-i-preserved
loop-i-preserved c =
    agrees_here (λ (e : ℕ × KeptView). e.0) (λ (p : Spot). p.line) c.args.views.now c.args.spots.now c.loop-i.i c.index-views-i.result c.index-spots-i.result c.loop-i-test.true c.if-i-spots.false
    (ap (λ (e : ℕ × KeptView). e.0) (sym c.index-views-i.is) ∙ c.if-entry-spots.false) c.loop-i.invariant

pub returns-then-views-spots : goal.returns-then-views-spots
returns-then-views-spots c =
    let whole : c.loop-i.i ≡ length c.args.views.now = omega arith in
    sym (second_longer (λ (e : ℕ × KeptView). e.0) (λ (p : Spot). p.line) c.args.views.now c.args.spots.now (length c.args.views.now) c.index-spots-views.result (omega arith) c.if-views-spots.true
    (subst (IsOfRest (λ (e : ℕ × KeptView). e.0) (λ (p : Spot). p.line) c.args.views.now c.args.spots.now) whole c.loop-i.invariant))

pub returns : goal.returns
returns c = sym (as_long (λ (e : ℕ × KeptView). e.0) (λ (p : Spot). p.line) c.args.views.now c.args.spots.now c.loop-i.i c.loop-i-test.false (omega arith) c.loop-i.invariant)
