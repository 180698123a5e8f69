use Rattle.pr_views.proofs.Common.{◌≡◌, true, false, sym, ◌∙◌, arith, false≢true, contains_at, option_map_or}
use Rattle.std.specs.FinSet as set
use Rattle.pr_views.proofs.lemmas.Rooms.Places.{holds_at-get_or, more_read}
use Rattle.pr_views.proofs.sets.are_within.Goals as goal

pub returns-then-not-within : goal.returns-then-not-within
returns-then-not-within g c = (
  λ yes. absurd (false≢true yes),
  λ all. absurd (false≢true (sym c.if-not-within.true ∙ c.within.ensures.1 (λ n there.
      sym (holds_at-get_or (λ s. set.contains (g.S.ViewSet.members s) n) c.args.others.now c.from-place.result c.index-others-place.result (omega arith)) ∙ all c.from-place.result n (omega arith)
      (holds_at-get_or (λ s. set.contains (g.S.ViewSet.members s) n) c.args.sets.now c.from-place.result c.index-sets-place.result (omega arith) ∙ there)))),
)

pub loop-host-preserved : goal.loop-host-preserved
loop-host-preserved g c h n =
    more_read (λ k o. option_map_or (λ s. set.contains (g.S.ViewSet.members s) n) o false ≡ true → contains_at g.S.ViewSet.members c.args.others.now k n ≡ true) c.args.sets.now c.loop-host.host
    c.from-place.result c.index-sets-place.result c.from-place.ensures (omega arith) (λ k. c.loop-host.invariant k n)
    (λ there. holds_at-get_or (λ s. set.contains (g.S.ViewSet.members s) n) c.args.others.now c.from-place.result c.index-others-place.result (omega arith)
    ∙ c.within.ensures.0 c.if-not-within.false n there) h
