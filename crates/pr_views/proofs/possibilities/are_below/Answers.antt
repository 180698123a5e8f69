use Rattle.pr_views.proofs.Common.{◌≡◌, ◌<◌, true, false, sym, ◌∙◌, arith, false≢true, has, option_map_or}
use Rattle.pr_views.proofs.lemmas.Rooms.Places.{holds_at-get_or, more_read}
use Rattle.pr_views.proofs.possibilities.are_below.Goals as goal

pub returns-then-not-is_below : goal.returns-then-not-is_below
returns-then-not-is_below c = (
  λ yes. absurd (false≢true yes),
  λ all. absurd (false≢true (sym c.if-not-is_below.true ∙ c.is_below.ensures.1 (λ n there. all c.from.result n (omega arith)
      (holds_at-get_or (λ w. has w n) c.args.sets.now c.from.result (record { bits = 0 }) (omega arith) ∙ there)))),
)

pub loop-host-preserved : goal.loop-host-preserved
loop-host-preserved c h n =
    more_read (λ _ o. option_map_or (λ w. has w n) o false ≡ true → n < c.args.size) c.args.sets.now c.loop-host.host c.from.result (record { bits = 0 }) c.from.ensures (omega arith)
    (λ k. c.loop-host.invariant k n) (c.is_below.ensures.0 c.if-not-is_below.false n) h
