use Rattle.pr_views.proofs.Common.{◌≡◌, ℕ, true, false, arith, has, option_map_or}
use Rattle.pr_views.proofs.lemmas.Rooms.Places.{more_read}
use Rattle.pr_views.proofs.portion.Portion.is_filled.Goals as goal

pub loop-host-preserved : goal.loop-host-preserved
loop-host-preserved c =
    more_read (λ _ o. (n : ℕ) × (option_map_or (λ w. has w n) o false ≡ true)) c.args.self.now.registrations c.loop-host.host c.from.result (record { bits = 0 }) c.from.ensures (omega arith)
    c.loop-host.invariant (c.is_empty.ensures.filled c.if-is_empty.false)
