use Rattle.std.proofs.Common.{sym}
use Rattle.pr_shared.proofs.lemmas.Outcomes.Comparisons.{halted, halted_own}
use Rattle.pr_shared.proofs.shared.SharedWorld.halt.Goals as goal

pub returns-clause-halted : goal.returns-clause-halted
returns-clause-halted g c =
    halted _ _ _ _ (λ l. l.items) c.args.seats.items (λ s. s.mine.items) _ _ (c.is_halted.ensures.0 c.if-not-is_halted.false) c.deref.ensures.value c.gathered-mine.ensures.mine (sym c.args.seats.ok.0)
    c.history-legal.ensures.reached c.into_parts-history.ensures.history

pub returns-clause-own : goal.returns-clause-own
returns-clause-own g c =
    halted_own _ _ _ _ (λ l. l.items) c.args.seats.items (λ s. s.mine.items) _ _ (c.is_halted.ensures.0 c.if-not-is_halted.false) c.deref.ensures.value c.gathered-mine.ensures.mine (sym c.args.seats.ok.0)
    c.into_parts-history.ensures.history
