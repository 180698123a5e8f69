use Rattle.std.proofs.Common.{sym, subst, inl, inr, arith}
use Rattle.std.specs.Prelude.{◌≡◌, length, map}
use Rattle.std.specs.List.{range_with_len}
use Rattle.pr_roles.specs.Scenarios.{scenario_of}
use Rattle.pr_shared.specs.Histories.{entries_by}
use Rattle.pr_shared.specs.Outcomes.{IsHalted}
use Rattle.pr_shared.specs.inside.Seating.{hosts_of}
use Rattle.pr_shared.specs.inside.Starting.{StartedBut}
use Rattle.pr_shared.proofs.lemmas.Outcomes.Comparisons.{guests_length, lists_length, ordered_length}
use Rattle.pr_shared.proofs.lemmas.Starting.Threads.{failed_next}
use Rattle.pr_shared.proofs.running.settled.Goals as goal

pub halt-requires : goal.halt-requires
halt-requires g c =
    let next = failed_next c.args.seats.items (λ s. s.host) _ _ _ _ c.in-Some.is c.args.seats.ok.0 c.requires.started in
    omega (arith, next.1)

pub returns-in-Ok-halt-clause-known : goal.returns-in-Ok-halt-clause-known
returns-in-Ok-halt-clause-known g c =
    let next = failed_next c.args.seats.items (λ s. s.host) _ _ _ _ c.in-Some.is c.args.seats.ok.0 c.requires.started in
    omega (arith, next.0, next.1)

pub returns-in-Ok-halt-clause-halted : goal.returns-in-Ok-halt-clause-halted
returns-in-Ok-halt-clause-halted g c =
    let next = failed_next c.args.seats.items (λ s. s.host) _ _ _ _ c.in-Some.is c.args.seats.ok.0 c.requires.started in
    subst (λ h. IsHalted (scenario_of c.args.shared.kept.scenario) h c.in-Ok-halt.history.items) (sym next.0) c.in-Ok-halt.ensures.halted

pub returns-in-Ok-halt-clause-sent : goal.returns-in-Ok-halt-clause-sent
returns-in-Ok-halt-clause-sent g c =
    let next = failed_next c.args.seats.items (λ s. s.host) _ _ _ _ c.in-Some.is c.args.seats.ok.0 c.requires.started in
    subst (λ h. entries_by h c.in-Ok-halt.history.items ≡ map (λ s. s.mine.items) c.args.seats.items) (sym next.0) c.in-Ok-halt.ensures.own

pub returns-in-Err-clause-differs : goal.returns-in-Err-clause-differs
returns-in-Err-clause-differs g c =
    let all = subst (λ f. StartedBut f (hosts_of c.args.seats.items) (range_with_len 0 (length g.C.Round.guests))) c.in_default.is c.requires.started in
    let seats = ordered_length c.args.seats.items (λ s. s.host) _ all in
    let nexuses = guests_length (scenario_of c.args.shared.kept.scenario) _ c.args.shared.guests in
    let lists = lists_length c.in-Err.differs.mine.items (λ l. l.items) c.args.seats.items (λ s. s.mine.items) c.in-Err.ensures.mine in
    inl (omega (arith, lists, seats, nexuses), c.in-Err.ensures.cause)

pub returns-in-Err-halt-clause-differs : goal.returns-in-Err-halt-clause-differs
returns-in-Err-halt-clause-differs g c =
    let next = failed_next c.args.seats.items (λ s. s.host) _ _ _ _ c.in-Some.is c.args.seats.ok.0 c.requires.started in
    let nexuses = guests_length (scenario_of c.args.shared.kept.scenario) _ c.args.shared.guests in
    let lists = lists_length c.in-Err-halt.differs.mine.items (λ l. l.items) c.args.seats.items (λ s. s.mine.items) c.in-Err-halt.ensures.mine in
    let long = c.args.seats.ok.0 in
    inr (omega (arith, lists, next.1, nexuses, long), c.in-Err-halt.ensures.cause)
