use Rattle.pr_domain.proofs.Common.{◌≡◌, ◌+◌, true, All, sym, ◌∙◌, subst, inl, inr, arith, number_of, view_in, IsReserved, IsUnder, cases_eq, is_written, test_fits}
use Rattle.std.proofs.Common.{⊎_elim}
use Rattle.pr_domain.proofs.lemmas.Tallies.Growth.{grows_then}
use Rattle.pr_domain.proofs.lemmas.Twins.RetypedStates.{twin_grows}
use Rattle.pr_domain.proofs.lemmas.Tallies.ShownStates.{senders_all}
use Rattle.pr_domain.proofs.tallying.add_reservation.Goals as goal

pub returns-in-Some : goal.returns-in-Some
returns-in-Some c s none owners nothing before =
    let command = c.args.asked.now.command in
    let tests = c.args.asked.now.tests.now in
    let written : is_written s.keys command ≡ true = subst (λ k. is_written k command ≡ true) (sym owners.same_keys) c.args.asked.now.written in
    let fit : All (λ t. test_fits s.keys command t ≡ true) tests = subst (λ k. All (λ t. test_fits k command t ≡ true) tests) (sym owners.same_keys) c.args.asked.now.fit in
    twin_grows s c.args.view.now command tests (sym c.is_reading.ensures ∙ c.if-is_reading.true) written fit c.args.asked.now.keys.now c.args.place c.in-Some.twin none c.args.tally.now c.add_twin.new.self owners c.in-Some.ensures
    nothing c.add_twin.ensures before

pub returns : goal.returns
returns c s none owners nothing before =
    let command = c.args.asked.now.command in
    let tests = c.args.asked.now.tests.now in
    let n = c.args.place.reservation in
    grows_then (view_in s c.args.view.now) command tests none c.args.tally.now c.add_senders.new.tally (IsReserved s n) (IsUnder s c.args.place) (IsReserved s (n + 1)) (λ u shown below. omega arith) (λ u shown under. omega arith)
    (λ u shown below. ⊎_elim (λ same. inr (sym same)) (λ differs. inl (omega arith)) (cases_eq (number_of s.hosts u.registry.held) n)) before
    (senders_all s command tests c.args.view.now c.args.place c.from.result _ c.args.tally.now c.add_senders.new.tally owners.is c.from.ensures (c.add_senders.ensures s owners))
