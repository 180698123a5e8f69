use Rattle.pr_interference.proofs.Common.{◌≡◌, ◌<◌, ◌==◌, ◌||◌, ◌&&◌, true, sym, ap, ◌∙◌, subst, arith, nat_tests, has, has_at, number_in, is_held_by_all, is_told_of_loss}
use Rattle.pr_registry.specs.Registrations.{holds_alone}
use Rattle.pr_interference.specs.inside.Reaching.{IsHeldAmong, MayAllGo}
use Rattle.pr_interference.proofs.lemmas.Reaching.Bounds.{register_reach, unregister_reach, reserve_reach, release_reach, clear_reach, preempt_all_reach, preempt_key_reach}
use Rattle.pr_interference.proofs.lemmas.Reaching.HeldReservations.{reach_of_held, established_at, by_everybody, single_below}
use Rattle.pr_interference.proofs.onlooker.Onlooker.reach.Goals as goal

pub returns-then-are_none : goal.returns-then-are_none
returns-then-are_none c s is =
    reach_of_held s c.args.self.now c.args.clause.now _ c.args.holders.now c.meeting-met.result is c.requires.action c.requires.held c.meeting-met.ensures
    (λ place hosts sender watched named held. absurd (c.are_none.ensures c.if-are_none.true place.held held))

pub returns-in-Register : goal.returns-in-Register
returns-in-Register c s is =
    let o = c.args.self.now in
    let key = c.in-Register.key in
    let n = c.number_in.result in
    let number : n ≡ number_in s.keys key = c.number_in.ensures.number ∙ ap (λ k. number_in k key) (sym is.keys) in
    let itself : (n == n) ≡ true = grind (arith, nat_tests) in
    reach_of_held s o c.args.clause.now _ c.args.holders.now c.meeting-met.result is c.requires.action c.requires.held c.meeting-met.ensures
    (λ place hosts sender watched named held. register_reach s o place c.args.clause.now _ watched named key c.in-Register.is
    (subst (λ j. has c.only.result j ≡ true) number (c.only.ensures n ∙ itself)))

pub returns-in-Unregister : goal.returns-in-Unregister
returns-in-Unregister c s is =
    let o = c.args.self.now in
    let facts = c.reach_of_unregistering.ensures in
    reach_of_held s o c.args.clause.now _ c.args.holders.now c.meeting-met.result is c.requires.action c.requires.held c.meeting-met.ensures
    (λ place hosts sender watched named held. unregister_reach s o place c.args.clause.now _ watched named c.in-Unregister.is facts.given
    (λ e. facts.ended place.held held (subst (λ g. (holds_alone place.held g || is_held_by_all place.held) ≡ true) sender e))
    (λ e. facts.told place.held held (subst (λ g. (holds_alone place.held g && is_told_of_loss place.held) ≡ true) sender e)))

pub returns-in-Reserve : goal.returns-in-Reserve
returns-in-Reserve c s is =
    let o = c.args.self.now in
    let kind = c.in-Reserve.kind in
    reach_of_held s o c.args.clause.now _ c.args.holders.now c.meeting-met.result is c.requires.action c.requires.held c.meeting-met.ensures
    (λ place hosts sender watched named held. reserve_reach s o place c.args.clause.now _ watched named kind c.in-Reserve.is
    (λ none. established_at o place kind c.new_if.result hosts sender (c.new_if.ensures (subst (IsHeldAmong c.meeting-met.result) none held))))

pub returns-in-Release : goal.returns-in-Release
returns-in-Release c s is =
    let o = c.args.self.now in
    let facts = c.reach_of_releasing.ensures in
    reach_of_held s o c.args.clause.now _ c.args.holders.now c.meeting-met.result is c.requires.action c.requires.held c.meeting-met.ensures
    (λ place hosts sender watched named held. release_reach s o place c.args.clause.now _ watched named c.in-Release.is
    (λ e. facts.ended place.held held (subst (λ g. (holds_alone place.held g || is_held_by_all place.held) ≡ true) sender e))
    (λ e. facts.told place.held held (subst (λ g. ((holds_alone place.held g || is_held_by_all place.held) && is_told_of_loss place.held) ≡ true) sender e)))

pub returns-in-Clear : goal.returns-in-Clear
returns-in-Clear c s is =
    let facts = c.reach_of_clearing.ensures in
    reach_of_held s c.args.self.now c.args.clause.now _ c.args.holders.now c.meeting-met.result is c.requires.action c.requires.held c.meeting-met.ensures
    (λ place hosts sender watched named held. clear_reach s c.args.self.now place c.args.clause.now _ watched named c.in-Clear.is facts.given facts.removed facts.reservations facts.told)

pub returns-then-key-eq0 : goal.returns-then-key-eq0
returns-then-key-eq0 c s is =
    let o = c.args.self.now in
    let facts = c.reach_of_preempting_all.ensures in
    let kind = c.in-Preempt.kind in
    let met = c.meeting-met.result in
    reach_of_held s o c.args.clause.now _ c.args.holders.now met is c.requires.action c.requires.held c.meeting-met.ensures
    (λ place hosts sender watched named held. preempt_all_reach s o place c.args.clause.now _ watched named c.in-Preempt.key kind c.in-Preempt.is c.if-key-eq0.true
    (λ all. facts.removed (by_everybody met place.held held all))
    (λ all. established_at o place kind c.reach_of_preempting_all.result.reservations hosts sender (facts.reservations (by_everybody met place.held held all)))
    (λ all. facts.told (by_everybody met place.held held all)))

pub returns-else-key-eq0 : goal.returns-else-key-eq0
returns-else-key-eq0 c s is =
    let o = c.args.self.now in
    let reach = c.reach_of_preempting.result in
    let facts = c.reach_of_preempting.ensures in
    let key = c.in-Preempt.key in
    let kind = c.in-Preempt.kind in
    let met = c.meeting-met.result in
    let number : number_in s.keys key ≡ c.number_in-else-key-eq0.result = ap (λ k. number_in k key) is.keys ∙ sym c.number_in-else-key-eq0.ensures.number in
    reach_of_held s o c.args.clause.now reach c.args.holders.now met is c.requires.action c.requires.held c.meeting-met.ensures
    (λ place hosts sender watched named held.
    let mine : has_at o.view.registrations place.sender (number_in s.keys key) ≡ true → has_at o.view.registrations o.other c.number_in-else-key-eq0.result ≡ true =
    λ is. subst (λ g. has_at o.view.registrations g c.number_in-else-key-eq0.result ≡ true) sender (subst (λ j. has_at o.view.registrations place.sender j ≡ true) number is) in
    preempt_key_reach s o place c.args.clause.now reach watched named key kind c.in-Preempt.is c.if-key-eq0.false
    (λ has. facts.given (mine has))
    (λ all has go. facts.ended (by_everybody met place.held held all) (mine has)
    (subst (λ j. MayAllGo o.view o.hosts o.other j) number (subst (λ g. MayAllGo o.view o.hosts g (number_in s.keys key)) sender (subst (λ n. MayAllGo o.view n place.sender (number_in s.keys key)) hosts go))))
    (subst (λ j. has reach.removed j ≡ true) (sym number) facts.removed)
    (λ old g holds has. established_at o place kind reach.reservations hosts sender (facts.replaced old g (subst (IsHeldAmong met) holds held) (subst (λ n. g < n) hosts (single_below place.hosts place.held old g holds place.fits))
    (subst (λ j. has_at o.view.registrations g j ≡ true) number has)))
    (λ old g holds has other r some small apart. facts.told_04 old g (subst (IsHeldAmong met) holds held) (subst (λ n. g < n) hosts (single_below place.hosts place.held old g holds place.fits))
    (subst (λ j. has_at o.view.registrations g j ≡ true) number has) other r some small (λ e. apart (e ∙ sym number)))
    (subst (λ j. has reach.told_05 j ≡ true) (sym number) facts.told_05))
