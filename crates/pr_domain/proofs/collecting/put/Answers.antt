use Rattle.pr_domain.proofs.Common.{◌∙◌, or_right, has_wide, view_in, IsPossible}
use Rattle.pr_domain.proofs.lemmas.Reporting.OutcomeLists.{read_there, put_pushed, put_joined, kept_put, more_put, none_there, joined_there}
use Rattle.pr_domain.proofs.collecting.put.Goals as goal

pub returns-in-Some : goal.returns-in-Some
returns-in-Some c =
    let old = c.args.outcomes.now.items in
    let was = c.index_mut.result.now in
    let there = read_there old c.deref.result.now c.in-Some.place c.args.landing c.in-Some.ensures.some.0 was c.deref.ensures.value c.in-Some.ensures.some.1 c.index_mut.ensures.value in
    let put = put_joined old c.in-Some.place c.args.landing c.join.new.self was c.requires.kept there.0 there.1 in
    let some = c.requires.some in
    record {
      kept = kept_put old _ c.in-Some.place c.args.landing c.join.new.self put c.requires.kept (some.0, c.join.ensures.reservations some.0 ∙ or_right (has_wide was.1.reservations some.0) _ some.1);
      more = λ s.
          more_put old _ c.in-Some.place c.args.landing c.join.new.self put s (IsPossible (view_in s c.args.found))
          (joined_there s old c.in-Some.place c.args.landing was c.args.found c.join.new.self c.requires.kept there.0 there.1 c.join.ensures.registrations c.join.ensures.reservations c.join.ensures.pending);
    }

pub returns-in_ok-push-in-None : goal.returns-in_ok-push-in-None
returns-in_ok-push-in-None c =
    let old = c.args.outcomes.now.items in
    let none = rw c.deref.ensures.value at c.in-None.ensures.none in
    let put = put_pushed old c.args.landing c.args.found none in
    rw c.in_ok-push-in-None.ensures.items
    (record {
      kept = kept_put old _ _ c.args.landing c.args.found put c.requires.kept c.requires.some;
      more = λ s. more_put old _ _ c.args.landing c.args.found put s (IsPossible (view_in s c.args.found)) (none_there s old c.args.landing (IsPossible (view_in s c.args.found)) none);
    })
