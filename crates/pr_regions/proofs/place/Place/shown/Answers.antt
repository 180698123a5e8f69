use Rattle.pr_regions.proofs.Common.{refl}
use Rattle.pr_regions.proofs.lemmas.Showing.ShownStates.{IsEverything, everything_proper, at_everything, is_shown}
use Rattle.pr_regions.proofs.place.Place.shown.Goals as goal

pub returns-in_default-clause-none : goal.returns-in_default-clause-none
returns-in_default-clause-none c s is uniform u at =
    let all : IsEverything c.region_of_all.result = record { holder = c.region_of_all.ensures.holder; others = c.region_of_all.ensures.others; somebody = c.region_of_all.ensures.somebody } in
    c.in_default.ensures.none s is uniform (everything_proper c.region_of_all.result all) u (at_everything s c.args.view.now c.args.self.now c.args.senders c.region_of_all.result u is all at)

pub returns-clause-some : goal.returns-clause-some
returns-clause-some c s is uniform =
    let all : IsEverything c.region_of_all.result = record { holder = c.region_of_all.ensures.holder; others = c.region_of_all.ensures.others; somebody = c.region_of_all.ensures.somebody } in
    let pends = c.is_empty.ensures.filled c.if-is_empty.false in
    is_shown s c.args.view.now c.args.self.now c.args.senders c.region_of_all.result c.in-Some.registrations c.only.result pends.0 is all
    (c.in-Some.ensures.some s is uniform (everything_proper c.region_of_all.result all)) pends.1 c.only.ensures _ refl refl refl
