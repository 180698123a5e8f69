use Rattle.pr_interference.proofs.Common.{◌≡◌, true, Some, sym, ◌∙◌, subst, is_action, view_in, adds_nothing, purpose_for, PlaceLeads, ClauseLeaves}
use Rattle.pr_interference.proofs.lemmas.Interfering.Placements.{has_number, none_meant, adds_standings}
use Rattle.pr_interference.proofs.onlooker.Onlooker.add_place.Goals as goal

pub add_standing-requires : goal.add_standing-requires
add_standing-requires c =
    has_number c.args.self.now.keys.now c.args.clause.now.action c.args.place.now.held c.in-Some.purpose c.args.self.now.few_keys c.requires.action (sym c.purpose_for.ensures ∙ c.in-Some.is)

pub add_standing-requires-in-Some : goal.add_standing-requires-in-Some
add_standing-requires-in-Some c =
    has_number c.args.self.now.keys.now c.args.clause.now.action c.args.place.now.held c.in-Some.purpose c.args.self.now.few_keys c.requires.action (sym c.purpose_for.ensures ∙ c.in-Some.is)

pub add_standing-requires-in-Some-2 : goal.add_standing-requires-in-Some-2
add_standing-requires-in-Some-2 c =
    has_number c.args.self.now.keys.now c.args.clause.now.action c.args.place.now.held c.in-Some.purpose c.args.self.now.few_keys c.requires.action (sym c.purpose_for.ensures ∙ c.in-Some.is)

pub returns-in-Some : goal.returns-in-Some
returns-in-Some c s is same =
    let o = c.args.self.now in
    let place = c.args.place.now in
    let clause = c.args.clause.now in
    let meant = sym c.purpose_for.ensures ∙ c.in-Some.is in
    let fits : is_action s.keys clause.action ≡ true = subst (λ k. is_action k clause.action ≡ true) (sym same) c.requires.action in
    let known : purpose_for s.keys clause.action place.held ≡ Some c.in-Some.purpose = subst (λ k. purpose_for k clause.action place.held ≡ Some c.in-Some.purpose) (sym same) meant in
    adds_standings s o place clause c.args.self.now.keys.now c.in-Some.purpose c.args.answer.now c.add_standing.new.answer c.add_standing-in-Some.new.answer c.add_standing-in-Some-2.new.answer
    (ClauseLeaves (view_in s o.view) clause place.sender) is same meant
    (c.add_standing.ensures s is fits known) (c.add_standing-in-Some.ensures s is fits known) (c.add_standing-in-Some-2.ensures s is fits known)

pub returns-in_default : goal.returns-in_default
returns-in_default c s is same =
    let o = c.args.self.now in
    let place = c.args.place.now in
    let clause = c.args.clause.now in
    adds_nothing s c.args.answer.now (PlaceLeads (view_in s o.view) clause place.sender place.reservation) (ClauseLeaves (view_in s o.view) clause place.sender)
    (λ u w led. none_meant s o place clause c.args.self.now.keys.now u w is same (sym c.purpose_for.ensures ∙ c.in_default.is) led)
