use Rattle.std.specs.Prelude.{Bool, ℕ, ◌&&◌, ◌==◌, not}
use Rattle.pr_domain.proofs.Common.{◌≡◌, BitSet, Option, true, false, sym, refl, ap, ◌∙◌, subst, option_map_or, has, has_wide, has_at, Possibilities, Grows, HasOneOf, scope_at}
use Rattle.pr_domain.specs.inside.Permitting.{view_of_asker}
use Rattle.pr_domain.proofs.lemmas.Permitting.Permissions.{permitted_at, permitted_to_all, refused_at}
use Rattle.pr_domain.proofs.lemmas.Tallies.ShownStates.{has_here}
use Rattle.pr_domain.proofs.permitting.is_permitted_at.Goals as goal

grown : (c : goal.After-is_empty-2) → Grows (view_of_asker c.args.asked.now c.args.place.hosts c.args.place.sender c.args.view.now) c.args.asked.now.command c.args.asked.now.tests.now c.none-tally.result c.add_senders.new.tally
    (HasOneOf (scope_at c.args.asked.now.keys.now c.args.place.hosts c.args.place.sender) c.args.place c.unpermitted-senders.result)
grown c = c.add_senders.ensures (scope_at c.args.asked.now.keys.now c.args.place.hosts c.args.place.sender) (record {
  own = refl;
  same_keys = refl;
  is = record { hosts = refl; fits = c.requires.asking.fits; possible = c.requires.possible };
})

-- Whom none of these clauses permits it, where others are said to be named so.
named : (possible senders : BitSet) (of_naming of_clauses : ℕ → Bool) → ((r : ℕ) → has senders r ≡ (has possible r && not (of_naming r)))
    → ((r : ℕ) → of_naming r ≡ of_clauses r) → (r : ℕ) → has senders r ≡ (has possible r && not (of_clauses r))
named possible senders of_naming of_clauses are same r = are r ∙ ap (λ b. has possible r && not b) (same r)

pub returns-then-is_empty-clause-permitted : goal.returns-then-is_empty-clause-permitted
returns-then-is_empty-clause-permitted c is clauses naming =
    permitted_to_all c.args.asked.now c.args.place c.args.view.now clauses _ c.unpermitted-senders.result c.requires.asking c.requires.possible
    (λ r there. has_here c.args.view.now.registrations c.from.result r _ (subst (λ g. has_at c.args.view.now.registrations g r ≡ true) (sym c.from.ensures) there))
    (named _ _ _ _ c.unpermitted-senders.ensures (λ r. sym (naming c.args.place (not (r == 0))))) (c.is_empty.ensures.empty c.if-is_empty.true)

pub returns-clause-permitted : goal.returns-clause-permitted
returns-clause-permitted c is clauses naming =
    permitted_at c.args.asked.now c.args.place c.args.view.now clauses _ c.unpermitted-senders.result c.none-tally.result c.add_senders.new.tally c.requires.asking c.requires.possible
    (λ r there. has_here c.args.view.now.registrations c.from.result r _ (subst (λ g. has_at c.args.view.now.registrations g r ≡ true) (sym c.from.ensures) there))
    (named _ _ _ _ c.unpermitted-senders.ensures (λ r. sym (naming c.args.place (not (r == 0))))) c.none-tally.ensures (grown c)
    (λ x. ap (λ (o : Option Possibilities). option_map_or (λ p. has_wide p.reservations x) o false) c.way.ensures ∙ c.is_empty-2.ensures.empty is x)

pub returns-clause-refused : goal.returns-clause-refused
returns-clause-refused c some clauses naming =
    let one = c.is_empty-2.ensures.filled some in
    refused_at c.args.asked.now c.args.place c.args.view.now clauses _ c.unpermitted-senders.result c.none-tally.result c.add_senders.new.tally c.requires.asking c.requires.possible
    (λ r there. has_here c.args.view.now.registrations c.from.result r _ (subst (λ g. has_at c.args.view.now.registrations g r ≡ true) (sym c.from.ensures) there))
    (named _ _ _ _ c.unpermitted-senders.ensures (λ r. sym (naming c.args.place (not (r == 0))))) c.none-tally.ensures (grown c)
    one.0 (ap (λ (o : Option Possibilities). option_map_or (λ p. has_wide p.reservations one.0) o false) c.way.ensures ∙ one.1)
