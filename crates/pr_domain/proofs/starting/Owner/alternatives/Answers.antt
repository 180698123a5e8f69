use Rattle.pr_domain.proofs.Common.{◌≡◌, ◌<◌, ◌≤◌, true, length, get_or, Some, sym, ap, ◌∙◌, subst, arith, list_all, slice_get-get_or, MOST_NEXUSES, is_reservation, Possibilities, may_have, has_reservation}
use Rattle.pr_roles.proofs.lemmas.Scenarios.Parts.{keys_of_parts}
use Rattle.pr_views.proofs.lemmas.Views.Values.{words_fit}
use Rattle.pr_domain.proofs.lemmas.Starting.WrittenNumbers.{AreWritten, few_nexuses, reservations_at, are_alternatives, written_in_range, written_past}
use Rattle.pr_domain.proofs.starting.Owner.alternatives.Goals as goal

pub registrations-requires : goal.registrations-requires
registrations-requires c = subst (λ nexuses. length nexuses ≤ MOST_NEXUSES) (sym c.deref.ensures.value) (few_nexuses c.args.self.now.parts.now c.args.self.now.fits).1

pub reservations-requires-clause-hosts : goal.reservations-requires-clause-hosts
reservations-requires-clause-hosts c = let few = (few_nexuses c.args.self.now.parts.now c.args.self.now.fits).1 in let counted = c.args.self.now.counted in omega arith

pub reservations-requires-clause-fit : goal.reservations-requires-clause-fit
reservations-requires-clause-fit c =
    let fit = reservations_at c.args.self.now.parts.now c.args.self.now.fits in
    let counted = subst (λ n. list_all (is_reservation n) c.args.self.now.parts.now.reservations.items ≡ true) c.args.self.now.counted fit in
    subst (λ reservations. list_all (is_reservation c.args.self.now.hosts) reservations ≡ true) (sym c.deref-2.ensures.value) counted

all : goal.After-sets_within → Possibilities
all c = record { registrations = c.registrations.result; reservations = c.reservations.result; pending = c.sets_within.result }

written : (c : goal.After-sets_within) → AreWritten c.args.self.now.hosts c.args.self.now.own c.args.self.now.parts.now (all c)
unfolding all
written c = record {
  nexus = c.index.result.now;
  there =
      let counted = c.args.self.now.counted in
      let there = c.args.self.now.there in
      let small : c.args.self.now.own < length c.args.self.now.parts.now.nexuses.items = omega arith in
      let here = ap (λ i. get_or c.args.self.now.parts.now.nexuses.items i c.index.result.now) c.from.ensures in
      slice_get-get_or c.args.self.now.parts.now.nexuses.items c.args.self.now.own c.index.result.now small ∙ ap Some (sym (c.index.ensures ∙ here));
  registrations = λ g r. c.registrations.ensures g r ∙ (λ i. may_have c.args.self.now.parts.now.keys.items (c.deref.ensures.value i) g r);
  reservations = λ x. c.reservations.ensures x ∙ ap (λ reservations. has_reservation c.args.self.now.hosts reservations x) c.deref-2.ensures.value;
  few = c.sets_within.ensures.few;
  pending = c.sets_within.ensures.within;
}

pub returns-clause-alternatives : goal.returns-clause-alternatives
unfolding all
returns-clause-alternatives c = are_alternatives c.args.self.now.hosts c.args.self.now.own c.args.self.now.parts.now (all c) c.args.self.now.fits c.args.self.now.counted (written c)

pub returns-clause-fits : goal.returns-clause-fits
unfolding all
returns-clause-fits c =
    let parts = c.args.self.now.parts.now in
    words_fit c.args.self.now.own c.args.self.now.hosts parts.keys.items (all c) (subst (λ n. (1 ≤ n) × (n ≤ MOST_NEXUSES)) c.args.self.now.counted (few_nexuses parts c.args.self.now.fits)) c.args.self.now.there (keys_of_parts parts c.args.self.now.fits)
    (written_in_range c.args.self.now.hosts c.args.self.now.own parts (all c) c.args.self.now.fits c.args.self.now.counted (written c))
    (written_past c.args.self.now.hosts c.args.self.now.own parts (all c) c.args.self.now.counted (written c))
