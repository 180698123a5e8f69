use Rattle.pr_domain.proofs.Common.{Any, sym, ap, ◌∙◌, view_in, key_at, purpose_of, is_not_admitted, HasBoth, HasOneOf, IsReadAt}
use Rattle.pr_domain.proofs.lemmas.Tallies.DataArms.{right_readings, readings_cover, arm_taken}
use Rattle.pr_domain.proofs.lemmas.Tallies.Growth.{grows_as}
use Rattle.pr_domain.proofs.lemmas.Tallies.ShownStates.{this_alone}
use Rattle.pr_domain.proofs.tallying.add_alike.Goals as goal

pub returns-then-is_not_admitted : goal.returns-then-is_not_admitted
returns-then-is_not_admitted c s owners = c.add_refused.ensures s c.args.asked.now.command c.args.asked.now.tests.now (record {
  own = owners.own;
  is = owners.is;
  uniform = c.requires.alike.uniform;
  refused = λ r among. ap (λ k. is_not_admitted (key_at k r) c.args.asked.now.command) owners.same_keys ∙ c.requires.alike.refused r among ∙ ap (λ k. is_not_admitted k c.args.asked.now.command) (sym c.key_at.ensures) ∙ sym c.is_not_admitted.ensures
      ∙ c.if-is_not_admitted.true;
})

pub returns-then-is_reading : goal.returns-then-is_reading
returns-then-is_reading c s owners =
    let asked = c.args.asked.now in
    let readings = c.readings-readings.result.items in
    let are = c.readings-readings.ensures.right in
    let reads = sym c.is_reading.ensures ∙ c.if-is_reading.true in
    grows_as (view_in s c.args.view.now) asked.command asked.tests.now c.args.tally.now c.add_readings.new.tally (HasBoth s c.args.place c.args.registration) (HasOneOf s c.args.place c.args.alike)
    (λ u shown both. (c.args.registration, c.requires.alike.itself, both))
    (λ u shown one. this_alone s c.args.place c.args.registration c.args.alike (c.requires.alike.read reads) u one)
    (grows_as (view_in s c.args.view.now) asked.command asked.tests.now c.args.tally.now c.add_readings.new.tally
    (λ u. Any (λ b. IsReadAt s c.args.view.now c.args.place c.args.registration b u) readings) (HasBoth s c.args.place c.args.registration)
    (λ u shown any. any.4.0)
    (λ u shown both. readings_cover s asked.keys.now asked.command asked.tests.now c.args.view.now c.args.place c.args.registration readings owners are u shown both)
    ((rw c.deref.ensures.0 at c.add_readings.ensures) s asked.command asked.tests.now
    (right_readings s asked.keys.now asked.command asked.tests.now c.args.view.now c.args.place c.args.registration readings owners reads asked.few are c.readings-readings.ensures.proper)))

pub returns-else-is_reading : goal.returns-else-is_reading
returns-else-is_reading c s owners = c.add_accepted.ensures s c.args.asked.now.command c.args.asked.now.tests.now (record {
  own = owners.own;
  is = owners.is;
  uniform = c.requires.alike.uniform;
  asks = ap (λ k. purpose_of k c.args.asked.now.command) owners.same_keys ∙ sym c.purpose_of-purpose.ensures.purpose;
  stands = λ r among. c.requires.alike.stands c.purpose_of-purpose.result (sym c.purpose_of-purpose.ensures.purpose) r among ∙ sym c.standing_of-standing.ensures;
  accepted = λ r among. ap (λ k. is_not_admitted (key_at k r) c.args.asked.now.command) owners.same_keys ∙ c.requires.alike.refused r among ∙ ap (λ k. is_not_admitted k c.args.asked.now.command) (sym c.key_at.ensures) ∙ sym c.is_not_admitted.ensures
      ∙ c.if-is_not_admitted.false;
  taken = λ u. arm_taken c.args.asked.now.keys.now c.args.asked.now.command c.args.asked.now.tests.now c.first_arm.result c.way_of-arm.result.number u (sym c.is_reading.ensures ∙ c.if-is_reading.false) c.args.asked.now.fit c.args.asked.now.few
      c.first_arm.ensures c.way_of-arm.ensures.way c.way_of-arm.ensures.none;
})
