use Rattle.std.proofs.Common.{◌≡◌, length, refl, sym, ◌∙◌, arith}
use Rattle.std.proofs.lemmas.List.FromFn.{map-range_with_len_more}
use Rattle.pr_roles.specs.Scenarios.{scenario_of}
use Rattle.pr_shared.proofs.lemmas.Outcomes.Comparisons.{all_ends}
use Rattle.pr_shared.proofs.lemmas.Histories.Seats.{both_more}
use Rattle.pr_shared.proofs.lemmas.Guests.Nexuses.{few_nexuses, number_of_nexuses}
use Rattle.pr_shared.proofs.closing.ends_of.Goals as goal

pub overflow_cast-host : goal.overflow_cast-host
overflow_cast-host c =
    let few = few_nexuses _ _ c.parts.result.now.nexuses.items c.parts.ensures.fits c.parts.ensures.value refl in
    record { fits = omega (arith, few, c.len-nexuses.ensures, c.parts.result.now.nexuses.ok.0, c.loop-host-test.true) }

pub end-requires : goal.end-requires
end-requires c =
    let all = number_of_nexuses c.args.world.now.scenario _ _ _ refl (c.parts.ensures.value ∙ c.scenario.ensures.value) c.len-nexuses.ensures in
    omega (arith, all, c.loop-host-test.true)

pub push_reserved-requires : goal.push_reserved-requires
push_reserved-requires c =
    let all = number_of_nexuses c.args.world.now.scenario _ _ _ refl (c.parts.ensures.value ∙ c.scenario.ensures.value) c.len-nexuses.ensures in
    omega (arith, all, c.loop-host-test.true, c.requires.1, c.loop-host.invariant.len, c.loop-host.invariant.room)

pub loop-host-preserved : goal.loop-host-preserved
loop-host-preserved c = record {
  len = omega (arith, c.push_reserved.ensures.len, c.loop-host.invariant.len);
  room = c.push_reserved.ensures.capacity ∙ c.loop-host.invariant.room;
  ends = both_more _ _ _ _ _ _ _ c.push_reserved.ensures.items (sym c.end.ensures) (map-range_with_len_more _ 0 c.loop-host.host c.loop-host.host (omega arith)) c.loop-host.invariant.ends;
}

pub returns : goal.returns
returns c =
    let number = number_of_nexuses c.args.world.now.scenario _ _ _ refl (c.parts.ensures.value ∙ c.scenario.ensures.value) c.len-nexuses.ensures in
    let all : c.loop-host.host ≡ length (scenario_of c.args.world.now.scenario).nexuses = omega (arith, number, c.loop-host-test.false, c.loop-host.auto.host-end) in
    all_ends (scenario_of c.args.world.now.scenario) c.args.world.now.schedule _ _ all c.loop-host.invariant.ends
