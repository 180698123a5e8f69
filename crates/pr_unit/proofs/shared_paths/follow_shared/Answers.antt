use Rattle.pr_unit.proofs.Common.{◌≡◌, ℕ, Bool, true, false, List, sym, ap, subst, Codes, Reply, Request, Pairs, UnitState, IsWellFormed, table_pairs, unit_of, Step}
use Rattle.pr_registry.specs.Registrations.{State}
use Rattle.pr_unit.specs.Follows.{IsFollowed}
use Rattle.pr_unit.specs.SharedPaths.{IsFollowedShared}
use Rattle.pr_unit.specs.inside.Ways.{IsWayFor}
use Rattle.pr_unit.proofs.lemmas.Steps.QuietSteps.{quiet_well_formed}
use Rattle.pr_unit.proofs.lemmas.Steps.SharedSteps.{way-quiet, followed_shared, not_followed_shared}
use Rattle.pr_unit.proofs.shared_paths.follow_shared.Goals as goal

-- an equal table has the same pending
module _ (registry : State) (table copy way : List Codes) (same : table_pairs copy ≡ table_pairs table) where
  abbrev u : UnitState
  u = unit_of registry table

  from_here : (h : ℕ) (q : Request) (r : Reply) → IsWayFor (unit_of registry copy) h q r (unit_of registry way) → IsWayFor u h q r (unit_of registry way)
  from_here h q r is = subst (λ (p : Pairs). IsWayFor (record { registry = registry; pending = p }) h q r (unit_of registry way)) same is

  formed_copy : IsWellFormed u → IsWellFormed (unit_of registry copy)
  formed_copy formed = subst (λ (p : Pairs). IsWellFormed (record { registry = registry; pending = p })) (sym same) formed

  formed_way : (h : ℕ) (q : Request) (r : Reply) → IsWellFormed u → IsWayFor (unit_of registry copy) h q r (unit_of registry way) → IsWellFormed (unit_of registry way)
  formed_way h q r formed is = quiet_well_formed u (unit_of registry way) h formed (way-quiet u (unit_of registry way) h q r (from_here h q r is))

  follows : (h : ℕ) (q : Request) (r : Reply) (b : Bool) (v : UnitState) → IsWellFormed u → IsWayFor (unit_of registry copy) h q r (unit_of registry way) → b ≡ true → IsFollowed (unit_of registry way) h q r b v
      → IsFollowedShared (λ x y. Step x h q r y) u h b v
  follows h q r true v formed is so step = followed_shared u (unit_of registry way) h q r v formed (from_here h q r is) step
  follows h q r false v formed is so step = let bad : false ≡ true = so in cc

  stays : (h : ℕ) (q : Request) (r : Reply) (b : Bool) (v : UnitState) → IsWellFormed u → IsWayFor (unit_of registry copy) h q r (unit_of registry way) → b ≡ false → IsFollowed (unit_of registry way) h q r b v
      → IsFollowedShared (λ x y. Step x h q r y) u h b (record { registry = v.registry; pending = table_pairs table })
  stays h q r false v formed is so step =
      let none = not_followed_shared u (unit_of registry way) h q r v formed (from_here h q r is) step in
      (ap (λ (x : UnitState). record u { registry = x.registry }) step.0, none.1)
  stays h q r true v formed is so step = let bad : true ≡ false = so in cc

pub make_way-requires-clause-well_formed : goal.make_way-requires-clause-well_formed
make_way-requires-clause-well_formed c = formed_copy c.args.registry.now c.args.pendings.now c.table_of-way.result c.table_of-way.result c.table_of-way.ensures.value c.requires.well_formed

pub follow-follows-requires-clause-well_formed : goal.follow-follows-requires-clause-well_formed
follow-follows-requires-clause-well_formed c =
    formed_way c.args.registry.now c.args.pendings.now c.table_of-way.result c.make_way.new.pendings c.table_of-way.ensures.value c.args.host c.args.request c.args.reply.now c.requires.well_formed c.make_way.ensures

pub returns-then-follows : goal.returns-then-follows
returns-then-follows c =
    follows c.args.registry.now c.args.pendings.now c.table_of-way.result c.make_way.new.pendings c.table_of-way.ensures.value c.args.host c.args.request c.args.reply.now c.follow-follows.result
    (unit_of c.follow-follows.new.registry c.follow-follows.new.pendings) c.requires.well_formed c.make_way.ensures c.if-follows.true c.follow-follows.ensures

pub returns-else-follows : goal.returns-else-follows
returns-else-follows c =
    stays c.args.registry.now c.args.pendings.now c.table_of-way.result c.make_way.new.pendings c.table_of-way.ensures.value c.args.host c.args.request c.args.reply.now c.follow-follows.result
    (unit_of c.follow-follows.new.registry c.follow-follows.new.pendings) c.requires.well_formed c.make_way.ensures c.if-follows.false c.follow-follows.ensures
