use Rattle.pr_unit.proofs.Common.{◌≡◌, ℕ, Bool, true, false, List, sym, ap, ◌∙◌, subst, Codes, Reply, Request, UnitState, IsWellFormed, after_report, power_on, table_pairs, unit_of}
use Rattle.std.specs.FinSet as set
use Rattle.pr_registry.specs.Registrations.{State}
use Rattle.pr_unit.specs.EarlyReports.{IsFollowedEarly}
use Rattle.pr_unit.specs.Steps.{ReportsEarly}
use Rattle.pr_unit.specs.SharedPaths.{IsFollowedShared}
use Rattle.pr_unit.proofs.lemmas.Steps.EarlySteps.{followed_early_shared, not_followed_early_shared}
use Rattle.pr_unit.proofs.lemmas.Steps.WellFormedSteps.{well_formed-reported}
use Rattle.pr_unit.proofs.shared_paths.follow_early_shared.Goals as goal

-- an equal table, from which the power on is taken
module _ (registry : State) (table copy way : List Codes) (h : ℕ) (same : table_pairs copy ≡ table_pairs table) (taken : table_pairs way ≡ set.remove (table_pairs copy) (h, power_on)) where
  abbrev u : UnitState
  u = unit_of registry table

  is_way : unit_of registry way ≡ after_report u h power_on
  is_way = λ i. record { registry = registry; pending = (taken ∙ ap (λ p. set.remove p (h, power_on)) same) i }

  formed_way : IsWellFormed u → IsWellFormed (unit_of registry way)
  formed_way formed = subst IsWellFormed (sym is_way) (well_formed-reported u h power_on formed)

  follows : (q : Request) (r : Reply) (b : Bool) (v : UnitState) → b ≡ true → IsFollowedEarly (unit_of registry way) h q r b v → IsFollowedShared (λ x y. ReportsEarly x h q r y) u h b v
  follows q r true v so step = followed_early_shared u h q r v (subst (λ x. IsFollowedEarly x h q r true v) is_way step)
  follows q r false v so step = let bad : false ≡ true = so in cc

  stays : (q : Request) (r : Reply) (b : Bool) (v : UnitState) → b ≡ false → IsFollowedEarly (unit_of registry way) h q r b v → IsFollowedShared (λ x y. ReportsEarly x h q r y) u h b u
  stays q r false v so step = not_followed_early_shared u h q r v (subst (λ x. IsFollowedEarly x h q r false v) is_way step)
  stays q r true v so step = let bad : true ≡ false = so in cc

pub follow_early-follows-requires-clause-well_formed : goal.follow_early-follows-requires-clause-well_formed
follow_early-follows-requires-clause-well_formed c =
    formed_way c.args.registry.now c.args.pendings.now c.table_of-way.result c.remove.new.pendings c.args.host c.table_of-way.ensures.value c.remove.ensures c.requires.well_formed

pub returns-then-follows : goal.returns-then-follows
returns-then-follows c =
    follows c.args.registry.now c.args.pendings.now c.table_of-way.result c.remove.new.pendings c.args.host c.table_of-way.ensures.value c.remove.ensures c.args.request c.args.reply.now c.follow_early-follows.result
    (unit_of c.args.registry.now c.follow_early-follows.new.pendings) c.if-follows.true c.follow_early-follows.ensures

pub returns-else-follows : goal.returns-else-follows
returns-else-follows c =
    stays c.args.registry.now c.args.pendings.now c.table_of-way.result c.remove.new.pendings c.args.host c.table_of-way.ensures.value c.remove.ensures c.args.request c.args.reply.now c.follow_early-follows.result
    (unit_of c.args.registry.now c.follow_early-follows.new.pendings) c.if-follows.false c.follow_early-follows.ensures
