-- What a breach says of its scenario.
use Rattle.pr_witness.proofs.Common.{List, sym, ap, ◌∙◌, UnitState, Scenario, IsAllowedStart, World}
use Rattle.std.proofs.lemmas.Bool.{false≢true}
use Rattle.pr_roles.specs.Breaches.{Broken, meets_no_arm, leaves_role, exceeds_budget, Breaks}
use Rattle.pr_roles.specs.Safety.{IsSafe}
use Rattle.pr_roles.specs.Worlds.{Event, Run, is_trapped, world_from}
use Rattle.pr_witness.specs.Breaches.{BreachesAreLegal, BreachesRefuteSafety}

-- no run of a safe scenario has broken anything
nothing_broken : (s : Scenario) (u : UnitState) (w : World) (es : List Event) (broken : Broken) → IsSafe s → IsAllowedStart s u → Run s (world_from s u) es w → Breaks s u w broken → ⊥
unfolding IsSafe
nothing_broken s u w es (meets_no_arm h line) safe allowed run breaks =
    false≢true (sym (safe u allowed es w run h).0 ∙ ap is_trapped breaks)
nothing_broken s u w es (leaves_role h line) safe allowed run breaks =
    false≢true (sym breaks.forbidden ∙ (safe u allowed breaks.events breaks.before breaks.run h).2 breaks.how w breaks.sends breaks.good)
nothing_broken s u w es (exceeds_budget h) safe allowed run breaks = breaks (safe u allowed es w run h).1

pub breaches_refute_safety : BreachesRefuteSafety
breaches_refute_safety s u history broken breach safe =
    nothing_broken s u breach.world breach.events broken safe breach.allowed breach.run breach.breaks

pub breaches_are_legal : BreachesAreLegal
breaches_are_legal s u history broken breach = (breach.events, breach.world, breach.run, breach.whole)
