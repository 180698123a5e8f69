-- How states of the unit are told apart.
use Rattle.std.specs.Prelude.{refl}
use Rattle.std.specs.FinSet as set
use Rattle.std.specs.Coded.{Coded, code_by, coded×, coded_ℕ}
use Rattle.pr_registry.specs.Registrations.{State}
use Rattle.pr_unit.specs.Attentions.{Pairs}
use Rattle.pr_unit.specs.UnitStates.{UnitState}

abbrev pub unit_code : Coded State → Coded UnitState
unit_code registry =
    code_by (State × Pairs) (coded× registry (set.code (coded× coded_ℕ coded_ℕ))) (λ u. (u.registry, u.pending)) (λ t. record { registry = t.0; pending = t.1 }) (λ _. refl)
