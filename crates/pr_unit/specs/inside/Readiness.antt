-- What an admitted demand brings with it.
use Rattle.std.specs.Prelude.{◌≡◌, ℕ, ◌≤◌, true}
use Rattle.pr_registry.specs.Registrations.{State, is_registered}
use Rattle.pr_unit.specs.declared.demand.Demand.TheVariants.{Look, Read, Write, Register, Unregister, Reserve, Release, Clear, PreemptAll, Preempt}
use Rattle.pr_unit.specs.Demands.{Asked}

-- a key that it names is not zero, and its sender is registered where it needs the key of one that is
abbrev pub IsReady : State → ℕ → Asked → Type 0
IsReady u h Look = Unit {0}
IsReady u h (Read in_range) = Unit {0}
IsReady u h (Write in_range) = Unit {0}
IsReady u h (Register key) = 1 ≤ key
IsReady u h Unregister = Unit {0}
IsReady u h (Reserve kind) = is_registered u h ≡ true
IsReady u h (Release kind) = is_registered u h ≡ true
IsReady u h Clear = is_registered u h ≡ true
IsReady u h (PreemptAll kind) = is_registered u h ≡ true
IsReady u h (Preempt key kind) = (is_registered u h ≡ true) × (1 ≤ key)
