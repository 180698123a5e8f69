-- Agrees with SPC-4, 'Registering', 'Preempting'; docs/MODEL.md, 'RESERVE'.
-- The keys that a command names: one that it asks for, and one that has to be its sender's.
use Rattle.std.specs.Prelude.{ℕ, Option, Some, None}
use Rattle.pr_unit.specs.declared.demand.Demand.{Demand}
use Rattle.pr_unit.specs.declared.demand.Demand.TheVariants.{Look, Read, Write, Register, Unregister, Reserve, Release, Clear, PreemptAll, Preempt}
use Rattle.pr_unit.specs.declared.demand.Admission.{Admission}
use Rattle.pr_unit.specs.declared.demand.Admission.TheVariants.{Open, OwnOrNone, Own}

-- the key that it names, if it names one
abbrev pub named : {K T : Type 0} → Demand K T → Option K
named Look = None
named (Read in_range) = None
named (Write in_range) = None
named (Register key) = Some key
named Unregister = None
named (Reserve kind) = None
named (Release kind) = None
named Clear = None
named (PreemptAll kind) = None
named (Preempt key kind) = Some key

-- the key that is named, if one has to be
abbrev pub key_of_admission : Admission → Option ℕ
key_of_admission Open = None
key_of_admission (OwnOrNone rk) = Some rk
key_of_admission (Own rk) = Some rk
