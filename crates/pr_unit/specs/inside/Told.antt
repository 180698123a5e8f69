-- Whom a change tells, and what is pending for one host.
use Rattle.std.specs.Prelude.{◌≡◌, ℕ, ◌<◌, ◌≤◌, true, false}
use Rattle.std.specs.FinSet as set
use Rattle.pr_registry.specs.declared.change.Change.{Change}
use Rattle.pr_registry.specs.Hosts.{Hosts}
use Rattle.pr_unit.specs.Attentions.{Pairs}

-- each member is below n
abbrev pub AreBelow : ℕ → Hosts → Type 0
AreBelow n hosts = (q : ℕ) → set.contains hosts q ≡ true → q < n

-- only hosts below n are told
pub record TellsBelow (n : ℕ) (c : Change) : Type 0 where
  pub told_03 : AreBelow n c.told_03
  pub told_04 : AreBelow n c.told_04
  pub told_05 : AreBelow n c.told_05

-- of what is pending for the host, this code is the lowest
pub record IsLowestOf (pending : Pairs) (h code : ℕ) : Type 0 where
  pub there : set.contains pending (h, code) ≡ true
  pub least : (other : ℕ) → set.contains pending (h, other) ≡ true → code ≤ other

-- nothing is pending for the host
abbrev pub HasNone : Pairs → ℕ → Type 0
HasNone pending h = (code : ℕ) → set.contains pending (h, code) ≡ false
