-- How commands that read and write blocks end.
use Rattle.pr_regions.proofs.Common.{◌≡◌, ℕ, Bool, true, false, not, List, if◌then◌else◌, Some, None, Option, sym, refl, ap, ◌∙◌, Command, Kind, Sense, no_change, State, is_registered, kind_of, Held, illegal, UnitState, Scope, number_of, HasNumber, Meets, HasRoom, Purpose, Standing, Transition, Conflict, Fault, Good, Does, AlwaysEnds, never, is_unregistered, holds, tells_nobody}
use Rattle.pr_unit.specs.declared.demand.Demand.TheVariants.{Read, Write}
use Rattle.std.proofs.Math.Bool.{not-not}
use Rattle.pr_cdb.specs.declared.command.Kind.TheVariants.{WriteExclusive, ExclusiveAccess, ExclusiveAccessRegistrantsOnly, ExclusiveAccessAllRegistrants}
use Rattle.pr_cdb.specs.declared.codes.TheConstants.{LOGICAL_BLOCK_ADDRESS_OUT_OF_RANGE}
use Rattle.pr_registry.specs.Registrations.{is_holder}
use Rattle.pr_unit.specs.Conduct.{access_conflicts, is_denied, read_access, write_access}
use Rattle.pr_regions.specs.inside.Parts.{keeps_from_reading, keeps_from_writing, is_kept_from}
use Rattle.pr_regions.proofs.lemmas.Purposes.Conduct.{conflicts_for, fault_for, after_for, change_for}
use Rattle.pr_regions.proofs.lemmas.Parts.Endings.{registered_or_not, is_holder-standing, conflict_ends, fault_ends, same_ends}

-- the sender has no key
abbrev IsOut : State → ℕ → Standing → Type 0
IsOut u h standing = not (is_registered u h) ≡ is_unregistered standing

shut_out-reading : (u : State) (h : ℕ) (standing : Standing) (v : Held) (t : Kind) → is_holder u h ≡ holds v h standing → IsOut u h standing
    → is_denied u h (read_access t) ≡ keeps_from_reading t v h standing
shut_out-reading u h standing v ExclusiveAccess holder out = ap not holder
shut_out-reading u h standing v ExclusiveAccessRegistrantsOnly holder out = out
shut_out-reading u h standing v ExclusiveAccessAllRegistrants holder out = out
shut_out-reading u h standing v _ holder out = refl

shut_out-writing : (u : State) (h : ℕ) (standing : Standing) (v : Held) (t : Kind) → is_holder u h ≡ holds v h standing → IsOut u h standing
    → is_denied u h (write_access t) ≡ keeps_from_writing t v h standing
shut_out-writing u h standing v WriteExclusive holder out = ap not holder
shut_out-writing u h standing v ExclusiveAccess holder out = ap not holder
shut_out-writing u h standing v _ holder out = out

out : (s : Scope) (p : Purpose) (held : Option Held) (sender : ℕ) (standing : Standing) (u : UnitState) (c : Command) → Meets s p held sender standing u c → IsOut u.registry sender standing
out s p held sender standing u c m = ap not (registered_or_not s p held sender standing u c m) ∙ not-not (is_unregistered standing)

-- the table of reads, for what is known
pub reads_conflict : (s : Scope) (p : Purpose) (held : Option Held) (sender : ℕ) (standing : Standing) (u : UnitState) (c : Command) → Meets s p held sender standing u c
    → access_conflicts u.registry sender u.registry.held read_access ≡ is_kept_from keeps_from_reading held sender standing
reads_conflict s p held sender standing u c m = ap (λ v. access_conflicts u.registry sender v read_access) m.held ∙ at held refl
  where
    at : (v : Option Held) → held ≡ v → access_conflicts u.registry sender v read_access ≡ is_kept_from keeps_from_reading v sender standing
    at None is = refl
    at (Some v) is = shut_out-reading u.registry sender standing v (kind_of v) (is_holder-standing s p held v sender standing u c m is) (out s p held sender standing u c m)

pub writes_conflict : (s : Scope) (p : Purpose) (held : Option Held) (sender : ℕ) (standing : Standing) (u : UnitState) (c : Command) → Meets s p held sender standing u c
    → access_conflicts u.registry sender u.registry.held write_access ≡ is_kept_from keeps_from_writing held sender standing
writes_conflict s p held sender standing u c m = ap (λ v. access_conflicts u.registry sender v write_access) m.held ∙ at held refl
  where
    at : (v : Option Held) → held ≡ v → access_conflicts u.registry sender v write_access ≡ is_kept_from keeps_from_writing v sender standing
    at None is = refl
    at (Some v) is = shut_out-writing u.registry sender standing v (kind_of v) (is_holder-standing s p held v sender standing u c m is) (out s p held sender standing u c m)

-- ---- how they end

-- The purpose conflicts where the sender is kept from it, and else is at fault unless the blocks are in range. It changes nothing.
pub record IsMove (p : Purpose) (kept in_range : Bool) (held : Option Held) (sender : ℕ) (standing : Standing) : Type 0 where
  numbered : HasNumber p
  conflicts : (s : Scope) (u : UnitState) (c : Command) → Meets s p held sender standing u c → conflicts_for s.keys u.registry sender p ≡ kept
  faults : (keys : List ℕ) (u : State) → fault_for keys u sender p ≡ (if in_range then None else Some (illegal LOGICAL_BLOCK_ADDRESS_OUT_OF_RANGE 0))
  stays : (keys : List ℕ) (u : State) → after_for keys u sender p ≡ u
  tells : (keys : List ℕ) (u : State) → change_for keys u sender p ≡ no_change

pub is_read : (kept in_range : Bool) (held : Option Held) (sender : ℕ) (standing : Standing) → kept ≡ is_kept_from keeps_from_reading held sender standing
    → IsMove (Read in_range) kept in_range held sender standing
is_read kept in_range held sender standing is =
    record { numbered = tt; conflicts = λ s u c m. reads_conflict s (Read in_range) held sender standing u c m ∙ sym is; faults = λ keys u. refl; stays = λ keys u. refl; tells = λ keys u. refl }

pub is_write : (kept in_range : Bool) (held : Option Held) (sender : ℕ) (standing : Standing) → kept ≡ is_kept_from keeps_from_writing held sender standing
    → IsMove (Write in_range) kept in_range held sender standing
is_write kept in_range held sender standing is =
    record { numbered = tt; conflicts = λ s u c m. writes_conflict s (Write in_range) held sender standing u c m ∙ sym is; faults = λ keys u. refl; stays = λ keys u. refl; tells = λ keys u. refl }

module _ (hosts : ℕ) (p : Purpose) (kept in_range : Bool) (held : Option Held) (sender : ℕ) (standing : Standing) (is : IsMove p kept in_range held sender standing) where
  abbrev faulty : Bool → Option Sense
  faulty b = if b then None else Some (illegal LOGICAL_BLOCK_ADDRESS_OUT_OF_RANGE 0)

  pub move_conflicts : kept ≡ true → AlwaysEnds hosts p held sender standing Conflict
  move_conflicts kept_out = record { ends = λ s u c alike m. conflict_ends s p held sender standing u c is.numbered m (is.conflicts s u c m ∙ kept_out); fits = tt }

  pub move_fails : kept ≡ false → in_range ≡ false → AlwaysEnds hosts p held sender standing (Fault (illegal LOGICAL_BLOCK_ADDRESS_OUT_OF_RANGE 0))
  move_fails free beyond = record {
    ends = λ s u c alike m. fault_ends s p held sender standing u c (illegal LOGICAL_BLOCK_ADDRESS_OUT_OF_RANGE 0) is.numbered m (is.conflicts s u c m ∙ free) (is.faults s.keys u.registry ∙ ap faulty beyond);
    fits = tt;
  }

  pub move_goes : (change : Transition) → kept ≡ false → in_range ≡ true → Does change None never (number_of hosts held) tells_nobody → HasRoom hosts (Good change)
      → AlwaysEnds hosts p held sender standing (Good change)
  move_goes change free within does room = record {
    ends = λ s u c alike m.
        same_ends s p held sender standing u c hosts change is.numbered m alike (is.conflicts s u c m ∙ free) (is.faults s.keys u.registry ∙ ap faulty within) (is.stays s.keys u.registry) (is.tells s.keys u.registry) does;
    fits = room;
  }
