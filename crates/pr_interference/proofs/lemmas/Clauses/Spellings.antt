-- A command of each clause, with the sender's own key; and which commands are refused for their key.
use Rattle.pr_interference.proofs.Common.{◌≡◌, ℕ, ◌<◌, Bool, true, false, not, ◌&&◌, ◌||◌, List, if◌then◌else◌, ◌==◌, Some, None, Option, sym, refl, ap, ◌∙◌, subst, false≢true, and_from, Command, Kind, Plain, is_kind, State, key_of, kind_of, IsKey, Held, request_looks, is_declared, is_action, AreDeclared, names, Action, number_in, purpose_of_preempt, purpose_of, Purpose, purpose_for, eq-eqb, eqb-true}
use Rattle.std.proofs.Common.{◌^◌, lit<}
use Rattle.pr_cdb.specs.declared.command.Command.TheVariants as command
use Rattle.pr_cdb.specs.Kinds.{type_code}
use Rattle.pr_cdb.specs.Ranges.{Fits}
use Rattle.pr_unit.specs.Conduct.{command_conflicts}
use Rattle.pr_unit.specs.Demands.{is_not_admitted, is_in_range, registering}
use Rattle.pr_roles.specs.declared.role.Action.TheVariants as action
use Rattle.pr_script.specs.Grammar.{is_written_key}
use Rattle.pr_unit.specs.declared.demand.Demand.TheVariants as purpose
use Rattle.pr_unit.specs.declared.demand.Demand.TheVariants.{Look, Register, Unregister, Reserve, Release, Clear, PreemptAll, Preempt}
use Rattle.pr_interference.specs.inside.Clauses.{refuses_strangers}
use Rattle.pr_interference.proofs.lemmas.Clauses.Commands.{declared_key, registers_key, preempts_as}
use Rattle.pr_unit.proofs.lemmas.Demands.{free_parts}
use Rattle.pr_regions.specs.Purposes.{numbered}

-- ---- refused commands

-- what does not conflict is not refused
pub not_refused : (u : State) (h : ℕ) (c : Command) → command_conflicts u h c ≡ false → is_not_admitted (key_of u h) c ≡ false
not_refused u h c free = (free_parts u h c free).0

-- a purpose that admits strangers
admits : (p q : Purpose) → Some q ≡ Some p → refuses_strangers q ≡ false → refuses_strangers p ≡ true → false ≡ true
admits p q same is refuses = let e : q ≡ p = cc in sym is ∙ ap refuses_strangers e ∙ refuses

registering_admits : (keys : List ℕ) (sark : ℕ) (p : Purpose) → numbered keys (registering sark) ≡ Some p → refuses_strangers p ≡ true → false ≡ true
registering_admits keys sark p = at (sark == 0)
  where
    at : (b : Bool) → numbered keys (if b then Unregister else Register sark) ≡ Some p → refuses_strangers p ≡ true → false ≡ true
    at true is refuses = admits p Unregister is refl refuses
    at false is refuses = admits p (Register (number_in keys sark)) is refl refuses

pub strangers_refused : (keys : List ℕ) (c : Command) (p : Purpose) → purpose_of keys c ≡ Some p → refuses_strangers p ≡ true → is_not_admitted None c ≡ true
strangers_refused keys (command.Read lba blocks) p is refuses = admits p (purpose.Read (is_in_range lba blocks)) is refl refuses
strangers_refused keys (command.Write lba blocks) p is refuses = admits p (purpose.Write (is_in_range lba blocks)) is refl refuses
strangers_refused keys (command.Register rk sark) p is refuses = absurd (false≢true (registering_admits keys sark p is refuses))
strangers_refused keys (command.RegisterIgnore sark) p is refuses = absurd (false≢true (registering_admits keys sark p is refuses))
strangers_refused keys (command.Reserve rk kind) p is refuses = refl
strangers_refused keys (command.Release rk kind) p is refuses = refl
strangers_refused keys (command.Clear rk) p is refuses = refl
strangers_refused keys (command.Preempt rk sark kind) p is refuses = refl
strangers_refused keys (command.PreemptAbort rk sark kind) p is refuses = refl
strangers_refused keys _ p is refuses = admits p Look is refl refuses

-- ---- a command of a clause

pub record Spells (keys : List ℕ) (a : Action) (key : Option ℕ) (p : Purpose) : Type 0 where
  pub command : Command
  pub fits : Fits command
  pub acts : request_looks (Plain command) ≡ false
  pub named : names a command ≡ true
  pub asked : purpose_of keys command ≡ Some p
  pub accepted : is_not_admitted key command ≡ false

written_few : (keys : List ℕ) (key : ℕ) → AreDeclared keys → is_written_key keys key ≡ true → key < 2 ^ 64
written_few keys key declared is = at (key == 0) refl is
  where
    at : (b : Bool) → (key == 0) ≡ b → (b || is_declared keys key) ≡ true → key < 2 ^ 64
    at true zero any = subst (λ n. n < 2 ^ 64) (sym (eqb-true key 0 zero)) (lit< tt)
    at false other any = (declared_key keys key declared any).1

spells_register : (keys : List ℕ) (key : ℕ) (own : Option ℕ) (p : Purpose) → AreDeclared keys → is_declared keys key ≡ true → Some (Register (number_in keys key)) ≡ Some p
    → Spells keys (action.Register key) own p
spells_register keys key own p declared fits meant = record {
  command = command.RegisterIgnore key;
  fits = (declared_key keys key declared fits).1;
  acts = refl;
  named = and_from (key == key) true (eq-eqb key key refl) refl;
  asked = registers_key keys key key declared fits (eq-eqb key key refl) ∙ meant;
  accepted = refl;
}

spells_unregister : (keys : List ℕ) (own : Option ℕ) (p : Purpose) → Some Unregister ≡ Some p → Spells keys action.Unregister own p
spells_unregister keys own p meant = record {
  command = command.RegisterIgnore 0;
  fits = lit< tt;
  acts = refl;
  named = refl;
  asked = meant;
  accepted = refl;
}

-- by a sender that is registered
pub spells : (keys : List ℕ) (a : Action) (held : Option Held) (rk : ℕ) (p : Purpose) → AreDeclared keys → is_action keys a ≡ true → IsKey rk → purpose_for keys a held ≡ Some p → Spells keys a (Some rk) p
spells keys (action.Register key) held rk p declared fits own meant = spells_register keys key (Some rk) p declared fits meant
spells keys action.Unregister held rk p declared fits own meant = spells_unregister keys (Some rk) p meant
spells keys (action.Reserve kind) held rk p declared fits own meant =
    record { command = command.Reserve rk kind; fits = own.1; acts = refl; named = and_from (is_kind kind kind) true (eq-eqb (type_code kind) (type_code kind) refl) refl; asked = meant; accepted = ap not (eq-eqb rk rk refl) }
spells keys action.Release None rk p declared fits own meant = let bad : None ≡ Some p = meant in cc
spells keys action.Release (Some v) rk p declared fits own meant =
    record { command = command.Release rk (kind_of v); fits = own.1; acts = refl; named = refl; asked = meant; accepted = ap not (eq-eqb rk rk refl) }
spells keys action.Clear held rk p declared fits own meant =
    record { command = command.Clear rk; fits = own.1; acts = refl; named = refl; asked = meant; accepted = ap not (eq-eqb rk rk refl) }
spells keys (action.Preempt key kind) held rk p declared fits own meant = record {
  command = command.Preempt rk key (Some kind);
  fits = (own.1, written_few keys key declared fits);
  acts = refl;
  named = and_from (key == key) (is_kind kind kind && true) (eq-eqb key key refl) (and_from (is_kind kind kind) true (eq-eqb (type_code kind) (type_code kind) refl) refl);
  asked = preempts_as keys key kind ∙ meant;
  accepted = ap not (eq-eqb rk rk refl);
}
spells keys action.Read held rk p declared fits own meant = let bad : None ≡ Some p = meant in cc
spells keys action.Write held rk p declared fits own meant = let bad : None ≡ Some p = meant in cc

refused : (p q : Purpose) → Some q ≡ Some p → refuses_strangers q ≡ true → refuses_strangers p ≡ false → false ≡ true
refused p q same is admits = let e : q ≡ p = cc in sym admits ∙ sym (ap refuses_strangers e) ∙ is

preempting_refuses : (keys : List ℕ) (key : ℕ) (kind : Kind) → refuses_strangers (purpose_of_preempt keys key kind) ≡ true
preempting_refuses keys key kind = at (key == 0)
  where
    at : (b : Bool) → refuses_strangers (if b then PreemptAll kind else Preempt (number_in keys key) kind) ≡ true
    at true = refl
    at false = refl

-- by a stranger
pub spells_stranger : (keys : List ℕ) (a : Action) (held : Option Held) (p : Purpose) → AreDeclared keys → is_action keys a ≡ true → refuses_strangers p ≡ false → purpose_for keys a held ≡ Some p → Spells keys a None p
spells_stranger keys (action.Register key) held p declared fits admits meant = spells_register keys key None p declared fits meant
spells_stranger keys action.Unregister held p declared fits admits meant = spells_unregister keys None p meant
spells_stranger keys (action.Reserve kind) held p declared fits admits meant = absurd (false≢true (refused p (Reserve kind) meant refl admits))
spells_stranger keys action.Release (Some v) p declared fits admits meant = absurd (false≢true (refused p (Release (kind_of v)) meant refl admits))
spells_stranger keys action.Clear held p declared fits admits meant = absurd (false≢true (refused p Clear meant refl admits))
spells_stranger keys (action.Preempt key kind) held p declared fits admits meant =
    absurd (false≢true (refused p (purpose_of_preempt keys key kind) meant (preempting_refuses keys key kind) admits))
spells_stranger keys _ _ p declared fits admits meant = let bad : None ≡ Some p = meant in cc
