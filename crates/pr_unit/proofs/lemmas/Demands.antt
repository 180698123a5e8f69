-- What an admitted command brings with it.
use Rattle.pr_unit.proofs.Common.{◌≡◌, ℕ, ◌<◌, Bool, true, false, not, if◌then◌else◌, ◌==◌, Some, None, Option, sym, refl, arith, false≢true, nat_tests, Command, Kind, command_conflicts}
use Rattle.std.proofs.Common.{◌^◌, is_some}
use Rattle.std.proofs.lemmas.Bool.{or_parts}
use Rattle.pr_cdb.specs.declared.command.Command.TheVariants as command
use Rattle.pr_cdb.specs.Ranges.{Fits}
use Rattle.pr_registry.specs.Hosts.{is_key}
use Rattle.pr_registry.specs.Registrations.{State, key_of, is_registered}
use Rattle.pr_unit.specs.declared.demand.Demand.TheVariants.{Register, Unregister, PreemptAll, Preempt}
use Rattle.pr_unit.specs.Demands.{Asked, demand_of, is_not_admitted}
use Rattle.pr_unit.specs.Conduct.{conduct, leaves, unregistering}
use Rattle.pr_unit.specs.inside.Readiness.{IsReady}

-- what does not conflict is not refused, and nothing that stands keeps its sender from it
pub free_parts : (u : State) (h : ℕ) (c : Command) → command_conflicts u h c ≡ false → (is_not_admitted (key_of u h) c ≡ false) × ((conduct u h (demand_of c)).kept ≡ false)
free_parts u h c free = or_parts (is_not_admitted (key_of u h) c) (conduct u h (demand_of c)).kept free

-- nothing keeps anybody from unregistering
pub unregister_kept : (u : State) (h : ℕ) → (conduct u h Unregister).kept ≡ false
unregister_kept u h = at (is_registered u h)
  where
    at : (there : Bool) → (if there then unregistering u h else leaves u).kept ≡ false
    at true = refl
    at false = refl

-- and it has no fault
pub unregister_fault : (u : State) (h : ℕ) → (conduct u h Unregister).fault ≡ None
unregister_fault u h = at (is_registered u h)
  where
    at : (there : Bool) → (if there then unregistering u h else leaves u).fault ≡ None
    at true = refl
    at false = refl

-- who has the key is registered
registered_by_key : (u : State) (h rk : ℕ) → not (is_key (key_of u h) rk) ≡ false → is_registered u h ≡ true
registered_by_key u h rk has = at (key_of u h) has
  where
    at : (o : Option ℕ) → not (is_key o rk) ≡ false → is_some o ≡ true
    at None is = absurd (false≢true (sym is))
    at (Some k) is = refl

registers : (u : State) (h sark : ℕ) → IsReady u h (if sark == 0 then Unregister else Register sark)
registers u h sark = at (sark == 0) refl
  where
    at : (b : Bool) → (sark == 0) ≡ b → IsReady u h (if b then Unregister else Register sark)
    at true is = tt
    at false is = grind (arith, nat_tests)

preempts : (u : State) (h sark : ℕ) (kind : Option Kind) → is_registered u h ≡ true → IsReady u h (if sark == 0 then PreemptAll kind else Preempt sark kind)
preempts u h sark kind there = at (sark == 0) refl
  where
    at : (b : Bool) → (sark == 0) ≡ b → IsReady u h (if b then PreemptAll kind else Preempt sark kind)
    at true is = there
    at false is = (there, grind (arith, nat_tests))

pub ready : (u : State) (h : ℕ) (c : Command) → is_not_admitted (key_of u h) c ≡ false → IsReady u h (demand_of c)
ready u h (command.Register rk sark) is = registers u h sark
ready u h (command.RegisterIgnore sark) is = registers u h sark
ready u h (command.Reserve rk kind) is = registered_by_key u h rk is
ready u h (command.Release rk kind) is = registered_by_key u h rk is
ready u h (command.Clear rk) is = registered_by_key u h rk is
ready u h (command.Preempt rk sark kind) is = preempts u h sark kind (registered_by_key u h rk is)
ready u h (command.PreemptAbort rk sark kind) is = preempts u h sark kind (registered_by_key u h rk is)
ready u h _ is = tt

-- a key that is registered has 64 bits
abbrev pub IsBounded : Asked → Type 0
IsBounded (Register key) = key < 2 ^ 64
IsBounded _ = Unit {0}

registers_bounded : (sark : ℕ) → sark < 2 ^ 64 → IsBounded (if sark == 0 then Unregister else Register sark)
registers_bounded sark small = at (sark == 0)
  where
    at : (b : Bool) → IsBounded (if b then Unregister else Register sark)
    at true = tt
    at false = small

preempts_bounded : (sark : ℕ) (kind : Option Kind) → IsBounded (if sark == 0 then PreemptAll kind else Preempt sark kind)
preempts_bounded sark kind = at (sark == 0)
  where
    at : (b : Bool) → IsBounded (if b then PreemptAll kind else Preempt sark kind)
    at true = tt
    at false = tt

pub bounded : (c : Command) → Fits c → IsBounded (demand_of c)
bounded (command.Register rk sark) fits = registers_bounded sark fits.1
bounded (command.RegisterIgnore sark) fits = registers_bounded sark fits
bounded (command.Preempt rk sark kind) fits = preempts_bounded sark kind
bounded (command.PreemptAbort rk sark kind) fits = preempts_bounded sark kind
bounded _ fits = tt
