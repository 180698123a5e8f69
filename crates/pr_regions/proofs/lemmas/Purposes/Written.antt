-- What a text can write has a purpose, and names declared keys alone.
use Rattle.pr_regions.proofs.Common.{◌≡◌, ℕ, Bool, true, ◌||◌, List, is_some, if◌then◌else◌, IsTrue, ◌==◌, Some, Option, refl, false, Command, Kind, option_map_or, and_parts, is_declared}
use Rattle.pr_unit.specs.declared.demand.Demand.TheVariants.{Register, Unregister, PreemptAll, Preempt}
use Rattle.pr_cdb.specs.declared.command.Command.TheVariants as command
use Rattle.pr_unit.specs.NamedKeys.{named}
use Rattle.pr_script.specs.Grammar.{is_written_key, is_written}
use Rattle.pr_regions.specs.Purposes.{numbered, names_declared}

-- ---- a purpose

registers_typed : (keys : List ℕ) (sark : ℕ) (zero : Bool) → IsTrue (is_some (numbered keys (if zero then Unregister else Register sark)))
registers_typed keys sark true = refl
registers_typed keys sark false = refl

preempts_typed : (keys : List ℕ) (sark : ℕ) (t : Kind) (zero : Bool) → IsTrue (is_some (numbered keys (if zero then PreemptAll (Some t) else Preempt sark (Some t))))
preempts_typed keys sark t true = refl
preempts_typed keys sark t false = refl

-- ---- declared keys

registers_declared : (keys : List ℕ) (sark : ℕ) (zero : Bool) → (zero || is_declared keys sark) ≡ true → option_map_or (is_declared keys) (named {T = Option Kind} (if zero then Unregister else Register sark)) true ≡ true
registers_declared keys sark true is = refl
registers_declared keys sark false is = is

preempts_declared : (keys : List ℕ) (sark : ℕ) (kind : Option Kind) (zero : Bool) → (zero || is_declared keys sark) ≡ true → option_map_or (is_declared keys) (named (if zero then PreemptAll kind else Preempt sark kind)) true ≡ true
preempts_declared keys sark kind true is = refl
preempts_declared keys sark kind false is = is

pub written_declared : (keys : List ℕ) (c : Command) → is_written keys c ≡ true → names_declared keys c ≡ true
written_declared keys (command.Register rk sark) is = registers_declared keys sark (sark == 0) (and_parts (is_written_key keys rk) (is_written_key keys sark) is).1
written_declared keys (command.RegisterIgnore sark) is = registers_declared keys sark (sark == 0) is
written_declared keys (command.Preempt rk sark kind) is = preempts_declared keys sark kind (sark == 0) (and_parts (is_written_key keys sark) (is_some kind) (and_parts (is_written_key keys rk) _ is).1).0
written_declared keys (command.PreemptAbort rk sark kind) is = preempts_declared keys sark kind (sark == 0) (and_parts (is_written_key keys sark) (is_some kind) (and_parts (is_written_key keys rk) _ is).1).0
written_declared keys _ is = refl
