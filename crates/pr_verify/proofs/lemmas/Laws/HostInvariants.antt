-- What may be said of the unit while a host's script has something still to do: by that, by the history, and by the unit's
-- state. It is an invariant of the host where it is true at each start, where it stays true whatever happens, and where
-- what safety asks of the host follows from it. How it is written down (a view for each send, several, one for each count
-- of a repeat, a list of states) makes no difference to what it is worth.
use Rattle.std.specs.Prelude.{◌≡◌, ◌≢◌, ◌⊎◌, ℕ, ◌+◌, ◌<◌, ◌≤◌, true, IsTrue, List, [], ◌∷◌, ◌++◌, length, Some}
use Rattle.pr_cdb.specs.declared.command.Command.{Command}
use Rattle.pr_cdb.specs.declared.reply.Reply.{Reply}
use Rattle.pr_cdb.specs.declared.wire.Request.TheVariants.{Plain}
use Rattle.pr_cdb.specs.Ranges.{Fits}
use Rattle.pr_cdb.specs.Spelling.{spelling}
use Rattle.pr_unit.specs.UnitStates.{UnitState, is_pending, after_report, reset}
use Rattle.pr_unit.specs.Replies.{is_good}
use Rattle.pr_script.specs.Scripts.{Stmts, Configuration, ready, standing_of_items, first_configuration}
use Rattle.pr_script.specs.Takes.{take}
use Rattle.pr_roles.specs.declared.entry.Entry.{Entry}
use Rattle.pr_roles.specs.declared.how.How.{How}
use Rattle.pr_roles.specs.declared.item.Item.{Item}
use Rattle.pr_roles.specs.declared.item.Item.TheVariants.{Sent, Reset}
use Rattle.pr_roles.specs.Answers.{Answers, may_come}
use Rattle.pr_roles.specs.Permits.{command_permitted}
use Rattle.pr_roles.specs.Scenarios.{Scenario, role, task}
use Rattle.pr_roles.specs.Starts.{IsAllowedStart}
use Rattle.pr_roles.specs.Worlds.{entry_of, commands_by, may_reset}
use Rattle.pr_interference.specs.Interference.{IsDone}
use Rattle.pr_verify.specs.Outlines.{OnScripted}

-- where this is said, the host's script is ready with a command, and is answered so
pub record IsTurn (s : Scenario) (h : ℕ) (Holds : Configuration → List Item → UnitState → Type 0) (l : Configuration) (history : List Item) (u : UnitState) (c : Command) (r : Reply) (v : UnitState) : Type 0 where
  pub holds : Holds l history u
  pub line : ℕ
  pub ready : standing_of_items l ≡ Some (ready line c)
  pub how : How
  pub room : IsTrue (may_come s history h how)
  pub answer : Answers how u h (Plain c) r v

-- some arm takes the reply, the command is within the budget, its role permits it if it ended GOOD, and the same is said afterwards
pub record IsTaken (s : Scenario) (h budget : ℕ) (Holds : Configuration → List Item → UnitState → Type 0) (l : Configuration) (history : List Item) (u : UnitState) (c : Command) (r : Reply) (v : UnitState) : Type 0 where
  pub rest : Configuration
  pub arm : take l r ≡ Some rest
  pub within : commands_by history h + 1 ≤ budget
  pub role : is_good r ≡ true → IsTrue (command_permitted (role s h) u.registry h c)
  pub holds : Holds rest (history ++ Sent (entry_of h (spelling c) r) ∷ []) v

-- A reset comes at most as often as the scenario has it. Any attention may be fetched: no script hears of that. Of another's
-- command only this is known: to the host it is one that ends GOOD and that the other's role permits, or none, maybe after a fetch.
pub record IsInvariant (s : Scenario) (h : ℕ) (script : Stmts) (budget : ℕ) (Holds : Configuration → List Item → UnitState → Type 0) : Type 0 where
  pub start : (u : UnitState) → IsAllowedStart s u → Holds (first_configuration script) [] u
  pub fields : (l : Configuration) (history : List Item) (u : UnitState) (line : ℕ) (c : Command) → Holds l history u → standing_of_items l ≡ Some (ready line c) → Fits c
  pub own : (l : Configuration) (history : List Item) (u : UnitState) (c : Command) (r : Reply) (v : UnitState) → IsTurn s h Holds l history u c r v → IsTaken s h budget Holds l history u c r v
  pub others : (l : Configuration) (history : List Item) (u : UnitState) (e : Entry) (v : UnitState) → Holds l history u → e.host ≢ h → e.host < length s.nexuses
      → (v ≡ u) ⊎ IsDone (role s e.host) e.host u v → Holds l (history ++ Sent e ∷ []) v
  pub resets : (l : Configuration) (history : List Item) (u : UnitState) → Holds l history u → IsTrue (may_reset s history) → Holds l (history ++ Reset ∷ []) (reset u)
  pub fetched : (l : Configuration) (history : List Item) (u : UnitState) (g code : ℕ) → Holds l history u → IsTrue (is_pending u g code) → Holds l history (after_report u g code)

-- for each scripted host one
abbrev pub HaveInvariants : (s : Scenario) → (ℕ → Configuration → List Item → UnitState → Type 0) → Type 0
HaveInvariants s Holds = (h : ℕ) → h < length s.nexuses → OnScripted (task s h) (λ script budget. IsInvariant s h script budget (Holds h))
