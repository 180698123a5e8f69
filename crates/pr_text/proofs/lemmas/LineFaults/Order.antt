-- A line that the version has, where it stands.
use Rattle.pr_text.proofs.Common.{◌≡◌, ℕ, false, List, [], ◌∷◌, ◌++◌, nat_lt, Some, None, Ok, Option, refl, Command, ScenarioLine, StatementLine, states, send_line, on_line, done_line, repeat_line, break_line, stop_line, command_line, since, ParsedCommand, Declared, OpenLines, in_script, in_plan, declared_keys, and_then, unless, with_statement_line, item_placed, Fails, ReadError, item_standing, planned_step, script_step}
use Rattle.pr_lines.specs.declared.item.ScenarioLine.{ScenarioLine as ItemValue}
use Rattle.pr_lines.specs.declared.item.ScenarioLine.TheVariants as item
use Rattle.pr_lines.specs.LineValues.{line_of_value}
use Rattle.pr_text.specs.LineFaults.{command_fault, statement_fault}
use Rattle.pr_text.specs.inside.LineSteps.{line_step}
use Rattle.pr_text.proofs.lemmas.Steps.Failures.{fails_first}

-- where the version has the line, only where it stands matters
pub in_version : (n : ℕ) (i : ScenarioLine) (d : Declared) → nat_lt d.version (since i) ≡ false → item_placed n i d ≡ item_standing n i d
unfolding item_placed item_standing
in_version n i d has = rw has refl

-- what is wrong with the inner is wrong with the whole
within : {A B : Type 0} (o : Option ReadError) (a : A) (f : A → B) → unless o (f a) ≡ and_then (unless o a) (λ b. Ok (f b))
within None a f = refl
within (Some e) a f = refl

-- a statement's line is one of the script that is open
pub stated : (n : ℕ) (l : StatementLine) (o : OpenLines) (d : Declared)
    → item_standing n (states l) (record d { place = in_script o }) ≡ and_then (script_step n (declared_keys d) l o) (λ p. Ok (record d { place = in_script p }))
unfolding item_standing script_step
stated n l o d = within (statement_fault n (declared_keys d) o l) (with_statement_line n l o) (λ p. record d { place = in_script p })

-- so is any other but its last
pub before_end : (n : ℕ) (i : ItemValue) (o : OpenLines) (d : Declared) → (i ≡ item.End → ⊥)
    → item_standing n (line_of_value i) (record d { place = in_script o }) ≡ and_then (line_step n (declared_keys d) (line_of_value i) o) (λ p. Ok (record d { place = in_script p }))
unfolding item_standing
before_end n item.End o d other = absurd (other refl)
before_end n (item.Send s) o d other = stated n (send_line s) o d
before_end n (item.On t) o d other = stated n (on_line t) o d
before_end n item.Done o d other = stated n done_line o d
before_end n (item.Repeat count) o d other = stated n (repeat_line count) o d
before_end n item.Break o d other = stated n break_line o d
before_end n (item.Stop word) o d other = stated n (stop_line word.bytes) o d
before_end n _ o d other = refl

pub script_fails : (n : ℕ) (i : ItemValue) (o : OpenLines) (d : Declared) (e : ReadError) → (i ≡ item.End → ⊥) → Fails e (line_step n (declared_keys d) (line_of_value i) o)
    → Fails e (item_standing n (line_of_value i) (record d { place = in_script o }))
script_fails n i o d e other h = rw (before_end n i o d other) (fails_first e _ _ h)

-- a command's line is one of the plan that is open
pub planned : (n h : ℕ) (commands : List Command) (s : ParsedCommand) (d : Declared)
    → item_standing n (command_line s) (record d { place = in_plan h commands }) ≡ and_then (planned_step n (declared_keys d) s commands) (λ more. Ok (record d { place = in_plan h more }))
unfolding item_standing planned_step
planned n h commands s d = within (command_fault n (declared_keys d) commands s) (commands ++ s.command ∷ []) (λ more. record d { place = in_plan h more })

pub plan_fails : (n h : ℕ) (commands : List Command) (s : ParsedCommand) (d : Declared) (e : ReadError) → Fails e (planned_step n (declared_keys d) s commands)
    → Fails e (item_standing n (command_line s) (record d { place = in_plan h commands }))
plan_fails n h commands s d e fails = rw (planned n h commands s d) (fails_first e _ _ fails)
