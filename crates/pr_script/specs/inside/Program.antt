-- What the rows of a table mean.
use Rattle.std.specs.Prelude.{◌≡◌, ℕ, zero, suc, ◌+◌, ◌-◌, ◌<◌, ◌≤◌, List, [], ◌∷◌, ◌++◌, length, fold, slice_index_or}
use Rattle.pr_script.specs.declared.rows.Instruction.{Instruction}
use Rattle.pr_script.specs.declared.rows.Operation.{Operation}
use Rattle.pr_script.specs.declared.rows.Operation.TheVariants.{Send, Repeat, Break, Stop}
use Rattle.pr_script.specs.declared.rows.ArmTarget.{ArmTarget}
use Rattle.pr_script.specs.declared.advance.LoopFrame.{LoopFrame}
use Rattle.pr_script.specs.declared.limits.TheConstants.{MOST_OPEN}
use Rattle.pr_script.specs.Scripts.{Stmt, Stmts, Arms, sends, repeats, breaks, stops, none, more, no_arm, arm, becomes}
use Rattle.pr_script.specs.Programs.{place, configuration, deepest, AreLoops}

-- ---- parts of a list of statements

abbrev pub concatenation : Stmts → Stmts → Stmts
concatenation none end = end
concatenation (more s b) end = more s (concatenation b end)

abbrev pub size : Stmts → ℕ
size none = 0
size (more s b) = 1 + size b

abbrev pub first_statements : ℕ → Stmts → Stmts
first_statements zero b = none
first_statements (suc n) none = none
first_statements (suc n) (more s b) = more s (first_statements n b)

-- the statements of the whole that stand before this end
abbrev pub without_end : Stmts → Stmts → Stmts
without_end whole end = first_statements (size whole - size end) whole

-- ---- the statements from each place on

abbrev pub arms_at : List Stmts → ℕ → List ArmTarget → Arms
arms_at ms next [] = no_arm
arms_at ms next (j ∷ js) = arm j.test (without_end (place ms j.place) (place ms next)) (arms_at ms next js)

abbrev pub step_at : List Stmts → ℕ → Operation → Stmt
step_at ms next (Send line command arms) = sends line command (arms_at ms next arms.items)
step_at ms next (Repeat count body) = repeats count (place ms body)
step_at ms next Break = breaks
step_at ms next (Stop word) = stops word.bytes

abbrev pub row_at : List Stmts → Instruction → Stmts
row_at ms row = more (step_at ms row.next row.step) (place ms row.next)

abbrev pub with_row : List Stmts → Instruction → List Stmts
with_row ms row = ms ++ row_at ms row ∷ []

-- nothing from place 0 on, and from the place of a row on the row and what follows it
unfoldable pub meanings : List Instruction → List Stmts
meanings rows = fold with_row (none ∷ []) rows

-- ---- what a table keeps

-- Each jump names a place up to this, from which on an arm's body and then what follows the send is to do.
abbrev pub AreJumps : List Stmts → ℕ → ℕ → List ArmTarget → Type 0
AreJumps ms top next [] = Unit {0}
AreJumps ms top next (j ∷ js) =
    (j.place ≤ top) × (concatenation (without_end (place ms j.place) (place ms next)) (place ms next) ≡ place ms j.place) × AreJumps ms top next js

abbrev pub IsStep : List Stmts → ℕ → ℕ → Operation → Type 0
IsStep ms top next (Send line command arms) = AreJumps ms top next arms.items
IsStep ms top next (Repeat count body) = body ≤ top
IsStep ms top next Break = Unit {0}
IsStep ms top next (Stop word) = Unit {0}

-- The row stands at place top + 1, and names places before it.
pub record IsRow (ms : List Stmts) (top : ℕ) (row : Instruction) : Type 0 where
  pub meaning : place ms (top + 1) ≡ row_at ms row
  pub next : row.next ≤ top
  pub step : IsStep ms top row.next row.step

pub record IsTable (rows : List Instruction) : Type 0 where
  pub row : (k : ℕ) (row : Instruction) → k < length rows → row ≡ slice_index_or rows k row → IsRow (meanings rows) k row

-- ---- what is still to do

-- The place and the open repeats are of this table, and there is room for all that are still to be open.
pub record IsPlaced (rows : List Instruction) (at : ℕ) (opens : List LoopFrame) : Type 0 where
  pub table : IsTable rows
  pub within : at ≤ length rows
  pub repeats : AreLoops (length rows) opens
  pub room : deepest (configuration (meanings rows) at opens) ≤ MOST_OPEN

-- It stands at a send, at a stop or at the script's end.
pub record IsMachine (rows : List Instruction) (at : ℕ) (opens : List LoopFrame) : Type 0 where
  pub placed : IsPlaced rows at opens
  pub rests : becomes (configuration (meanings rows) at opens) ≡ configuration (meanings rows) at opens
