-- Agrees with docs/FORMATS.md, 'The lines of a scenario'.
-- What the lines so far declare.
use Rattle.std.specs.Prelude.{ℕ, Bool, List, [], Option, None, false}
use Rattle.pr_cdb.specs.declared.command.Command.{Command}
use Rattle.pr_registry.specs.declared.held.Held.{Held}
use Rattle.pr_attention.specs.Attentions.{Codes}
use Rattle.pr_roles.specs.declared.role.Clause.{Clause}
use Rattle.pr_text.specs.ScriptLines.{ScriptLine}

-- ---- nexuses

-- what a nexus is given to do: the lines of a script and its budget, or the commands of a plan
pub data WrittenTask : Type 0 where
  scripted : List ScriptLine → ℕ → WrittenTask
  planned : List Command → WrittenTask

-- a nexus, the line that declares it, and what other lines have said of it so far, as how often it may be answered
-- BUSY and TASK SET FULL, and whether nobody else sends on its path
pub record Declaration : Type 0 where
  pub name : List ℕ
  pub line : ℕ
  pub is_guest : Bool
  pub start : Option (List (Option ℕ))
  pub pending : Option Codes
  pub busy : Option ℕ
  pub full : Option ℕ
  pub alone : Bool
  pub role : List Clause
  pub task : Option WrittenTask

-- ---- blocks

-- a block that is open: a repeat, or a send with its command and the number of its arms so far
pub data OpenBlock : Type 0 where
  repeating : OpenBlock
  sending : Command → ℕ → OpenBlock

-- A script that is open: whose it is, its budget, its lines and how many statements they begin, the blocks
-- that are open, the innermost first, and whether the innermost has a statement yet.
pub record OpenLines : Type 0 where
  pub host : ℕ
  pub budget : ℕ
  pub lines : List ScriptLine
  pub statements : ℕ
  pub blocks : List OpenBlock
  pub begun : Bool

-- ---- the whole

-- where the next line stands: before the version, outside, in a script, or in a guest's plan
pub data Context : Type 0 where
  before_all : Context
  outside : Context
  in_script : OpenLines → Context
  in_plan : ℕ → List Command → Context

-- The version is that of the text, and 1 before its first line. The resets are how often the unit may be reset during a run. In
-- order is a disk of which a line says that it looks at the reservation before an attention.
pub record Declared : Type 0 where
  pub version : ℕ
  pub keys : Option (List ℕ)
  pub reservations : Option (List (Option Held))
  pub generation : Option ℕ
  pub resets : Option ℕ
  pub in_order : Bool
  pub nexuses : List Declaration
  pub place : Context

-- nothing is declared yet
abbrev pub nothing : Declared
nothing = record { version = 1; keys = None; reservations = None; generation = None; resets = None; in_order = false; nexuses = []; place = before_all }
