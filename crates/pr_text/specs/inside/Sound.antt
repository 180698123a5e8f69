-- What is declared so far keeps the limits, and the conditions of a scenario.
use Rattle.std.specs.Prelude.{◌≡◌, ℕ, Bool, true, false, ◌+◌, ◌&&◌, not, nat_lt, nat_le, List, [], ◌∷◌, drop, length, map, Option, Some, None, bytes_eq, count_by, fold, unwrap_or}
use Rattle.std.specs.List.{list_all}
use Rattle.pr_cdb.specs.declared.command.Command.{Command}
use Rattle.pr_script.specs.declared.script.Test.{Test}
use Rattle.pr_script.specs.Names.{is_name}
use Rattle.pr_script.specs.Grammar.{is_written, test_fits, rise_above}
use Rattle.pr_script.specs.Versions.{since}
use Rattle.pr_roles.specs.Fitting.{most_declared, AreDeclared, are_distinct, are_reservations, is_role, is_start, is_version, is_count, are_resets}
use Rattle.pr_script.specs.declared.limits.TheConstants.{MOST_STATEMENTS, MOST_ARMS, MOST_OPEN, MOST_TURNS, MOST_BUDGET}
use Rattle.pr_roles.specs.declared.limits.TheConstants.{MOST_PLANNED}
use Rattle.pr_text.specs.ScriptLines.{ScriptLine, send_at, arm_on, block_done, repeat_of, break_out, stop_with}
use Rattle.pr_text.specs.Declarations.{OpenBlock, repeating, sending, OpenLines, WrittenTask, scripted, planned, Declaration, Context, before_all, outside, in_script, in_plan, Declared}
use Rattle.pr_text.specs.Declaring.{declared_keys}
use Rattle.pr_text.specs.Standing.{is_repeating, is_sending, awaits_arm, is_in_repeat, may_close}
use Rattle.pr_text.specs.Texts.{start_of, reservations_of}

-- ---- the lines of a script

-- the blocks that are open, the innermost first, and whether the innermost has a statement
pub record Reached : Type 0 where
  pub blocks : List OpenBlock
  pub begun : Bool

-- nothing is open, and there is no statement
abbrev pub at_first : Reached
at_first = record { blocks = []; begun = false }

abbrev pub may_state : Reached → Bool
may_state s = not (awaits_arm s.blocks) && not (is_in_repeat s.blocks && not s.begun)

abbrev pub may_arm : List ℕ → Test → List OpenBlock → Bool
may_arm keys t [] = false
may_arm keys t (repeating ∷ bs) = false
may_arm keys t ((sending c arms) ∷ bs) = test_fits keys c t && nat_lt arms MOST_ARMS

-- the line may stand here
abbrev pub may : List ℕ → Reached → ScriptLine → Bool
may keys s (send_at n c) = not (awaits_arm s.blocks) && (is_written keys c && nat_lt (count_by is_sending s.blocks) MOST_OPEN)
may keys s (arm_on t) = may_arm keys t s.blocks
may keys s block_done = may_close s.blocks s.begun
may keys s (repeat_of n) = not (awaits_arm s.blocks) && ((nat_le 1 n && nat_le n MOST_TURNS) && nat_lt (count_by is_repeating s.blocks) MOST_OPEN)
may keys s break_out = may_state s && nat_lt 0 (count_by is_repeating s.blocks)
may keys s (stop_with word) = may_state s && is_name word

abbrev pub with_arm : List OpenBlock → List OpenBlock
with_arm [] = []
with_arm (repeating ∷ bs) = repeating ∷ bs
with_arm ((sending c arms) ∷ bs) = sending c (arms + 1) ∷ bs

-- what is reached behind the line
abbrev pub next : Reached → ScriptLine → Reached
next s (send_at n c) = record { blocks = sending c 0 ∷ s.blocks; begun = false }
next s (arm_on t) = record { blocks = with_arm s.blocks; begun = false }
next s block_done = record { blocks = drop 1 s.blocks; begun = true }
next s (repeat_of n) = record { blocks = repeating ∷ s.blocks; begun = false }
next s break_out = record { blocks = s.blocks; begun = true }
next s (stop_with word) = record { blocks = s.blocks; begun = true }

-- each of the lines may stand where it does
abbrev pub may_all : List ℕ → Reached → List ScriptLine → Bool
may_all keys s [] = true
may_all keys s (l ∷ ls) = may keys s l && may_all keys (next s l) ls

abbrev pub reach_after : Reached → List ScriptLine → Reached
reach_after s ls = fold next s ls

abbrev pub is_statement : ScriptLine → Bool
is_statement (send_at n c) = true
is_statement (arm_on t) = false
is_statement block_done = false
is_statement (repeat_of n) = true
is_statement break_out = true
is_statement (stop_with word) = true

-- the numbers of the lines of the sends
abbrev pub sends_in : List ScriptLine → List ℕ
sends_in [] = []
sends_in ((send_at n c) ∷ ls) = n ∷ sends_in ls
sends_in (arm_on t ∷ ls) = sends_in ls
sends_in (block_done ∷ ls) = sends_in ls
sends_in (repeat_of n ∷ ls) = sends_in ls
sends_in (break_out ∷ ls) = sends_in ls
sends_in (stop_with word ∷ ls) = sends_in ls

-- the lines are those of a whole script
pub record AreWhole (keys : List ℕ) (ls : List ScriptLine) : Type 0 where
  pub standing : may_all keys at_first ls ≡ true
  pub short : nat_le (count_by is_statement ls) MOST_STATEMENTS ≡ true
  pub rising : rise_above 0 (sends_in ls) ≡ true

-- the lines of an open script, behind which this many lines of the text were read
pub record AreBegun (keys : List ℕ) (n : ℕ) (o : OpenLines) : Type 0 where
  pub standing : may_all keys at_first o.lines ≡ true
  pub reaching : reach_after at_first o.lines ≡ record { blocks = o.blocks; begun = o.begun }
  pub counted : o.statements ≡ count_by is_statement o.lines
  pub short : nat_le o.statements MOST_STATEMENTS ≡ true
  pub rising : rise_above 0 (sends_in o.lines) ≡ true
  pub passed : list_all (λ line. nat_le line n) (sends_in o.lines) ≡ true
  pub budget : (nat_le 1 o.budget && nat_le o.budget MOST_BUDGET) ≡ true

-- ---- the version

-- the version has the line
abbrev pub is_line_of : ℕ → ScriptLine → Bool
is_line_of version (send_at n c) = true
is_line_of version (arm_on t) = nat_le (since t) version
is_line_of version block_done = true
is_line_of version (repeat_of n) = true
is_line_of version break_out = true
is_line_of version (stop_with word) = true

abbrev pub is_written_of : ℕ → Option WrittenTask → Bool
is_written_of version None = true
is_written_of version (Some (scripted ls budget)) = list_all (is_line_of version) ls
is_written_of version (Some (planned commands)) = true

abbrev pub is_declared_of : ℕ → Declaration → Bool
is_declared_of version x =
    is_count version (unwrap_or x.busy 0) && (is_count version (unwrap_or x.full 0) && is_written_of version x.task)

-- nothing is declared before the version is said
abbrev pub IsPlaceOf : ℕ → Option ℕ → List Declaration → Context → Type 0
IsPlaceOf version resets xs before_all = (resets ≡ None) × (xs ≡ [])
IsPlaceOf version resets xs outside = Unit {0}
IsPlaceOf version resets xs (in_script o) = list_all (is_line_of version) o.lines ≡ true
IsPlaceOf version resets xs (in_plan h commands) = Unit {0}

-- what is declared is what the version has
pub record IsDated (d : Declared) : Type 0 where
  pub version : is_version d.version ≡ true
  pub resets : are_resets d.version (unwrap_or d.resets 0) ≡ true
  pub few : nat_le (length d.nexuses) (most_declared d.version) ≡ true
  pub each : list_all (is_declared_of d.version) d.nexuses ≡ true
  pub place : IsPlaceOf d.version d.resets d.nexuses d.place

-- ---- the whole

abbrev pub is_plan : List ℕ → List Command → Bool
is_plan keys commands = nat_le (length commands) MOST_PLANNED && list_all (is_written keys) commands

abbrev pub IsTask : List ℕ → Option WrittenTask → Type 0
IsTask keys None = Unit {0}
IsTask keys (Some (scripted ls budget)) = AreWhole keys ls × ((nat_le 1 budget && nat_le budget MOST_BUDGET) ≡ true)
IsTask keys (Some (planned commands)) = is_plan keys commands ≡ true

abbrev pub is_described : List ℕ → Declaration → Bool
is_described keys x = is_name x.name && (is_role keys x.role && is_start keys (start_of x))

pub record IsDeclaration (keys : List ℕ) (x : Declaration) : Type 0 where
  pub described : is_described keys x ≡ true
  pub task : IsTask keys x.task

abbrev pub AreDeclarations : List ℕ → List Declaration → Type 0
AreDeclarations keys [] = Unit {0}
AreDeclarations keys (x ∷ xs) = IsDeclaration keys x × AreDeclarations keys xs

abbrev pub IsPlace : List ℕ → ℕ → Context → Type 0
IsPlace keys n before_all = Unit {0}
IsPlace keys n outside = Unit {0}
IsPlace keys n (in_script o) = AreBegun keys n o
IsPlace keys n (in_plan h commands) = is_plan keys commands ≡ true

-- what is declared by so many lines
pub record IsSound (n : ℕ) (d : Declared) : Type 0 where
  pub keys : AreDeclared (declared_keys d)
  pub reservations : are_reservations (length d.nexuses) (reservations_of d) ≡ true
  pub apart : are_distinct bytes_eq (map (λ x. x.name) d.nexuses) ≡ true
  pub each : AreDeclarations (declared_keys d) d.nexuses
  pub place : IsPlace (declared_keys d) n d.place
