-- Agrees with docs/MODEL.md, 'Which scripts may be written'; docs/FORMATS.md, 'Limits'.
-- Which scripts may be written: the grammar of statements, and its limits.
use Rattle.std.specs.Prelude.{ℕ, Bool, true, false, ◌+◌, ◌==◌, ◌&&◌, ◌||◌, nat_lt, nat_le, List, [], ◌∷◌, ◌++◌, bytes_eq, is_some}
use Rattle.std.specs.List.{list_any}
use Rattle.pr_cdb.specs.declared.codes.TheConstants.{PERSISTENT_RESERVE_IN, READ_KEYS, READ_RESERVATION}
use Rattle.pr_cdb.specs.declared.command.Command.{Command}
use Rattle.pr_cdb.specs.declared.command.Command.TheVariants as command
use Rattle.pr_cdb.specs.CommandCodes.{command_codes}
use Rattle.pr_script.specs.declared.grammar.TheConstants.{WRITTEN_LENGTH}
use Rattle.pr_script.specs.declared.script.Test.{Test}
use Rattle.pr_script.specs.declared.script.Test.TheVariants as test
use Rattle.pr_script.specs.declared.limits.TheConstants.{MOST_STATEMENTS, MOST_ARMS, MOST_OPEN, MOST_TURNS}
use Rattle.pr_script.specs.Scripts.{Stmt, Stmts, Arms, sends, repeats, breaks, stops, none, more, no_arm, arm}
use Rattle.pr_script.specs.Names.{is_name}

-- ---- commands

abbrev pub is_declared : List ℕ → ℕ → Bool
is_declared keys k = list_any (λ key. key == k) keys

-- zero, or a declared key
abbrev pub is_written_key : List ℕ → ℕ → Bool
is_written_key keys k = k == 0 || is_declared keys k

-- a command as a text can write it
abbrev pub is_written : List ℕ → Command → Bool
is_written keys command.TestUnitReady = true
is_written keys command.RequestSense = true
is_written keys (command.Read lba blocks) = true
is_written keys (command.Write lba blocks) = true
is_written keys (command.ReadKeys alloc) = alloc == WRITTEN_LENGTH
is_written keys (command.ReadReservation alloc) = alloc == WRITTEN_LENGTH
is_written keys (command.ReportCapabilities alloc) = alloc == WRITTEN_LENGTH
is_written keys (command.Register rk sark) = is_written_key keys rk && is_written_key keys sark
is_written keys (command.RegisterIgnore sark) = is_written_key keys sark
is_written keys (command.Reserve rk kind) = is_written_key keys rk
is_written keys (command.Release rk kind) = is_written_key keys rk
is_written keys (command.Clear rk) = is_written_key keys rk
is_written keys (command.Preempt rk sark kind) = is_written_key keys rk && (is_written_key keys sark && is_some kind)
is_written keys (command.PreemptAbort rk sark kind) = is_written_key keys rk && (is_written_key keys sark && is_some kind)

-- ---- statements

abbrev pub is_read_keys : Command → Bool
is_read_keys c = bytes_eq (command_codes c) (PERSISTENT_RESERVE_IN ∷ READ_KEYS ∷ [])

abbrev pub is_read_reservation : Command → Bool
is_read_reservation c = bytes_eq (command_codes c) (PERSISTENT_RESERVE_IN ∷ READ_RESERVATION ∷ [])

-- an arm with this test stands under the command: one that looks at data, only under the command that
-- returns it
abbrev pub stands_under : Command → Test → Bool
stands_under c test.Good = true
stands_under c (test.GoodHas key) = is_read_keys c
stands_under c (test.GoodHeld key) = is_read_reservation c
stands_under c test.GoodUnheld = is_read_reservation c
stands_under c test.Conflict = true
stands_under c test.Busy = true
stands_under c test.Full = true
stands_under c test.Attention = true
stands_under c (test.Sense sense) = true

-- a key that the test asks for is declared
abbrev pub is_test_declared : List ℕ → Test → Bool
is_test_declared keys test.Good = true
is_test_declared keys (test.GoodHas key) = is_declared keys key
is_test_declared keys (test.GoodHeld key) = is_written_key keys key
is_test_declared keys test.GoodUnheld = true
is_test_declared keys test.Conflict = true
is_test_declared keys test.Busy = true
is_test_declared keys test.Full = true
is_test_declared keys test.Attention = true
is_test_declared keys (test.Sense sense) = true

-- a sense key that the test asks for has one hexadecimal digit
abbrev pub has_sense_digit : Test → Bool
has_sense_digit test.Good = true
has_sense_digit (test.GoodHas key) = true
has_sense_digit (test.GoodHeld key) = true
has_sense_digit test.GoodUnheld = true
has_sense_digit test.Conflict = true
has_sense_digit test.Busy = true
has_sense_digit test.Full = true
has_sense_digit test.Attention = true
has_sense_digit (test.Sense sense) = nat_lt sense.key 16

-- an arm of a send with this command
abbrev pub test_fits : List ℕ → Command → Test → Bool
test_fits keys c t = has_sense_digit t && (stands_under c t && is_test_declared keys t)

abbrev pub count_of_arms : Arms → ℕ
count_of_arms no_arm = 0
count_of_arms (arm t body rest) = 1 + count_of_arms rest

-- the first statement of a repeat's body is a send or a repeat
abbrev pub begins_body : Stmts → Bool
begins_body none = false
begins_body (more (sends n c a) rest) = true
begins_body (more (repeats n b) rest) = true
begins_body (more breaks rest) = false
begins_body (more (stops w) rest) = false

abbrev pub is_send_written : List ℕ → Command → Arms → Bool
is_send_written keys c a = is_written keys c && nat_le (count_of_arms a) MOST_ARMS

-- a repeat is run once at least, and begins with a send or a repeat
abbrev pub is_repeat_written : ℕ → Stmts → Bool
is_repeat_written n b = nat_le 1 n && (nat_le n MOST_TURNS && begins_body b)

-- A statement that stands in so many open repeats and open sends, with itself at most so many of each. A break
-- stands inside a repeat.
abbrev mutual
  pub statement_fits : List ℕ → ℕ → ℕ → Stmt → Bool
  statement_fits keys repeated sent (sends n c a) =
      is_send_written keys c a && (nat_lt sent MOST_OPEN && arms_fit keys repeated (sent + 1) c a)
  statement_fits keys repeated sent (repeats n b) =
      is_repeat_written n b && (nat_lt repeated MOST_OPEN && statements_fit keys (repeated + 1) sent b)
  statement_fits keys repeated sent breaks = nat_lt 0 repeated
  statement_fits keys repeated sent (stops w) = is_name w

  pub statements_fit : List ℕ → ℕ → ℕ → Stmts → Bool
  statements_fit keys repeated sent none = true
  statements_fit keys repeated sent (more s rest) = statement_fits keys repeated sent s && statements_fit keys repeated sent rest

  pub arms_fit : List ℕ → ℕ → ℕ → Command → Arms → Bool
  arms_fit keys repeated sent c no_arm = true
  arms_fit keys repeated sent c (arm t body rest) =
      (test_fits keys c t && statements_fit keys repeated sent body) && arms_fit keys repeated sent c rest

-- ---- the whole of a script

-- how many statements there are, those in arms and bodies among them
abbrev mutual
  pub count_of : Stmt → ℕ
  count_of (sends n c a) = 1 + count_in_arms a
  count_of (repeats n b) = 1 + count_of_all b
  count_of breaks = 1
  count_of (stops w) = 1

  pub count_of_all : Stmts → ℕ
  count_of_all none = 0
  count_of_all (more s rest) = count_of s + count_of_all rest

  pub count_in_arms : Arms → ℕ
  count_in_arms no_arm = 0
  count_in_arms (arm t body rest) = count_of_all body + count_in_arms rest

-- the lines of the sends, in the order in which they are written
abbrev mutual
  pub lines_of : Stmt → List ℕ
  lines_of (sends n c a) = n ∷ lines_of_arms a
  lines_of (repeats n b) = lines_of_all b
  lines_of breaks = []
  lines_of (stops w) = []

  pub lines_of_all : Stmts → List ℕ
  lines_of_all none = []
  lines_of_all (more s rest) = lines_of s ++ lines_of_all rest

  pub lines_of_arms : Arms → List ℕ
  lines_of_arms no_arm = []
  lines_of_arms (arm t body rest) = lines_of_all body ++ lines_of_arms rest

-- each is above the one before it, and the first above this
abbrev pub rise_above : ℕ → List ℕ → Bool
rise_above line [] = true
rise_above line (next ∷ rest) = nat_lt line next && rise_above next rest

-- The script may stand in a text that declares these keys: its statements follow the grammar, there are
-- not too many, and the lines of its sends, which are counted from 1, rise.
abbrev pub script_fits : List ℕ → Stmts → Bool
script_fits keys b = statements_fit keys 0 0 b && (nat_le (count_of_all b) MOST_STATEMENTS && rise_above 0 (lines_of_all b))
