-- Agrees with docs/VERDICTS.md, '`accepted`'.
-- The places of a script: its sends, each with the lines at which the script may be ready once it took an arm. They carry
-- no counts: the end of a repeat's body leads to its start and past it, and only past it where the repeat is run once.
use Rattle.std.specs.Prelude.{ℕ, zero, suc, List, [], ◌∷◌, ◌++◌, Option}
use Rattle.std.specs.List.{slice_get}
use Rattle.std.specs.Option.{option_and_then}
use Rattle.pr_cdb.specs.declared.command.Command.{Command}
use Rattle.pr_cdb.specs.declared.reply.Reply.{Reply}
use Rattle.pr_script.specs.declared.script.Test.{Test}
use Rattle.pr_script.specs.Scripts.{Stmt, Stmts, Arms, sends, repeats, breaks, stops, none, more, no_arm, arm}
use Rattle.pr_regions.specs.Readings.{first_test}
use Rattle.pr_verify.specs.declared.head.Head.{Head}
use Rattle.pr_verify.specs.declared.head.Head.TheVariants.{Line, Falls, Breaks, Stops}

-- ---- what comes first of statements

-- of two parts of a list, where the second comes once the first is done
abbrev pub then_head : Head → Head → Head
then_head (Line n) next = Line n
then_head Falls next = next
then_head Breaks next = Breaks
then_head Stops next = Stops

-- of a repeat, by its body: a break leaves it
abbrev pub out_of : Head → Head
out_of (Line n) = Line n
out_of Falls = Falls
out_of Breaks = Falls
out_of Stops = Stops

abbrev mutual
  pub head_of : Stmt → Head
  head_of (sends n c a) = Line n
  head_of (repeats zero b) = Falls
  head_of (repeats (suc n) b) = out_of (head_of_all b)
  head_of breaks = Breaks
  head_of (stops w) = Stops

  pub head_of_all : Stmts → Head
  head_of_all none = Falls
  head_of_all (more s rest) = then_head (head_of s) (head_of_all rest)

-- the lines to which that leads, by those after the statements and those after a break
abbrev pub lines_of : Head → List ℕ → List ℕ → List ℕ
lines_of (Line n) after broken = n ∷ []
lines_of Falls after broken = after
lines_of Breaks after broken = broken
lines_of Stops after broken = []

abbrev pub first_of : Stmts → List ℕ → List ℕ → List ℕ
first_of b after broken = lines_of (head_of_all b) after broken

-- the lines after a repeat's body, by those past the repeat
abbrev pub round : ℕ → Stmts → List ℕ → List ℕ
round zero b past = past
round (suc zero) b past = past
round (suc (suc n)) b past = first_of b past past ++ past

-- ---- places

-- A send: its line, its command, and for each arm its test and the lines that may follow it.
pub record Place : Type 0 where
  pub line : ℕ
  pub command : Command
  pub tests : List Test
  pub next : List (List ℕ)

abbrev pub tests_of : Arms → List Test
tests_of no_arm = []
tests_of (arm test body rest) = test ∷ tests_of rest

abbrev pub next_of : Arms → List ℕ → List ℕ → List (List ℕ)
next_of no_arm after broken = []
next_of (arm test body rest) after broken = first_of body after broken ∷ next_of rest after broken

abbrev pub place : ℕ → Command → Arms → List ℕ → List ℕ → Place
place n c a after broken = record { line = n; command = c; tests = tests_of a; next = next_of a after broken }

-- the places among statements, by the lines after them and those after a break
abbrev mutual
  pub places_in : Stmt → List ℕ → List ℕ → List Place
  places_in (sends n c a) after broken = place n c a after broken ∷ places_of_arms a after broken
  places_in (repeats n b) after broken = places b (round n b after) after
  places_in breaks after broken = []
  places_in (stops w) after broken = []

  pub places : Stmts → List ℕ → List ℕ → List Place
  places none after broken = []
  places (more s rest) after broken = places_in s (first_of rest after broken) broken ++ places rest after broken

  pub places_of_arms : Arms → List ℕ → List ℕ → List Place
  places_of_arms no_arm after broken = []
  places_of_arms (arm test body rest) after broken = places body after broken ++ places_of_arms rest after broken

-- of a script, which is stopped once it runs off its end
abbrev pub places_of : Stmts → List Place
places_of script = places script [] []

abbrev pub first_lines : Stmts → List ℕ
first_lines script = first_of script [] []

-- the lines that may follow a reply: those of the first arm that matches
abbrev pub follows : Place → Reply → Option (List ℕ)
follows p r = option_and_then (slice_get p.next) (first_test p.tests r)
