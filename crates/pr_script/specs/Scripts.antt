-- Agrees with docs/MODEL.md, 'Scripts'.
-- Scripts as trees, and what is still to do of one.
use Rattle.std.specs.Prelude.{ℕ, zero, suc, ◌+◌, ◌*◌, List, [], ◌∷◌, Option, Some, None, drop, codes}
use Rattle.pr_cdb.specs.declared.command.Command.{Command}
use Rattle.pr_script.specs.declared.script.Test.{Test}

mutual
  -- send with its line, its command and its arms; repeat with its count and its body; break; stop with its
  -- word
  pub data Stmt : Type 0 where
    sends : ℕ → Command → Arms → Stmt
    repeats : ℕ → Stmts → Stmt
    breaks : Stmt
    stops : List ℕ → Stmt

  pub data Stmts : Type 0 where
    none : Stmts
    more : Stmt → Stmts → Stmts

  pub data Arms : Type 0 where
    no_arm : Arms
    arm : Test → Stmts → Arms → Arms

-- a statement that is still to do, or the end of one turn of a repeat
pub data Item : Type 0 where
  statement : Stmt → Item
  mark : Item

abbrev pub Configuration : Type 0
Configuration = List Item

abbrev pub before : Stmts → Configuration → Configuration
before none l = l
before (more s ss) l = statement s ∷ before ss l

-- a repeat is its body, a mark, and the repeat with one turn less; without a turn it is nothing
abbrev pub turn : ℕ → Stmts → Configuration → Configuration
turn zero b l = l
turn (suc n) b l = before b (mark ∷ statement (repeats n b) ∷ l)

-- a break drops all up to the first mark, and the repeat after it
abbrev pub past_mark : Configuration → Configuration
past_mark [] = []
past_mark ((statement s) ∷ l) = past_mark l
past_mark (mark ∷ l) = drop 1 l

-- one unfolding; what is ready or stopped stays as it is
abbrev pub becomes : Configuration → Configuration
becomes [] = []
becomes (mark ∷ l) = l
becomes ((statement (sends n c a)) ∷ l) = statement (sends n c a) ∷ l
becomes ((statement (repeats n b)) ∷ l) = turn n b l
becomes ((statement breaks) ∷ l) = past_mark l
becomes ((statement (stops w)) ∷ l) = statement (stops w) ∷ l

-- how often a list of items can become another
abbrev mutual
  pub work_of : Stmt → ℕ
  work_of (sends n c a) = 1
  work_of (repeats n b) = n * (work_of_all b + 2) + 1
  work_of breaks = 1
  work_of (stops w) = 1

  pub work_of_all : Stmts → ℕ
  work_of_all none = 0
  work_of_all (more s ss) = work_of s + work_of_all ss

abbrev pub work : Configuration → ℕ
work [] = 0
work (mark ∷ l) = 1 + work l
work ((statement s) ∷ l) = work_of s + work l

abbrev pub becomes_often : ℕ → Configuration → Configuration
becomes_often zero l = l
becomes_often (suc n) l = becomes_often n (becomes l)

-- Unfolded until it is ready or stopped. That `work` counts enough for that is a law (`Settles` in `Laws`): what is settled becomes
-- nothing else, and it is ready or stopped.
unfoldable pub settled_form : Configuration → Configuration
settled_form l = becomes_often (work l) l

-- ready to send a command, by the line of its send; or stopped with a word
pub data Standing : Type 0 where
  ready : ℕ → Command → Standing
  stopped : List ℕ → Standing

-- Where a settled list of items stands. With nothing left to do it is stopped, with the word `end`.
abbrev pub standing_of_items : Configuration → Option Standing
standing_of_items [] = Some (stopped (codes "end"))
standing_of_items (mark ∷ l) = None
standing_of_items ((statement (sends n c a)) ∷ l) = Some (ready n c)
standing_of_items ((statement (repeats n b)) ∷ l) = None
standing_of_items ((statement breaks) ∷ l) = None
standing_of_items ((statement (stops w)) ∷ l) = Some (stopped w)

-- a script at its beginning
abbrev pub first_configuration : Stmts → Configuration
first_configuration b = settled_form (before b [])
