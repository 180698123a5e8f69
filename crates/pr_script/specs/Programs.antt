-- Agrees with docs/MODEL.md, 'Scripts'.
-- What is still to do at a place of a program.
use Rattle.std.specs.Prelude.{ℕ, ◌+◌, ◌≤◌, List, [], ◌∷◌, fold, max, slice_index_or}
use Rattle.pr_script.specs.declared.advance.LoopFrame.{LoopFrame}
use Rattle.pr_script.specs.Scripts.{Stmts, repeats, none, statement, mark, Configuration, before}
use Rattle.pr_script.specs.Depths.{depth_of}

-- The statements from each place on. From place 0 on there are none.
abbrev pub Places : Type 0
Places = List Stmts

abbrev pub place : Places → ℕ → Stmts
place ms k = slice_index_or ms k none

-- what is to do once the body of the innermost open repeat has ended
abbrev pub opened_by : Places → Configuration → LoopFrame → Configuration
opened_by ms l o = mark ∷ statement (repeats o.left (place ms o.body)) ∷ before (place ms o.next) l

abbrev pub open_configuration : Places → List LoopFrame → Configuration
open_configuration ms opens = fold (opened_by ms) [] opens

abbrev pub configuration : Places → ℕ → List LoopFrame → Configuration
configuration ms at opens = before (place ms at) (open_configuration ms opens)

-- how many repeats are open
abbrev pub open_count : Configuration → ℕ
open_count [] = 0
open_count ((statement s) ∷ l) = open_count l
open_count (mark ∷ l) = 1 + open_count l

-- the most repeats that are still to be open at once
abbrev pub deepest : Configuration → ℕ
deepest [] = 0
deepest ((statement s) ∷ l) = max (open_count l + depth_of s) (deepest l)
deepest (mark ∷ l) = max (1 + open_count l) (deepest l)

abbrev pub AreLoops : ℕ → List LoopFrame → Type 0
AreLoops top [] = Unit {0}
AreLoops top (o ∷ os) = (o.body ≤ top) × (o.next ≤ top) × AreLoops top os
