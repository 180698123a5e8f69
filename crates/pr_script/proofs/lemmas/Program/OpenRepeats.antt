-- What the repeats that are open lead to.
use Rattle.pr_script.proofs.Common.{◌≡◌, ℕ, zero, suc, ◌+◌, ◌≤◌, max, List, [], ◌∷◌, ◌++◌, length, drop, refl, ◌∙◌, arith, depth_of_all, repeats, breaks, Stmts, none, more, statement, mark, Configuration, before, turn, past_mark, LoopFrame, place, open_configuration, deepest, AreLoops}
use Rattle.std.specs.Prelude.{fold}
use Rattle.pr_script.specs.Programs.{opened_by, open_count}
use Rattle.pr_script.specs.inside.Advances.{Leads}
use Rattle.pr_script.proofs.lemmas.Next.Settlement.{settled-becomes, work-turn, work-past_mark}

-- ---- the places that the open repeats name

pub opens_more : (top : ℕ) (os : List LoopFrame) (o : LoopFrame) → AreLoops top os → o.body ≤ top → o.next ≤ top → AreLoops top (os ++ o ∷ [])
opens_more top [] o h body next = (body, next, tt)
opens_more top (p ∷ os) o h body next = (h.0, h.1, opens_more top os o h.2 body next)

pub opens_less : (top : ℕ) (os : List LoopFrame) (o : LoopFrame) → AreLoops top (os ++ o ∷ []) → AreLoops top os × (o.body ≤ top) × (o.next ≤ top)
opens_less top [] o h = (tt, h.0, h.1)
opens_less top (p ∷ os) o h = let rest = opens_less top os o h.2 in ((h.0, h.1, rest.0), rest.1, rest.2)

-- ---- the room that is needed

open_count-before : (b : Stmts) (l : Configuration) → open_count (before b l) ≡ open_count l
open_count-before none l = refl
open_count-before (more s b) l = open_count-before b l

open_count-le-deepest : (l : Configuration) → open_count l ≤ deepest l
open_count-le-deepest ((statement s) ∷ l) = omega (arith, open_count-le-deepest l)
open_count-le-deepest _ = omega arith

pub deepest-before : (b : Stmts) (l : Configuration) → deepest (before b l) ≡ max (open_count l + depth_of_all b) (deepest l)
deepest-before none l = omega (arith, open_count-le-deepest l)
deepest-before (more s b) l = omega (arith, open_count-before b l, deepest-before b l)

deepest-turn : (n : ℕ) (b : Stmts) (l : Configuration) → deepest (turn n b l) ≤ deepest (statement (repeats n b) ∷ l)
deepest-turn zero b l = omega arith
deepest-turn (suc n) b l = omega (arith, deepest-before b (mark ∷ statement (repeats n b) ∷ l))

deepest-drop : (l : Configuration) → deepest (drop 1 l) ≤ deepest l
deepest-drop [] = omega arith
deepest-drop ((statement s) ∷ l) = omega arith
deepest-drop (mark ∷ l) = omega arith

deepest-past_mark : (l : Configuration) → deepest (past_mark l) ≤ deepest l
deepest-past_mark [] = omega arith
deepest-past_mark ((statement s) ∷ l) = omega (arith, deepest-past_mark l)
deepest-past_mark (mark ∷ l) = omega (arith, deepest-drop l)

open_count-fold : (ms : List Stmts) (os : List LoopFrame) (l : Configuration) → open_count (fold (opened_by ms) l os) ≡ open_count l + length os
open_count-fold ms [] l = omega arith
open_count-fold ms (o ∷ os) l = omega (arith, open_count-fold ms os (opened_by ms l o), open_count-before (place ms o.next) l)

-- as many marks as there are open repeats
pub open_count-opened : (ms : List Stmts) (os : List LoopFrame) → open_count (open_configuration ms os) ≡ length os
open_count-opened ms os = omega (arith, open_count-fold ms os [])

pub open_count-configuration : (b : Stmts) (ms : List Stmts) (os : List LoopFrame) → open_count (before b (open_configuration ms os)) ≡ length os
open_count-configuration b ms os = open_count-before b (open_configuration ms os) ∙ open_count-opened ms os

-- ---- what leads on

pub leads_turn : (n : ℕ) (b : Stmts) (l : Configuration) → Leads (statement (repeats n b) ∷ l) (turn n b l)
leads_turn n b l = record {
  settles = settled-becomes (statement (repeats n b) ∷ l);
  less = work-turn n b l;
  room = deepest-turn n b l;
}

pub leads_mark : (n : ℕ) (b : Stmts) (l : Configuration) → Leads (mark ∷ statement (repeats n b) ∷ l) (turn n b l)
leads_mark n b l = record {
  settles = settled-becomes (statement (repeats n b) ∷ l) ∙ settled-becomes (mark ∷ statement (repeats n b) ∷ l);
  less = omega (arith, work-turn n b l);
  room = omega (arith, deepest-turn n b l);
}

pub leads_break : (l : Configuration) → Leads (statement breaks ∷ l) (past_mark l)
leads_break l = record {
  settles = settled-becomes (statement breaks ∷ l);
  less = omega (arith, work-past_mark l);
  room = omega (arith, deepest-past_mark l);
}

pub past_mark-before : (b : Stmts) (l : Configuration) → past_mark (before b l) ≡ past_mark l
past_mark-before none l = refl
past_mark-before (more s b) l = past_mark-before b l
