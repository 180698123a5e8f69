-- What is still to do of a script leads to lines. The lines at which it may be ready next are known without its counts,
-- and every unfolding keeps them.
use Rattle.pr_verify.proofs.Common.{◌≡◌, ℕ, zero, suc, ◌<◌, ◌⊎◌, List, [], ◌∷◌, ◌++◌, Contains, sym, refl, subst, inl, inr, arith, Contains-append_left, Contains-append_right, Contains-append_cases, Stmt, sends, repeats, stops, Stmts, none, more, Configuration, settled_form, out_of, head_of, head_of_all, first_of, Place, places_in, places, places_of, first_lines}
use Rattle.pr_script.specs.Scripts.{breaks, statement, mark, before, past_mark, becomes, first_configuration}
use Rattle.pr_script.proofs.lemmas.Next.Settlement.{kept}
use Rattle.pr_roles.proofs.lemmas.FirstStarts.Existence.{contains_first}
use Rattle.pr_verify.specs.declared.head.Head.{Head}
use Rattle.pr_verify.specs.declared.head.Head.TheVariants.{Line, Falls, Breaks, Stops}
use Rattle.pr_verify.specs.Places.{then_head, lines_of}

-- ---- lists

-- what is in the one is in the other
abbrev pub IsWithin : {X : Type 0} → List X → List X → Type 0
IsWithin {X} xs ys = (x : X) → Contains xs x → Contains ys x

none_within : (ns : List ℕ) → IsWithin [] ns
none_within ns n there = let small = there.1 in absurd (omega arith)

twice_within : (ns : List ℕ) → IsWithin (ns ++ ns) ns
twice_within ns n there = at (Contains-append_cases ns ns n there)
  where
    at : Contains ns n ⊎ Contains ns n → Contains ns n
    at (inl first) = first
    at (inr second) = second

-- ---- what leads to lines

-- A repeat with k turns more after this one. The end of a turn leads to the inner lines, which hold what comes after the
-- repeat and, where there is another turn, what comes first in it.
pub record Turns (all : List Place) (k : ℕ) (b : Stmts) (now left : List ℕ) : Type 0 where
  pub inner : List ℕ
  pub first : IsWithin (first_of b inner left) now
  pub past : IsWithin left inner
  pub again : 0 < k → IsWithin (first_of b inner left) inner
  pub placed : IsWithin (places b inner left) all

-- A statement that may be ready first at these lines, after which come those left, and after a break in it those broken.
-- All its places are among these.
abbrev pub GoesOn : List Place → Stmt → List ℕ → List ℕ → List ℕ → Type 0
GoesOn all (sends n c a) now left broken = Contains now n × IsWithin (places_in (sends n c a) left broken) all
GoesOn all (repeats zero b) now left broken = IsWithin left now
GoesOn all (repeats (suc k) b) now left broken = Turns all k b now left
GoesOn all breaks now left broken = IsWithin broken now
GoesOn all (stops w) now left broken = Unit {0}

-- the same of what is still to do; a break leaves all up to the first mark, and the repeat after it
abbrev pub Goes : List Place → Configuration → List ℕ → List ℕ → Type 0
Goes all ((statement s) ∷ l) now broken = (left : List ℕ) × GoesOn all s now left broken × Goes all l left broken
Goes all (mark ∷ (i ∷ l)) now broken = (out : List ℕ) × Goes all (i ∷ l) now out × Goes all l broken out
Goes all _ now broken = Unit {0}

abbrev pub Leads : List Place → List ℕ → Configuration → Type 0
Leads all now l = (broken : List ℕ) × Goes all l now broken

-- ---- a statement leads to what comes first of it

-- of a repeat that is run once, and of one that is run again
enters_once : (h : Head) (left broken : List ℕ) → IsWithin (lines_of h left left) (lines_of (out_of h) left broken)
enters_once (Line n) left broken m there = there
enters_once _ left broken m there = there

enters : (h : Head) (left broken : List ℕ) → IsWithin (lines_of h (lines_of h left left ++ left) left) (lines_of (out_of h) left broken)
enters Falls left broken m there = twice_within left m there
enters _ left broken m there = there

enters_again : (h : Head) (left : List ℕ) → IsWithin (lines_of h (lines_of h left left ++ left) left) (lines_of h left left ++ left)
enters_again (Line n) left m there = Contains-append_left (n ∷ []) left m there
enters_again Falls left m there = there
enters_again Breaks left m there = Contains-append_left left left m there
enters_again Stops left m there = none_within left m there

goes_on : (all : List Place) (s : Stmt) (left broken : List ℕ) → IsWithin (places_in s left broken) all → GoesOn all s (lines_of (head_of s) left broken) left broken
goes_on all (sends n c a) left broken placed = (contains_first n [], placed)
goes_on all (repeats (suc zero) b) left broken placed = record {
  inner = left;
  first = enters_once (head_of_all b) left broken;
  past = λ m there. there;
  again = λ more. absurd (omega arith);
  placed = placed;
}
goes_on all (repeats (suc (suc k)) b) left broken placed = record {
  inner = first_of b left left ++ left;
  first = enters (head_of_all b) left broken;
  past = λ m there. Contains-append_right (first_of b left left) left m there;
  again = λ more. enters_again (head_of_all b) left;
  placed = placed;
}
goes_on all (stops w) left broken placed = tt
goes_on all _ left broken placed = λ m there. there

lines_then : (h g : Head) (after broken : List ℕ) → lines_of (then_head h g) after broken ≡ lines_of h (lines_of g after broken) broken
lines_then (Line n) g after broken = refl
lines_then _ g after broken = refl

-- statements before what goes on from the lines after them
pub goes_before : (all : List Place) (b : Stmts) (l : Configuration) (after broken : List ℕ) → IsWithin (places b after broken) all → Goes all l after broken
    → Goes all (before b l) (first_of b after broken) broken
goes_before all none l after broken placed goes = goes
goes_before all (more s rest) l after broken placed goes =
    let left = first_of rest after broken in
    let first = goes_on all s left broken (λ p there. placed p (Contains-append_left (places_in s left broken) (places rest after broken) p there)) in (
      left,
      subst (λ now. GoesOn all s now left broken) (sym (lines_then (head_of s) (head_of_all rest) after broken)) first,
      goes_before all rest l after broken (λ p there. placed p (Contains-append_right (places_in s left broken) (places rest after broken) p there)) goes,
    )

-- ---- more lines

wider_on : (all : List Place) (s : Stmt) (now wide left broken : List ℕ) → IsWithin now wide → GoesOn all s now left broken → GoesOn all s wide left broken
wider_on all (sends n c a) now wide left broken within goes = (within n goes.0, goes.1)
wider_on all (repeats (suc k) b) now wide left broken within goes = record {
  inner = goes.inner;
  first = λ m there. within m (goes.first m there);
  past = goes.past;
  again = goes.again;
  placed = goes.placed;
}
wider_on all (stops w) now wide left broken within goes = tt
wider_on all _ now wide left broken within goes = λ m there. within m (goes m there)

wider : (all : List Place) (l : Configuration) (now wide broken : List ℕ) → IsWithin now wide → Goes all l now broken → Goes all l wide broken
wider all ((statement s) ∷ l) now wide broken within goes = (goes.0, wider_on all s now wide goes.0 broken within goes.1, goes.2)
wider all (mark ∷ (i ∷ l)) now wide broken within goes = (goes.0, wider all (i ∷ l) now wide goes.0 within goes.1, goes.2)
wider all _ now wide broken within goes = tt

-- ---- each unfolding keeps the lines

-- a break leads to the lines after the repeat that it leaves
goes_past : (all : List Place) (l : Configuration) (now broken : List ℕ) → Goes all l now broken → Leads all broken (past_mark l)
goes_past all ((statement s) ∷ l) now broken goes = goes_past all l goes.0 broken goes.2
goes_past all (mark ∷ (i ∷ l)) now broken goes = (goes.0, goes.2)
goes_past all _ now broken goes = ([], tt)

-- at the end of a turn comes the repeat with one turn less
goes_again : (all : List Place) (k : ℕ) (b : Stmts) (now left broken : List ℕ) (t : Turns all k b now left) → GoesOn all (repeats k b) t.inner left broken
goes_again all zero b now left broken t = t.past
goes_again all (suc k) b now left broken t = record {
  inner = t.inner;
  first = t.again (omega arith);
  past = t.past;
  again = λ more. t.again (omega arith);
  placed = t.placed;
}

leads_turn : (all : List Place) (k : ℕ) (b : Stmts) (l : Configuration) (now left broken : List ℕ) → Turns all k b now left → Goes all l left broken
    → Leads all now (before b (mark ∷ statement (repeats k b) ∷ l))
leads_turn all k b l now left broken t rest =
    let turn : Goes all (mark ∷ statement (repeats k b) ∷ l) t.inner left = (broken, (left, goes_again all k b now left broken t, rest), rest) in
    (left, wider all (before b (mark ∷ statement (repeats k b) ∷ l)) (first_of b t.inner left) now left t.first (goes_before all b (mark ∷ statement (repeats k b) ∷ l) t.inner left t.placed turn))

leads_becomes : (all : List Place) (now : List ℕ) (l : Configuration) → Leads all now l → Leads all now (becomes l)
leads_becomes all now (mark ∷ []) leads = ([], tt)
leads_becomes all now (mark ∷ (i ∷ l)) leads = (leads.1.0, leads.1.1)
leads_becomes all now ((statement (repeats zero b)) ∷ l) leads = (leads.0, wider all l leads.1.0 now leads.0 leads.1.1 leads.1.2)
leads_becomes all now ((statement (repeats (suc k) b)) ∷ l) leads = leads_turn all k b l now leads.1.0 leads.0 leads.1.1 leads.1.2
leads_becomes all now ((statement breaks) ∷ l) leads =
    let past = goes_past all l leads.1.0 leads.0 leads.1.2 in
    (past.0, wider all (past_mark l) leads.0 now past.0 leads.1.1 past.1)
leads_becomes all now _ leads = leads

pub leads_settled : (all : List Place) (now : List ℕ) (l : Configuration) → Leads all now l → Leads all now (settled_form l)
leads_settled all now l leads = kept (Leads all now) (leads_becomes all now) l leads

-- a script at its beginning leads to its first lines
pub leads_begun : (script : Stmts) → Leads (places_of script) (first_lines script) (first_configuration script)
leads_begun script =
    leads_settled (places_of script) (first_lines script) (before script []) ([], goes_before (places_of script) script [] [] [] (λ p there. there) tt)
