-- The lines of an open script may stand where they do, with one line more.
use Rattle.pr_text.proofs.Common.{◌≡◌, ℕ, ◌+◌, ◌≤◌, Bool, true, false, cond, not, ◌&&◌, List, [], ◌∷◌, ◌++◌, nat_lt, nat_le, ◌==◌, Some, None, Ok, count_by, Option, Result, sym, refl, ap, ◌∙◌, arith, list_all, and_parts, nat_tests, list_all-append, is_written, is_name, MOST_STATEMENTS, MOST_ARMS, MOST_OPEN, MOST_TURNS, Test, states, StatementLine, send_line, on_line, done_line, repeat_line, break_line, stop_line, ParsedCommand, is_item, and_from, leb-true, OpenLines, OpenBlock, sending, unless, with_statement_line, ScriptLine, arm_on, block_done, send_at, repeat_of, break_out, stop_with, is_repeating, is_sending, awaits_arm, ReadError, Which, is_statement, Reached, may, may_all, le-leb, not-false, or_parts, outside, Context}
use Rattle.std.proofs.lemmas.Bool.{not_from_false}
use Rattle.std.proofs.lemmas.List.Sums.{AllPass-from_list_all, fold_push, list_all-from_AllPass, sum_by_push}
use Rattle.pr_script.specs.Grammar.{stands_under, is_test_declared, has_sense_digit, rise_above}
use Rattle.pr_text.specs.Declarations.{repeating}
use Rattle.pr_text.specs.Standing.{by_innermost, awaits_more, is_outside, may_close}
use Rattle.pr_text.specs.LineFaults.{out_of_place, past_limit_in, first_fault, statement_fault}
use Rattle.pr_text.specs.declared.fault.Which.TheVariants as which
use Rattle.pr_text.specs.Declaring.{is_spelled}
use Rattle.pr_text.specs.inside.Sound.{at_first, may_state, next, reach_after, sends_in, AreBegun}
use Rattle.pr_text.proofs.lemmas.Sound.Trees.{sends-append}

-- what holds of each, where it follows from what does
pub all_more : {A : Type 0} (p q : A → Bool) → ((x : A) → p x ≡ true → q x ≡ true) → (xs : List A) → list_all p xs ≡ true → list_all q xs ≡ true
all_more p q each xs h = list_all-from_AllPass q xs (λ k d below. each _ (AllPass-from_list_all p xs h k d below))

pub all_push : {A : Type 0} (p : A → Bool) (xs : List A) (x : A) → list_all p xs ≡ true → p x ≡ true → list_all p (xs ++ x ∷ []) ≡ true
all_push p xs x all is = list_all-append p xs (x ∷ []) ∙ and_from _ _ all (and_from _ _ is refl)

-- ---- one line more

may_more : (keys : List ℕ) (s : Reached) (ls : List ScriptLine) (l : ScriptLine) → may_all keys s ls ≡ true → may keys (reach_after s ls) l ≡ true → may_all keys s (ls ++ l ∷ []) ≡ true
may_more keys s [] l h k = and_from _ _ k refl
may_more keys s (x ∷ ls) l h k =
    let parts = and_parts (may keys s x) _ h in
    and_from _ _ parts.0 (may_more keys (next s x) ls l parts.1 k)

-- the numbers rise, also with one more, which is above all
rise_more : (low : ℕ) (xs : List ℕ) (n : ℕ) (one : Bool) → low ≤ n → rise_above low xs ≡ true → list_all (λ x. nat_le x n) xs ≡ true
    → (rise_above low (xs ++ cond one ((n + 1) ∷ []) []) ≡ true) × (list_all (λ x. nat_le x (n + 1)) (xs ++ cond one ((n + 1) ∷ []) []) ≡ true)
rise_more low [] n true h rising below = (grind (arith, nat_tests), grind (arith, nat_tests))
rise_more low [] n false h rising below = (refl, refl)
rise_more low (x ∷ xs) n one h rising below =
    let parts = and_parts (nat_lt low x) _ rising in
    let bound = and_parts (nat_le x n) _ below in
    let rest = rise_more x xs n one (leb-true x n bound.0) parts.1 bound.1 in
    (and_from _ _ parts.0 rest.0, and_from _ _ (le-leb x (n + 1) (omega (arith, leb-true x n bound.0))) rest.1)

pub later_begun : (keys : List ℕ) (n : ℕ) (o : OpenLines) → AreBegun keys n o → AreBegun keys (n + 1) o
later_begun keys n o h = record {
  standing = h.standing;
  reaching = h.reaching;
  counted = h.counted;
  short = h.short;
  rising = h.rising;
  passed = all_more (λ x. nat_le x n) (λ x. nat_le x (n + 1)) (λ x k. grind (arith, nat_tests)) (sends_in o.lines) h.passed;
  budget = h.budget;
}

abbrev state_of : OpenLines → Reached
state_of o = record { blocks = o.blocks; begun = o.begun }

-- a line more, which is a send or none, with so many statements more
line_more : (keys : List ℕ) (n : ℕ) (sent : Bool) (o p : OpenLines) (l : ScriptLine) → AreBegun keys n o
    → p.lines ≡ o.lines ++ l ∷ [] → sends_in (l ∷ []) ≡ cond sent ((n + 1) ∷ []) [] → p.budget ≡ o.budget
    → may keys (state_of o) l ≡ true → state_of p ≡ next (state_of o) l
    → p.statements ≡ o.statements + cond (is_statement l) 1 0 → p.statements ≤ MOST_STATEMENTS → AreBegun keys (n + 1) p
line_more keys n sent o p l h lines sends budget stands steps counts few =
    let same : sends_in p.lines ≡ sends_in o.lines ++ cond sent ((n + 1) ∷ []) [] = ap sends_in lines ∙ (sends-append o.lines (l ∷ []) ∙ ap (λ x. sends_in o.lines ++ x) sends) in
    let rise = rise_more 0 (sends_in o.lines) n sent (omega arith) h.rising h.passed in
    record {
      standing = ap (may_all keys at_first) lines ∙ may_more keys at_first o.lines l h.standing (ap (λ s. may keys s l) h.reaching ∙ stands);
      reaching = ap (reach_after at_first) lines ∙ (fold_push next at_first o.lines l ∙ (ap (λ s. next s l) h.reaching ∙ sym steps));
      counted = counts ∙ (ap (λ k. k + cond (is_statement l) 1 0) h.counted ∙ sym (ap (count_by is_statement) lines ∙ sum_by_push (λ x. cond (is_statement x) 1 0) o.lines l));
      short = le-leb p.statements MOST_STATEMENTS few;
      rising = rw same rise.0;
      passed = rw same rise.1;
      budget = rw budget h.budget;
    }

-- ---- the lines

pub ok_same : {A : Type 0} (x y : A) → ◌≡◌ {A = Result A ReadError} (Ok x) (Ok y) → x ≡ y
ok_same x y h = cc

not_full : (n : ℕ) → nat_le MOST_STATEMENTS n ≡ false → n + 1 ≤ MOST_STATEMENTS
not_full n h = grind (arith, nat_tests)

few_open : (n : ℕ) → nat_le MOST_OPEN n ≡ false → nat_lt n MOST_OPEN ≡ true
few_open n h = grind (arith, nat_tests)

pub passes : {A : Type 0} (o : Option ReadError) (x a : A) → unless o x ≡ Ok a → (o ≡ None) × (x ≡ a)
passes None x a h = (refl, cc)
passes (Some e) x a h = cc

pub skips : {A : Type 0} (b : Bool) (e : A) (o : Option A) → cond b (Some e) o ≡ None → (b ≡ false) × (o ≡ None)
skips true e o h = cc
skips false e o h = (refl, h)

-- what a line is not, where it has no fault
pub record Faultless (misplaced unknown undeclared again : Bool) (past : Option Which) : Type 0 where
  pub placed : misplaced ≡ false
  pub known : unknown ≡ false
  pub declared : undeclared ≡ false
  pub once : again ≡ false
  pub within : past ≡ None

pub faultless : (n : ℕ) (misplaced unknown undeclared again : Bool) (past : Option Which) → first_fault n misplaced unknown undeclared again past ≡ None
    → Faultless misplaced unknown undeclared again past
faultless n false false false false None h = record { placed = refl; known = refl; declared = refl; once = refl; within = refl }
faultless n _ _ _ _ _ h = cc

-- where a line may stand outside alone, and has no fault
pub stands_outside : (p : Context) (o : Option ReadError) (e : ReadError) → cond (is_outside p) o (Some e) ≡ None → (p ≡ outside) × (o ≡ None)
stands_outside outside o e h = (refl, h)
stands_outside _ o e h = cc

send_sound : (keys : List ℕ) (n : ℕ) (s : ParsedCommand) (o : OpenLines) → AreBegun keys n o → statement_fault (n + 1) keys o (send_line s) ≡ None
    → AreBegun keys (n + 1) (with_statement_line (n + 1) (send_line s) o)
send_sound keys n s o h clean =
    let b = faultless (n + 1) (awaits_arm o.blocks) false (not (is_spelled keys s)) false (past_limit_in o (send_line s)) clean in
    let c = skips (nat_le MOST_STATEMENTS o.statements) _ _ b.within in
    let d = skips (nat_le MOST_OPEN (count_by is_sending o.blocks)) _ _ c.1 in
    let written = (and_parts (is_written keys s.command) _ (not-false _ b.declared)).0 in
    line_more keys n true o (with_statement_line (n + 1) (send_line s) o) (send_at (n + 1) s.command) h refl refl refl
    (and_from _ _ (not_from_false (awaits_arm o.blocks) b.placed) (and_from _ _ written (few_open (count_by is_sending o.blocks) d.0))) refl refl (not_full o.statements c.0)

repeat_sound : (keys : List ℕ) (n count : ℕ) (o : OpenLines) → AreBegun keys n o → statement_fault (n + 1) keys o (repeat_line count) ≡ None
    → AreBegun keys (n + 1) (with_statement_line (n + 1) (repeat_line count) o)
repeat_sound keys n count o h clean =
    let b = faultless (n + 1) (awaits_arm o.blocks) false false false (past_limit_in o (repeat_line count)) clean in
    let c = skips (nat_le MOST_STATEMENTS o.statements) _ _ b.within in
    let d = skips (nat_le MOST_OPEN (count_by is_repeating o.blocks)) _ _ c.1 in
    let e = skips (not (nat_le 1 count && nat_le count MOST_TURNS)) _ _ d.1 in
    line_more keys n false o (with_statement_line (n + 1) (repeat_line count) o) (repeat_of count) h refl refl refl
    (and_from _ _ (not_from_false (awaits_arm o.blocks) b.placed) (and_from _ _ (not-false _ e.0) (few_open (count_by is_repeating o.blocks) d.0))) refl refl (not_full o.statements c.0)

state_true : (o : OpenLines) → awaits_more o ≡ false → may_state (state_of o) ≡ true
state_true o h = let parts = or_parts (awaits_arm o.blocks) _ h in and_from _ _ (not_from_false _ parts.0) (not_from_false _ parts.1)

some_open : (n : ℕ) → (n == 0) ≡ false → nat_lt 0 n ≡ true
some_open n h = grind (arith, nat_tests)

break_sound : (keys : List ℕ) (n : ℕ) (o : OpenLines) → AreBegun keys n o → statement_fault (n + 1) keys o break_line ≡ None
    → AreBegun keys (n + 1) (with_statement_line (n + 1) break_line o)
break_sound keys n o h clean =
    let b = faultless (n + 1) (out_of_place o break_line) false false false (past_limit_in o break_line) clean in
    let c = skips (nat_le MOST_STATEMENTS o.statements) _ _ b.within in
    let parts = or_parts (awaits_more o) _ b.placed in
    line_more keys n false o (with_statement_line (n + 1) break_line o) break_out h refl refl refl
    (and_from _ _ (state_true o parts.0) (some_open (count_by is_repeating o.blocks) parts.1)) refl refl (not_full o.statements c.0)

stop_sound : (keys : List ℕ) (n : ℕ) (word : List ℕ) (o : OpenLines) → is_name word ≡ true → AreBegun keys n o → statement_fault (n + 1) keys o (stop_line word) ≡ None
    → AreBegun keys (n + 1) (with_statement_line (n + 1) (stop_line word) o)
stop_sound keys n word o named h clean =
    let b = faultless (n + 1) (awaits_more o) false false false (past_limit_in o (stop_line word)) clean in
    let c = skips (nat_le MOST_STATEMENTS o.statements) _ _ b.within in
    line_more keys n false o (with_statement_line (n + 1) (stop_line word) o) (stop_with word) h refl refl refl
    (and_from _ _ (state_true o b.placed) named) refl refl (not_full o.statements c.0)

done_sound : (keys : List ℕ) (n : ℕ) (o : OpenLines) → AreBegun keys n o → statement_fault (n + 1) keys o done_line ≡ None
    → AreBegun keys (n + 1) (with_statement_line (n + 1) done_line o)
done_sound keys n o h clean =
    let b = faultless (n + 1) (not (may_close o.blocks o.begun)) false false false None clean in
    line_more keys n false o (with_statement_line (n + 1) done_line o) block_done h refl refl refl (not-false _ b.placed) refl (omega arith) (leb-true o.statements MOST_STATEMENTS h.short)

few_arms : (n : ℕ) → nat_le MOST_ARMS n ≡ false → nat_lt n MOST_ARMS ≡ true
few_arms n h = grind (arith, nat_tests)

-- what is wrong with an arm, where these blocks are open
abbrev arm_fault_under : ℕ → List ℕ → Test → List OpenBlock → Option ReadError
arm_fault_under n keys t bs =
    first_fault n (by_innermost true true (λ c arms. not (stands_under c t)) bs) false (not (is_test_declared keys t)) false
    (cond (by_innermost false false (λ c arms. nat_le MOST_ARMS arms) bs) (Some which.Arms) None)

-- the next arm
arm_sound : (keys : List ℕ) (n : ℕ) (t : Test) (o : OpenLines) (bs : List OpenBlock) → o.blocks ≡ bs → has_sense_digit t ≡ true → AreBegun keys n o → statement_fault (n + 1) keys o (on_line t) ≡ None
    → AreBegun keys (n + 1) (with_statement_line (n + 1) (on_line t) o)
arm_sound keys n t o ((sending c k) ∷ bs) e digit h clean =
    let b = faultless (n + 1) (not (stands_under c t)) false (not (is_test_declared keys t)) false (cond (nat_le MOST_ARMS k) (Some which.Arms) None) (sym (ap (λ xs. arm_fault_under (n + 1) keys t xs) e) ∙ clean) in
    let few = few_arms k (skips (nat_le MOST_ARMS k) _ _ b.within).0 in
    let fits = and_from _ _ digit (and_from _ _ (not-false _ b.placed) (not-false _ b.declared)) in
    line_more keys n false o (with_statement_line (n + 1) (on_line t) o) (arm_on t) h refl refl refl (rw e (and_from _ _ fits few)) (rw e refl) (omega arith) (leb-true o.statements MOST_STATEMENTS h.short)
arm_sound keys n t o [] e digit h clean = let none : arm_fault_under (n + 1) keys t [] ≡ None = sym (ap (λ xs. arm_fault_under (n + 1) keys t xs) e) ∙ clean in cc
arm_sound keys n t o (repeating ∷ bs) e digit h clean = let none : arm_fault_under (n + 1) keys t (repeating ∷ bs) ≡ None = sym (ap (λ xs. arm_fault_under (n + 1) keys t xs) e) ∙ clean in cc

pub script_sound : (keys : List ℕ) (n : ℕ) (l : StatementLine) (o : OpenLines) → is_item (states l) ≡ true → AreBegun keys n o → statement_fault (n + 1) keys o l ≡ None
    → AreBegun keys (n + 1) (with_statement_line (n + 1) l o)
script_sound keys n (send_line s) o i h clean = send_sound keys n s o h clean
script_sound keys n (on_line t) o i h clean = arm_sound keys n t o o.blocks refl i h clean
script_sound keys n done_line o i h clean = done_sound keys n o h clean
script_sound keys n (repeat_line count) o i h clean = repeat_sound keys n count o h clean
script_sound keys n break_line o i h clean = break_sound keys n o h clean
script_sound keys n (stop_line word) o i h clean = stop_sound keys n word o i h clean
