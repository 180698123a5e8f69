-- The lines of a script that fits have no fault.
use Rattle.pr_text.proofs.Common.{◌≡◌, ℕ, ◌+◌, ◌≤◌, Bool, true, false, not, ◌&&◌, List, [], ◌∷◌, ◌++◌, nat_lt, nat_le, ◌==◌, Ok, Err, count_by, Result, sym, refl, ap, ◌∙◌, append_assoc, append-nil, arith, list_all, and_parts, nat_tests, Command, is_written, test_fits, Stmt, Stmts, Arms, sends, repeats, none, more, no_arm, arm, breaks, stops, MOST_STATEMENTS, MOST_ARMS, MOST_OPEN, MOST_TURNS, Test, is_version, states, send_line, on_line, done_line, repeat_line, break_line, stop_line, and_from, leb-true, Declared, OpenLines, OpenBlock, sending, declared_keys, and_then, begun_script, ScriptLine, arm_on, block_done, statement_lines, body_lines, arms_lines, send_at, repeat_of, break_out, stop_with, all_said, is_repeating, is_sending, awaits_arm, ReadError, item_standing, script_step, is_line_of, not-true}
use Rattle.std.proofs.Common.{add_assoc}
use Rattle.pr_script.specs.Grammar.{stands_under, is_test_declared, has_sense_digit, count_of_arms, begins_body, is_send_written, is_repeat_written, statement_fits, statements_fit, arms_fit, count_of, count_of_all, count_in_arms}
use Rattle.pr_lines.specs.CommandWords.{without_keys}
use Rattle.pr_text.specs.Declarations.{repeating}
use Rattle.pr_text.specs.Standing.{is_in_repeat, may_close}
use Rattle.pr_text.specs.ScriptRoundTrip.{ScriptsHaveNoFault, said_by, number_of_line, script_said, within}
use Rattle.pr_text.proofs.lemmas.Sound.Trees.{count-cons}
use Rattle.pr_text.proofs.lemmas.LineFaults.Order.{in_version, stated}
use Rattle.pr_text.proofs.lemmas.ScriptRoundTrip.Versions.{body_dated, has_line}

-- what the lines make of an open script, one after another, under these declared keys
abbrev all_stepped : ℕ → List ℕ → List ScriptLine → OpenLines → Result OpenLines ReadError
all_stepped n keys [] o = Ok o
all_stepped n keys (l ∷ ls) o = and_then (script_step (number_of_line n l) keys (said_by l) o) (all_stepped n keys ls)

-- an open script by its parts
abbrev open_at : ℕ → ℕ → List ScriptLine → ℕ → List OpenBlock → Bool → OpenLines
open_at host budget ls k bs g = record { host = host; budget = budget; lines = ls; statements = k; blocks = bs; begun = g }

-- ---- single lines

pub goes : {A B : Type 0} (step : Result A ReadError) (a : A) (f : A → Result B ReadError) → step ≡ Ok a → and_then step f ≡ f a
goes step a f e = rw e refl

send_goes : (m : ℕ) (keys : List ℕ) (c : Command) (host budget : ℕ) (ls : List ScriptLine) (k : ℕ) (bs : List OpenBlock) (g : Bool)
    → awaits_arm bs ≡ false → is_written keys c ≡ true → nat_le MOST_STATEMENTS k ≡ false → nat_le MOST_OPEN (count_by is_sending bs) ≡ false
    → script_step m keys (send_line (without_keys c)) (open_at host budget ls k bs g) ≡ Ok (open_at host budget (ls ++ send_at m c ∷ []) (k + 1) (sending c 0 ∷ bs) false)
unfolding script_step
send_goes m keys c host budget ls k bs g free written short shallow = rw (free, written, short, shallow) refl

repeat_goes : (m : ℕ) (keys : List ℕ) (count : ℕ) (host budget : ℕ) (ls : List ScriptLine) (k : ℕ) (bs : List OpenBlock) (g : Bool)
    → awaits_arm bs ≡ false → nat_le MOST_STATEMENTS k ≡ false → nat_le MOST_OPEN (count_by is_repeating bs) ≡ false → (nat_le 1 count && nat_le count MOST_TURNS) ≡ true
    → script_step m keys (repeat_line count) (open_at host budget ls k bs g) ≡ Ok (open_at host budget (ls ++ repeat_of count ∷ []) (k + 1) (repeating ∷ bs) false)
unfolding script_step
repeat_goes m keys count host budget ls k bs g free short shallow counted = rw (free, short, shallow, counted) refl

break_goes : (m : ℕ) (keys : List ℕ) (host budget : ℕ) (ls : List ScriptLine) (k : ℕ) (bs : List OpenBlock) (g : Bool)
    → awaits_arm bs ≡ false → (is_in_repeat bs && not g) ≡ false → (count_by is_repeating bs == 0) ≡ false → nat_le MOST_STATEMENTS k ≡ false
    → script_step m keys break_line (open_at host budget ls k bs g) ≡ Ok (open_at host budget (ls ++ break_out ∷ []) (k + 1) bs true)
unfolding script_step
break_goes m keys host budget ls k bs g free begun inside short = rw (free, begun, inside, short) refl

stop_goes : (m : ℕ) (keys : List ℕ) (word : List ℕ) (host budget : ℕ) (ls : List ScriptLine) (k : ℕ) (bs : List OpenBlock) (g : Bool)
    → awaits_arm bs ≡ false → (is_in_repeat bs && not g) ≡ false → nat_le MOST_STATEMENTS k ≡ false
    → script_step m keys (stop_line word) (open_at host budget ls k bs g) ≡ Ok (open_at host budget (ls ++ stop_with word ∷ []) (k + 1) bs true)
unfolding script_step
stop_goes m keys word host budget ls k bs g free begun short = rw (free, begun, short) refl

test_stands : (keys : List ℕ) (c : Command) (t : Test) → test_fits keys c t ≡ true → (stands_under c t ≡ true) × (is_test_declared keys t ≡ true)
test_stands keys c t fits = and_parts (stands_under c t) _ (and_parts (has_sense_digit t) _ fits).1

arm_goes : (m : ℕ) (keys : List ℕ) (t : Test) (c : Command) (j : ℕ) (host budget : ℕ) (ls : List ScriptLine) (k : ℕ) (bs : List OpenBlock) (g : Bool)
    → stands_under c t ≡ true → is_test_declared keys t ≡ true → nat_le MOST_ARMS j ≡ false
    → script_step m keys (on_line t) (open_at host budget ls k (sending c j ∷ bs) g) ≡ Ok (open_at host budget (ls ++ arm_on t ∷ []) k (sending c (j + 1) ∷ bs) false)
unfolding script_step
arm_goes m keys t c j host budget ls k bs g under known short = rw (under, known, short) refl

done_goes : (m : ℕ) (keys : List ℕ) (host budget : ℕ) (ls : List ScriptLine) (k : ℕ) (b : OpenBlock) (bs : List OpenBlock) (g : Bool)
    → may_close (b ∷ bs) g ≡ true
    → script_step m keys done_line (open_at host budget ls k (b ∷ bs) g) ≡ Ok (open_at host budget (ls ++ block_done ∷ []) k bs true)
unfolding script_step
done_goes m keys host budget ls k b bs g closes = rw closes refl

-- ---- where statements may stand

record Stands (repeated sent : ℕ) (bs : List OpenBlock) : Type 0 where
  repeats_are : count_by is_repeating bs ≡ repeated
  sends_are : count_by is_sending bs ≡ sent
  free : awaits_arm bs ≡ false

abbrev may_begin : Stmt → List OpenBlock → Bool → Bool
may_begin (sends n c a) bs g = true
may_begin (repeats n b) bs g = true
may_begin x bs g = not (is_in_repeat bs && not g)

abbrev may_follow : Stmts → List OpenBlock → Bool → Bool
may_follow none bs g = true
may_follow (more x rest) bs g = may_begin x bs g

-- whether there is a statement behind these
abbrev begun_after : Stmts → Bool → Bool
begun_after none g = g
begun_after (more x rest) g = true

abbrev begun_arms : Arms → Bool → Bool
begun_arms no_arm g = g
begun_arms (arm t b rest) g = begun_arms rest (begun_after b false)

after_one : (b : Bool) → not (b && false) ≡ true
after_one true = refl
after_one false = refl

follows_in_arm : (b : Stmts) (c : Command) (j : ℕ) (bs : List OpenBlock) (g : Bool) → may_follow b (sending c j ∷ bs) g ≡ true
follows_in_arm (more (sends n d a) rest) c j bs g = refl
follows_in_arm _ c j bs g = refl

follows_one : (b : Stmts) (bs : List OpenBlock) → may_follow b bs true ≡ true
follows_one (more breaks rest) bs = after_one (is_in_repeat bs)
follows_one (more (stops w) rest) bs = after_one (is_in_repeat bs)
follows_one _ bs = refl

follows_repeat : (b : Stmts) (bs : List OpenBlock) (g : Bool) → begins_body b ≡ true → may_follow b bs g ≡ true
follows_repeat (more breaks rest) bs g h = cc
follows_repeat (more (stops w) rest) bs g h = cc
follows_repeat _ bs g h = refl

begun_by : (b : Stmts) (g : Bool) → begins_body b ≡ true → begun_after b g ≡ true
begun_by none g h = cc
begun_by (more x rest) g h = refl

follows_first : (b : Stmts) → may_follow b [] false ≡ true
follows_first (more (sends n d a) rest) = refl
follows_first _ = refl

-- ---- counts

short_now : (k n : ℕ) → k + (1 + n) ≤ MOST_STATEMENTS → nat_le MOST_STATEMENTS k ≡ false
short_now k n h = grind (arith, nat_tests)

shallow : (n s : ℕ) → n ≡ s → nat_lt s MOST_OPEN ≡ true → nat_le MOST_OPEN n ≡ false
shallow n s e h = grind (arith, nat_tests)

inside : (n r : ℕ) → n ≡ r → nat_lt 0 r ≡ true → (n == 0) ≡ false
inside n r e h = grind (arith, nat_tests)

few_arms : (j n : ℕ) → j + (1 + n) ≤ MOST_ARMS → nat_le MOST_ARMS j ≡ false
few_arms j n h = grind (arith, nat_tests)

some_arm : (j : ℕ) → (j + 1 == 0) ≡ false
some_arm j = grind (arith, nat_tests)

stands_armed : (r s : ℕ) (c : Command) (j : ℕ) (bs : List OpenBlock) → count_by is_repeating bs ≡ r → count_by is_sending bs ≡ s → Stands r (s + 1) (sending c (j + 1) ∷ bs)
stands_armed r s c j bs a b = record { repeats_are = omega (arith, count-cons is_repeating (sending c (j + 1)) bs, a); sends_are = omega (arith, count-cons is_sending (sending c (j + 1)) bs, b); free = some_arm j }

stands_repeated : (r s : ℕ) (bs : List OpenBlock) → Stands r s bs → Stands (r + 1) s (repeating ∷ bs)
stands_repeated r s bs h = record { repeats_are = omega (arith, count-cons is_repeating repeating bs, h.repeats_are); sends_are = omega (arith, count-cons is_sending repeating bs, h.sends_are); free = refl }

same_at : (host budget : ℕ) (ls ks : List ScriptLine) (j k : ℕ) (bs cs : List OpenBlock) (f g : Bool) → ls ≡ ks → j ≡ k → bs ≡ cs → f ≡ g
    → open_at host budget ls j bs f ≡ open_at host budget ks k cs g
same_at host budget ls ks j k bs cs f g a b c d = cc

same_arms : (c : Command) (i j : ℕ) (bs : List OpenBlock) → i ≡ j → ◌≡◌ {A = List OpenBlock} (sending c i ∷ bs) (sending c j ∷ bs)
same_arms c i j bs e = cc

block_joined : (ls : List ScriptLine) (x : ScriptLine) (inner : List ScriptLine) → ((ls ++ x ∷ []) ++ inner) ++ block_done ∷ [] ≡ ls ++ x ∷ (inner ++ block_done ∷ [])
block_joined ls x inner = simp append_assoc

arms_joined : (ls : List ScriptLine) (x : ScriptLine) (body rest : List ScriptLine) → ((ls ++ x ∷ []) ++ body) ++ rest ≡ ls ++ x ∷ (body ++ rest)
arms_joined ls x body rest = simp append_assoc

-- ---- statements, bodies and arms

mutual
  statement_goes : (n : ℕ) (keys : List ℕ) (host budget : ℕ) (x : Stmt) (r s : ℕ) (u ls : List ScriptLine) (k : ℕ) (bs : List OpenBlock) (g : Bool)
      → statement_fits keys r s x ≡ true → Stands r s bs → may_begin x bs g ≡ true → k + count_of x ≤ MOST_STATEMENTS
      → all_stepped n keys (statement_lines x ++ u) (open_at host budget ls k bs g) ≡ all_stepped n keys u (open_at host budget (ls ++ statement_lines x) (k + count_of x) bs true)
  statement_goes n keys host budget (sends m c a) r s u ls k bs g fits stands begins few =
      let p = and_parts (is_send_written keys c a) _ fits in
      let written = and_parts (is_written keys c) _ p.0 in
      let q = and_parts (nat_lt s MOST_OPEN) _ p.1 in
      goes _ _ (all_stepped n keys ((arms_lines a ++ block_done ∷ []) ++ u))
      (send_goes m keys c host budget ls k bs g stands.free written.0 (short_now k _ few) (shallow _ s stands.sends_are q.0))
      ∙ (ap (λ v. all_stepped n keys v (open_at host budget (ls ++ send_at m c ∷ []) (k + 1) (sending c 0 ∷ bs) false)) (append_assoc (arms_lines a) (block_done ∷ []) u)
      ∙ (arms_goes n keys host budget c a r s (block_done ∷ u) (ls ++ send_at m c ∷ []) (k + 1) 0 bs false q.1 stands.repeats_are stands.sends_are
      (omega (arith, leb-true (count_of_arms a) MOST_ARMS written.1)) (omega arith)
      ∙ (goes _ _ (all_stepped n keys u) (done_goes n keys host budget _ _ (sending c (0 + count_of_arms a)) bs _ refl)
      ∙ ap (all_stepped n keys u) (same_at host budget _ _ _ _ bs bs true true (block_joined ls (send_at m c) (arms_lines a)) (add_assoc k 1 (count_in_arms a)) refl refl))))
  statement_goes n keys host budget (repeats count b) r s u ls k bs g fits stands begins few =
      let p = and_parts (is_repeat_written count b) _ fits in
      let written = and_parts (nat_le 1 count) _ p.0 in
      let body = and_parts (nat_le count MOST_TURNS) _ written.1 in
      let q = and_parts (nat_lt r MOST_OPEN) _ p.1 in
      goes _ _ (all_stepped n keys ((body_lines b ++ block_done ∷ []) ++ u))
      (repeat_goes n keys count host budget ls k bs g stands.free (short_now k _ few) (shallow _ r stands.repeats_are q.0) (and_from _ _ written.0 body.0))
      ∙ (ap (λ v. all_stepped n keys v (open_at host budget (ls ++ repeat_of count ∷ []) (k + 1) (repeating ∷ bs) false)) (append_assoc (body_lines b) (block_done ∷ []) u)
      ∙ (body_goes n keys host budget b (r + 1) s (block_done ∷ u) (ls ++ repeat_of count ∷ []) (k + 1) (repeating ∷ bs) false q.1 (stands_repeated r s bs stands)
      (follows_repeat b (repeating ∷ bs) false body.1) (omega arith)
      ∙ (goes _ _ (all_stepped n keys u) (done_goes n keys host budget _ _ repeating bs _ (begun_by b false body.1))
      ∙ ap (all_stepped n keys u) (same_at host budget _ _ _ _ bs bs true true (block_joined ls (repeat_of count) (body_lines b)) (add_assoc k 1 (count_of_all b)) refl refl))))
  statement_goes n keys host budget breaks r s u ls k bs g fits stands begins few =
      goes _ _ (all_stepped n keys u)
      (break_goes n keys host budget ls k bs g stands.free (not-true _ begins) (inside _ r stands.repeats_are fits) (short_now k 0 few))
  statement_goes n keys host budget (stops w) r s u ls k bs g fits stands begins few =
      goes _ _ (all_stepped n keys u)
      (stop_goes n keys w host budget ls k bs g stands.free (not-true _ begins) (short_now k 0 few))

  body_goes : (n : ℕ) (keys : List ℕ) (host budget : ℕ) (b : Stmts) (r s : ℕ) (u ls : List ScriptLine) (k : ℕ) (bs : List OpenBlock) (g : Bool)
      → statements_fit keys r s b ≡ true → Stands r s bs → may_follow b bs g ≡ true → k + count_of_all b ≤ MOST_STATEMENTS
      → all_stepped n keys (body_lines b ++ u) (open_at host budget ls k bs g) ≡ all_stepped n keys u (open_at host budget (ls ++ body_lines b) (k + count_of_all b) bs (begun_after b g))
  body_goes n keys host budget none r s u ls k bs g fits stands follows few =
      ap (all_stepped n keys u) (same_at host budget _ _ _ _ bs bs g g (sym (append-nil ls)) (omega arith) refl refl)
  body_goes n keys host budget (more x rest) r s u ls k bs g fits stands follows few =
      let p = and_parts (statement_fits keys r s x) _ fits in
      ap (λ v. all_stepped n keys v (open_at host budget ls k bs g)) (append_assoc (statement_lines x) (body_lines rest) u)
      ∙ (statement_goes n keys host budget x r s (body_lines rest ++ u) ls k bs g p.0 stands follows (omega arith)
      ∙ (body_goes n keys host budget rest r s u (ls ++ statement_lines x) (k + count_of x) bs true p.1 stands (follows_one rest bs) (omega arith)
      ∙ ap (all_stepped n keys u) (same_at host budget _ _ _ _ bs bs _ true (append_assoc ls (statement_lines x) (body_lines rest)) (add_assoc k (count_of x) (count_of_all rest)) refl (elim rest as (λ b. begun_after b true ≡ true) [ none ↦ refl | more y others ↦ refl ]))))

  arms_goes : (n : ℕ) (keys : List ℕ) (host budget : ℕ) (c : Command) (a : Arms) (r s : ℕ) (u ls : List ScriptLine) (k j : ℕ) (bs : List OpenBlock) (g : Bool)
      → arms_fit keys r (s + 1) c a ≡ true → count_by is_repeating bs ≡ r → count_by is_sending bs ≡ s → j + count_of_arms a ≤ MOST_ARMS → k + count_in_arms a ≤ MOST_STATEMENTS
      → all_stepped n keys (arms_lines a ++ u) (open_at host budget ls k (sending c j ∷ bs) g)
      ≡ all_stepped n keys u (open_at host budget (ls ++ arms_lines a) (k + count_in_arms a) (sending c (j + count_of_arms a) ∷ bs) (begun_arms a g))
  arms_goes n keys host budget c no_arm r s u ls k j bs g fits repeated sent arms few =
      ap (all_stepped n keys u) (same_at host budget _ _ _ _ _ _ g g (sym (append-nil ls)) (omega arith) (same_arms c j (j + 0) bs (omega arith)) refl)
  arms_goes n keys host budget c (arm t b rest) r s u ls k j bs g fits repeated sent arms few =
      let p = and_parts (test_fits keys c t && statements_fit keys r (s + 1) b) _ fits in
      let q = and_parts (test_fits keys c t) _ p.0 in
      let known = test_stands keys c t q.0 in
      goes _ _ (all_stepped n keys ((body_lines b ++ arms_lines rest) ++ u))
      (arm_goes n keys t c j host budget ls k bs g known.0 known.1 (few_arms j (count_of_arms rest) arms))
      ∙ (ap (λ v. all_stepped n keys v (open_at host budget (ls ++ arm_on t ∷ []) k (sending c (j + 1) ∷ bs) false)) (append_assoc (body_lines b) (arms_lines rest) u)
      ∙ (body_goes n keys host budget b r (s + 1) (arms_lines rest ++ u) (ls ++ arm_on t ∷ []) k (sending c (j + 1) ∷ bs) false q.1 (stands_armed r s c j bs repeated sent)
      (follows_in_arm b c (j + 1) bs false) (omega arith)
      ∙ (arms_goes n keys host budget c rest r s u ((ls ++ arm_on t ∷ []) ++ body_lines b) (k + count_of_all b) (j + 1) bs (begun_after b false) p.1 repeated sent
      (omega arith) (omega arith)
      ∙ ap (all_stepped n keys u) (same_at host budget _ _ _ _ _ _ _ _ (arms_joined ls (arm_on t) (body_lines b) (arms_lines rest)) (add_assoc k (count_of_all b) (count_in_arms rest))
      (same_arms c _ _ bs (add_assoc j 1 (count_of_arms rest))) refl))))

-- ---- a whole script

taken : (n : ℕ) (d : Declared) (l : ScriptLine) (o : OpenLines)
    → item_standing (number_of_line n l) (states (said_by l)) (within d o) ≡ and_then (script_step (number_of_line n l) (declared_keys d) (said_by l) o) (λ q. Ok (within d q))
taken n d l o = stated (number_of_line n l) (said_by l) o d

step_then : (n : ℕ) (d : Declared) (r : Result OpenLines ReadError) (ls : List ScriptLine)
    → ((o : OpenLines) → all_said (script_said n ls) (within d o) ≡ and_then (all_stepped n (declared_keys d) ls o) (λ q. Ok (within d q)))
    → and_then (and_then r (λ q. Ok (within d q))) (all_said (script_said n ls)) ≡ and_then (and_then r (all_stepped n (declared_keys d) ls)) (λ q. Ok (within d q))
step_then n d (Ok q) ls rest = rest q
step_then n d (Err e) ls rest = refl

all_step : (n : ℕ) (d : Declared) (ls : List ScriptLine) (o : OpenLines) → is_version d.version ≡ true → list_all (is_line_of d.version) ls ≡ true
    → all_said (script_said n ls) (within d o) ≡ and_then (all_stepped n (declared_keys d) ls o) (λ q. Ok (within d q))
all_step n d [] o known has = refl
all_step n d (l ∷ ls) o known has =
    let parts = and_parts (is_line_of d.version l) _ has in
    ap (λ r. and_then r (all_said (script_said n ls))) (in_version (number_of_line n l) (states (said_by l)) (within d o) (has_line d.version l known parts.0) ∙ taken n d l o)
    ∙ step_then n d (script_step (number_of_line n l) (declared_keys d) (said_by l) o) ls (λ q. all_step n d ls q known parts.1)

pub reread : ScriptsHaveNoFault
reread n d host budget b known has fits =
    let keys = declared_keys d in
    let p = and_parts (statements_fit keys 0 0 b) _ fits in
    let q = and_parts (nat_le (count_of_all b) MOST_STATEMENTS) _ p.1 in
    let script = open_at host budget (body_lines b) (0 + count_of_all b) [] (begun_after b false) in
    let steps : all_stepped n keys (body_lines b) (begun_script host budget) ≡ Ok script =
    ap (λ ls. all_stepped n keys ls (open_at host budget [] 0 [] false)) (sym (append-nil (body_lines b)))
    ∙ body_goes n keys host budget b 0 0 [] [] 0 [] false p.0 (record { repeats_are = refl; sends_are = refl; free = refl }) (follows_first b) (omega (arith, leb-true (count_of_all b) MOST_STATEMENTS q.0)) in
    record {
      script = script;
      stepped = all_step n d (body_lines b) (begun_script host budget) known (body_dated d.version b ∙ has) ∙ goes _ script (λ o. Ok (within d o)) steps;
      host_is = refl;
      budget_is = refl;
      lines_are = refl;
      closed = refl;
    }
