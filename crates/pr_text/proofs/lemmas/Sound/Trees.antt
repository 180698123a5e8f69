-- Scripts whose lines may stand where they do follow the grammar.
use Rattle.pr_text.proofs.Common.{◌≡◌, ℕ, ◌+◌, ◌≤◌, Bool, true, false, cond, not, ◌&&◌, List, [], ◌∷◌, ◌++◌, nat_lt, nat_le, count_by, refl, ap, ◌∙◌, subst, append_assoc, append-nil, arith, and_parts, Command, is_written, test_fits, Stmt, Stmts, Arms, sends, repeats, none, more, no_arm, arm, breaks, stops, MOST_STATEMENTS, MOST_ARMS, MOST_OPEN, MOST_TURNS, and_from, OpenBlock, sending, ScriptLine, arm_on, block_done, statement_lines, body_lines, arms_lines, send_at, repeat_of, break_out, stop_with, is_repeating, is_sending, awaits_arm, is_statement, Reached, may, may_all, le-leb}
use Rattle.std.proofs.lemmas.Bool.{ltb-true}
use Rattle.std.proofs.lemmas.List.Sums.{sum_by-cons, sum_by-append}
use Rattle.pr_script.specs.Grammar.{count_of_arms, begins_body, statement_fits, statements_fit, arms_fit, count_of, count_of_all, count_in_arms, lines_of, lines_of_all, lines_of_arms, rise_above, script_fits}
use Rattle.pr_text.specs.Declarations.{repeating}
use Rattle.pr_text.specs.inside.Sound.{may_state, sends_in, AreWhole}

-- ---- the blocks

pub count-cons : {X : Type 0} (p : X → Bool) (x : X) (xs : List X) → count_by p (x ∷ xs) ≡ cond (p x) 1 0 + count_by p xs
count-cons p x xs = sum_by-cons (λ y. cond (p y) 1 0) x xs

abbrev state : List OpenBlock → Bool → Reached
state bs begun = record { blocks = bs; begun = begun }

abbrev May : List ℕ → List OpenBlock → Bool → List ScriptLine → Type 0
May keys bs begun ls = may_all keys (state bs begun) ls ≡ true

-- what is so of statements, and of the lines behind them
record Stand (keys : List ℕ) (fits : Bool) (bs : List OpenBlock) (rest : List ScriptLine) : Type 0 where
  fitting : fits ≡ true
  begun : Bool
  behind : May keys bs begun rest

record StandArms (keys : List ℕ) (fits : Bool) (n : ℕ) (bs : List OpenBlock) (rest : List ScriptLine) : Type 0 where
  fitting : fits ≡ true
  few : n ≤ MOST_ARMS
  behind : May keys bs true rest

-- the first statement of a repeat
begins : (keys : List ℕ) (b : Stmts) (bs : List OpenBlock) (rest : List ScriptLine) → May keys (repeating ∷ bs) false (body_lines b ++ block_done ∷ rest) → begins_body b ≡ true
begins keys (more (sends n c a) ss) bs rest h = refl
begins keys (more (repeats n b) ss) bs rest h = refl
begins keys _ bs rest h = h

mutual
  statement_stands : (keys : List ℕ) (x : Stmt) (bs : List OpenBlock) (begun : Bool) (rest : List ScriptLine) (r s : ℕ)
      → count_by is_repeating bs ≡ r → count_by is_sending bs ≡ s
      → May keys bs begun (statement_lines x ++ rest) → Stand keys (statement_fits keys r s x) bs rest
  statement_stands keys (sends n c a) bs begun rest r s er es h =
      let parts = and_parts (may keys (state bs begun) (send_at n c)) _ h in
      let tests = and_parts (is_written keys c) _ (and_parts (not (awaits_arm bs)) _ parts.0).1 in
      let inner : May keys (sending c 0 ∷ bs) false (arms_lines a ++ block_done ∷ rest) = subst (May keys (sending c 0 ∷ bs) false) (append_assoc (arms_lines a) (block_done ∷ []) rest) parts.1 in
      let arms = arms_stand keys a bs c 0 false rest r s er es (omega arith) inner in
      let room : nat_lt s MOST_OPEN ≡ true = rw es at tests.1 in
      record {
        fitting = and_from _ _ (and_from _ _ tests.0 (le-leb (count_of_arms a) MOST_ARMS (omega (arith, arms.few)))) (and_from _ _ room arms.fitting);
        begun = true;
        behind = arms.behind;
      }
  statement_stands keys (repeats n b) bs begun rest r s er es h =
      let parts = and_parts (may keys (state bs begun) (repeat_of n)) _ h in
      let tests = and_parts (nat_le 1 n && nat_le n MOST_TURNS) _ (and_parts (not (awaits_arm bs)) _ parts.0).1 in
      let bounds = and_parts (nat_le 1 n) _ tests.0 in
      let inner : May keys (repeating ∷ bs) false (body_lines b ++ block_done ∷ rest) = subst (May keys (repeating ∷ bs) false) (append_assoc (body_lines b) (block_done ∷ []) rest) parts.1 in
      let body = statements_stand keys b (repeating ∷ bs) false (block_done ∷ rest) (r + 1) s (omega (arith, count-cons is_repeating repeating bs, er)) (omega (arith, count-cons is_sending repeating bs, es)) inner in
      let done = and_parts body.begun _ body.behind in
      let room : nat_lt r MOST_OPEN ≡ true = rw er at tests.1 in
      record {
        fitting = and_from _ _ (and_from _ _ bounds.0 (and_from _ _ bounds.1 (begins keys b bs rest inner))) (and_from _ _ room body.fitting);
        begun = true;
        behind = done.1;
      }
  statement_stands keys breaks bs begun rest r s er es h =
      let parts = and_parts (may keys (state bs begun) break_out) _ h in
      let inside = (and_parts (may_state (state bs begun)) _ parts.0).1 in
      record { fitting = rw er at inside; begun = true; behind = parts.1 }
  statement_stands keys (stops w) bs begun rest r s er es h =
      let parts = and_parts (may keys (state bs begun) (stop_with w)) _ h in
      record { fitting = (and_parts (may_state (state bs begun)) _ parts.0).1; begun = true; behind = parts.1 }

  statements_stand : (keys : List ℕ) (ss : Stmts) (bs : List OpenBlock) (begun : Bool) (rest : List ScriptLine) (r s : ℕ)
      → count_by is_repeating bs ≡ r → count_by is_sending bs ≡ s
      → May keys bs begun (body_lines ss ++ rest) → Stand keys (statements_fit keys r s ss) bs rest
  statements_stand keys none bs begun rest r s er es h = record { fitting = refl; begun = begun; behind = h }
  statements_stand keys (more x ss) bs begun rest r s er es h =
      let whole : May keys bs begun (statement_lines x ++ (body_lines ss ++ rest)) = subst (May keys bs begun) (append_assoc (statement_lines x) (body_lines ss) rest) h in
      let first = statement_stands keys x bs begun (body_lines ss ++ rest) r s er es whole in
      let others = statements_stand keys ss bs first.begun rest r s er es first.behind in
      record { fitting = and_from _ _ first.fitting others.fitting; begun = others.begun; behind = others.behind }

  arms_stand : (keys : List ℕ) (a : Arms) (bs : List OpenBlock) (c : Command) (k : ℕ) (begun : Bool) (rest : List ScriptLine) (r s : ℕ)
      → count_by is_repeating bs ≡ r → count_by is_sending bs ≡ s → k ≤ MOST_ARMS
      → May keys (sending c k ∷ bs) begun (arms_lines a ++ block_done ∷ rest) → StandArms keys (arms_fit keys r (s + 1) c a) (k + count_of_arms a) bs rest
  arms_stand keys no_arm bs c k begun rest r s er es few h = record { fitting = refl; few = omega arith; behind = h }
  arms_stand keys (arm t body others) bs c k begun rest r s er es few h =
      let parts = and_parts (test_fits keys c t && nat_lt k MOST_ARMS) _ h in
      let tests = and_parts (test_fits keys c t) _ parts.0 in
      let below = ltb-true k MOST_ARMS tests.1 in
      let whole : May keys (sending c (k + 1) ∷ bs) false (body_lines body ++ (arms_lines others ++ block_done ∷ rest)) = subst (May keys (sending c (k + 1) ∷ bs) false) (append_assoc (body_lines body) (arms_lines others) (block_done ∷ rest)) parts.1 in
      let inner = statements_stand keys body (sending c (k + 1) ∷ bs) false (arms_lines others ++ block_done ∷ rest) r (s + 1)
      (omega (arith, count-cons is_repeating (sending c (k + 1)) bs, er)) (omega (arith, count-cons is_sending (sending c (k + 1)) bs, es)) whole in
      let next = arms_stand keys others bs c (k + 1) inner.begun rest r s er es (omega arith) inner.behind in
      record {
        fitting = and_from _ _ (and_from _ _ tests.0 inner.fitting) next.fitting;
        few = omega (arith, next.few);
        behind = next.behind;
      }

-- ---- the counts

abbrev counted : List ScriptLine → ℕ
counted ls = count_by is_statement ls

counted-append : (xs ys : List ScriptLine) → counted (xs ++ ys) ≡ counted xs + counted ys
counted-append xs ys = sum_by-append (λ l. cond (is_statement l) 1 0) xs ys

counted-cons : (l : ScriptLine) (ls : List ScriptLine) → counted (l ∷ ls) ≡ cond (is_statement l) 1 0 + counted ls
counted-cons l ls = count-cons is_statement l ls

mutual
  statement_counted : (x : Stmt) → counted (statement_lines x) ≡ count_of x
  statement_counted (sends n c a) =
      omega (arith, arms_counted a, counted-cons (send_at n c) (arms_lines a ++ block_done ∷ []), counted-append (arms_lines a) (block_done ∷ []), counted-cons block_done [])
  statement_counted (repeats n b) =
      omega (arith, body_counted b, counted-cons (repeat_of n) (body_lines b ++ block_done ∷ []), counted-append (body_lines b) (block_done ∷ []), counted-cons block_done [])
  statement_counted _ = refl

  body_counted : (b : Stmts) → counted (body_lines b) ≡ count_of_all b
  body_counted none = refl
  body_counted (more x ss) = omega (arith, statement_counted x, body_counted ss, counted-append (statement_lines x) (body_lines ss))

  arms_counted : (a : Arms) → counted (arms_lines a) ≡ count_in_arms a
  arms_counted no_arm = refl
  arms_counted (arm t body rest) =
      omega (arith, body_counted body, arms_counted rest, counted-cons (arm_on t) (body_lines body ++ arms_lines rest), counted-append (body_lines body) (arms_lines rest))

-- ---- the lines of the sends

pub sends-append : (xs ys : List ScriptLine) → sends_in (xs ++ ys) ≡ sends_in xs ++ sends_in ys
sends-append [] ys = refl
sends-append ((send_at n c) ∷ xs) ys = ap (λ l. n ∷ l) (sends-append xs ys)
sends-append ((arm_on t) ∷ xs) ys = sends-append xs ys
sends-append (block_done ∷ xs) ys = sends-append xs ys
sends-append ((repeat_of n) ∷ xs) ys = sends-append xs ys
sends-append (break_out ∷ xs) ys = sends-append xs ys
sends-append ((stop_with w) ∷ xs) ys = sends-append xs ys

mutual
  statement_sends : (x : Stmt) → sends_in (statement_lines x) ≡ lines_of x
  statement_sends (sends n c a) = ap (λ l. n ∷ l) (sends-append (arms_lines a) (block_done ∷ []) ∙ (append-nil (sends_in (arms_lines a)) ∙ arms_sends a))
  statement_sends (repeats n b) = sends-append (body_lines b) (block_done ∷ []) ∙ (append-nil (sends_in (body_lines b)) ∙ body_sends b)
  statement_sends _ = refl

  body_sends : (b : Stmts) → sends_in (body_lines b) ≡ lines_of_all b
  body_sends none = refl
  body_sends (more x ss) = sends-append (statement_lines x) (body_lines ss) ∙ (ap (λ l. l ++ sends_in (body_lines ss)) (statement_sends x) ∙ ap (λ l. lines_of x ++ l) (body_sends ss))

  arms_sends : (a : Arms) → sends_in (arms_lines a) ≡ lines_of_arms a
  arms_sends no_arm = refl
  arms_sends (arm t body rest) =
      sends-append (body_lines body) (arms_lines rest) ∙ (ap (λ l. l ++ sends_in (arms_lines rest)) (body_sends body) ∙ ap (λ l. lines_of_all body ++ l) (arms_sends rest))

-- a script whose lines are whole fits
pub whole_fits : (keys : List ℕ) (b : Stmts) → AreWhole keys (body_lines b) → script_fits keys b ≡ true
whole_fits keys b whole =
    let standing : May keys [] false (body_lines b ++ []) = rw (append-nil (body_lines b)) whole.standing in
    let fits = statements_stand keys b [] false [] 0 0 refl refl standing in
    and_from (statements_fit keys 0 0 b) _ fits.fitting (and_from (nat_le (count_of_all b) MOST_STATEMENTS) (rise_above 0 (lines_of_all b)) (rw (← body_counted b) whole.short) (rw (← body_sends b) whole.rising))
