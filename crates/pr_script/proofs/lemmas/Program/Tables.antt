-- How a table grows by rows.
use Rattle.pr_script.proofs.Common.{◌≡◌, ℕ, suc, ◌+◌, ◌-◌, ◌<◌, ◌≤◌, List, [], ◌∷◌, ◌++◌, length, get_or, take, drop, Vec, Global, sym, refl, ap, ◌∙◌, subst, inl, inr, arith, Command, depth_of_all, Stmt, sends, repeats, Stmts, none, more, Arms, arm, before, statement_of, statements_in, script_of, MOST_OPEN, Instruction, Operation, Arm, Statement, arms_in, IsCompiled, AreArmsCompiled, place, step_at, IsStep, IsTable, configuration, deepest, IsPlaced, meanings}
use Rattle.std.proofs.Common.{add-one, drop-cons, one-add}
use Rattle.std.proofs.lemmas.List.{length-append}
use Rattle.std.proofs.Math.ListN.{get_or-append}
use Rattle.std.proofs.Math.Seq.{get_or-append_seam}
use Rattle.std.proofs.Math.Nat.{eq-or-lt_of_le}
use Rattle.pr_script.specs.declared.rows.Operation.TheVariants.{Send, Repeat}
use Rattle.pr_script.specs.declared.rows.ArmTarget.{ArmTarget}
use Rattle.pr_script.specs.inside.Program.{concatenation, size, first_statements, without_end, arms_at, row_at, AreJumps, IsRow}
use Rattle.pr_script.specs.inside.Compiled.{Grows, IsStepCompiled}
use Rattle.pr_script.proofs.lemmas.Program.Places.{length-meanings, meanings-push, place-zero}
use Rattle.pr_script.proofs.lemmas.Program.OpenRepeats.{deepest-before}
use Rattle.pr_script.proofs.lemmas.Trees.ListTails.{taken, with_last_arm, arms_in-append}

-- ---- lists of statements

joined-none : (b : Stmts) → concatenation b none ≡ b
joined-none none = refl
joined-none (more s b) = ap (more s) (joined-none b)

size-joined : (b e : Stmts) → size (concatenation b e) ≡ size b + size e
size-joined none e = omega arith
size-joined (more s b) e = omega (arith, size-joined b e)

front-joined : (b e : Stmts) → first_statements (size b) (concatenation b e) ≡ b
front-joined none e = refl
front-joined (more s b) e = ap (λ n. first_statements n (more s (concatenation b e))) (one-add (size b)) ∙ ap (more s) (front-joined b e)

without_end-joined : (b e : Stmts) → without_end (concatenation b e) e ≡ b
without_end-joined b e =
    let rest : size (concatenation b e) - size e ≡ size b = omega (arith, size-joined b e) in
    ap (λ n. first_statements n (concatenation b e)) rest ∙ front-joined b e

-- ---- two tables that agree up to a place

module _ (ms ms' : List Stmts) (top wider next : ℕ) (agree : (k : ℕ) → k ≤ top → place ms' k ≡ place ms k) (bound : top ≤ wider) (within : next ≤ top) where
  jumps_alike : (js : List ArmTarget) → AreJumps ms top next js → AreJumps ms' wider next js
  jumps_alike [] h = tt
  jumps_alike (j ∷ js) h =
      let whole = agree j.place h.0 in let end = agree next within in
      let same = subst (λ w. concatenation (without_end w (place ms' next)) (place ms' next) ≡ w) (sym whole)
      (subst (λ e. concatenation (without_end (place ms j.place) e) e ≡ place ms j.place) (sym end) h.1) in
      (omega (arith, h.0), same, jumps_alike js h.2)

  arms_alike : (js : List ArmTarget) → AreJumps ms top next js → arms_at ms' next js ≡ arms_at ms next js
  arms_alike [] h = refl
  arms_alike (j ∷ js) h =
      ap (λ w. arm j.test (without_end w (place ms' next)) (arms_at ms' next js)) (agree j.place h.0)
      ∙ ap (λ e. arm j.test (without_end (place ms j.place) e) (arms_at ms' next js)) (agree next within)
      ∙ ap (arm j.test (without_end (place ms j.place) (place ms next))) (arms_alike js h.2)

  step_alike : (step : Operation) → IsStep ms top next step → IsStep ms' wider next step
  step_alike (Send line command arms) h = jumps_alike arms.items h
  step_alike (Repeat count body) h = omega (arith, h)
  step_alike _ h = tt

  step_at_alike : (step : Operation) → IsStep ms top next step → step_at ms' next step ≡ step_at ms next step
  step_at_alike (Send line command arms) h = ap (sends line command) (arms_alike arms.items h)
  step_at_alike (Repeat count body) h = ap (repeats count) (agree body h)
  step_at_alike _ h = refl

row_alike : (ms ms' : List Stmts) (top : ℕ) (row : Instruction) → ((k : ℕ) → k ≤ top + 1 → place ms' k ≡ place ms k) → IsRow ms top row → IsRow ms' top row
row_alike ms ms' top row agree is =
    let below : (k : ℕ) → k ≤ top → place ms' k ≡ place ms k = λ k h. agree k (omega arith) in
    record {
      meaning = agree (top + 1) (omega arith) ∙ is.meaning
          ∙ ap (λ s. more s (place ms row.next)) (sym (step_at_alike ms ms' top top row.next below (omega arith) is.next row.step is.step))
          ∙ ap (more (step_at ms' row.next row.step)) (sym (below row.next is.next));
      next = is.next;
      step = step_alike ms ms' top top row.next below (omega arith) is.next row.step is.step;
    }

-- ---- one row more

module _ (rows : List Instruction) (row : Instruction) where
  place-push : (k : ℕ) → k ≤ length rows → place (meanings (rows ++ row ∷ [])) k ≡ place (meanings rows) k
  place-push k within =
      ap (λ ms. place ms k) (meanings-push rows row)
      ∙ get_or-append (meanings rows) (row_at (meanings rows) row ∷ []) none k (omega (arith, length-meanings rows))

  place-last : place (meanings (rows ++ row ∷ [])) (length rows + 1) ≡ row_at (meanings rows) row
  place-last =
      ap (λ ms. place ms (length rows + 1)) (meanings-push rows row)
      ∙ ap (place (meanings rows ++ row_at (meanings rows) row ∷ [])) (sym (length-meanings rows))
      ∙ get_or-append_seam (meanings rows) (row_at (meanings rows) row) [] none

  module _ (table : IsTable rows) (next : row.next ≤ length rows) (step : IsStep (meanings rows) (length rows) row.next row.step) where
    last_row : IsRow (meanings (rows ++ row ∷ [])) (length rows) row
    last_row = record {
      meaning = place-last
          ∙ ap (λ s. more s (place (meanings rows) row.next))
          (sym (step_at_alike (meanings rows) (meanings (rows ++ row ∷ [])) (length rows) (length rows) row.next place-push (omega arith) next row.step step))
          ∙ ap (more (step_at (meanings (rows ++ row ∷ [])) row.next row.step)) (sym (place-push row.next next));
      next = next;
      step = step_alike (meanings rows) (meanings (rows ++ row ∷ [])) (length rows) (length rows) row.next place-push (omega arith) next row.step step;
    }

    each_row : (k : ℕ) (r : Instruction) → k < length (rows ++ row ∷ []) → r ≡ get_or (rows ++ row ∷ []) k r → IsRow (meanings (rows ++ row ∷ [])) k r
    each_row k r within is =
        let most : k ≤ length rows = omega (arith, length-append rows (row ∷ [])) in
        elim (eq-or-lt_of_le most) [
          | inl last ↦
              let same : r ≡ row = is ∙ ap (λ n. get_or (rows ++ row ∷ []) n r) last ∙ get_or-append_seam rows row [] r in
              subst (λ n. IsRow (meanings (rows ++ row ∷ [])) n r) (sym last) (subst (IsRow (meanings (rows ++ row ∷ [])) (length rows)) (sym same) last_row)
          | inr before ↦
              row_alike (meanings rows) (meanings (rows ++ row ∷ [])) k r (λ n h. place-push n (omega arith))
              (table.row k r before (is ∙ get_or-append rows (row ∷ []) r k before))
        ]

    grows_by_row : Grows rows (rows ++ row ∷ [])
    grows_by_row = record {
      table = record { row = each_row };
      longer = omega (arith, length-append rows (row ∷ []));
      keeps = place-push;
    }

pub grows_on : (old mid new : List Instruction) → Grows old mid → Grows mid new → Grows old new
grows_on old mid new first then = record {
  table = then.table;
  longer = omega (arith, first.longer, then.longer);
  keeps = λ k within. then.keeps k (omega (arith, first.longer)) ∙ first.keeps k within;
}

-- one statement more, before those that are laid
pub laid_more : (old mid rows : List Instruction) (xs : List Statement) (i next at : ℕ) (x : Statement) (step : Operation) → i < length xs → x ≡ get_or xs i x
    → IsCompiled old mid (statements_in (drop (i + 1) xs)) next at
    → IsStepCompiled mid rows (statement_of x) at step
    → (new : List Instruction) (first : ℕ) → new ≡ rows ++ record { step = step; next = at } ∷ [] → first ≡ length rows + 1
    → IsCompiled old new (statements_in (drop i xs)) next first
laid_more old mid rows xs i next at x step within is laid stepped new first grown last =
    let row : Instruction = record { step = step; next = at } in
    let at_within : at ≤ length rows = omega (arith, laid.within, stepped.grows.longer) in
    let behind : drop i xs ≡ x ∷ drop (i + 1) xs = drop-cons xs i x within ∙ ap (λ y. y ∷ drop (suc i) xs) (sym is) ∙ ap (λ n. x ∷ drop n xs) (sym (add-one i)) in
    let whole : IsCompiled old (rows ++ row ∷ []) (statements_in (drop i xs)) next (length rows + 1) = record {
      grows = grows_on old rows _ (grows_on old mid rows laid.grows stepped.grows) (grows_by_row rows row stepped.grows.table at_within stepped.within);
      within = omega (arith, length-append rows (row ∷ []));
      meaning = place-last rows row
          ∙ ap (λ s. more s (place (meanings rows) at)) stepped.meaning
          ∙ ap (more (statement_of x)) (stepped.grows.keeps at laid.within ∙ laid.meaning)
          ∙ sym (ap (λ ys. concatenation (statements_in ys) (place (meanings old) next)) behind);
    } in
    subst (λ rs. IsCompiled old rs (statements_in (drop i xs)) next first) (sym grown) (subst (IsCompiled old (rows ++ row ∷ []) (statements_in (drop i xs)) next) (sym last) whole)

-- ---- arms

jumps_more : (ms : List Stmts) (top next : ℕ) (js : List ArmTarget) (j : ArmTarget) → AreJumps ms top next js → j.place ≤ top
    → concatenation (without_end (place ms j.place) (place ms next)) (place ms next) ≡ place ms j.place → AreJumps ms top next (js ++ j ∷ [])
jumps_more ms top next [] j h within is = (within, is, tt)
jumps_more ms top next (i ∷ js) j h within is = (h.0, h.1, jumps_more ms top next js j h.2 within is)

arms_at-append : (ms : List Stmts) (next : ℕ) (js : List ArmTarget) (j : ArmTarget)
    → arms_at ms next (js ++ j ∷ []) ≡ with_last_arm (arms_at ms next js) j.test (without_end (place ms j.place) (place ms next))
arms_at-append ms next [] j = refl
arms_at-append ms next (i ∷ js) j = ap (arm i.test (without_end (place ms i.place) (place ms next))) (arms_at-append ms next js j)

pub arms_laid_more : (old mid new : List Instruction) (xs : List Arm) (i next first : ℕ) (x : Arm) (js : List ArmTarget) → next ≤ length old
    → i < length xs → x ≡ get_or xs i x
    → AreArmsCompiled old mid (arms_in (take i xs)) next js
    → IsCompiled mid new (script_of x.body) next first
    → AreArmsCompiled old new (arms_in (take (i + 1) xs)) next (js ++ record { test = x.test; place = first } ∷ [])
arms_laid_more old mid new xs i next first x js next_within within is before laid =
    let j : ArmTarget = record { test = x.test; place = first } in
    let next_mid : next ≤ length mid = omega (arith, before.grows.longer) in
    let whole : place (meanings new) first ≡ concatenation (script_of x.body) (place (meanings new) next)
    = laid.meaning ∙ ap (concatenation (script_of x.body)) (sym (laid.grows.keeps next next_mid)) in
    let body : without_end (place (meanings new) first) (place (meanings new) next) ≡ script_of x.body
    = ap (λ w. without_end w (place (meanings new) next)) whole ∙ without_end-joined (script_of x.body) (place (meanings new) next) in
    record {
      grows = grows_on old mid new before.grows laid.grows;
      within = jumps_more (meanings new) (length new) next js j
          (jumps_alike (meanings mid) (meanings new) (length mid) (length new) next laid.grows.keeps laid.grows.longer next_mid js before.within)
          laid.within
          (ap (λ b. concatenation b (place (meanings new) next)) body ∙ sym whole);
      meaning = arms_at-append (meanings new) next js j
          ∙ ap (with_last_arm (arms_at (meanings new) next js) x.test) body
          ∙ ap (λ a. with_last_arm a x.test (script_of x.body))
          (arms_alike (meanings mid) (meanings new) (length mid) (length new) next laid.grows.keeps laid.grows.longer next_mid js before.within ∙ before.meaning)
          ∙ sym (ap arms_in (taken xs i x within is) ∙ arms_in-append (take i xs) x);
    }

-- ---- steps

pub send_laid : (old new : List Instruction) (s : Stmt) (line next : ℕ) (command : Command) (a : Arms) (jumps : Vec ArmTarget Global)
    → s ≡ sends line command a → AreArmsCompiled old new a next jumps.items → IsStepCompiled old new s next (Send line command jumps)
send_laid old new s line next command a jumps is laid = record {
  grows = laid.grows;
  within = laid.within;
  meaning = ap (sends line command) laid.meaning ∙ sym is;
}

pub repeat_laid : (old new : List Instruction) (s : Stmt) (count next first : ℕ) (b : Stmts)
    → s ≡ repeats count b → IsCompiled old new b 0 first → IsStepCompiled old new s next (Repeat count first)
repeat_laid old new s count next first b is laid = record {
  grows = laid.grows;
  within = laid.within;
  meaning = ap (repeats count) (laid.meaning ∙ ap (concatenation b) (place-zero old) ∙ joined-none b) ∙ sym is;
}

-- ---- the whole script

pub laid_whole : (old rows rows' : List Instruction) (xs xs' : List Statement) (first : ℕ) → old ≡ [] → rows' ≡ rows → xs ≡ xs'
    → IsCompiled old rows (statements_in xs) 0 first → IsCompiled [] rows' (statements_in xs') 0 first
laid_whole old rows rows' xs xs' first start same_rows same laid =
    subst (λ rs. IsCompiled [] rs (statements_in xs') 0 first) (sym same_rows)
    (subst (λ ys. IsCompiled [] rows (statements_in ys) 0 first) same
    (subst (λ rs. IsCompiled rs rows (statements_in xs) 0 first) start laid))

pub configuration-laid : (rows : List Instruction) (b : Stmts) (first : ℕ) → IsCompiled [] rows b 0 first → configuration (meanings rows) first [] ≡ before b []
configuration-laid rows b first laid = ap (λ s. before s []) (laid.meaning ∙ ap (concatenation b) (place-zero []) ∙ joined-none b)

pub laid_placed : (rows : List Instruction) (b : Stmts) (first : ℕ) → IsCompiled [] rows b 0 first → depth_of_all b ≤ MOST_OPEN → IsPlaced rows first []
laid_placed rows b first laid shallow = record {
  table = laid.grows.table;
  within = laid.within;
  repeats = tt;
  room = subst (λ l. deepest l ≤ MOST_OPEN) (sym (configuration-laid rows b first laid)) (omega (arith, deepest-before b []));
}
