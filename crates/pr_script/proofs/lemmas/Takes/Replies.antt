-- What a reply at a send leads to.
use Rattle.pr_script.proofs.Common.{◌≡◌, ℕ, ◌+◌, ◌-◌, ◌≤◌, max, Bool, true, false, List, [], ◌∷◌, length, get_or, Some, None, Option, Vec, option_map, Global, sym, refl, ap, ◌∙◌, subst, arith, Command, depth_of_all, depth_of_arms, Stmt, sends, Stmts, none, more, Arms, no_arm, arm, statement, Configuration, before, is_ready, settled_form, matches, LoopFrame, Instruction, Operation, place, step_at, IsStep, IsTable, open_configuration, deepest, meanings}
use Rattle.std.specs.Option.{ok_or}
use Rattle.std.proofs.Common.{rules, cond, if◌then◌else◌, find, IfOk, MatchResult}
use Rattle.pr_cdb.specs.declared.reply.Reply.{Reply}
use Rattle.pr_script.specs.declared.next.NoArm.{NoArm}
use Rattle.pr_script.specs.declared.rows.Operation.TheVariants.{Send}
use Rattle.pr_script.specs.declared.rows.ArmTarget.{ArmTarget}
use Rattle.pr_script.specs.Traps.{IsReady}
use Rattle.pr_script.specs.Takes.{first_match, take}
use Rattle.pr_script.specs.Programs.{open_count}
use Rattle.pr_script.specs.inside.Program.{concatenation, without_end, arms_at, AreJumps}
use Rattle.pr_script.specs.inside.Advances.{TakesBody}
use Rattle.pr_script.proofs.lemmas.Program.Places.{place-zero, place-row, the_row, opened-unready}
use Rattle.pr_script.proofs.lemmas.Program.OpenRepeats.{deepest-before}

-- ---- a ready place is a send's

pub ready_above : (rows : List Instruction) (at : ℕ) → IsReady (before (place (meanings rows) at) []) → at ≡ 0 → ⊥
ready_above rows at ready ends =
    let nothing : place (meanings rows) at ≡ none = ap (place (meanings rows)) ends ∙ place-zero rows in
    let h : false ≡ true = ap (λ b. is_ready (before b [])) (sym nothing) ∙ ready in cc

first_alone : (s : Stmt) (l : Configuration) → is_ready (statement s ∷ l) ≡ is_ready (statement s ∷ [])
first_alone (sends n c a) l = refl
first_alone _ l = refl

-- readiness is the first statement's alone
pub ready_place : (b : Stmts) (ms : List Stmts) (opens : List LoopFrame) → IsReady (before b (open_configuration ms opens)) → IsReady (before b [])
ready_place none ms opens ready = absurd (cc (opened-unready ms opens, ready))
ready_place (more s b) ms opens ready = first_alone s (before b []) ∙ sym (first_alone s (before b (open_configuration ms opens))) ∙ ready

pub ready_is : (rows : List Instruction) (at : ℕ) (row : Instruction) (step : Operation) → IsTable rows → at ≤ length rows → IsReady (before (place (meanings rows) at) [])
    → row ≡ get_or rows (at - 1) row → row.step ≡ step → is_ready (statement (step_at (meanings rows) row.next step) ∷ []) ≡ true
ready_is rows at row step table within ready is same =
    sym (first_alone (step_at (meanings rows) row.next step) (before (place (meanings rows) row.next) []))
    ∙ ap (λ s. is_ready (statement (step_at (meanings rows) row.next s) ∷ before (place (meanings rows) row.next) [])) (sym same)
    ∙ ap (λ b. is_ready (before b [])) (sym (place-row rows at row table (ready_above rows at ready) within is))
    ∙ ready

-- ---- the first arm that matches

before-joined : (b e : Stmts) (l : Configuration) → before (concatenation b e) l ≡ before b (before e l)
before-joined none e l = refl
before-joined (more s b) e l = ap (λ k. statement s ∷ k) (before-joined b e l)

first_match-arms_at : (ms : List Stmts) (next : ℕ) (r : Reply) (js : List ArmTarget)
    → first_match (arms_at ms next js) r ≡ option_map (λ j. without_end (place ms j.place) (place ms next)) (find (λ j. matches j.test r) js)
first_match-arms_at ms next r [] = refl
first_match-arms_at ms next r (j ∷ js) =
    elim (matches j.test r) as (λ b. (if b then Some (without_end (place ms j.place) (place ms next)) else first_match (arms_at ms next js) r)
    ≡ option_map (λ i. without_end (place ms i.place) (place ms next)) (cond b (Some j) (find (λ i. matches i.test r) js))) [
      | true ↦ refl
      | false ↦ first_match-arms_at ms next r js
    ]

IsJump : List Stmts → ℕ → ℕ → ArmTarget → Type 0
IsJump ms top next j = (j.place ≤ top) × (concatenation (without_end (place ms j.place) (place ms next)) (place ms next) ≡ place ms j.place)

jump_found : (ms : List Stmts) (top next : ℕ) (p : ArmTarget → Bool) (js : List ArmTarget) (j : ArmTarget) → AreJumps ms top next js → find p js ≡ Some j → IsJump ms top next j
unfolding IsJump
jump_found ms top next p [] j h = λ e. absurd (cc)
jump_found ms top next p (i ∷ js) j h =
    elim (p i) as (λ b. cond b (Some i) (find p js) ≡ Some j → (j.place ≤ top) × (concatenation (without_end (place ms j.place) (place ms next)) (place ms next) ≡ place ms j.place)) [
      | true ↦ λ e. let same : i ≡ j = cc in subst (IsJump ms top next) same (h.0, h.1)
      | false ↦ λ e. jump_found ms top next p js j h.2 e
    ]

depth-first_match : (a : Arms) (r : Reply) (b : Stmts) → first_match a r ≡ Some b → depth_of_all b ≤ depth_of_arms a
depth-first_match no_arm r b = λ e. absurd (cc)
depth-first_match (arm test body rest) r b =
    elim (matches test r) as (λ m. (if m then Some body else first_match rest r) ≡ Some b → depth_of_all b ≤ max (depth_of_all body) (depth_of_arms rest)) [
      | true ↦ λ e. let same : body ≡ b = cc in let same_depth = ap depth_of_all same in omega arith
      | false ↦ λ e. let below = depth-first_match rest r b e in omega arith
    ]

-- ---- what the script goes on with

takes_body : (b : Stmts) (n : ℕ) (c : Command) (a : Arms) (next body : Stmts) (r : Reply) (l : Configuration) → b ≡ more (sends n c a) next
    → first_match a r ≡ Some body → TakesBody (before b l) r (before (concatenation body next) l)
takes_body b n c a next body r l is found =
    let old = ap (λ k. before k l) is in
    subst (λ k. TakesBody k r (before (concatenation body next) l)) (sym old) (record {
      taken = ap (option_map (λ b'. settled_form (before b' (before next l)))) found ∙ ap (λ k. Some (settled_form k)) (sym (before-joined body next l));
      room = subst (λ k. deepest k ≤ max (open_count (before next l) + depth_of_arms a) (deepest (before next l))) (sym (before-joined body next l))
          (omega (arith, deepest-before body (before next l), depth-first_match a r body found));
    })

takes_nothing : (b : Stmts) (n : ℕ) (c : Command) (a : Arms) (next : Stmts) (r : Reply) (l : Configuration) → b ≡ more (sends n c a) next
    → first_match a r ≡ None → take (before b l) r ≡ None
takes_nothing b n c a next r l is found =
    ap (λ k. take (before k l) r) is ∙ ap (option_map (λ b'. settled_form (before b' (before next l)))) found

-- ---- the answer of the search

-- what a found jump comes to, and what none does
by_found : (P : ℕ → Type 0) (Q : NoArm → Type 0) (error : NoArm) (found : Option ArmTarget) → ((j : ArmTarget) → found ≡ Some j → P j.place) → (found ≡ None → Q error)
    → MatchResult (ok_or (option_map (λ j. j.place) found) error) P Q
by_found P Q error None where_some where_none = where_none refl
by_found P Q error (Some j) where_some where_none = where_some j refl

module _ (rows : List Instruction) (at : ℕ) (row : Instruction) (line : ℕ) (command : Command) (jumps : Vec ArmTarget Global) (r : Reply)
    (table : IsTable rows) (within : at ≤ length rows) (ready : IsReady (before (place (meanings rows) at) []))
    (is : row ≡ get_or rows (at - 1) row) (same : row.step ≡ Send line command jumps) where
  are_jumps : AreJumps (meanings rows) (at - 1) row.next jumps.items
  are_jumps = subst (IsStep (meanings rows) (at - 1) row.next) same (the_row rows at row table (ready_above rows at ready) within is).step

  mean : place (meanings rows) at ≡ more (sends line command (arms_at (meanings rows) row.next jumps.items)) (place (meanings rows) row.next)
  mean = place-row rows at row table (ready_above rows at ready) within is
      ∙ ap (λ s. more (step_at (meanings rows) row.next s) (place (meanings rows) row.next)) same

  found_arm : (o : Option ArmTarget) → find (λ j. matches j.test r) jumps.items ≡ o
      → first_match (arms_at (meanings rows) row.next jumps.items) r ≡ option_map (λ j. without_end (place (meanings rows) j.place) (place (meanings rows) row.next)) o
  found_arm o found = first_match-arms_at (meanings rows) row.next r jumps.items ∙ ap (option_map (λ j. without_end (place (meanings rows) j.place) (place (meanings rows) row.next))) found

  pub answered_within : (error : NoArm) → IfOk (ok_or (option_map (λ j. j.place) (find (λ j. matches j.test r) jumps.items)) error) (λ to. to ≤ length rows)
  unfolding IsJump
  answered_within error = by_found _ _ error (find (λ j. matches j.test r) jumps.items)
      (λ j found. omega (arith, (jump_found (meanings rows) (at - 1) row.next (λ i. matches i.test r) jumps.items j are_jumps found).0, within))
      (λ _. search rules)

  pub answered_taken : (error : NoArm) (l : Configuration)
      → MatchResult (ok_or (option_map (λ j. j.place) (find (λ j. matches j.test r) jumps.items)) error)
      (λ to. TakesBody (before (place (meanings rows) at) l) r (before (place (meanings rows) to) l))
      (λ _. take (before (place (meanings rows) at) l) r ≡ None)
  unfolding IsJump
  answered_taken error l = by_found _ _ error (find (λ j. matches j.test r) jumps.items)
      (λ j found.
      let jump = jump_found (meanings rows) (at - 1) row.next (λ i. matches i.test r) jumps.items j are_jumps found in
      subst (λ b. TakesBody (before (place (meanings rows) at) l) r (before b l)) jump.1
      (takes_body (place (meanings rows) at) line command (arms_at (meanings rows) row.next jumps.items) (place (meanings rows) row.next)
      (without_end (place (meanings rows) j.place) (place (meanings rows) row.next)) r l mean (found_arm (Some j) found)))
      (λ none_found. takes_nothing (place (meanings rows) at) line command (arms_at (meanings rows) row.next jumps.items) (place (meanings rows) row.next) r l
      mean (found_arm None none_found))
