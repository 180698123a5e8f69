-- The places of a table, and what is still to do there.
use Rattle.pr_script.proofs.Common.{◌≡◌, ℕ, ◌+◌, ◌-◌, ◌<◌, ◌≤◌, false, List, [], ◌∷◌, ◌++◌, length, get_or, refl, ap, ◌∙◌, subst, inl, inr, arith, Stmts, none, statement, mark, Configuration, before, becomes, is_ready, LoopFrame, Instruction, Operation, place, step_at, IsTable, open_configuration, configuration, IsPlaced, meanings}
use Rattle.std.specs.Prelude.{◌⊎◌, fold}
use Rattle.std.proofs.lemmas.List.{length-append}
use Rattle.std.proofs.Math.ListN.{get_or-append}
use Rattle.std.proofs.lemmas.List.Sums.{fold-append}
use Rattle.pr_script.specs.Programs.{opened_by}
use Rattle.pr_script.specs.inside.Program.{row_at, with_row, IsRow, IsMachine}
use Rattle.pr_script.proofs.lemmas.Next.Settlement.{no_mark_rests}

-- ---- one row more

length-fold : (rows : List Instruction) (ms : List Stmts) → length (fold with_row ms rows) ≡ length ms + length rows
length-fold [] ms = omega arith
length-fold (row ∷ rows) ms = omega (arith, length-fold rows (with_row ms row), length-append ms (row_at ms row ∷ []))

pub length-meanings : (rows : List Instruction) → length (meanings rows) ≡ length rows + 1
unfolding meanings
length-meanings rows = omega (arith, length-fold rows (none ∷ []))

pub meanings-push : (rows : List Instruction) (row : Instruction) → meanings (rows ++ row ∷ []) ≡ meanings rows ++ row_at (meanings rows) row ∷ []
unfolding meanings
meanings-push rows row = fold-append with_row (none ∷ []) rows (row ∷ [])

place-fold : (rows : List Instruction) (ms : List Stmts) (k : ℕ) → k < length ms → place (fold with_row ms rows) k ≡ place ms k
place-fold [] ms k within = refl
place-fold (row ∷ rows) ms k within =
    place-fold rows (with_row ms row) k (omega (arith, length-append ms (row_at ms row ∷ [])))
    ∙ get_or-append ms (row_at ms row ∷ []) none k within

-- nothing from place 0 on
pub place-zero : (rows : List Instruction) → place (meanings rows) 0 ≡ none
unfolding meanings
place-zero rows = place-fold rows (none ∷ []) 0 (omega arith)

-- ---- a row

pub the_row : (rows : List Instruction) (at : ℕ) (row : Instruction) → IsTable rows → (at ≡ 0 → ⊥) → at ≤ length rows → row ≡ get_or rows (at - 1) row
    → IsRow (meanings rows) (at - 1) row
the_row rows at row table some within is = table.row (at - 1) row (omega arith) is

pub place-row : (rows : List Instruction) (at : ℕ) (row : Instruction) → IsTable rows → (at ≡ 0 → ⊥) → at ≤ length rows → row ≡ get_or rows (at - 1) row
    → place (meanings rows) at ≡ row_at (meanings rows) row
place-row rows at row table some within is =
    let number : at ≡ at - 1 + 1 = omega arith in
    ap (place (meanings rows)) number ∙ (the_row rows at row table some within is).meaning

configuration-row : (rows : List Instruction) (at : ℕ) (opens : List LoopFrame) (row : Instruction) → IsTable rows → (at ≡ 0 → ⊥) → at ≤ length rows
    → row ≡ get_or rows (at - 1) row
    → configuration (meanings rows) at opens ≡ statement (step_at (meanings rows) row.next row.step) ∷ configuration (meanings rows) row.next opens
configuration-row rows at opens row table some within is =
    ap (λ b. before b (open_configuration (meanings rows) opens)) (place-row rows at row table some within is)

-- ---- the open repeats

pub opened-push : (ms : List Stmts) (opens : List LoopFrame) (o : LoopFrame) → open_configuration ms (opens ++ o ∷ []) ≡ opened_by ms (open_configuration ms opens) o
opened-push ms opens o = fold-append (opened_by ms) [] opens (o ∷ [])

-- no repeat is open, or a mark comes first
begins : (ms : List Stmts) (opens : List LoopFrame) (l : Configuration) → ((l ≡ []) ⊎ ((m : Configuration) × (l ≡ mark ∷ m)))
    → (fold (opened_by ms) l opens ≡ []) ⊎ ((m : Configuration) × (fold (opened_by ms) l opens ≡ mark ∷ m))
begins ms [] l h = h
begins ms (o ∷ os) l h = begins ms os (opened_by ms l o) (inr (_, refl))

pub opened-rests : (ms : List Stmts) (opens : List LoopFrame) → becomes (open_configuration ms opens) ≡ open_configuration ms opens → open_configuration ms opens ≡ []
opened-rests ms opens e = elim (begins ms opens [] (inl refl)) [
  | inl is ↦ is
  | inr some ↦ absurd (no_mark_rests (open_configuration ms opens) some.0 e some.1)
]

-- at place 0 the repeats that are open are to do
pub configuration-zero : (rows : List Instruction) (at : ℕ) (opens : List LoopFrame) → at ≡ 0 → configuration (meanings rows) at opens ≡ open_configuration (meanings rows) opens
configuration-zero rows at opens ends =
    ap (λ k. before (place (meanings rows) k) (open_configuration (meanings rows) opens)) ends
    ∙ ap (λ b. before b (open_configuration (meanings rows) opens)) (place-zero rows)

-- a machine at place 0 has nothing left to do
pub configuration-end : (rows : List Instruction) (at : ℕ) (opens : List LoopFrame) → IsMachine rows at opens → at ≡ 0 → configuration (meanings rows) at opens ≡ []
configuration-end rows at opens machine ends =
    let all = configuration-zero rows at opens ends in
    all ∙ opened-rests (meanings rows) opens (subst (λ l. becomes l ≡ l) all machine.rests)

-- at a row, that row is to do first
pub configuration-step : (rows : List Instruction) (at : ℕ) (opens : List LoopFrame) (row : Instruction) (step : Operation) → IsPlaced rows at opens → (at ≡ 0 → ⊥)
    → row ≡ get_or rows (at - 1) row → row.step ≡ step
    → configuration (meanings rows) at opens ≡ statement (step_at (meanings rows) row.next step) ∷ configuration (meanings rows) row.next opens
configuration-step rows at opens row step placed some is same =
    configuration-row rows at opens row placed.table some placed.within is
    ∙ ap (λ s. statement (step_at (meanings rows) row.next s) ∷ configuration (meanings rows) row.next opens) same

-- the repeats that are open begin with no send
pub opened-unready : (ms : List Stmts) (opens : List LoopFrame) → is_ready (open_configuration ms opens) ≡ false
opened-unready ms opens = elim (begins ms opens [] (inl refl)) [
  | inl is ↦ ap is_ready is
  | inr some ↦ ap is_ready some.1
]
