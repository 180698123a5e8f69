-- where there is a statement
use Rattle.pr_table.proofs.Common.{◌≡◌, ℕ, true, List, [], ◌∷◌, length, refl, sym, ◌∙◌, Statement, statements_in, first_row}
use Rattle.std.proofs.Common.{◌==◌, false}
use Rattle.pr_table.proofs.writing.first_row.Goals as goal

begins : (at next : ℕ) (xs : List Statement) → (length xs == 0) ≡ false → at ≡ first_row at next (statements_in xs)
begins at next [] some = let bad : true ≡ false = some in absurd (cc)
begins at next (x ∷ xs) some = refl

pub returns-else-is_empty : goal.returns-else-is_empty
returns-else-is_empty c = begins c.args.at c.args.next c.args.statements.now (sym c.is_empty.ensures ∙ c.if-is_empty.false)
