use Rattle.pr_unit.proofs.Common.{◌≡◌, ℕ, zero, suc, ◌&&◌, List, [], ◌∷◌, nat_lt, sym, refl, ap, ◌∙◌, arith, MOST_NEXUSES, Codes, no_code, contains-no_code, place, table_pairs, All}
use Rattle.std.proofs.Common.{rules}
use Rattle.std.specs.FinSet as set
use Rattle.std.proofs.Math.Bool.{and-false}
use Rattle.pr_unit.proofs.lemmas.Attentions.Pairs.{same_pairs, contains-none, contains-table_pairs}
use Rattle.pr_unit.proofs.unit.nothing_pending.Goals as goal

-- a table of nothing has nothing at any place, nor past its end
place-nothing : (table : List Codes) → All (λ codes. codes ≡ no_code) table → (q : ℕ) → place table q ≡ no_code
place-nothing [] each q = refl
place-nothing (codes ∷ table) each zero = each 0 no_code (omega arith)
place-nothing (codes ∷ table) each (suc q) = place-nothing table (λ k d small. each (suc k) d (omega arith)) q

of_nothing : (table : List Codes) → All (λ codes. codes ≡ no_code) table → table_pairs table ≡ set.empty
of_nothing table each = same_pairs _ _ (λ p.
    contains-table_pairs table p.0 p.1 ∙ ap (λ s. nat_lt p.0 MOST_NEXUSES && set.contains s p.1) (place-nothing table each p.0)
    ∙ ap (λ b. nat_lt p.0 MOST_NEXUSES && b) (contains-no_code p.1) ∙ and-false (nat_lt p.0 MOST_NEXUSES) ∙ sym (contains-none p))

pub returns : goal.returns
returns c =
    let each : All (λ codes. codes ≡ no_code) c.from_fn.result = search rules in of_nothing c.from_fn.result each
