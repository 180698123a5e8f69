-- What is known of keys that are declared once.
use Rattle.pr_regions.proofs.Common.{◌≡◌, ℕ, zero, suc, ◌≤◌, true, not, List, length, is_some, ◌==◌, sym, refl, ap, ◌∙◌, arith, nat_tests, key_at}
use Rattle.pr_roles.specs.Fitting.{are_distinct}
use Rattle.pr_views.proofs.lemmas.Possibilities.Numbers.{key_there}

abbrev pub AreDistinct : List ℕ → Type 0
AreDistinct keys = are_distinct (λ j k. j == k) keys ≡ true

-- a number stands for a key where it is not 0
pub is_some-key_at : (keys : List ℕ) (r : ℕ) → r ≤ length keys → is_some (key_at keys r) ≡ not (r == 0)
is_some-key_at keys zero small = refl
is_some-key_at keys (suc i) small = let there = key_there keys i small in ap is_some there.1 ∙ sym (not_zero i)
  where
    not_zero : (i : ℕ) → not (suc i == 0) ≡ true
    not_zero i = grind (arith, nat_tests)
