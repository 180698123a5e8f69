-- Two names are equal where their bytes are.
use Rattle.pr_text.proofs.Common.{◌≡◌, ℕ, ◌||◌, not, ◌&&◌, List, [], ◌∷◌, map, bytes_eq, refl, ap, ◌∙◌, are_distinct, list_any}
use Rattle.pr_text.proofs.uniqueness.are_names_distinct.Goals as goal

module _ {A : Type 0} (f : A → List ℕ) where
  any_by : (x : A) (xs : List A) → list_any (λ y. bytes_eq (f y) (f x)) xs ≡ list_any (λ y. bytes_eq y (f x)) (map f xs)
  any_by x [] = refl
  any_by x (y ∷ xs) = ap (λ b. bytes_eq (f y) (f x) || b) (any_by x xs)

  distinct_by : (xs : List A) → are_distinct (λ x y. bytes_eq (f x) (f y)) xs ≡ are_distinct bytes_eq (map f xs)
  distinct_by [] = refl
  distinct_by (x ∷ xs) =
      ap (λ b. not b && are_distinct (λ y z. bytes_eq (f y) (f z)) xs) (any_by x xs) ∙ ap (λ b. not (list_any (λ y. bytes_eq y (f x)) (map f xs)) && b) (distinct_by xs)

pub returns : goal.returns
returns c = c.are_distinct.ensures ∙ distinct_by (λ name. name.bytes) c.args.names.now
