-- Lists as loops make them are whole lists.
use Rattle.pr_lines.proofs.Common.{◌≡◌, List, [], ◌∷◌, Some, None, Option, sym, refl, ap, ◌∙◌, each, each_onto}
use Rattle.std.proofs.Common.{append_assoc, append-nil, ◌++◌, option_map, option_and_then}

joined : {B : Type 0} (ys : List B) (y : B) (o : Option (List B)) → option_map (λ ws. (ys ++ y ∷ []) ++ ws) o ≡ option_map (λ ws. ys ++ ws) (option_map (λ ws. y ∷ ws) o)
joined ys y None = refl
joined ys y (Some ws) = ap (λ l. Some l) (append_assoc ys (y ∷ []) ws)

onto_same : {A B : Type 0} (f : A → Option B) (ys : List B) (xs : List A) → each_onto f ys xs ≡ option_map (λ ws. ys ++ ws) (each f xs)
onto_same f ys [] = ap (λ l. Some l) (sym (append-nil ys))
onto_same f ys (x ∷ xs) = elim (f x) as (λ o. option_and_then (λ y. each_onto f (ys ++ y ∷ []) xs) o ≡ option_map (λ ws. ys ++ ws) (option_and_then (λ y. option_map (λ ws. y ∷ ws) (each f xs)) o)) [
  | None ↦ refl
  | Some y ↦ onto_same f (ys ++ y ∷ []) xs ∙ joined ys y (each f xs)
]

behind_none : {B : Type 0} (o : Option (List B)) → option_map (λ ws. [] ++ ws) o ≡ o
behind_none None = refl
behind_none (Some ws) = refl

pub each_same : {A B : Type 0} (f : A → Option B) (xs : List A) → each_onto f [] xs ≡ each f xs
each_same f xs = onto_same f [] xs ∙ behind_none (each f xs)
