-- What is declared of nexuses, by their numbers.
use Rattle.pr_text.proofs.Common.{◌≡◌, ℕ, ◌+◌, ◌<◌, ◌||◌, Bool, cond, list_all, list_any, List, [], ◌∷◌, map, length, slice_index_or, slice_set, Some, option_map, position, bytes_eq, sym, refl, ap, ◌∙◌, slice_get, position_from, position_from-zero, draft_seen}
use Rattle.std.proofs.lemmas.List.{map-set}
use Rattle.std.proofs.lemmas.Option.{slice_get-map, slice_get-get_or}
use Rattle.std.proofs.lemmas.List.Folds.{list_all-map, fold-map}
use Rattle.std.specs.Prelude.{fold}
use Rattle.pr_text.specs.declared.draft.Draft.{Draft}

pub found : (xs : List Draft) (h : ℕ) (d : Draft) → h < length xs → slice_get (map draft_seen xs) h ≡ Some (draft_seen (slice_index_or xs h d))
found xs h d within = slice_get-map draft_seen xs h ∙ ap (λ o. option_map draft_seen o) (slice_get-get_or xs h d within)

pub changed : (xs : List Draft) (h : ℕ) (x : Draft) → map draft_seen (slice_set xs h x) ≡ slice_set (map draft_seen xs) h (draft_seen x)
changed xs h x = map-set draft_seen xs h x

position_of_from : (p : List ℕ → Bool) (n : ℕ) (xs : List Draft)
    → position_from (λ x. p x.name) n (map draft_seen xs) ≡ position_from (λ x. p x.name.bytes) n xs
position_of_from p n [] = refl
position_of_from p n (x ∷ xs) = ap (λ o. cond (p x.name.bytes) (Some n) o) (position_of_from p (n + 1) xs)

pub position_of : (xs : List Draft) (name : List ℕ) → position (λ x. bytes_eq x.name name) (map draft_seen xs) ≡ position (λ x. bytes_eq x.name.bytes name) xs
position_of xs name =
    position_from-zero (λ x. bytes_eq x.name name) (map draft_seen xs)
    ∙ (position_of_from (λ n. bytes_eq n name) 0 xs ∙ sym (position_from-zero (λ x. bytes_eq x.name.bytes name) xs))

-- ---- the names of a list

pub all_named : {A : Type 0} (f : A → List ℕ) (p : List ℕ → Bool) (xs : List A) → list_all p (map f xs) ≡ list_all (λ x. p (f x)) xs
all_named f p xs = list_all-map p f xs

pub any_named : {A : Type 0} (f : A → List ℕ) (p : List ℕ → Bool) (xs : List A) → list_any p (map f xs) ≡ list_any (λ x. p (f x)) xs
any_named f p [] = refl
any_named f p (x ∷ xs) = ap (λ b. p (f x) || b) (any_named f p xs)

pub fold_named : {A B : Type 0} (f : A → List ℕ) (g : B → List ℕ → B) (b : B) (xs : List A) → fold g b (map f xs) ≡ fold (λ c x. g c (f x)) b xs
fold_named f g b xs = fold-map g f b xs
