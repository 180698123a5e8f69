-- Where a name that is declared once is found.
use Rattle.pr_text.proofs.Common.{◌≡◌, ℕ, ◌+◌, Bool, true, false, cond, not, ◌||◌, List, [], ◌∷◌, ◌++◌, map, length, is_some, Some, None, position, bytes_eq, sym, refl, ap, ◌∙◌, append_assoc, arith, slice_get, list_any, position_from, and_parts, position_from-zero, are_distinct, Declaration, number_of, not-true, or_parts}
use Rattle.std.proofs.lemmas.Bool.{or_from}
use Rattle.std.proofs.lemmas.List.{map-append}
use Rattle.std.proofs.lemmas.List.Folds.{list_any-append}
use Rattle.std.proofs.lemmas.Slice.Eq.{bytes_eq-Decides}
use Rattle.pr_text.proofs.lemmas.Sound.Lists.{other_way}

abbrev pub names : List Declaration → List (List ℕ)
names xs = map (λ x. x.name) xs

-- none of these has the name
abbrev pub is_taken : List ℕ → List Declaration → Bool
is_taken name xs = list_any (λ x. bytes_eq x.name name) xs

any_name : (name : List ℕ) (xs : List Declaration) → list_any (λ y. bytes_eq y name) (names xs) ≡ is_taken name xs
any_name name [] = refl
any_name name (x ∷ xs) = ap (λ b. bytes_eq x.name name || b) (any_name name xs)

-- a name behind others that are all apart is none of them
pub free_of : (xs : List Declaration) (name : List ℕ) (rest : List (List ℕ)) → are_distinct bytes_eq (names xs ++ name ∷ rest) ≡ true → is_taken name xs ≡ false
free_of [] name rest h = refl
free_of (x ∷ xs) name rest h =
    let parts = and_parts (not (list_any (λ y. bytes_eq y x.name) (names xs ++ name ∷ rest))) _ h in
    let none : list_any (λ y. bytes_eq y x.name) (names xs ++ name ∷ rest) ≡ false = not-true _ parts.0 in
    let ends = or_parts (list_any (λ y. bytes_eq y x.name) (names xs)) _ (sym (list_any-append (λ y. bytes_eq y x.name) (names xs) (name ∷ rest)) ∙ none) in
    let it = or_parts (bytes_eq name x.name) _ ends.1 in
    or_from _ _ (other_way name x.name it.0) (free_of xs name rest parts.1)

-- one more of the names is declared
pub names_moved : (xs : List Declaration) (x : Declaration) (rest : List (List ℕ)) → names (xs ++ x ∷ []) ++ rest ≡ names xs ++ x.name ∷ rest
names_moved xs x rest = ap (λ l. l ++ rest) (map-append (λ y. y.name) xs (x ∷ [])) ∙ append_assoc (names xs) (x.name ∷ []) rest

-- ---- numbers

pub itself : (name : List ℕ) → bytes_eq name name ≡ true
itself name = (bytes_eq-Decides name name).1 refl

nowhere : {A : Type 0} (p : A → Bool) (xs : List A) (n : ℕ) → list_any p xs ≡ false → position_from p n xs ≡ None
nowhere p [] n h = refl
nowhere p (x ∷ xs) n h = let parts = or_parts (p x) _ h in ap (λ b. cond b (Some n) (position_from p (n + 1) xs)) parts.0 ∙ nowhere p xs (n + 1) parts.1

there_at : {A : Type 0} (p : A → Bool) (xs : List A) (y : A) (ys : List A) (n : ℕ) → list_any p xs ≡ false → p y ≡ true → position_from p n (xs ++ y ∷ ys) ≡ Some (n + length xs)
there_at p [] y ys n h it = ap (λ b. cond b (Some n) (position_from p (n + 1) ys)) it ∙ ap (λ m. Some m) (omega arith)
there_at p (x ∷ xs) y ys n h it =
    let parts = or_parts (p x) _ h in
    ap (λ b. cond b (Some n) (position_from p (n + 1) (xs ++ y ∷ ys))) parts.0 ∙ (there_at p xs y ys (n + 1) parts.1 it ∙ ap (λ m. Some m) (omega arith))

pub number_nowhere : (xs : List Declaration) (name : List ℕ) → is_taken name xs ≡ false → is_some (number_of xs name) ≡ false
unfolding number_of
number_nowhere xs name h =
    let none : position (λ x. bytes_eq x.name name) xs ≡ None = position_from-zero (λ x. bytes_eq x.name name) xs ∙ nowhere (λ x. bytes_eq x.name name) xs 0 h in
    rw none refl

pub number_there : (xs : List Declaration) (y : Declaration) (ys : List Declaration) (name : List ℕ) → is_taken name xs ≡ false → bytes_eq y.name name ≡ true
    → number_of (xs ++ y ∷ ys) name ≡ Some (length xs)
unfolding number_of
number_there xs y ys name h it =
    position_from-zero (λ x. bytes_eq x.name name) (xs ++ y ∷ ys) ∙ (there_at (λ x. bytes_eq x.name name) xs y ys 0 h it ∙ ap (λ m. Some m) (omega arith))

pub element_there : {A : Type 0} (xs : List A) (y : A) (ys : List A) → slice_get (xs ++ y ∷ ys) (length xs) ≡ Some y
element_there [] y ys = refl
element_there (x ∷ xs) y ys = element_there xs y ys
