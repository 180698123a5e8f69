-- The view at a line, by the place of its entry.
use Rattle.pr_verify.proofs.Common.{◌≡◌, ℕ, zero, suc, ◌<◌, true, false, ◌≢◌, ◌⊎◌, List, [], ◌∷◌, map, length, ◌==◌, slice_index_or, Some, None, All, AllWithin, Contains, sym, refl, ◌∙◌, inl, inr, arith, cases_eq, same_Some, View, view_at}
use Rattle.std.proofs.lemmas.Bool.Decides.{nat_tests}
use Rattle.std.proofs.lemmas.List.Elements.{All-tail}

module _ {A : Type 0} (f : A → View) where
  -- the views of the entries
  abbrev pub entries : List (ℕ × A) → List (ℕ × View)
  entries xs = map (λ e. (e.0, f e.1)) xs

  at_first : (x : ℕ × A) (xs : List (ℕ × A)) (line : ℕ) → x.0 ≡ line → view_at (entries (x ∷ xs)) line ≡ Some (f x.1)
  at_first x xs line same = let is : (x.0 == line) ≡ true = grind (arith, nat_tests) in rw is refl

  at_rest : (x : ℕ × A) (xs : List (ℕ × A)) (line : ℕ) → (x.0 ≡ line → ⊥) → view_at (entries (x ∷ xs)) line ≡ view_at (entries xs) line
  at_rest x xs line differs = let other : (x.0 == line) ≡ false = grind (arith, nat_tests) in rw other refl

  pub view_at_found : (xs : List (ℕ × A)) (line n : ℕ) (d : ℕ × A) → n < length xs → AllWithin (λ x. x.0 ≢ line) xs 0 n → (slice_index_or xs n d).0 ≡ line
      → view_at (entries xs) line ≡ Some (f (slice_index_or xs n d).1)
  view_at_found [] line n d small before is = absurd (omega arith)
  view_at_found (x ∷ xs) line zero d small before is = at_first x xs line is
  view_at_found (x ∷ xs) line (suc n) d small before is =
      at_rest x xs line (before 0 d (omega arith) (omega arith)) ∙ view_at_found xs line n d (omega arith) (λ k e low below. before (suc k) e (omega arith) (omega arith)) is

  pub view_at_none : (xs : List (ℕ × A)) (line : ℕ) → All (λ x. x.0 ≢ line) xs → view_at (entries xs) line ≡ None
  view_at_none [] line none = refl
  view_at_none (x ∷ xs) line none = at_rest x xs line (none 0 x (omega arith)) ∙ view_at_none xs line (All-tail (λ y. y.0 ≢ line) x xs none)

  -- a view at a line is an entry's
  pub entry_at : (xs : List (ℕ × A)) (line : ℕ) (v : View) → view_at (entries xs) line ≡ Some v → (x : ℕ × A) × Contains xs x × (x.0 ≡ line) × (f x.1 ≡ v)
  entry_at [] line v is = let bad : None ≡ Some v = is in cc
  entry_at (x ∷ xs) line v is = at (cases_eq x.0 line) (entry_at xs line v)
    where
      at : (x.0 ≡ line) ⊎ (x.0 ≡ line → ⊥) → (view_at (entries xs) line ≡ Some v → (y : ℕ × A) × Contains xs y × (y.0 ≡ line) × (f y.1 ≡ v))
          → (y : ℕ × A) × Contains (x ∷ xs) y × (y.0 ≡ line) × (f y.1 ≡ v)
      at (inl same) rest = (x, (0, omega arith, refl), same, same_Some (f x.1) v (sym (at_first x xs line same) ∙ is))
      at (inr other) rest =
          let one = rest (sym (at_rest x xs line other) ∙ is) in
          (one.0, (suc one.1.0, (let small = one.1.1 in omega arith), one.1.2), one.2, one.3)
