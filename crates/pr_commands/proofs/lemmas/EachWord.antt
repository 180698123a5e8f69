-- What words are, one after another.
use Rattle.pr_commands.proofs.Common.{◌≡◌, ℕ, List, [], ◌∷◌, ◌++◌, Option, Some, None, option_map, option_and_then, refl, sym, ap, ◌∙◌}
use Rattle.std.proofs.lemmas.List.{append_assoc}
use Rattle.pr_commands.specs.EachWord.{each_of}

-- what the first words are stands in front of what the others are
abbrev pub onto : {X : Type 0} → List X → Option (List X) → Option (List X)
onto xs rest = option_map (λ more. xs ++ more) rest

onto-more : {X : Type 0} (xs : List X) (x : X) (rest : Option (List X)) → onto xs (option_map (λ more. x ∷ more) rest) ≡ onto (xs ++ x ∷ []) rest
onto-more xs x None = refl
onto-more xs x (Some more) = ap Some (sym (append_assoc xs (x ∷ []) more))

module _ {X : Type 0} (word_of : List ℕ → Option X) (word : List ℕ) (words : List (List ℕ)) (xs : List X) where
  -- a word that is something
  pub one_more : (x : X) → word_of word ≡ Some x → onto xs (each_of word_of (word ∷ words)) ≡ onto (xs ++ x ∷ []) (each_of word_of words)
  one_more x is = ap (λ o. onto xs (option_and_then (λ y. option_map (λ more. y ∷ more) (each_of word_of words)) o)) is ∙ onto-more xs x (each_of word_of words)

  -- one that is nothing
  pub one_none : word_of word ≡ None → onto xs (each_of word_of (word ∷ words)) ≡ None
  one_none none = ap (λ o. onto xs (option_and_then (λ y. option_map (λ more. y ∷ more) (each_of word_of words)) o)) none
