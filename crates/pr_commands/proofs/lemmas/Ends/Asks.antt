-- The ends that words ask for.
use Rattle.pr_commands.proofs.Common.{◌≡◌, ℕ, zero, suc, Bool, true, List, [], ◌∷◌, Option, Some, None, refl, ap, ◌∙◌, option_and_then, replicate, slice_index_or, slice_get, Scenario, task, End, names_in, ask_of, asks_from, exits_of}
use Rattle.std.proofs.Common.{◌&&◌, option_map, if◌then◌else◌}
use Rattle.std.specs.Prelude.{slice_set}
use Rattle.std.proofs.lemmas.List.{map-set}
use Rattle.pr_explore.specs.Exits.{Exit}
use Rattle.pr_explore.specs.Together.{exit_in}
use Rattle.pr_commands.specs.Asked.{is_free, with_ask}
use Rattle.pr_commands.specs.Sayings.{may_end_so}

-- one more end is asked for
pub exits_set : (asked : List (Option End)) (i : ℕ) (e : End) → exits_of (slice_set asked i (Some e)) ≡ slice_set (exits_of asked) i (Some (exit_in (Some e)))
exits_set asked i e = map-set (option_map (λ d. exit_in (Some d))) asked i (Some e)

pub nothing_asked : (n : ℕ) → exits_of (replicate n None) ≡ replicate n None
nothing_asked zero = refl
nothing_asked (suc n) = ap (λ ys. None ∷ ys) (nothing_asked n)

-- of one that is there
pub free_there : (asked : List (Option End)) (i : ℕ) (o : Option End) → slice_get asked i ≡ Some o → is_free (slice_index_or (exits_of asked) i None) ≡ is_free (option_map (λ e. exit_in (Some e)) o)
free_there [] i o is = let bad : None ≡ Some o = is in absurd (cc)
free_there (x ∷ xs) zero o is = let same : x ≡ o = cc in ap (λ y. is_free (option_map (λ e. exit_in (Some e)) y)) same
free_there (x ∷ xs) (suc i) o is = free_there xs i o is

pub free_past : (asked : List (Option End)) (i : ℕ) → slice_get asked i ≡ None → is_free (slice_index_or (exits_of asked) i None) ≡ true
free_past [] i is = refl
free_past (x ∷ xs) zero is = let bad : Some x ≡ None = is in absurd (cc)
free_past (x ∷ xs) (suc i) is = free_past xs i is

module _ (s : Scenario) (asks : List (Option Exit)) (word : List ℕ) (words : List (List ℕ)) where
  abbrev rest : Option (List (Option Exit)) → Option (List (Option Exit))
  rest o = option_and_then (λ more. asks_from s more words) o

  -- a word that asks for nothing
  pub ask_none : ask_of (names_in s) word ≡ None → asks_from s asks (word ∷ words) ≡ None
  ask_none none = ap (λ o. rest (option_and_then (with_ask s asks) o)) none

  -- one that asks of a guest, or once more, asks for nothing; another asks for one end more
  pub asked_so : (a : ℕ × Exit) (b : Bool) → ask_of (names_in s) word ≡ Some a → (may_end_so a.1 (task s a.0) && is_free (slice_index_or asks a.0 None)) ≡ b
      → asks_from s asks (word ∷ words) ≡ rest (if b then Some (slice_set asks a.0 (Some a.1)) else None)
  asked_so a b is may = ap (λ o. rest (option_and_then (with_ask s asks) o)) is ∙ ap (λ x. rest (if x then Some (slice_set asks a.0 (Some a.1)) else None)) may
