-- The words of a question.
use Rattle.pr_commands.proofs.Common.{◌≡◌, ℕ, ◌+◌, ◌<◌, List, ◌++◌, length, drop, ap, flat_map, map, subst}
use Rattle.std.specs.Borrow.{Bor}
use Rattle.std.proofs.Common.{get_or}
use Rattle.std.specs.Prelude.{Contains}
use Rattle.std.proofs.lemmas.List.{drop_more, get_or-map, length-map}
use Rattle.std.proofs.lemmas.List.Elements.{Contains-get_or}

-- what is written of the words from this one on: of this one, and of the others
pub texts_from : (f : List ℕ → List ℕ) (ws : List (Bor (List ℕ))) (i : ℕ) (d : Bor (List ℕ)) → i < length ws
    → flat_map f (map (λ w. w.now) (drop i ws)) ≡ f (get_or ws i d).now ++ flat_map f (map (λ w. w.now) (drop (i + 1) ws))
texts_from f ws i d there = ap (λ xs. flat_map f (map (λ w. w.now) xs)) (drop_more ws i d there)

-- a word is one of them
pub text_there : (ws : List (Bor (List ℕ))) (i : ℕ) (d : Bor (List ℕ)) → i < length ws → Contains (map (λ w. w.now) ws) (get_or ws i d).now
text_there ws i d there =
    subst (Contains (map (λ w. w.now) ws)) (get_or-map (λ w. w.now) ws i d d.now there) (Contains-get_or (map (λ w. w.now) ws) i d.now (rw (length-map ws (λ (w : Bor (List ℕ)). w.now)) there))
