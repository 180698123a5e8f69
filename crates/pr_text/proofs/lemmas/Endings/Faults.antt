-- What is wrong after the last line is what is missing, or else that there is no start; and on whose paths somebody else may send.
use Rattle.pr_text.proofs.Common.{◌≡◌, ℕ, zero, suc, List, [], ◌∷◌, map, ap, ◌∙◌, slice_get, Declaration, Bool, true, false, cond, length, ◌==◌, Some, None, Ok, Err, Option, option_map, refl, option_map_or, Declared, Context, outside, and_then, unless, starts_somewhere, first_unscripted, end_placed, ReadError, missing_fault}
use Rattle.pr_text.specs.declared.fault.ReadError.TheVariants as fault
use Rattle.pr_roles.specs.Scenarios.{is_shared_by}
use Rattle.pr_text.specs.Reading.{is_shared_path}
use Rattle.pr_text.specs.inside.Endings.{missing_at, start_result}

last : (b : Bool) (d : Declared) → unless (cond b None (Some fault.EmptyStart)) d ≡ cond b (Ok d) (Err fault.EmptyStart)
last true d = refl
last false d = refl

in_turn : (b : Bool) (o : Option ℕ) (e : ReadError) (d : Declared)
    → unless (cond b (Some e) (option_map_or (λ line. Some (fault.Syntax line)) o (cond (starts_somewhere d) None (Some fault.EmptyStart)))) d
    ≡ and_then (unless (cond b (Some e) (option_map (λ line. fault.Syntax line) o)) d) start_result
in_turn false None e d = last (starts_somewhere d) d
in_turn _ _ e d = refl

abbrev at_place : Declared → Context → Declared
at_place d p = record d { place = p }

ended_at : (n : ℕ) (d : Declared) (p : Context) → end_placed n (at_place d p) ≡ and_then (unless (missing_at n (at_place d p) p) (at_place d p)) start_result
unfolding end_placed
ended_at n d outside = in_turn (length d.nexuses == 0) (first_unscripted d.nexuses) _ (at_place d outside)
ended_at n d _ = refl

pub ended_in_turn : (n : ℕ) (d : Declared) → end_placed n d ≡ and_then (unless (missing_fault n d) d) start_result
ended_in_turn n d = ended_at n d d.place

-- what is said of each path is so of the path with its number
pub paths_of : (version : ℕ) (paths : List Bool) (xs : List Declaration) (h : ℕ) → paths ≡ map (is_shared_path version) xs
    → is_shared_by paths h ≡ option_map_or (is_shared_path version) (slice_get xs h) false
paths_of version paths xs h same = ap (λ l. is_shared_by l h) same ∙ at xs h
  where
    at : (ys : List Declaration) (k : ℕ) → is_shared_by (map (is_shared_path version) ys) k ≡ option_map_or (is_shared_path version) (slice_get ys k) false
    at [] k = refl
    at (y ∷ ys) zero = refl
    at (y ∷ ys) (suc k) = at ys k
