-- The first start: that it is allowed, and that it is there where some state is allowed.
use Rattle.pr_roles.proofs.Common.{◌≡◌, ℕ, zero, suc, ◌+◌, ◌<◌, Bool, true, false, cond, not, ◌⊎◌, List, [], ◌∷◌, map, length, is_some, ◌==◌, slice_get, slice_index_or, Some, None, Contains, Option, option_map, sym, refl, ap, ◌∙◌, subst, inl, inr, arith, list_all, false≢true, none-some, same_Some, slice_get-map, IsKey, Starts, first_of, first_key, start_of, slice_get_within, ◌||◌}
use Rattle.std.specs.List.{position_from, All}
use Rattle.std.proofs.Common.{◌≢◌, position, slice_set}
use Rattle.std.proofs.lemmas.Bool.Decides.{eqb_tells}
use Rattle.std.proofs.lemmas.Iterator.Adapters.{position_from-zero}
use Rattle.std.proofs.lemmas.List.Elements.{All-contains, Contains-append_right}
use Rattle.std.proofs.lemmas.List.Sums.{AllPass-from_list_all}
use Rattle.std.proofs.lemmas.Option.{get_or_from_slice_get}
use Rattle.pr_script.specs.Grammar.{is_declared}
use Rattle.pr_roles.specs.declared.parts.Nexus.{Nexus as NexusPart}

-- ---- where a test first passes

position_from_starts : (p : List (Option ℕ) → Bool) (n : ℕ) (ns : List NexusPart)
    → position_from p n (map start_of ns) ≡ position_from (λ x. p (start_of x)) n ns
position_from_starts p n [] = refl
position_from_starts p n (x ∷ ns) = ap (λ o. cond (p (start_of x)) (Some n) o) (position_from_starts p (n + 1) ns)

pub position_of_starts : (p : List (Option ℕ) → Bool) (ns : List NexusPart)
    → position p (map start_of ns) ≡ position (λ x. p (start_of x)) ns
position_of_starts p ns =
    position_from-zero p (map start_of ns) ∙ (position_from_starts p 0 ns ∙ sym (position_from-zero (λ x. p (start_of x)) ns))

pub start_at : (ns : List NexusPart) (h : ℕ) → slice_get (map start_of ns) h ≡ option_map start_of (slice_get ns h)
start_at ns h = slice_get-map start_of ns h

-- ---- elements

pub contains_first : {X : Type 0} (x : X) (xs : List X) → Contains (x ∷ xs) x
contains_first x xs = (0, omega arith, refl)

-- what all pass, each element passes
pub all_pass : {X : Type 0} (p : X → Bool) (xs : List X) (x : X) → list_all p xs ≡ true → Contains xs x → p x ≡ true
all_pass p xs x pass there = All-contains (λ x. p x ≡ true) xs x (AllPass-from_list_all p xs pass) there

-- a declared key is one of the keys
pub declared_key : (keys : List ℕ) (k : ℕ) → All IsKey keys → is_declared keys k ≡ true → IsKey k
declared_key [] k each declared = absurd (false≢true declared)
declared_key (j ∷ keys) k each declared =
    by (eqb_tells j k) (λ later. declared_key keys k (λ i d short. each (suc i) d (omega (arith, short))) later)
  where
    by : (((j == k) ≡ true) × (j ≡ k)) ⊎ (((j == k) ≡ false) × (j ≢ k)) → (is_declared keys k ≡ true → IsKey k) → IsKey k
    by (inl same) later = subst IsKey same.1 (each 0 j (omega arith))
    by (inr other) later = later (sym (ap (λ b. b || is_declared keys k) other.0) ∙ declared)

-- ---- the registrations of the first start

-- each is one of the alternatives of its nexus
pub Chosen : Starts → List (Option ℕ) → Type 0
Chosen [] [] = Unit {0}
Chosen (ks ∷ all) (k ∷ keys) = Contains ks k × Chosen all keys
Chosen _ _ = ⊥

pub chosen_length : (all : Starts) (keys : List (Option ℕ)) → Chosen all keys → length keys ≡ length all
unfolding Chosen
chosen_length [] [] chosen = refl
chosen_length (ks ∷ all) (k ∷ keys) chosen = omega (arith, chosen_length all keys chosen.1)
chosen_length _ _ chosen = absurd chosen

pub chosen_at : (all : Starts) (keys : List (Option ℕ)) (h : ℕ) (ks : List (Option ℕ)) → Chosen all keys → slice_get all h ≡ Some ks → Contains ks (slice_index_or keys h None)
unfolding Chosen
chosen_at [] keys h ks chosen is = absurd (none-some _ is)
chosen_at (js ∷ all) [] h ks chosen is = absurd chosen
chosen_at (js ∷ all) (k ∷ keys) zero ks chosen is = subst (λ l. Contains l k) (same_Some _ _ is) chosen.0
chosen_at (js ∷ all) (k ∷ keys) (suc h) ks chosen is = chosen_at all keys h ks chosen.1 is

pub chosen_set : (all : Starts) (keys : List (Option ℕ)) (h : ℕ) (ks : List (Option ℕ)) (k : Option ℕ) → Chosen all keys → slice_get all h ≡ Some ks → Contains ks k → Chosen all (slice_set keys h k)
unfolding Chosen
chosen_set [] keys h ks k chosen is there = absurd (none-some _ is)
chosen_set (js ∷ all) [] h ks k chosen is there = absurd chosen
chosen_set (js ∷ all) (j ∷ keys) zero ks k chosen is there = (subst (λ l. Contains l k) (sym (same_Some _ _ is)) there, chosen.1)
chosen_set (js ∷ all) (j ∷ keys) (suc h) ks k chosen is there = (chosen.0, chosen_set all keys h ks k chosen.1 is there)

-- every nexus has some alternative
unfoldable pub AreOffered : Starts → Type 0
AreOffered [] = Unit {0}
AreOffered (ks ∷ all) = (not (length ks == 0) ≡ true) × AreOffered all

first_chosen : (ks : List (Option ℕ)) → not (length ks == 0) ≡ true → Contains ks (first_of ks)
first_chosen [] offered = absurd (false≢true offered)
first_chosen (k ∷ ks) offered = contains_first k ks

pub firsts_chosen : (all : Starts) → AreOffered all → Chosen all (map first_of all)
unfolding Chosen AreOffered
firsts_chosen [] offered = tt
firsts_chosen (ks ∷ all) offered = (first_chosen ks offered.0, firsts_chosen all offered.1)

pub first_key_there : (ks : List (Option ℕ)) (k : ℕ) → first_key ks ≡ Some k → Contains ks (Some k)
first_key_there [] k is = absurd (none-some _ is)
first_key_there (None ∷ ks) k is = Contains-append_right (None ∷ []) ks (Some k) (first_key_there ks k is)
first_key_there ((Some j) ∷ ks) k is = subst (λ o. Contains ((Some j) ∷ ks) o) is (contains_first (Some j) ks)

-- a key among the alternatives is enough for a first one
pub first_key_found : (ks : List (Option ℕ)) (k : ℕ) → Contains ks (Some k) → is_some (first_key ks) ≡ true
first_key_found ks k there = at ks there.0 there.1 there.2
  where
    at : (ks : List (Option ℕ)) (i : ℕ) → i < length ks → slice_index_or ks i (Some k) ≡ Some k → is_some (first_key ks) ≡ true
    at [] i short is = absurd (omega (arith, short))
    at ((Some j) ∷ ks) i short is = refl
    at (None ∷ ks) zero short is = absurd (none-some _ is)
    at (None ∷ ks) (suc i) short is = at ks i (omega (arith, short)) is

pub slice_get_contains : {X : Type 0} (xs : List X) (i : ℕ) (x : X) → slice_get xs i ≡ Some x → Contains xs x
slice_get_contains xs i x is = (i, slice_get_within xs i x is, get_or_from_slice_get xs i x x is)
