-- Lists without repetition, and lists of parts.
use Rattle.pr_roles.proofs.Common.{◌≡◌, ℕ, ◌<◌, Bool, not, ◌&&◌, List, [], ◌∷◌, map, length, slice_index_or, bytes_eq, sym, refl, ap, ◌∙◌, list_all, are_distinct, Nexus, nexus_of, list_any, length-map}
use Rattle.std.specs.Prelude.{◌||◌}
use Rattle.std.proofs.lemmas.List.{get_or-map}
use Rattle.std.proofs.lemmas.List.Folds.{list_all-map}
use Rattle.std.proofs.lemmas.Simd.{map-map}
use Rattle.pr_roles.specs.declared.parts.Nexus.{Nexus as NexusPart}

any_same : {X : Type 0} (f g : X → Bool) → ((x : X) → f x ≡ g x) → (xs : List X) → list_any f xs ≡ list_any g xs
any_same f g same [] = refl
any_same f g same (x ∷ xs) = ap (λ b. b || list_any f xs) (same x) ∙ ap (λ b. g x || b) (any_same f g same xs)

-- by tests that agree
pub distinct_same : {X : Type 0} (e f : X → X → Bool) → ((x y : X) → e x y ≡ f x y) → (xs : List X) → are_distinct e xs ≡ are_distinct f xs
distinct_same e f same [] = refl
distinct_same e f same (x ∷ xs) =
    ap (λ b. not b && are_distinct e xs) (any_same (λ y. e y x) (λ y. f y x) (λ y. same y x) xs)
    ∙ ap (λ b. not (list_any (λ y. f y x) xs) && b) (distinct_same e f same xs)

pub all_of_parts : (p : Nexus → Bool) (ns : List NexusPart) → list_all p (map nexus_of ns) ≡ list_all (λ n. p (nexus_of n)) ns
all_of_parts p ns = list_all-map p nexus_of ns

pub names_of_parts : (ns : List NexusPart) → map (λ n. n.name) (map nexus_of ns) ≡ map (λ n. n.name.bytes) ns
names_of_parts ns = map-map (λ n. n.name) nexus_of ns

pub length_of_parts : (ns : List NexusPart) → length (map nexus_of ns) ≡ length ns
length_of_parts ns = length-map ns nexus_of

-- ---- names

any_named : (x : NexusPart) (ns : List NexusPart)
    → list_any (λ y. bytes_eq y x.name.bytes) (map (λ n. n.name.bytes) ns) ≡ list_any (λ o. bytes_eq o.name.bytes x.name.bytes) ns
any_named x [] = refl
any_named x (n ∷ ns) = ap (λ b. bytes_eq n.name.bytes x.name.bytes || b) (any_named x ns)

-- by whether one of the others has the name of the first
pub named_apart : (x : NexusPart) (ns : List NexusPart) (b : Bool) → list_any (λ o. bytes_eq o.name.bytes x.name.bytes) ns ≡ b
    → are_distinct bytes_eq (map (λ n. n.name.bytes) (x ∷ ns)) ≡ (not b && are_distinct bytes_eq (map (λ n. n.name.bytes) ns))
named_apart x ns b is = ap (λ b. not b && are_distinct bytes_eq (map (λ n. n.name.bytes) ns)) (any_named x ns ∙ is)

-- equal parts are equal place by place
pub part_at : (ns ms : List NexusPart) (i : ℕ) (d e : NexusPart) → i < length ns → i < length ms → map nexus_of ns ≡ map nexus_of ms
    → nexus_of (slice_index_or ns i d) ≡ nexus_of (slice_index_or ms i e)
part_at ns ms i d e here there same =
    sym (get_or-map nexus_of ns i d (nexus_of d) here) ∙ (ap (λ l. slice_index_or l i (nexus_of d)) same ∙ get_or-map nexus_of ms i e (nexus_of d) there)
