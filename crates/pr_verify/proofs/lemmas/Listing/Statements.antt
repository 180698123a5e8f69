-- What comes first of a repeat, and the places of a statement by its kind.
use Rattle.pr_verify.proofs.Common.{◌≡◌, ℕ, zero, suc, List, [], ◌∷◌, ◌++◌, map, Contains, refl, ap, ◌∙◌, All-nil, All-cons, All-append, All-map, All-contains, Command, sends, repeats, Stmts, Arms, Test, out_of, head_of, head_of_all, round, Place, tests_of, next_of, place, places_in, places, places_of_arms, Spot, place_of, AreInRange}
use Rattle.std.proofs.Common.{append_assoc}
use Rattle.std.proofs.lemmas.List.{map_push}
use Rattle.pr_cdb.specs.Ranges.{Fits}

pub head_of-repeats : (n : ℕ) (b : Stmts) → (n ≡ 0 → ⊥) → head_of (repeats n b) ≡ out_of (head_of_all b)
head_of-repeats zero b some = absurd (some refl)
head_of-repeats (suc n) b some = refl

abbrev record_of : ℕ → Command → List Test → List (List ℕ) → Place
record_of n c ts ls = record { line = n; command = c; tests = ts; next = ls }

place_same : (n : ℕ) (c : Command) (ts us : List Test) (ls ms : List (List ℕ)) → ts ≡ us → ls ≡ ms
    → record_of n c ts ls ≡ record_of n c us ms
place_same n c ts us ls ms tests next = ap (λ xs. record_of n c xs ls) tests ∙ ap (record_of n c us) next

place_of-sends : (spot : Spot) (arms : Arms) (after broken : List ℕ)
    → spot.tests.items ≡ tests_of arms → map (λ lines. lines.items) spot.next.items ≡ next_of arms after broken
    → place_of spot ≡ place spot.line spot.command arms after broken
place_of-sends spot arms after broken tests next =
    place_same spot.line spot.command _ _ _ _ tests next

-- a send and then the sends in its arms
pub send_listed : (before with_it last : List Spot) (spot : Spot) (arms : Arms) (after broken : List ℕ)
    → with_it ≡ before ++ spot ∷ [] → spot.tests.items ≡ tests_of arms → map (λ lines. lines.items) spot.next.items ≡ next_of arms after broken
    → map place_of last ≡ map place_of with_it ++ places_of_arms arms after broken
    → map place_of last ≡ map place_of before ++ places_in (sends spot.line spot.command arms) after broken
send_listed before with_it last spot arms after broken pushed tests next rest =
    rest ∙ ap (λ spots. map place_of spots ++ places_of_arms arms after broken) pushed
    ∙ ap (λ ps. ps ++ places_of_arms arms after broken) (map_push place_of before spot)
    ∙ append_assoc (map place_of before) (place_of spot ∷ []) (places_of_arms arms after broken)
    ∙ ap (λ (p : Place). map place_of before ++ (p ∷ places_of_arms arms after broken)) (place_of-sends spot arms after broken tests next)

-- the sends in a repeat, by the lines around its body
pub repeat_listed : (before last : List Spot) (n : ℕ) (b : Stmts) (after around broken : List ℕ) → around ≡ round n b after
    → map place_of last ≡ map place_of before ++ places b around after
    → map place_of last ≡ map place_of before ++ places_in (repeats n b) after broken
repeat_listed before last n b after around broken is listed = listed ∙ ap (λ ls. map place_of before ++ places b ls after) is

-- ---- the fields of what is sent

pub none_in_range : AreInRange []
unfolding AreInRange
none_in_range = All-nil (λ s. Fits s.command)

pub one_more_in_range : (before with_it : List Spot) (spot : Spot) → with_it ≡ before ++ spot ∷ [] → Fits spot.command
    → AreInRange before → AreInRange with_it
unfolding AreInRange
one_more_in_range before with_it spot pushed fits all =
    rw pushed (All-append (λ s. Fits s.command) before (spot ∷ []) all (All-cons (λ s. Fits s.command) spot [] fits (All-nil (λ s. Fits s.command))))

pub fields_of : (spots : List Spot) (ps : List Place) → map place_of spots ≡ ps → AreInRange spots
    → (p : Place) → Contains ps p → Fits p.command
unfolding AreInRange
fields_of spots ps same all p there =
    All-contains (λ (q : Place). Fits q.command) (map place_of spots) p (All-map (λ (q : Place). Fits q.command) place_of spots all) (rw same there)
