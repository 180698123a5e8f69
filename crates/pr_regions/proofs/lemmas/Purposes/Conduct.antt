-- What each purpose does in a state, whichever command asks for it.
use Rattle.pr_regions.proofs.Common.{◌≡◌, ℕ, suc, ◌+◌, ◌<◌, ◌≤◌, Bool, true, false, cond, not, ◌||◌, List, [], ◌∷◌, length, get_or, nat_lt, ◌==◌, Some, None, Option, unwrap_or, sym, refl, ap, ◌∙◌, subst, arith, position, list_any, false≢true, nat_tests, Command, Kind, Sense, State, key_of, key_at, HasNumber, number_in, Purpose, option_map_or, is_declared}
use Rattle.pr_unit.specs.declared.demand.Demand.TheVariants.{Read, Write, Look, Register, Unregister, Reserve, Release, Clear, PreemptAll, Preempt}
use Rattle.std.specs.List.{position_or_len, slice_get}
use Rattle.std.proofs.lemmas.List.Quantifiers.{position-Some}
use Rattle.std.proofs.lemmas.Option.{slice_get-get_or}
use Rattle.pr_registry.specs.declared.change.Change.{Change}
use Rattle.pr_unit.specs.Demands.{Asked, demand_of, is_not_admitted}
use Rattle.pr_unit.specs.Conduct.{conduct, command_conflicts, command_fault}
use Rattle.pr_unit.specs.UnitStates.{registry_after, change}
use Rattle.pr_unit.specs.inside.Readiness.{IsReady}
use Rattle.pr_unit.proofs.lemmas.Demands.{ready}
use Rattle.pr_regions.specs.Purposes.{numbered, purpose_of}

-- the key of this number, if there is one
abbrev pub key_named : List ℕ → ℕ → ℕ
key_named keys j = unwrap_or (key_at keys j) 0

-- what a purpose asks for, its key in place of the number
abbrev pub keyed : List ℕ → Purpose → Asked
keyed keys Look = Look
keyed keys (Read in_range) = Read in_range
keyed keys (Write in_range) = Write in_range
keyed keys (Register j) = Register (key_named keys j)
keyed keys Unregister = Unregister
keyed keys (Reserve t) = Reserve t
keyed keys (Release t) = Release t
keyed keys Clear = Clear
keyed keys (PreemptAll t) = PreemptAll (Some t)
keyed keys (Preempt j t) = Preempt (key_named keys j) (Some t)

-- an accepted command of this purpose ends in RESERVATION CONFLICT
abbrev pub conflicts_for : List ℕ → State → ℕ → Purpose → Bool
conflicts_for keys u h p = (conduct u h (keyed keys p)).kept

-- its own fault
abbrev pub fault_for : List ℕ → State → ℕ → Purpose → Option Sense
fault_for keys u h p = (conduct u h (keyed keys p)).fault

-- the registry once it has ended GOOD
abbrev pub after_for : List ℕ → State → ℕ → Purpose → State
after_for keys u h p = (conduct u h (keyed keys p)).after

-- whom it then removes and tells
abbrev pub change_for : List ℕ → State → ℕ → Purpose → Change
change_for keys u h p = (conduct u h (keyed keys p)).change

-- the number that the purpose names is a key's
abbrev pub IsNamed : List ℕ → Purpose → Type 0
IsNamed keys (Register j) = (j ≤ length keys) × (key_at keys j ≡ Some (key_named keys j))
IsNamed keys (Preempt j t) = (j ≤ length keys) × (key_at keys j ≡ Some (key_named keys j))
IsNamed keys _ = Unit {0}

-- an accepted command that ends so is of this purpose
pub record IsAsked (keys : List ℕ) (u : State) (h : ℕ) (p : Purpose) (conflicts : Bool) (fault : Option Sense) (v : State) (told : Change) : Type 0 where
  pub named : IsNamed keys p
  pub ready : IsReady u h (keyed keys p)
  pub conflicting : conflicts ≡ conflicts_for keys u h p
  pub faulty : fault ≡ fault_for keys u h p
  pub after : v ≡ after_for keys u h p
  pub change : told ≡ change_for keys u h p

-- ---- numbers of keys

pub number_named : (keys : List ℕ) (k n : ℕ) → number_in keys k ≡ n → 1 ≤ n → (n ≤ length keys) × (key_at keys n ≡ Some k)
number_named keys k n is some = at (position (λ key. key == k) keys) n refl is some
  where
    at : (place : Option ℕ) (n : ℕ) → position (λ key. key == k) keys ≡ place → option_map_or suc place 0 ≡ n → 1 ≤ n → (n ≤ length keys) × (key_at keys n ≡ Some k)
    at None n at_place is some = absurd (omega arith)
    at (Some i) n at_place is some =
        let found = position-Some (λ key. key == k) keys i 0 at_place in
        let same : get_or keys i 0 ≡ k = let test = found.1 in grind (arith, nat_tests) in
        let there : slice_get keys i ≡ Some k = slice_get-get_or keys i 0 found.0 ∙ ap Some same in
        let P : ℕ → Type 0 = λ m. (m ≤ length keys) × (key_at keys m ≡ Some k) in
        let inside : suc i ≤ length keys = let small = found.0 in omega arith in
        subst P is (inside, there)

-- a declared key has one
place_below : (p : ℕ → Bool) (xs : List ℕ) → list_any p xs ≡ true → position_or_len p xs < length xs
place_below p [] there = absurd (false≢true there)
place_below p (x ∷ xs) there = at (p x) there (place_below p xs)
  where
    at : (b : Bool) → (b || list_any p xs) ≡ true → (list_any p xs ≡ true → position_or_len p xs < length xs) → cond (not b) (1 + position_or_len p xs) 0 < length (x ∷ xs)
    at true there more = omega arith
    at false there more = let below = more there in omega arith

pub declared_number : (keys : List ℕ) (k : ℕ) → is_declared keys k ≡ true → 1 ≤ number_in keys k
declared_number keys k there =
    let below : nat_lt (position_or_len (λ key. key == k) keys) (length keys) ≡ true = let small = place_below (λ key. key == k) keys there in grind (arith, nat_tests) in
    subst (λ (b : Bool). 1 ≤ option_map_or suc (cond b (Some (position_or_len (λ key. key == k) keys)) None) 0) (sym below) (omega arith)

named_as : (keys : List ℕ) (k n : ℕ) → key_at keys n ≡ Some k → key_named keys n ≡ k
named_as keys k n there = ap (λ o. unwrap_or o 0) there

-- ---- by the commands

-- the operation is what the purpose asks for, and the key that it names has the number
record IsKeyed (keys : List ℕ) (o : Asked) (p : Purpose) : Type 0 where
  is : o ≡ keyed keys p
  named : IsNamed keys p

alike : (keys : List ℕ) (o : Asked) (q p : Purpose) → Some q ≡ Some p → IsKeyed keys o q → IsKeyed keys o p
alike keys o q p same is = let e : q ≡ p = cc in subst (IsKeyed keys o) e is

registered : (keys : List ℕ) (key : ℕ) (p : Purpose) → HasNumber p → Some (Register (number_in keys key)) ≡ Some p → IsKeyed keys (Register key) p
registered keys key p has same =
    let e : Register (number_in keys key) ≡ p = cc in
    let there = number_named keys key (number_in keys key) refl (subst HasNumber (sym e) has).0 in
    let is = named_as keys key (number_in keys key) there.1 in
    subst (IsKeyed keys (Register key)) e (record { is = ap (λ k. Register k) (sym is); named = (there.0, there.1 ∙ ap Some (sym is)) })

preempted : (keys : List ℕ) (key : ℕ) (t : Kind) (p : Purpose) → HasNumber p → Some (Preempt (number_in keys key) t) ≡ Some p → IsKeyed keys (Preempt key (Some t)) p
preempted keys key t p has same =
    let e : Preempt (number_in keys key) t ≡ p = cc in
    let there = number_named keys key (number_in keys key) refl (subst HasNumber (sym e) has).0 in
    let is = named_as keys key (number_in keys key) there.1 in
    subst (IsKeyed keys (Preempt key (Some t))) e (record { is = ap (λ k. Preempt k (Some t)) (sym is); named = (there.0, there.1 ∙ ap Some (sym is)) })

keyed_back : (keys : List ℕ) (o : Asked) (p : Purpose) → HasNumber p → numbered keys o ≡ Some p → IsKeyed keys o p
keyed_back keys Look p has same = alike keys Look Look p same (record { is = refl; named = tt })
keyed_back keys (Read in_range) p has same = alike keys (Read in_range) (Read in_range) p same (record { is = refl; named = tt })
keyed_back keys (Write in_range) p has same = alike keys (Write in_range) (Write in_range) p same (record { is = refl; named = tt })
keyed_back keys (Register key) p has same = registered keys key p has same
keyed_back keys Unregister p has same = alike keys Unregister Unregister p same (record { is = refl; named = tt })
keyed_back keys (Reserve t) p has same = alike keys (Reserve t) (Reserve t) p same (record { is = refl; named = tt })
keyed_back keys (Release t) p has same = alike keys (Release t) (Release t) p same (record { is = refl; named = tt })
keyed_back keys Clear p has same = alike keys Clear Clear p same (record { is = refl; named = tt })
keyed_back keys (PreemptAll (Some t)) p has same = alike keys (PreemptAll (Some t)) (PreemptAll t) p same (record { is = refl; named = tt })
keyed_back keys (Preempt key (Some t)) p has same = preempted keys key t p has same
keyed_back keys (PreemptAll None) p has same = let bad : None ≡ Some p = same in cc
keyed_back keys (Preempt key None) p has same = let bad : None ≡ Some p = same in cc

pub asked : (keys : List ℕ) (u : State) (h : ℕ) (p : Purpose) (c : Command) → HasNumber p → purpose_of keys c ≡ Some p → is_not_admitted (key_of u h) c ≡ false
    → IsAsked keys u h p (command_conflicts u h c) (command_fault u h c) (registry_after u h c) (change u h c)
asked keys u h p c has same accepted =
    let back = keyed_back keys (demand_of c) p has same in
    record {
      named = back.named;
      ready = subst (IsReady u h) back.is (ready u h c accepted);
      conflicting = ap (λ b. b || (conduct u h (demand_of c)).kept) accepted ∙ ap (λ o. (conduct u h o).kept) back.is;
      faulty = ap (λ o. (conduct u h o).fault) back.is;
      after = ap (λ o. (conduct u h o).after) back.is;
      change = ap (λ o. (conduct u h o).change) back.is;
    }
