-- Which arm takes the data of READ KEYS, one arm after another.
use Rattle.pr_regions.proofs.Common.{◌≡◌, ℕ, ◌+◌, ◌<◌, ◌≤◌, Bool, true, false, cond, not, ◌&&◌, ◌≢◌, ◌⊎◌, List, [], ◌∷◌, ◌++◌, length, get_or, if◌then◌else◌, nat_lt, ◌==◌, Some, None, Option, sym, refl, ap, ◌∙◌, subst, inl, inr, arith, position, not-true, has, BitSet, Command, Held, UnitState, matches, HasSomebody, Scope, IsScope, Registration, IsSo, IsInRegion, only, IsKnown, answer, MOST_KEYS, get_or_default, Contains, and_parts, One, Region, filter_of, HasThose}
use Rattle.std.proofs.Common.{below_more}
use Rattle.std.proofs.lemmas.Bool.{lt-ltb, le-ltb}
use Rattle.std.proofs.lemmas.List.Sums.{position_or_len_is}
use Rattle.std.proofs.lemmas.List.Elements.{Contains-push, Contains-push_cases, Contains-append_left}
use Rattle.pr_registry.specs.declared.held.Held.TheVariants.{All as Everybody}
use Rattle.pr_script.specs.declared.script.Test.{Test}
use Rattle.pr_regions.specs.declared.region.Reading.{Reading}
use Rattle.pr_regions.specs.declared.key_reads.Ask.TheVariants.{Always, Never, Somebody}
use Rattle.pr_regions.specs.Readings.{first_test, IsRead, AreReadings}
use Rattle.pr_regions.specs.inside.Reads.{HasNobody, IsAsked, open_to, AreReadSoFar}
use Rattle.pr_regions.proofs.lemmas.Parts.Branches.{somebody_or_none}
use Rattle.pr_regions.proofs.lemmas.Portions.GatheredStates.{few_keys}

-- ---- lists

-- the first that passes
position_at : {X : Type 0} (p : X → Bool) (xs : List X) (i : ℕ) (d : X) → i < length xs → ((k : ℕ) → k < i → p (get_or xs k d) ≡ false) → p (get_or xs i d) ≡ true → position p xs ≡ Some i
position_at p xs i d small before there =
    let first = position_or_len_is p xs i d (omega arith) before (λ _. there) in
    ap (λ n. cond (nat_lt n (length xs)) (Some n) None) first ∙ ap (λ b. cond b (Some i) None) (lt-ltb i (length xs) small)

position_none : {X : Type 0} (p : X → Bool) (xs : List X) → ((k : ℕ) (d : X) → k < length xs → p (get_or xs k d) ≡ false) → position p xs ≡ None
position_none p [] none = refl
position_none p (x ∷ xs) none =
    let d = x in
    let first = position_or_len_is p (x ∷ xs) (length (x ∷ xs)) d (omega arith) (λ k small. none k d small) (λ small. absurd (omega arith)) in
    ap (λ n. cond (nat_lt n (length (x ∷ xs))) (Some n) None) first ∙ ap (λ b. cond b (Some (length (x ∷ xs))) None) (le-ltb (length (x ∷ xs)) (length (x ∷ xs)) (omega arith))

-- ---- regions that leave the same to all others

-- the region in which, besides, one of them has this
abbrev pub asking : BitSet → BitSet → Region
asking left w = record { holder = left; others = left; somebody = Some w }

open_filter : (left : BitSet) (somebody : Option BitSet) (held : Option Held) (g : ℕ) → filter_of (record { holder = left; others = left; somebody = somebody }) held g ≡ left
open_filter left somebody None g = refl
open_filter left somebody (Some (Everybody kind)) g = refl
open_filter left somebody (Some (One kind h)) g = at (h == g)
  where
    at : (b : Bool) → (if b then left else left) ≡ left
    at true = refl
    at false = refl

opened : (s : Scope) (u : UnitState) (sender : ℕ) (left : BitSet) (region : Region) → region.holder ≡ left → region.others ≡ left → IsInRegion s sender region u
    → (g r : ℕ) → g ≢ sender → IsSo s u (Registration g r) → has left r ≡ true
opened s u sender left region holder others inside g r apart so =
    ap (λ w. has w r) (sym (at u.registry.held)) ∙ inside.registrations g r apart so
  where
    at : (held : Option Held) → filter_of region held g ≡ left
    at held = (λ i. filter_of (record { holder = holder i; others = others i; somebody = region.somebody }) held g) ∙ open_filter left region.somebody held g

in_open : (s : Scope) (u : UnitState) (sender : ℕ) (left : BitSet) → ((g r : ℕ) → g ≢ sender → IsSo s u (Registration g r) → has left r ≡ true) → IsInRegion s sender (open_to left) u
in_open s u sender left each = record {
  registrations = λ g r apart so. ap (λ w. has w r) (open_filter left None u.registry.held g) ∙ each g r apart so;
  somebody = tt;
}

-- a word that has only j passes whom the test passes
by_word : (s : Scope) (u : UnitState) (sender j : ℕ) (w : BitSet) → length s.keys ≤ MOST_KEYS → HasThose w (only j) → HasSomebody s u sender (Some (only j)) → HasSomebody s u sender (Some (has w))
by_word s u sender j w few those there = let known = there.3.1 in (there.0, there.1, there.2, there.3, those there.1 (omega arith) ∙ there.4)

of_word : (s : Scope) (u : UnitState) (sender j : ℕ) (w : BitSet) → length s.keys ≤ MOST_KEYS → HasThose w (only j) → HasSomebody s u sender (Some (has w)) → HasSomebody s u sender (Some (only j))
of_word s u sender j w few those there = let known = there.3.1 in (there.0, there.1, there.2, there.3, sym (those there.1 (omega arith)) ∙ there.4)

-- ---- one arm after another

-- the element at i, whatever stands for those that are not there
element : (tests : List Test) (i : ℕ) (t d : Test) → i < length tests → t ≡ get_or tests i t → get_or tests i d ≡ t
element tests i t d small is = get_or_default tests i d t small ∙ sym is

pub so_far_skip : (keys : List ℕ) (hosts : ℕ) (held : Option Held) (sender own : ℕ) (c : Command) (tests : List Test) (i : ℕ) (readings : List Reading) (left : BitSet) (t : Test)
    → AreReadSoFar keys hosts held sender own c tests i readings left → i < length tests → t ≡ get_or tests i t → IsAsked keys hosts held sender own c t Never
    → AreReadSoFar keys hosts held sender own c tests (i + 1) readings left
so_far_skip keys hosts held sender own c tests i readings left t so_far small is never_so = record {
  covered = so_far.covered;
  right = so_far.right;
  fails = λ s u known inside k d less.
      below_more (λ n. matches (get_or tests n d) (answer u c) ≡ false) i (λ m before. so_far.fails s u known inside m d before)
      (ap (λ x. matches x (answer u c)) (element tests i t d small is) ∙ never_so s u known) k less;
}

-- the reading in which somebody has the key that an arm asks for
abbrev pub asked_at : BitSet → BitSet → ℕ → Reading
asked_at left w i = record { region = asking left w; arm = Some i }

-- whoever is left has another key, and was left before
was_left : (left rest : BitSet) (j r : ℕ) → ((m : ℕ) → has rest m ≡ (not (m == j) && has left m)) → has rest r ≡ true → (only j r ≡ false) × (has left r ≡ true)
was_left left rest j r remains is =
    let parts = and_parts (not (r == j)) (has left r) (sym (remains r) ∙ is) in (not-true (only j r) parts.0, parts.1)

more_covered : (s : Scope) (u : UnitState) (sender i j : ℕ) (readings : List Reading) (left w rest : BitSet) → IsScope s → HasThose w (only j) → ((m : ℕ) → has rest m ≡ (not (m == j) && has left m))
    → IsRead s sender readings u ⊎ IsInRegion s sender (open_to left) u → HasSomebody s u sender (Some (only j)) ⊎ HasNobody s u sender (only j)
    → IsRead s sender (readings ++ asked_at left w i ∷ []) u ⊎ IsInRegion s sender (open_to rest) u
more_covered s u sender i j readings left w rest scope those remains (inl read) who =
    inl (record { reading = read.reading; listed = Contains-append_left readings (asked_at left w i ∷ []) read.reading read.listed; inside = read.inside })
more_covered s u sender i j readings left w rest scope those remains (inr inside) (inl there) = inl (record {
  reading = asked_at left w i;
  listed = Contains-push readings (asked_at left w i);
  inside = record {
    registrations = λ g r apart so. ap (λ x. has x r) (open_filter left (Some w) u.registry.held g) ∙ opened s u sender left (open_to left) refl refl inside g r apart so;
    somebody = by_word s u sender j w (few_keys s.keys scope.keys) those there;
  };
})
more_covered s u sender i j readings left w rest scope those remains (inr inside) (inr nobody) =
    inr (in_open s u sender rest (λ g r apart so. remains r ∙ (λ x. not (nobody g r apart so x) && opened s u sender left (open_to left) refl refl inside g r apart so x)))

more_right : (keys : List ℕ) (hosts : ℕ) (held : Option Held) (sender own : ℕ) (c : Command) (tests : List Test) (i : ℕ) (readings : List Reading) (left w : BitSet) (t : Test) (j : ℕ)
    → AreReadSoFar keys hosts held sender own c tests i readings left → i < length tests → t ≡ get_or tests i t → IsAsked keys hosts held sender own c t (Somebody j) → HasThose w (only j)
    → (s : Scope) (u : UnitState) (b : Reading) → IsKnown keys hosts held sender own s u → IsInRegion s sender b.region u → Contains readings b ⊎ (asked_at left w i ≡ b)
    → first_test tests (answer u c) ≡ b.arm
more_right keys hosts held sender own c tests i readings left w t j so_far small is asked those s u b known inside (inl there) = so_far.right s u b known there inside
more_right keys hosts held sender own c tests i readings left w t j so_far small is asked those s u b known inside (inr same) =
    let here : IsInRegion s sender (asking left w) u = subst (λ (x : Reading). IsInRegion s sender x.region u) (sym same) inside in
    let before = in_open s u sender left (opened s u sender left (asking left w) refl refl here) in
    position_at (λ x. matches x (answer u c)) tests i t small (λ k less. so_far.fails s u known before k t less)
    (ap (λ x. matches x (answer u c)) (sym is) ∙ asked.0 s u known (of_word s u sender j w (few_keys s.keys known.scope.keys) those here.somebody))
    ∙ ap (λ (x : Reading). x.arm) same

pub so_far_more : (keys : List ℕ) (hosts : ℕ) (held : Option Held) (sender own : ℕ) (c : Command) (tests : List Test) (i : ℕ) (readings : List Reading) (left w rest : BitSet) (t : Test) (j : ℕ)
    → AreReadSoFar keys hosts held sender own c tests i readings left → i < length tests → t ≡ get_or tests i t → IsAsked keys hosts held sender own c t (Somebody j)
    → HasThose w (only j) → ((m : ℕ) → has rest m ≡ (not (m == j) && has left m))
    → AreReadSoFar keys hosts held sender own c tests (i + 1) (readings ++ asked_at left w i ∷ []) rest
so_far_more keys hosts held sender own c tests i readings left w rest t j so_far small is asked those remains = record {
  covered = λ s u known. more_covered s u sender i j readings left w rest known.scope those remains (so_far.covered s u known) (somebody_or_none s u sender (only j) known.scope known.numbered);
  right = λ s u b known there inside. more_right keys hosts held sender own c tests i readings left w t j so_far small is asked those s u b known inside (Contains-push_cases readings (asked_at left w i) b there);
  fails = λ s u known inside k d less.
      let still = opened s u sender rest (open_to rest) refl refl inside in
      below_more (λ n. matches (get_or tests n d) (answer u c) ≡ false) i
      (λ m before. so_far.fails s u known (in_open s u sender left (λ g r apart so. (was_left left rest j r remains (still g r apart so)).1)) m d before)
      (ap (λ x. matches x (answer u c)) (element tests i t d small is) ∙ asked.1 s u known (λ g r apart so. (was_left left rest j r remains (still g r apart so)).0)) k less;
}

-- ---- at the end

-- what holds of the known states is what is to be shown
pub are_readings : (keys : List ℕ) (hosts : ℕ) (held : Option Held) (sender own : ℕ) (c : Command) (tests : List Test) (readings : List Reading)
    → ((s : Scope) (u : UnitState) → IsKnown keys hosts held sender own s u → IsRead s sender readings u)
    → ((s : Scope) (u : UnitState) (b : Reading) → IsKnown keys hosts held sender own s u → Contains readings b → IsInRegion s sender b.region u → first_test tests (answer u c) ≡ b.arm)
    → AreReadings keys hosts tests c held sender own readings
are_readings keys hosts held sender own c tests readings covered right = record {
  covered = λ s u declared count scope formed alike numbered stands so.
      covered s u (record { keys = declared; hosts = count; scope = scope; formed = formed; registry = alike; numbered = numbered; held = stands; sender = so });
  right = λ s u b declared count scope formed alike numbered stands so there inside.
      right s u b (record { keys = declared; hosts = count; scope = scope; formed = formed; registry = alike; numbered = numbered; held = stands; sender = so }) there inside;
}

-- the reading of all that is left
abbrev pub left_at : BitSet → Option ℕ → Reading
left_at left arm = record { region = open_to left; arm = arm }

pub read_at_last : (keys : List ℕ) (hosts : ℕ) (held : Option Held) (sender own : ℕ) (c : Command) (tests : List Test) (i : ℕ) (readings : List Reading) (left : BitSet) (arm : Option ℕ)
    → AreReadSoFar keys hosts held sender own c tests i readings left
    → ((s : Scope) (u : UnitState) → IsKnown keys hosts held sender own s u → IsInRegion s sender (open_to left) u → first_test tests (answer u c) ≡ arm)
    → AreReadings keys hosts tests c held sender own (readings ++ left_at left arm ∷ [])
read_at_last keys hosts held sender own c tests i readings left arm so_far last =
    are_readings keys hosts held sender own c tests (readings ++ left_at left arm ∷ []) (λ s u known. covered s u (so_far.covered s u known))
    (λ s u b known there inside. right s u b known inside (Contains-push_cases readings (left_at left arm) b there))
  where
    covered : (s : Scope) (u : UnitState) → IsRead s sender readings u ⊎ IsInRegion s sender (open_to left) u → IsRead s sender (readings ++ left_at left arm ∷ []) u
    covered s u (inl read) = record { reading = read.reading; listed = Contains-append_left readings (left_at left arm ∷ []) read.reading read.listed; inside = read.inside }
    covered s u (inr inside) = record { reading = left_at left arm; listed = Contains-push readings (left_at left arm); inside = inside }

    right : (s : Scope) (u : UnitState) (b : Reading) → IsKnown keys hosts held sender own s u → IsInRegion s sender b.region u → Contains readings b ⊎ (left_at left arm ≡ b)
        → first_test tests (answer u c) ≡ b.arm
    right s u b known inside (inl there) = so_far.right s u b known there inside
    right s u b known inside (inr same) =
        last s u known (subst (λ (x : Reading). IsInRegion s sender x.region u) (sym same) inside) ∙ ap (λ (x : Reading). x.arm) same

pub read_always : (keys : List ℕ) (hosts : ℕ) (held : Option Held) (sender own : ℕ) (c : Command) (tests : List Test) (i : ℕ) (readings : List Reading) (left : BitSet) (t : Test)
    → AreReadSoFar keys hosts held sender own c tests i readings left → i < length tests → t ≡ get_or tests i t → IsAsked keys hosts held sender own c t Always
    → AreReadings keys hosts tests c held sender own (readings ++ left_at left (Some i) ∷ [])
read_always keys hosts held sender own c tests i readings left t so_far small is always =
    read_at_last keys hosts held sender own c tests i readings left (Some i) so_far
    (λ s u known inside.
    position_at (λ x. matches x (answer u c)) tests i t small (λ k less. so_far.fails s u known inside k t less) (ap (λ x. matches x (answer u c)) (sym is) ∙ always s u known))

pub read_by_none : (keys : List ℕ) (hosts : ℕ) (held : Option Held) (sender own : ℕ) (c : Command) (tests : List Test) (i : ℕ) (readings : List Reading) (left : BitSet)
    → AreReadSoFar keys hosts held sender own c tests i readings left → i ≡ length tests → AreReadings keys hosts tests c held sender own (readings ++ left_at left None ∷ [])
read_by_none keys hosts held sender own c tests i readings left so_far all =
    read_at_last keys hosts held sender own c tests i readings left None so_far
    (λ s u known inside. position_none (λ x. matches x (answer u c)) tests (λ k d less. so_far.fails s u known inside k d (omega arith)))
