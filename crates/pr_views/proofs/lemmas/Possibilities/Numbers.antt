-- Each registration, reservation and set of attentions has one number, and each number below the bound is one's.
use Rattle.pr_views.proofs.Common.{◌≡◌, ℕ, zero, suc, ◌+◌, ◌-◌, ◌*◌, ◌/◌, ◌%◌, ◌<◌, ◌≤◌, Bool, true, false, not, ◌||◌, List, [], ◌∷◌, length, is_some, IsTrue, nat_lt, nat_le, ◌==◌, Some, None, Option, sym, refl, ap, ◌∙◌, one-add, arith, slice_get, lt-ltb, le-ltb, false≢true, and_parts, ltb-true, nat_tests, is_all, Held, One, All, UnitState, AreDeclared, is_reservation, Registration, Reservation, Attentions, IsSo, MOST_KEYS}
use Rattle.std.specs.FinMap as map
use Rattle.std.specs.List.{list_any}
use Rattle.std.proofs.lemmas.Bool.{and_from, not-true, or_right, ltb-false}
use Rattle.std.proofs.lemmas.Option.{same_Some}
use Rattle.std.proofs.lemmas.Nat.{div-mul-add, mod-mul-add, div-add-mod', div_below, mod_below, row_fits}
use Rattle.std.proofs.Math.Nat.{mul_comm}
use Rattle.pr_cdb.specs.declared.command.Kind.{Kind}
use Rattle.pr_cdb.specs.declared.command.Kind.TheVariants.{WriteExclusive, ExclusiveAccess, WriteExclusiveRegistrantsOnly, ExclusiveAccessRegistrantsOnly, WriteExclusiveAllRegistrants, ExclusiveAccessAllRegistrants}
use Rattle.pr_attention.specs.Flagged.{codes_of}
use Rattle.pr_attention.proofs.lemmas.Sets.{same_codes}
use Rattle.pr_attention.proofs.lemmas.Bits.{same_bits}
use Rattle.pr_registry.specs.Registrations.{State, IsWellFormed, HasHolder}
use Rattle.pr_roles.specs.Fitting.{are_distinct}
use Rattle.pr_roles.specs.Keys.{key_at}
use Rattle.pr_views.specs.Possibilities.{Scope, IsScope, place_of, number_of, count_of_reservations}

-- ---- registrations

there : (keys : List ℕ) (i k : ℕ) → slice_get keys i ≡ Some k → list_any (λ j. j == k) keys ≡ true
there [] i k is = let bad : None ≡ Some k = is in cc
there (x ∷ xs) zero k is =
    let same : x ≡ k = same_Some x k is in
    let tells : (x == k) ≡ true = grind (arith, nat_tests) in
    ap (λ b. b || list_any (λ j. j == k) xs) tells
there (x ∷ xs) (suc i) k is = or_right (x == k) (list_any (λ j. j == k) xs) (there xs i k is)

not_twice : (x : ℕ) (xs : List ℕ) (i k : ℕ) → are_distinct (λ j l. j == l) (x ∷ xs) ≡ true → x ≡ k → slice_get xs i ≡ Some k → ⊥
not_twice x xs i k once same is =
    let again = there xs i x (is ∙ ap (λ n. Some n) (sym same)) in
    let first = not-true (list_any (λ j. j == x) xs) (and_parts (not (list_any (λ j. j == x) xs)) (are_distinct (λ j l. j == l) xs) once).0 in
    false≢true (sym first ∙ again)

-- a key that is declared once has one place
same_place : (keys : List ℕ) (i j k : ℕ) → are_distinct (λ a b. a == b) keys ≡ true → slice_get keys i ≡ Some k → slice_get keys j ≡ Some k → i ≡ j
same_place [] i j k once is also = let bad : None ≡ Some k = is in cc
same_place (x ∷ xs) zero zero k once is also = refl
same_place (x ∷ xs) zero (suc j) k once is also =
    absurd (not_twice x xs j k once (same_Some x k is) also)
same_place (x ∷ xs) (suc i) zero k once is also =
    absurd (not_twice x xs i k once (same_Some x k also) is)
same_place (x ∷ xs) (suc i) (suc j) k once is also =
    ap suc (same_place xs i j k (and_parts (not (list_any (λ b. b == x) xs)) (are_distinct (λ a b. a == b) xs) once).1 is also)

-- a registration by a key that is there
pub key_there : (keys : List ℕ) (i : ℕ) → suc i ≤ length keys → (k : ℕ) × (slice_get keys i ≡ Some k)
key_there [] i small = absurd (omega arith)
key_there (x ∷ xs) zero small = (x, refl)
key_there (x ∷ xs) (suc i) small = key_there xs i (omega arith)

pub once_of : (keys : List ℕ) → AreDeclared keys → are_distinct (λ a b. a == b) keys ≡ true
once_of keys declared = (and_parts (nat_le (length keys) MOST_KEYS) (are_distinct (λ j k. j == k) keys) declared.once).1

pub same_registration : (keys : List ℕ) (r t : ℕ) → are_distinct (λ j k. j == k) keys ≡ true → r ≤ length keys → t ≤ length keys → key_at keys r ≡ key_at keys t → r ≡ t
same_registration keys zero zero once small also same = refl
same_registration keys zero (suc j) once small also same =
    let k = key_there keys j also in let bad : None ≡ Some k.0 = same ∙ k.1 in cc
same_registration keys (suc i) zero once small also same =
    let k = key_there keys i small in let bad : None ≡ Some k.0 = sym same ∙ k.1 in cc
same_registration keys (suc i) (suc j) once small also same =
    let k = key_there keys j also in ap suc (same_place keys i j k.0 once (same ∙ k.1) k.1)

-- ---- reservations

-- the type of a single holder, and of all registrants, at a place
abbrev pub single_at : ℕ → Kind
single_at zero = WriteExclusive
single_at (suc zero) = ExclusiveAccess
single_at (suc (suc zero)) = WriteExclusiveRegistrantsOnly
single_at (suc (suc (suc n))) = ExclusiveAccessRegistrantsOnly

abbrev pub shared_at : ℕ → Kind
shared_at zero = WriteExclusiveAllRegistrants
shared_at (suc n) = ExclusiveAccessAllRegistrants

-- the reservation of a number, which is not 0
abbrev held_after : ℕ → ℕ → Bool → Option Held
held_after hosts n true = Some (One (single_at (n / hosts)) (n % hosts))
held_after hosts n false = Some (All (shared_at (n - hosts * 4)))

-- the reservation of a number
pub held_at : ℕ → ℕ → Option Held
held_at hosts zero = None
held_at hosts (suc n) = held_after hosts n (nat_lt n (hosts * 4))

single_placed : (kind : Kind) → is_all kind ≡ false → (place_of kind < 4) × (single_at (place_of kind) ≡ kind)
single_placed WriteExclusiveAllRegistrants is = absurd (false≢true (sym is))
single_placed ExclusiveAccessAllRegistrants is = absurd (false≢true (sym is))
single_placed _ is = (omega arith, refl)

shared_placed : (kind : Kind) → is_all kind ≡ true → shared_at (place_of kind) ≡ kind
shared_placed WriteExclusiveAllRegistrants is = refl
shared_placed ExclusiveAccessAllRegistrants is = refl
shared_placed _ is = absurd (false≢true is)

place_single : (n : ℕ) → n < 4 → (place_of (single_at n) ≡ n) × (is_all (single_at n) ≡ false)
place_single (suc (suc (suc (suc n)))) small = absurd (omega arith)
place_single _ small = (refl, refl)

place_shared : (n : ℕ) → n < 2 → (place_of (shared_at n) ≡ n) × (is_all (shared_at n) ≡ true)
place_shared (suc (suc n)) small = absurd (omega arith)
place_shared _ small = (refl, refl)

row-lt : (hosts p h : ℕ) → p < 4 → h < hosts → hosts * p + h < hosts * 4
row-lt hosts p h small there =
    let same : hosts ≤ hosts = omega arith in
    let rows = row_fits p hosts 4 hosts small same in
    let turned = mul_comm p hosts in
    let also = mul_comm 4 hosts in
    omega arith

-- a single holder's row and column
row_of : (hosts p h : ℕ) → h < hosts → ((hosts * p + h) / hosts ≡ p) × ((hosts * p + h) % hosts ≡ h)
row_of hosts p h there =
    let turned = mul_comm hosts p in
    (ap (λ n. (n + h) / hosts) turned ∙ div-mul-add p hosts h there, ap (λ n. (n + h) % hosts) turned ∙ mod-mul-add p hosts h there)

whole_of : (hosts n : ℕ) → hosts * (n / hosts) + n % hosts ≡ n
whole_of hosts n = ap (λ m. m + n % hosts) (mul_comm hosts (n / hosts)) ∙ div-add-mod' n hosts

-- the number tells the reservation
pub held_at-number_of : (hosts : ℕ) (held : Option Held) → is_reservation hosts held ≡ true → held_at hosts (number_of hosts held) ≡ held
unfolding held_at
held_at-number_of hosts None fits = refl
held_at-number_of hosts (Some (One kind h)) fits =
    let parts = and_parts (not (is_all kind)) (nat_lt h hosts) fits in
    let small = ltb-true h hosts parts.1 in
    let placed = single_placed kind (not-true (is_all kind) parts.0) in
    let row = row_of hosts (place_of kind) h small in
    ap (held_at hosts) (one-add (hosts * place_of kind + h))
    ∙ ap (held_after hosts (hosts * place_of kind + h)) (lt-ltb (hosts * place_of kind + h) (hosts * 4) (row-lt hosts (place_of kind) h placed.0 small))
    ∙ (λ i. Some (One (single_at (row.0 i)) (row.1 i)))
    ∙ ap (λ k. Some (One k h)) placed.1
held_at-number_of hosts (Some (All kind)) fits =
    let rest : hosts * 4 + place_of kind - hosts * 4 ≡ place_of kind = omega arith in
    ap (held_at hosts) (one-add (hosts * 4 + place_of kind))
    ∙ ap (held_after hosts (hosts * 4 + place_of kind)) (le-ltb (hosts * 4 + place_of kind) (hosts * 4) (omega arith))
    ∙ ap (λ n. Some (All (shared_at n))) rest
    ∙ ap (λ k. Some (All k)) (shared_placed kind fits)

-- two reservations of one number are one
pub same_held : (hosts : ℕ) (a b : Option Held) → is_reservation hosts a ≡ true → is_reservation hosts b ≡ true → number_of hosts a ≡ number_of hosts b → a ≡ b
same_held hosts a b fits also same =
    sym (held_at-number_of hosts a fits) ∙ ap (held_at hosts) same ∙ held_at-number_of hosts b also

-- the reservation of a number below the bound is one, and has that number
pub number_of-held_at : (hosts x : ℕ) → 1 ≤ hosts → x < count_of_reservations hosts → (is_reservation hosts (held_at hosts x) ≡ true) × (x ≡ number_of hosts (held_at hosts x))
unfolding held_at
number_of-held_at hosts zero some small = (refl, refl)
number_of-held_at hosts (suc n) some small = at (nat_lt n (hosts * 4)) refl
  where
    at : (b : Bool) → nat_lt n (hosts * 4) ≡ b → (is_reservation hosts (held_after hosts n b) ≡ true) × (suc n ≡ number_of hosts (held_after hosts n b))
    at true is =
        let below = ltb-true n (hosts * 4) is in
        let turned = mul_comm hosts 4 in
        let placed = place_single (n / hosts) (div_below n hosts 4 some (omega arith)) in (
          and_from (not (is_all (single_at (n / hosts)))) (nat_lt (n % hosts) hosts) (ap not placed.1) (lt-ltb (n % hosts) hosts (mod_below n hosts some)),
          sym (ap (λ p. 1 + (hosts * p + n % hosts)) placed.0 ∙ ap (λ m. 1 + m) (whole_of hosts n) ∙ one-add n),
        )
    at false is =
        let past = ltb-false n (hosts * 4) is in
        let placed = place_shared (n - hosts * 4) (omega arith) in
        (placed.1, sym (ap (λ p. 1 + (hosts * 4 + p)) placed.0 ∙ omega arith))

-- the reservation of a well formed state
pub reservation_of : (u : State) → IsWellFormed u → is_reservation u.hosts u.held ≡ true
reservation_of u formed = at u.held formed.held
  where
    at : (held : Option Held) → HasHolder u.keys held → is_reservation u.hosts held ≡ true
    at None has = refl
    at (Some (One kind h)) has =
        and_from (not (is_all kind)) (nat_lt h u.hosts) (ap not has.0) (lt-ltb h u.hosts (there (map.get u.keys h) refl has.1))
      where
        there : (key : Option ℕ) → map.get u.keys h ≡ key → IsTrue (is_some key) → h < u.hosts
        there None is some = absurd (false≢true some)
        there (Some k) is some = (formed.keys h k is).0
    at (Some (All kind)) has = has.0

-- ---- what is so in a state has one number

pub one_registration : (s : Scope) (u : UnitState) (g r t : ℕ) → IsScope s → IsSo s u (Registration g r) → IsSo s u (Registration g t) → r ≡ t
one_registration s u g r t scope is also =
    same_registration s.keys r t (once_of s.keys scope.keys) is.1 also.1 (sym is.2 ∙ also.2)

pub one_reservation : (s : Scope) (u : UnitState) (x y : ℕ) → IsSo s u (Reservation x) → IsSo s u (Reservation y) → x ≡ y
one_reservation s u x y is also = is ∙ sym also

pub one_attentions : (s : Scope) (u : UnitState) (p q : ℕ) → IsSo s u (Attentions p) → IsSo s u (Attentions q) → p ≡ q
one_attentions s u p q is also =
    same_bits p q is.0 also.0 (same_codes (codes_of p) (codes_of q) (λ code. sym (is.1 code) ∙ also.1 code))
