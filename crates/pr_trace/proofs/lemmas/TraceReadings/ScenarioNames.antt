-- The names of a scenario, as words of a trace.
use Rattle.pr_trace.proofs.Common.{◌≡◌, ℕ, zero, suc, ◌<◌, ◌≤◌, Bool, true, false, cond, ◌&&◌, List, [], ◌∷◌, map, length, get_or, nat_lt, nat_le, ◌==◌, Some, None, bytes_eq, sym, refl, subst, inl, inr, arith, position_or_len, cases_lt, nat_tests, bytes_eq-Decides, MOST_NEXUSES, names_in, name_of, MOST_LETTERS, lt-ltb, not, list_all, and_parts, is_name, Scenario, Nexus, most_declared, Fits}
use Rattle.std.specs.List.{list_any}
use Rattle.std.proofs.lemmas.Bool.{or_parts, not-true}
use Rattle.std.proofs.lemmas.List.{get_or_past, length-map}
use Rattle.std.proofs.lemmas.List.Sums.{position_or_len_is}
use Rattle.pr_script.specs.Names.{is_name_byte}
use Rattle.pr_roles.specs.Fitting.{are_distinct, is_nexus, is_role, is_start, is_task}
use Rattle.pr_roles.proofs.lemmas.Starts.AllowedStarts.{counted}
use Rattle.pr_trace.specs.TraceReadings.{number_of}
use Rattle.pr_trace.proofs.lemmas.TraceReadings.SolidWords.{IsSolid, IsWord}

-- names that differ, each with the form of one
pub record AreNames (names : List (List ℕ)) : Type 0 where
  pub few : length names ≤ MOST_NEXUSES
  pub apart : are_distinct bytes_eq names ≡ true
  pub each : (h : ℕ) → h < length names → is_name (name_of names h) ≡ true

-- ---- the form of a name

name_byte_solid : (b : ℕ) → is_name_byte b ≡ true → 32 < b
name_byte_solid b h = grind (arith, nat_tests)

name_solid : (w : List ℕ) → list_all is_name_byte w ≡ true → IsSolid w
name_solid [] h = tt
name_solid (b ∷ bs) h = let p = and_parts (is_name_byte b) (list_all is_name_byte bs) h in (name_byte_solid b p.0, name_solid bs p.1)

short_name : (n : ℕ) → nat_le n MOST_LETTERS ≡ true → n ≤ MOST_LETTERS
short_name n h = grind (arith, nat_tests)

pub name_word : (w : List ℕ) → is_name w ≡ true → IsWord MOST_LETTERS w
unfolding is_name
name_word w h =
    let rest = (and_parts _ _ h).1 in
    let p = and_parts (nat_le (length w) MOST_LETTERS) (list_all is_name_byte w) rest in
    record { solid = name_solid w p.1; short = short_name (length w) p.0 }

pub name_of_word : (names : List (List ℕ)) (h : ℕ) → AreNames names → IsWord MOST_LETTERS (name_of names h)
name_of_word names h are = elim (cases_lt h (length names)) [
  | inl k ↦ name_word (name_of names h) (are.each h k)
  | inr k ↦ subst (IsWord MOST_LETTERS) (sym (get_or_past names h [] k)) (record { solid = tt; short = omega arith })
]

-- ---- which name it is

any_none : (p : List ℕ → Bool) (xs : List (List ℕ)) (i : ℕ) (d : List ℕ) → list_any p xs ≡ false → i < length xs → p (get_or xs i d) ≡ false
any_none p [] i d h k = absurd (omega arith)
any_none p (x ∷ xs) zero d h k = (or_parts (p x) (list_any p xs) h).0
any_none p (x ∷ xs) (suc i) d h k = any_none p xs i d (or_parts (p x) (list_any p xs) h).1 (omega arith)

differ : (v w : List ℕ) → bytes_eq w v ≡ false → bytes_eq v w ≡ false
differ v w h = elim (bytes_eq v w) as (λ b. bytes_eq v w ≡ b → bytes_eq v w ≡ false) [
  | true ↦ λ e. let same = (bytes_eq-Decides v w).0 e in let bad = (bytes_eq-Decides w v).1 (sym same) in cc
  | false ↦ λ e. e
] refl

names_apart : (names : List (List ℕ)) (j h : ℕ) → are_distinct bytes_eq names ≡ true → j < h → h < length names → bytes_eq (name_of names j) (name_of names h) ≡ false
names_apart [] j h e k m = absurd (omega arith)
names_apart (x ∷ xs) j zero e k m = absurd (omega arith)
names_apart (x ∷ xs) zero (suc h) e k m =
    let p = and_parts (not (list_any (λ y. bytes_eq y x) xs)) (are_distinct bytes_eq xs) e in
    differ x (get_or xs h []) (any_none (λ y. bytes_eq y x) xs h [] (not-true (list_any (λ y. bytes_eq y x) xs) p.0) (omega arith))
names_apart (x ∷ xs) (suc j) (suc h) e k m =
    names_apart xs j h (and_parts (not (list_any (λ y. bytes_eq y x) xs)) (are_distinct bytes_eq xs) e).1 (omega arith) (omega arith)

found : (n m h : ℕ) → n ≡ h → h < m → cond (nat_lt n m) (Some n) None ≡ Some h
found n m h e k = rw (e, lt-ltb h m k) refl

pub number_back : (names : List (List ℕ)) (h : ℕ) → AreNames names → h < length names → number_of names (name_of names h) ≡ Some h
number_back names h are k =
    let p = λ (name : List ℕ). bytes_eq name (name_of names h) in
    found (position_or_len p names) (length names) h
    (position_or_len_is p names h [] (omega arith) (λ j below. names_apart names j h are.apart below k) (λ _. (bytes_eq-Decides (name_of names h) (name_of names h)).1 refl)) k

-- ---- the names of a scenario

each_name : (keys : List ℕ) (ns : List Nexus) (h : ℕ) → list_all (is_nexus keys) ns ≡ true → h < length ns → is_name (name_of (map (λ n. n.name) ns) h) ≡ true
each_name keys [] h e k = absurd (omega arith)
each_name keys (n ∷ ns) zero e k =
    (and_parts (is_name n.name) (is_role keys n.role && (is_start keys n.start && is_task keys n.task)) (and_parts (is_nexus keys n) (list_all (is_nexus keys) ns) e).0).0
each_name keys (n ∷ ns) (suc h) e k = each_name keys ns h (and_parts (is_nexus keys n) (list_all (is_nexus keys) ns) e).1 (omega arith)

pub names_fit : (s : Scenario) → Fits s → AreNames (names_in s)
names_fit s fits =
    let ns = s.nexuses in
    let names = map (λ (n : Nexus). n.name) ns in
    let rest = (and_parts (not (length ns == 0)) (nat_le (length ns) (most_declared s.version) && (are_distinct bytes_eq names && list_all (is_nexus s.keys) ns)) fits.nexuses).1 in
    let more = and_parts (nat_le (length ns) (most_declared s.version)) (are_distinct bytes_eq names && list_all (is_nexus s.keys) ns) rest in
    let all = and_parts (are_distinct bytes_eq names) (list_all (is_nexus s.keys) ns) more.1 in
    record {
      few = omega (arith, (counted s fits).1, length-map ns (λ (n : Nexus). n.name));
      apart = all.0;
      each = λ h k. each_name s.keys ns h all.1 (omega (arith, length-map ns (λ (n : Nexus). n.name)));
    }

pub names_count : (s : Scenario) → length (names_in s) ≡ length s.nexuses
names_count s = length-map s.nexuses (λ (n : Nexus). n.name)
