-- What a table of keys says of the registrations.
use Rattle.pr_registry.proofs.Common.{◌≡◌, ℕ, ◌+◌, ◌<◌, ◌≤◌, Bool, true, false, cond, ◌&&◌, List, is_some, if◌then◌else◌, nat_lt, ◌==◌, Some, None, Option, sym, refl, ap, ◌∙◌, arith, nat_tests, MOST_NEXUSES, Hosts, is_key, is_empty, hosts_in, hosts_with, table_keys, hosts_where, eqb-true, lt-ltb}
use Rattle.std.proofs.Common.{◌||◌, slice_index_or, le-ltb, add-one}
use Rattle.std.specs.FinSet as set
use Rattle.std.specs.FinMap as map
use Rattle.pr_sets.proofs.lemmas.Members.{lt-suc}
use Rattle.pr_registry.proofs.lemmas.Sets.{same_hosts, same_keys, contains-hosts_where, contains-hosts_in, contains-hosts_with, get-map_where, is_empty_from_none, not_empty_from_some}

-- the place of a host
abbrev pub slot : List (Option ℕ) → ℕ → Option ℕ
slot slots h = slice_index_or slots h None

pub get-table_keys : (n : ℕ) (slots : List (Option ℕ)) (q : ℕ) → map.get (table_keys n slots) q ≡ (if nat_lt q n then slot slots q else None)
get-table_keys n slots q = get-map_where n (slot slots) q

pub get-table_keys_in : (n : ℕ) (slots : List (Option ℕ)) (q : ℕ) → q < n → map.get (table_keys n slots) q ≡ slot slots q
get-table_keys_in n slots q small = get-table_keys n slots q ∙ ap (λ b. cond b (slot slots q) None) (lt-ltb q n small)

pub get-table_keys_past : (slots : List (Option ℕ)) (q : ℕ) → MOST_NEXUSES ≤ q → map.get (table_keys MOST_NEXUSES slots) q ≡ None
get-table_keys_past slots q large = get-table_keys MOST_NEXUSES slots q ∙ ap (λ b. cond b (slot slots q) None) (le-ltb q MOST_NEXUSES large)

pub contains_key-table_keys : (slots : List (Option ℕ)) (q : ℕ) → q < MOST_NEXUSES → map.contains_key (table_keys MOST_NEXUSES slots) q ≡ is_some (slot slots q)
contains_key-table_keys slots q small = ap is_some (get-table_keys_in MOST_NEXUSES slots q small)

pub contains_key-table_keys_past : (slots : List (Option ℕ)) (q : ℕ) → MOST_NEXUSES ≤ q → map.contains_key (table_keys MOST_NEXUSES slots) q ≡ false
contains_key-table_keys_past slots q large =
    ap is_some (get-table_keys_past slots q large)

-- a set whose members are all below MOST_NEXUSES is what its test collects there
hosts_where-of : (s : Hosts) (p : ℕ → Bool) → ((q : ℕ) → p q ≡ set.contains s q) → ((q : ℕ) → MOST_NEXUSES ≤ q → set.contains s q ≡ false) → hosts_where MOST_NEXUSES p ≡ s
hosts_where-of s p tests past =
    same_hosts _ _ (λ q. contains-hosts_where MOST_NEXUSES p q ∙ at q (nat_lt q MOST_NEXUSES) refl)
  where
    at : (q : ℕ) (b : Bool) → nat_lt q MOST_NEXUSES ≡ b → (b && p q) ≡ set.contains s q
    at q true inside = tests q
    at q false outside = sym (past q (grind (arith, nat_tests)))

pub hosts_where-is_registered : (slots : List (Option ℕ)) → hosts_where MOST_NEXUSES (map.contains_key (table_keys MOST_NEXUSES slots)) ≡ hosts_in (table_keys MOST_NEXUSES slots)
hosts_where-is_registered slots =
    hosts_where-of (hosts_in (table_keys MOST_NEXUSES slots)) (map.contains_key (table_keys MOST_NEXUSES slots)) (λ q. sym (contains-hosts_in (table_keys MOST_NEXUSES slots) q))
    (λ q large. contains-hosts_in (table_keys MOST_NEXUSES slots) q ∙ contains_key-table_keys_past slots q large)

-- the test of a host that is registered with this key
abbrev pub has_key : List (Option ℕ) → ℕ → ℕ → Bool
has_key slots k q = is_key (map.get (table_keys MOST_NEXUSES slots) q) k

pub hosts_where-has_key : (slots : List (Option ℕ)) (k : ℕ) → hosts_where MOST_NEXUSES (has_key slots k) ≡ hosts_with (table_keys MOST_NEXUSES slots) k
hosts_where-has_key slots k =
    hosts_where-of (hosts_with (table_keys MOST_NEXUSES slots) k) (has_key slots k) (λ q. sym (contains-hosts_with (table_keys MOST_NEXUSES slots) k q))
    (λ q large. contains-hosts_with (table_keys MOST_NEXUSES slots) k q ∙ ap (λ o. is_key o k) (get-table_keys_past slots q large))

pub is_empty-table_keys : (n : ℕ) (slots : List (Option ℕ)) → ((i : ℕ) → i < n → slot slots i ≡ None) → is_empty (table_keys n slots) ≡ true
is_empty-table_keys n slots none =
    is_empty_from_none (table_keys n slots) (λ q. get-table_keys n slots q ∙ at q (nat_lt q n) refl)
  where
    at : (q : ℕ) (b : Bool) → nat_lt q n ≡ b → cond b (slot slots q) None ≡ None
    at q true is = none q (grind (arith, nat_tests))
    at q false is = refl

pub not_empty-table_keys : (n : ℕ) (slots : List (Option ℕ)) (i : ℕ) → i < n → is_some (slot slots i) ≡ true → is_empty (table_keys n slots) ≡ false
not_empty-table_keys n slots i small some = at (slot slots i) refl
  where
    at : (o : Option ℕ) → slot slots i ≡ o → is_empty (table_keys n slots) ≡ false
    at None is = let bad : false ≡ true = ap is_some (sym is) ∙ some in cc
    at (Some k) is = not_empty_from_some (table_keys n slots) i k (get-table_keys_in n slots i small ∙ is)

-- two tables that agree up to the length of the first, which holds no more, are the same registrations
pub same_table_keys : (n m : ℕ) (xs ys : List (Option ℕ)) → n ≤ m → ((i : ℕ) → i < n → slot ys i ≡ slot xs i) → ((i : ℕ) → n ≤ i → i < m → slot ys i ≡ None) → table_keys m ys ≡ table_keys n xs
same_table_keys n m xs ys fewer same past =
    same_keys _ _ (λ q. get-table_keys m ys q ∙ at q (nat_lt q m) (nat_lt q n) refl refl ∙ sym (get-table_keys n xs q))
  where
    at : (q : ℕ) (b c : Bool) → nat_lt q m ≡ b → nat_lt q n ≡ c → cond b (slot ys q) None ≡ cond c (slot xs q) None
    at q true true in_m in_n = same q (grind (arith, nat_tests))
    at q true false in_m out = past q (grind (arith, nat_tests)) (grind (arith, nat_tests))
    at q false true out in_n = absurd (grind (arith, nat_tests))
    at q false false out_m out_n = refl

-- ---- hosts removed in turn

-- the removed hosts below n
abbrev pub is_removed_below : Hosts → ℕ → ℕ → Bool
is_removed_below removed n q = nat_lt q n && set.contains removed q

pub none_below_zero : (removed : Hosts) (q : ℕ) → is_removed_below removed 0 q ≡ false
none_below_zero removed q = ap (λ b. b && set.contains removed q) (le-ltb q 0 (omega arith))

pub all_below : (slots : List (Option ℕ)) (removed : Hosts) (q : ℕ)
    → (if is_removed_below removed MOST_NEXUSES q then None else map.get (table_keys MOST_NEXUSES slots) q) ≡ (if set.contains removed q then None else map.get (table_keys MOST_NEXUSES slots) q)
all_below slots removed q = at (nat_lt q MOST_NEXUSES) (set.contains removed q) refl
  where
    at : (l b : Bool) → nat_lt q MOST_NEXUSES ≡ l → (if l && b then None else map.get (table_keys MOST_NEXUSES slots) q) ≡ (if b then None else map.get (table_keys MOST_NEXUSES slots) q)
    at false true outside = get-table_keys_past slots q (grind (arith, nat_tests))
    at _ _ _ = refl

pub removes_more : (removed : Hosts) (n q : ℕ) (o : Option ℕ) → set.contains removed n ≡ true
    → (if q == n then None else (if is_removed_below removed n q then None else o)) ≡ (if is_removed_below removed (n + 1) q then None else o)
removes_more removed n q o is =
    at (q == n) (nat_lt q n) (set.contains removed q) (λ e. ap (set.contains removed) (eqb-true q n e) ∙ is)
    ∙ ap (λ b. if b && set.contains removed q then None else o) (sym (rw add-one (lt-suc q n)))
  where
    at : (e l b : Bool) → (e ≡ true → b ≡ true) → (if e then None else (if l && b then None else o)) ≡ (if (e || l) && b then None else o)
    at true l b there = rw (there refl) refl
    at false l b there = refl

pub keeps_more : (removed : Hosts) (n q : ℕ) (o : Option ℕ) → set.contains removed n ≡ false
    → (if is_removed_below removed n q then None else o) ≡ (if is_removed_below removed (n + 1) q then None else o)
keeps_more removed n q o is =
    at (q == n) (nat_lt q n) (set.contains removed q) (λ e. ap (set.contains removed) (eqb-true q n e) ∙ is)
    ∙ ap (λ b. if b && set.contains removed q then None else o) (sym (rw add-one (lt-suc q n)))
  where
    at : (e l b : Bool) → (e ≡ true → b ≡ false) → (if l && b then None else o) ≡ (if (e || l) && b then None else o)
    at true false b there = rw (there refl) refl
    at _ _ b there = refl
