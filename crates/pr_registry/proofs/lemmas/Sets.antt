-- What sets of hosts and registrations contain, and that these are equal where they contain the same.
use Rattle.pr_registry.proofs.Common.{◌≡◌, ℕ, zero, suc, ◌+◌, Bool, true, false, cond, not, ◌&&◌, is_some, if◌then◌else◌, IsTrue, nat_lt, ◌==◌, Some, None, Option, sym, refl, ap, ◌∙◌, false≢true, Hosts, Keys, nobody, just, is_key, is_empty, hosts_in, hosts_with, map_where, hosts_where, eqb-true}
use Rattle.std.proofs.Common.{◌↔◌, ◌||◌, add-one}
use Rattle.std.specs.Ordering.{nat_cmp}
use Rattle.std.specs.Cmp.{nat_cmp_total, unsigned_tied}
use Rattle.std.specs.FinSet as set
use Rattle.std.specs.FinSet.{nat_cmp-IsAntisymmetric}
use Rattle.std.specs.FinMap as map
use Rattle.std.proofs.Math.Bool.{or-false}
use Rattle.pr_sets.specs.Kept.{numbers_where}
use Rattle.pr_sets.proofs.lemmas.Members.{contains-numbers_where, lt-zero, lt-suc}
pub use Rattle.pr_sets.proofs.lemmas.Members.{same_numbers as same_hosts, contains-empty as contains-nobody, contains-insert, contains-remove, contains-difference, contains-union}
use Rattle.pr_registry.specs.Hosts.{without}
use Rattle.pr_registry.specs.Tables.{with_pair}

pub same_keys : (m n : Keys) → ((q : ℕ) → map.get m q ≡ map.get n q) → m ≡ n
same_keys m n same = map.same_map nat_cmp_total nat_cmp-IsAntisymmetric m n same

pub contains-just : (h q : ℕ) → set.contains (just h) q ≡ (q == h)
contains-just h q =
    contains-insert nobody h q ∙ ap (λ b. q == h || b) (contains-nobody q) ∙ or-false (q == h)

pub get-insert : (m : Keys) (h k q : ℕ) → map.get (map.insert m h k) q ≡ (if q == h then Some k else map.get m q)
get-insert m h k q =
    map.get-insert nat_cmp_total m h k q ∙ ap (λ b. cond b (Some k) (map.get m q)) (unsigned_tied q h)

pub get-empty : (q : ℕ) → map.get (map.empty {X = ℕ} {R = nat_cmp}) q ≡ None
get-empty q = map.get-empty nat_cmp q

-- ---- a set and a map that tables give

pub hosts_where-numbers_where : (n : ℕ) (p : ℕ → Bool) → hosts_where n p ≡ numbers_where n p
unfolding hosts_where numbers_where
hosts_where-numbers_where zero p = refl
hosts_where-numbers_where (suc n) p = ap (λ s. if p n then set.insert s n else s) (hosts_where-numbers_where n p)

pub contains-hosts_where : (n : ℕ) (p : ℕ → Bool) (q : ℕ) → set.contains (hosts_where n p) q ≡ (nat_lt q n && p q)
contains-hosts_where n p q = ap (λ s. set.contains s q) (hosts_where-numbers_where n p) ∙ contains-numbers_where n p q

-- one more place
pub hosts_where-more : (n : ℕ) (p : ℕ → Bool) → hosts_where (n + 1) p ≡ (if p n then set.insert (hosts_where n p) n else hosts_where n p)
unfolding hosts_where
hosts_where-more n p = rw add-one refl

pub hosts_where-takes : (n : ℕ) (p : ℕ → Bool) → p n ≡ true → hosts_where (n + 1) p ≡ set.insert (hosts_where n p) n
hosts_where-takes n p is = hosts_where-more n p ∙ ap (λ b. if b then set.insert (hosts_where n p) n else hosts_where n p) is

pub hosts_where-skips : (n : ℕ) (p : ℕ → Bool) → p n ≡ false → hosts_where (n + 1) p ≡ hosts_where n p
hosts_where-skips n p is = hosts_where-more n p ∙ ap (λ b. if b then set.insert (hosts_where n p) n else hosts_where n p) is

pub hosts_where-none : (p : ℕ → Bool) → hosts_where 0 p ≡ nobody
unfolding hosts_where
hosts_where-none p = refl

pub get-map_where : (n : ℕ) (f : ℕ → Option ℕ) (q : ℕ) → map.get (map_where n f) q ≡ (if nat_lt q n then f q else None)
unfolding map_where
get-map_where zero f q = get-empty q ∙ ap (λ b. cond b (f q) None) (sym (lt-zero q))
get-map_where (suc n) f q =
    elim (f n) as (λ o. f n ≡ o → map.get (with_pair (map_where n f) n o) q ≡ (if nat_lt q (suc n) then f q else None)) [
      | Some k ↦ λ is. get-insert (map_where n f) n k q ∙ ap (λ o. cond (q == n) (Some k) o) (get-map_where n f q)
          ∙ more_some (q == n) (nat_lt q n) (Some k) (f q) (λ e. ap f (eqb-true q n e) ∙ is) ∙ ap (λ b. cond b (f q) None) (sym (lt-suc q n))
      | None ↦ λ is. get-map_where n f q
          ∙ more_none (q == n) (nat_lt q n) (f q) (λ e. ap f (eqb-true q n e) ∙ is) ∙ ap (λ b. cond b (f q) None) (sym (lt-suc q n))
    ] refl
  where
    more_some : (e l : Bool) (k x : Option ℕ) → (e ≡ true → x ≡ k) → cond e k (cond l x None) ≡ cond (e || l) x None
    more_some true l k x h = sym (h refl)
    more_some false l k x h = refl

    more_none : (e l : Bool) (x : Option ℕ) → (e ≡ true → x ≡ None) → cond l x None ≡ cond (e || l) x None
    more_none true false x h = sym (h refl)
    more_none _ _ x h = refl

-- ---- hosts and their keys

pub contains-hosts_in : (keys : Keys) (q : ℕ) → set.contains (hosts_in keys) q ≡ map.contains_key keys q
unfolding hosts_in
contains-hosts_in keys q = set.contains-from_list nat_cmp_total (map.keys keys) q ∙ sym (map.contains_key-keys keys q)

pub get-without : (keys : Keys) (removed : Hosts) (q : ℕ) → map.get (without keys removed) q ≡ (if set.contains removed q then None else map.get keys q)
unfolding without
get-without keys removed q =
    map.get-retain_keys keys (λ h. not (set.contains removed h)) q (λ x tie. ap not (set.contains_tied nat_cmp_total removed q x tie))
    ∙ turned (set.contains removed q)
  where
    turned : (b : Bool) → cond (not b) (map.get keys q) None ≡ cond b None (map.get keys q)
    turned true = refl
    turned false = refl

pub contains-hosts_with : (keys : Keys) (k q : ℕ) → set.contains (hosts_with keys k) q ≡ is_key (map.get keys q) k
unfolding hosts_with
contains-hosts_with keys k q =
    set.contains-retain (hosts_in keys) (λ h. is_key (map.get keys h) k) q (λ x tie. ap (λ o. is_key o k) (map.get_tied nat_cmp_total keys q x tie))
    ∙ ap (λ b. b && is_key (map.get keys q) k) (contains-hosts_in keys q) ∙ there (map.get keys q)
  where
    there : (o : Option ℕ) → (is_some o && is_key o k) ≡ is_key o k
    there None = refl
    there (Some j) = refl

pub key_is : (o : Option ℕ) (k : ℕ) → is_key o k ≡ true → o ≡ Some k
key_is None k is = absurd (false≢true is)
key_is (Some j) k is = ap Some (eqb-true j k is)

-- ---- none at all

pub is_empty_from_none : (keys : Keys) → ((q : ℕ) → map.get keys q ≡ None) → is_empty keys ≡ true
is_empty_from_none keys none =
    let is : keys ≡ map.empty = same_keys keys map.empty (λ q. none q ∙ sym (get-empty q)) in
    ap (λ m. map.len m == 0) is ∙ ap (λ n. n == 0) (map.len-empty nat_cmp ℕ)

pub not_empty_from_some : (keys : Keys) (q k : ℕ) → map.get keys q ≡ Some k → is_empty keys ≡ false
not_empty_from_some keys q k some =
    elim (is_empty keys) as (λ b. is_empty keys ≡ b → b ≡ false) [
      | true ↦ λ is. let none : None ≡ Some k = sym (get-empty q) ∙ ap (λ m. map.get m q) (sym (map.empty_of_len keys (eqb-true (map.len keys) 0 is))) ∙ some in cc
      | false ↦ λ _. refl
    ] refl

-- a test that a set is empty counts nobody in it
pub len-is_nobody : (b : Bool) (s : Hosts) → (IsTrue b ↔ (s ≡ nobody)) → b ≡ (set.len s == 0)
len-is_nobody true s tells = sym (ap (λ t. set.len t == 0) (tells.0 refl) ∙ ap (λ n. n == 0) (set.len-empty nat_cmp))
len-is_nobody false s tells = at (set.len s == 0) refl
  where
    at : (b : Bool) → (set.len s == 0) ≡ b → false ≡ b
    at true none = tells.1 (set.empty_of_len s (eqb-true (set.len s) 0 none))
    at false some = refl

-- ---- for the crates above

-- what sets of hosts contain and registrations give, by what they were made of
pub ruleset reads = (contains-nobody, contains-just, contains-insert, contains-remove, contains-difference, contains-union, contains-hosts_where, contains-hosts_in, contains-hosts_with, get-empty, get-insert, get-without, get-map_where)
