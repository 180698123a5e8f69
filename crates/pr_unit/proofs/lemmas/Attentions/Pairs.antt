-- What sets of pending attentions contain.
use Rattle.pr_unit.proofs.Common.{◌≡◌, ℕ, zero, suc, ◌+◌, ◌<◌, Bool, true, false, not, ◌&&◌, ◌||◌, List, [], ◌∷◌, length, if◌then◌else◌, nat_lt, ◌==◌, sym, refl, ap, ◌∙◌, arith, false≢true, MOST_NEXUSES, Codes, no_code, contains-no_code, Pairs, place, table_pairs, each_with, pairs_where, or-false, inl, inr, ◌⊎◌, Hosts}
use Rattle.std.proofs.Common.{◌≢◌, map, slice_index_or, slice_set, add-one, eqb-true, lt-ltb}
use Rattle.std.specs.Ordering.{nat_cmp, eq_by_cmp, is_eq, ordering_then}
use Rattle.std.specs.declared.cmp.Ordering.{Ordering}
use Rattle.std.specs.declared.cmp.Ordering.TheVariants.{Less, Equal, Greater}
use Rattle.std.specs.Cmp.{IsTotalOrder, unsigned_tied}
use Rattle.std.specs.Cmp.Lexicographic.{nat_list_cmp_total}
use Rattle.std.specs.FinSet as set
use Rattle.std.specs.FinSet.{IsAntisymmetric, slice_cmp-IsAntisymmetric, nat_cmp-IsAntisymmetric}
use Rattle.std.specs.List.{list_any}
use Rattle.std.proofs.lemmas.Bool.Decides.{eqb_tells}
use Rattle.std.proofs.lemmas.List.{get_or-set_same, get_or-set_other}
use Rattle.std.proofs.Math.Bool.{or_self, and-or_distrib_right, and-or_distrib_left, and-false, and-true}
use Rattle.pr_attention.proofs.lemmas.Sets.{contains-insert_code, contains-remove_code}
use Rattle.pr_sets.proofs.lemmas.Members.{lt-suc, lt-zero}
use Rattle.pr_unit.specs.inside.Told.{AreBelow}
use Rattle.pr_unit.specs.Attentions.{pair_cmp}
use Rattle.pr_unit.specs.Tables.{of_host}

pub pair_cmp_total : IsTotalOrder pair_cmp
pair_cmp_total = record {
  antisymm = λ p q. nat_list_cmp_total.antisymm (p.0 ∷ p.1 ∷ []) (q.0 ∷ q.1 ∷ []);
  trans = λ p q r. nat_list_cmp_total.trans (p.0 ∷ p.1 ∷ []) (q.0 ∷ q.1 ∷ []) (r.0 ∷ r.1 ∷ []);
  congr = λ p q r. nat_list_cmp_total.congr (p.0 ∷ p.1 ∷ []) (q.0 ∷ q.1 ∷ []) (r.0 ∷ r.1 ∷ []);
}

head_of : List ℕ → ℕ
head_of [] = 0
head_of (x ∷ xs) = x

pub pair_cmp-IsAntisymmetric : IsAntisymmetric pair_cmp
pair_cmp-IsAntisymmetric p q e =
    let lists : p.0 ∷ p.1 ∷ [] ≡ q.0 ∷ q.1 ∷ [] = slice_cmp-IsAntisymmetric nat_cmp-IsAntisymmetric (p.0 ∷ p.1 ∷ []) (q.0 ∷ q.1 ∷ []) e in
    let hosts : p.0 ≡ q.0 = cc in
    let codes : p.1 ≡ q.1 = cc in
    λ i. (hosts i, codes i)

pub same_pairs : (s t : Pairs) → ((p : ℕ × ℕ) → set.contains s p ≡ set.contains t p) → s ≡ t
same_pairs s t same = set.same_set pair_cmp_total pair_cmp-IsAntisymmetric s t same

-- two pairs tie where both parts are equal
pub pair_tied : (p q : ℕ × ℕ) → eq_by_cmp pair_cmp p q ≡ (p.0 == q.0 && p.1 == q.1)
pair_tied p q =
    at (nat_cmp p.0 q.0) (nat_cmp p.1 q.1) ∙ (λ i. unsigned_tied p.0 q.0 i && unsigned_tied p.1 q.1 i)
  where
    last : (s : Ordering) → is_eq (ordering_then s Equal) ≡ is_eq s
    last Less = refl
    last Equal = refl
    last Greater = refl

    at : (r s : Ordering) → is_eq (ordering_then r (ordering_then s Equal)) ≡ (is_eq r && is_eq s)
    at Equal s = last s
    at _ s = refl

pub contains-none : (p : ℕ × ℕ) → set.contains (set.empty {R = pair_cmp}) p ≡ false
contains-none p = set.contains-empty pair_cmp p

pub contains-union-pairs : (s t : Pairs) (p : ℕ × ℕ) → set.contains (set.union s t) p ≡ (set.contains s p || set.contains t p)
contains-union-pairs s t p = set.contains-union pair_cmp_total s t p

pub contains-remove-pair : (s : Pairs) (q p : ℕ × ℕ) → set.contains (set.remove s q) p ≡ (not (p.0 == q.0 && p.1 == q.1) && set.contains s p)
contains-remove-pair s q p = set.contains-remove pair_cmp_total s q p ∙ ap (λ b. not b && set.contains s p) (pair_tied p q)

pub contains-insert-pair : (s : Pairs) (q p : ℕ × ℕ) → set.contains (set.insert s q) p ≡ ((p.0 == q.0 && p.1 == q.1) || set.contains s p)
contains-insert-pair s q p = set.contains-insert pair_cmp_total s q p ∙ ap (λ b. b || set.contains s p) (pair_tied p q)

-- those of the hosts that pass a test
pub contains-retain-pair : (s : Pairs) (test : ℕ → Bool) (p : ℕ × ℕ) → set.contains (set.retain s (λ q. test q.0)) p ≡ (set.contains s p && test p.0)
contains-retain-pair s test p = set.contains-retain s (λ q. test q.0) p (λ q tie. ap (λ (r : ℕ × ℕ). test r.0) (sym (pair_cmp-IsAntisymmetric p q tie)))

any_with : (hosts : List ℕ) (code h x : ℕ) → list_any (eq_by_cmp pair_cmp (h, x)) (map (λ i. (i, code)) hosts) ≡ (list_any (eq_by_cmp nat_cmp h) hosts && x == code)
any_with [] code h x = refl
any_with (i ∷ is) code h x =
    (λ j. (pair_tied (h, x) (i, code) ∙ ap (λ b. b && x == code) (sym (unsigned_tied h i))) j || any_with is code h x j)
    ∙ sym (and-or_distrib_right (eq_by_cmp nat_cmp h i) (list_any (eq_by_cmp nat_cmp h) is) (x == code))

pub contains-each_with : (hosts : Hosts) (code h x : ℕ) → set.contains (each_with hosts code) (h, x) ≡ (set.contains hosts h && x == code)
unfolding each_with
contains-each_with hosts code h x =
    set.contains-from_list pair_cmp_total (map (λ i. (i, code)) (set.items hosts)) (h, x) ∙ any_with (set.items hosts) code h x
    ∙ ap (λ b. b && x == code) (sym (set.contains-items hosts h))

-- ---- pairs from tables

any_of_host : (codes : List ℕ) (h q x : ℕ) → list_any (eq_by_cmp pair_cmp (q, x)) (map (λ code. (h, code)) codes) ≡ (q == h && list_any (eq_by_cmp nat_cmp x) codes)
any_of_host [] h q x = sym (and-false (q == h))
any_of_host (code ∷ codes) h q x =
    (λ j. (pair_tied (q, x) (h, code) ∙ ap (λ b. q == h && b) (sym (unsigned_tied x code))) j || any_of_host codes h q x j)
    ∙ sym (and-or_distrib_left (q == h) (eq_by_cmp nat_cmp x code) (list_any (eq_by_cmp nat_cmp x) codes))

pub contains-of_host : (h : ℕ) (codes : Codes) (q x : ℕ) → set.contains (of_host h codes) (q, x) ≡ (q == h && set.contains codes x)
unfolding of_host
contains-of_host h codes q x =
    set.contains-from_list pair_cmp_total (map (λ code. (h, code)) (set.items codes)) (q, x) ∙ any_of_host (set.items codes) h q x
    ∙ ap (λ b. q == h && b) (sym (set.contains-items codes x))

joined_pair : (e l a b : Bool) → (e ≡ true → a ≡ b) → ((l && b) || (e && a)) ≡ ((e || l) && b)
joined_pair true true a b same = ap (λ y. b || y) (same refl) ∙ or_self b
joined_pair true false a b same = same refl
joined_pair false true a b same = or-false b
joined_pair false false a b same = refl

pub contains-pairs_where : (n : ℕ) (f : ℕ → Codes) (q x : ℕ) → set.contains (pairs_where n f) (q, x) ≡ (nat_lt q n && set.contains (f q) x)
unfolding pairs_where
contains-pairs_where zero f q x = contains-none (q, x) ∙ ap (λ b. b && set.contains (f q) x) (sym (lt-zero q))
contains-pairs_where (suc n) f q x =
    contains-union-pairs (pairs_where n f) (of_host n (f n)) (q, x)
    ∙ (λ i. contains-pairs_where n f q x i || contains-of_host n (f n) q x i)
    ∙ joined_pair (q == n) (nat_lt q n) (set.contains (f n) x) (set.contains (f q) x) (λ e. ap (λ h. set.contains (f h) x) (sym (eqb-true q n e)))
    ∙ ap (λ b. b && set.contains (f q) x) (sym (lt-suc q n))

-- the codes at a place of a table
pub place_read : (table : List Codes) (h : ℕ) (d : Codes) → h < length table → slice_index_or table h d ≡ place table h
place_read [] h d small = absurd (omega arith)
place_read (codes ∷ table) zero d small = refl
place_read (codes ∷ table) (suc h) d small = place_read table h d (omega arith)

pub contains-table_pairs : (table : List Codes) (q x : ℕ) → set.contains (table_pairs table) (q, x) ≡ (nat_lt q MOST_NEXUSES && set.contains (place table q) x)
contains-table_pairs table q x = contains-pairs_where MOST_NEXUSES (place table) q x

pub contains-table_pairs_in : (table : List Codes) (q x : ℕ) → q < MOST_NEXUSES → set.contains (table_pairs table) (q, x) ≡ set.contains (place table q) x
contains-table_pairs_in table q x small = contains-table_pairs table q x ∙ ap (λ b. b && set.contains (place table q) x) (lt-ltb q MOST_NEXUSES small)

pub place-set : (table : List Codes) (h : ℕ) (codes : Codes) (q : ℕ) → h < length table → place (slice_set table h codes) q ≡ (if q == h then codes else place table q)
place-set table h codes q small = at (eqb_tells q h)
  where
    at : (((q == h) ≡ true) × (q ≡ h)) ⊎ (((q == h) ≡ false) × (q ≢ h)) → place (slice_set table h codes) q ≡ (if q == h then codes else place table q)
    at (inl same) = rw same.0 (rw same.1 (get_or-set_same table h codes no_code small))
    at (inr other) = rw other.0 (get_or-set_other table h q codes no_code other.1)

contains-table_pairs-set : (table : List Codes) (h : ℕ) (codes : Codes) (q x : ℕ) → length table ≡ MOST_NEXUSES → h < MOST_NEXUSES
    → set.contains (table_pairs (slice_set table h codes)) (q, x) ≡ (if q == h then set.contains codes x else set.contains (table_pairs table) (q, x))
contains-table_pairs-set table h codes q x whole small =
    contains-table_pairs (slice_set table h codes) q x
    ∙ ap (λ (s : Codes). nat_lt q MOST_NEXUSES && set.contains s x) (place-set table h codes q (omega arith))
    ∙ swapped (q == h) (nat_lt q MOST_NEXUSES) (λ e. ap (λ n. nat_lt n MOST_NEXUSES) (eqb-true q h e) ∙ lt-ltb h MOST_NEXUSES small)
    ∙ ap (λ b. if q == h then set.contains codes x else b) (sym (contains-table_pairs table q x))
  where
    swapped : (e l : Bool) → (e ≡ true → l ≡ true) → (l && set.contains (if e then codes else place table q) x) ≡ (if e then set.contains codes x else (l && set.contains (place table q) x))
    swapped true false h = absurd (false≢true (h refl))
    swapped _ _ h = refl

pub table_pairs-insert : (table : List Codes) (h : ℕ) (codes : Codes) (code : ℕ) → length table ≡ MOST_NEXUSES → h < MOST_NEXUSES → codes ≡ set.insert (place table h) code
    → table_pairs (slice_set table h codes) ≡ set.insert (table_pairs table) (h, code)
table_pairs-insert table h codes code whole small is =
    same_pairs _ _ (λ p. contains-table_pairs-set table h codes p.0 p.1 whole small
    ∙ ap (λ s. if p.0 == h then set.contains s p.1 else set.contains (table_pairs table) p) is
    ∙ ap (λ b. if p.0 == h then b else set.contains (table_pairs table) p) (contains-insert_code (place table h) code p.1)
    ∙ at p (p.0 == h) refl
    ∙ sym (contains-insert-pair (table_pairs table) (h, code) p))
  where
    at : (p : ℕ × ℕ) (b : Bool) → (p.0 == h) ≡ b → (if b then (p.1 == code || set.contains (place table h) p.1) else set.contains (table_pairs table) p) ≡ ((b && p.1 == code) || set.contains (table_pairs table) p)
    at p true e =
        ap (λ b. p.1 == code || b) (sym (contains-table_pairs_in table h p.1 small))
        ∙ ap (λ q. p.1 == code || set.contains (table_pairs table) (q, p.1)) (sym (eqb-true p.0 h e))
    at p false e = refl

pub table_pairs-remove : (table : List Codes) (h : ℕ) (codes : Codes) (code : ℕ) → length table ≡ MOST_NEXUSES → h < MOST_NEXUSES → codes ≡ set.remove (place table h) code
    → table_pairs (slice_set table h codes) ≡ set.remove (table_pairs table) (h, code)
table_pairs-remove table h codes code whole small is =
    same_pairs _ _ (λ p. contains-table_pairs-set table h codes p.0 p.1 whole small
    ∙ ap (λ s. if p.0 == h then set.contains s p.1 else set.contains (table_pairs table) p) is
    ∙ ap (λ b. if p.0 == h then b else set.contains (table_pairs table) p) (contains-remove_code (place table h) code p.1)
    ∙ at p (p.0 == h) refl
    ∙ sym (contains-remove-pair (table_pairs table) (h, code) p))
  where
    at : (p : ℕ × ℕ) (b : Bool) → (p.0 == h) ≡ b → (if b then (not (p.1 == code) && set.contains (place table h) p.1) else set.contains (table_pairs table) p) ≡ (not (b && p.1 == code) && set.contains (table_pairs table) p)
    at p true e =
        ap (λ b. not (p.1 == code) && b) (sym (contains-table_pairs_in table h p.1 small))
        ∙ ap (λ q. not (p.1 == code) && set.contains (table_pairs table) (q, p.1)) (sym (eqb-true p.0 h e))
    at p false e = refl

-- with nothing at the place of a host
pub table_pairs-silence : (table : List Codes) (h : ℕ) → length table ≡ MOST_NEXUSES → h < MOST_NEXUSES
    → table_pairs (slice_set table h no_code) ≡ set.retain (table_pairs table) (λ p. not (p.0 == h))
table_pairs-silence table h whole small =
    same_pairs _ _ (λ p. contains-table_pairs-set table h no_code p.0 p.1 whole small
    ∙ ap (λ b. if p.0 == h then b else set.contains (table_pairs table) p) (contains-no_code p.1)
    ∙ at (p.0 == h) (set.contains (table_pairs table) p)
    ∙ sym (contains-retain-pair (table_pairs table) (λ x. not (x == h)) p))
  where
    at : (b c : Bool) → (if b then false else c) ≡ (c && not b)
    at true c = sym (and-false c)
    at false c = sym (and-true c)

-- ---- hosts that are told

-- of the hosts below i, those that are told have the code
abbrev pub IsToldBelow : Pairs → Pairs → Hosts → ℕ → ℕ → Type 0
IsToldBelow old new hosts code i =
    (q x : ℕ) → set.contains new (q, x) ≡ (set.contains old (q, x) || (nat_lt q i && (set.contains hosts q && x == code)))

pub told_none : (old : Pairs) (hosts : Hosts) (code : ℕ) → IsToldBelow old old hosts code 0
told_none old hosts code q x =
    sym (ap (λ b. set.contains old (q, x) || (b && (set.contains hosts q && x == code))) (lt-zero q) ∙ or-false (set.contains old (q, x)))

-- one host more
pub told_more : (old new : Pairs) (hosts : Hosts) (code i : ℕ) → set.contains hosts i ≡ true → IsToldBelow old new hosts code i
    → IsToldBelow old (set.insert new (i, code)) hosts code (i + 1)
told_more old new hosts code i member told q x =
    contains-insert-pair new (i, code) (q, x) ∙ ap (λ b. (q == i && x == code) || b) (told q x)
    ∙ at (q == i) (nat_lt q i) (set.contains hosts q) (x == code) (set.contains old (q, x)) (λ e. ap (set.contains hosts) (eqb-true q i e) ∙ member)
    ∙ ap (λ b. set.contains old (q, x) || (b && (set.contains hosts q && x == code))) (sym (rw add-one (lt-suc q i)))
  where
    at : (e l m c o : Bool) → (e ≡ true → m ≡ true) → ((e && c) || (o || (l && (m && c)))) ≡ (o || ((e || l) && (m && c)))
    at true l m true true is = refl
    at true l true true false is = refl
    at true l false true false is = absurd (false≢true (is refl))
    at true l m false true is = refl
    at true true m false false is = refl
    at true false true false false is = refl
    at true false false false false is = refl
    at false l m c o is = refl

pub told_skips : (old new : Pairs) (hosts : Hosts) (code i : ℕ) → set.contains hosts i ≡ false → IsToldBelow old new hosts code i → IsToldBelow old new hosts code (i + 1)
told_skips old new hosts code i member told q x =
    told q x ∙ at (q == i) (nat_lt q i) (set.contains hosts q) (x == code) (set.contains old (q, x)) (λ e. ap (set.contains hosts) (eqb-true q i e) ∙ member)
    ∙ ap (λ b. set.contains old (q, x) || (b && (set.contains hosts q && x == code))) (sym (rw add-one (lt-suc q i)))
  where
    at : (e l m c o : Bool) → (e ≡ true → m ≡ false) → (o || (l && (m && c))) ≡ (o || ((e || l) && (m && c)))
    at true l m c true is = refl
    at true true m c false is = refl
    at true false true c false is = absurd (false≢true (sym (is refl)))
    at true false false c false is = refl
    at false l m c o is = refl

pub told_all : (old new : Pairs) (hosts : Hosts) (code : ℕ) → AreBelow MOST_NEXUSES hosts → IsToldBelow old new hosts code MOST_NEXUSES → new ≡ set.union old (each_with hosts code)
told_all old new hosts code below told =
    same_pairs _ _ (λ p. told p.0 p.1 ∙ ap (λ b. set.contains old p || b) (at p (nat_lt p.0 MOST_NEXUSES) (set.contains hosts p.0) refl refl ∙ sym (contains-each_with hosts code p.0 p.1))
    ∙ sym (contains-union-pairs old (each_with hosts code) p))
  where
    at : (p : ℕ × ℕ) (l m : Bool) → nat_lt p.0 MOST_NEXUSES ≡ l → set.contains hosts p.0 ≡ m → (l && (m && p.1 == code)) ≡ (m && p.1 == code)
    at p true m is there = refl
    at p false false is there = refl
    at p false true is there = let small = below p.0 there in absurd (false≢true (sym is ∙ lt-ltb p.0 MOST_NEXUSES small))
