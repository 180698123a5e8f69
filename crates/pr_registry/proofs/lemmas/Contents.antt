-- The data of READ KEYS and READ RESERVATION, read back.
use Rattle.pr_registry.proofs.Common.{◌≡◌, ℕ, zero, suc, ◌+◌, ◌<◌, ◌≤◌, Bool, true, false, List, [], ◌∷◌, length, if◌then◌else◌, nat_lt, ◌==◌, Some, None, Option, sym, refl, ap, ◌∙◌, arith, false≢true, State, MOST_NEXUSES, map_where, IsWellFormed, lt-ltb}
use Rattle.std.proofs.Common.{◌*◌, ◌^◌, ◌||◌, ◌≢◌, ◌⊎◌, ◌++◌, nat_le, slice_index, inl, inr, add-one, lit<, length-append}
use Rattle.std.specs.Int.{w32, w64, to_be_bytes}
use Rattle.std.specs.FinMap as map
use Rattle.std.specs.List.{flat_map, list_any}
use Rattle.std.proofs.lemmas.Bool.{or_parts, eq-eqb, leb-false, lt-leb}
use Rattle.std.proofs.lemmas.List.{take_all}
use Rattle.std.proofs.lemmas.Bool.Decides.{eqb_tells}
use Rattle.std.proofs.lemmas.List.Folds.{list_any-append}
use Rattle.std.proofs.Math.Bool.{or-false, or-true}
use Rattle.pr_cdb.specs.ReplyData.{keys_bytes, keys_in, reservation_bytes, holder_in, cut}
use Rattle.pr_cdb.specs.ReadBack.{holder}
use Rattle.pr_cdb.specs.inside.KeyWidths.{HasKey}
use Rattle.pr_cdb.proofs.lemmas.ReplyRoundTrip.{keys_in-keys_bytes, holder_in-reservation_bytes}
use Rattle.pr_cdb.specs.declared.command.Kind.{Kind}
use Rattle.pr_registry.specs.Registrations.{key_of}
use Rattle.pr_registry.proofs.lemmas.Sets.{same_keys, get-map_where}
use Rattle.pr_registry.proofs.lemmas.KeyValues.{values-map_where-some, values-map_where-none, values-map_where-zero}

-- ---- keys of the first hosts

abbrev KeysBelow : ℕ → (ℕ → Option ℕ) → List ℕ
KeysBelow n f = map.values (map_where n f)

length-values : (n : ℕ) (f : ℕ → Option ℕ) → length (KeysBelow n f) ≤ n
length-values zero f = let none = ap length (values-map_where-zero f) in omega arith
length-values (suc n) f = at (f n) refl (length-values n f)
  where
    at : (o : Option ℕ) → f n ≡ o → length (KeysBelow n f) ≤ n → length (KeysBelow (suc n) f) ≤ suc n
    at None is most = let same = ap length (rw add-one at (values-map_where-none n f is)) in omega arith
    at (Some k) is most = let same = ap length (rw add-one at (values-map_where-some n k f is)) ∙ length-append (KeysBelow n f) (k ∷ []) in omega arith

-- whether some key passes
abbrev any_value : ℕ → (ℕ → Option ℕ) → (ℕ → Bool) → Bool
any_value n f p = list_any p (KeysBelow n f)

any_value-some : (n k : ℕ) (f : ℕ → Option ℕ) (p : ℕ → Bool) → f n ≡ Some k → any_value (suc n) f p ≡ (any_value n f p || p k)
any_value-some n k f p is =
    ap (list_any p) (rw add-one at (values-map_where-some n k f is)) ∙ list_any-append p (KeysBelow n f) (k ∷ []) ∙ ap (λ b. any_value n f p || b) (or-false (p k))

any_value-none : (n : ℕ) (f : ℕ → Option ℕ) (p : ℕ → Bool) → f n ≡ None → any_value (suc n) f p ≡ any_value n f p
any_value-none n f p is = ap (list_any p) (rw add-one at (values-map_where-none n f is))

any_value-zero : (f : ℕ → Option ℕ) (p : ℕ → Bool) → any_value 0 f p ≡ false
any_value-zero f p = ap (list_any p) (values-map_where-zero f)

value_there : (n : ℕ) (f : ℕ → Option ℕ) (p : ℕ → Bool) (h k : ℕ) → h < n → f h ≡ Some k → p k ≡ true → any_value n f p ≡ true
value_there zero f p h k small is passes = absurd (omega arith)
value_there (suc n) f p h k small is passes = at (f n) refl (eqb_tells h n) (λ less. value_there n f p h k less is passes)
  where
    at : (o : Option ℕ) → f n ≡ o → (((h == n) ≡ true) × (h ≡ n)) ⊎ (((h == n) ≡ false) × (h ≢ n)) → (h < n → any_value n f p ≡ true) → any_value (suc n) f p ≡ true
    at None none (inl same) more = let bad : None ≡ Some k = sym none ∙ ap f (sym same.1) ∙ is in cc
    at None none (inr other) more = let apart = other.1 in any_value-none n f p none ∙ more (omega arith)
    at (Some j) there (inl same) more =
        let equal : Some j ≡ Some k = sym there ∙ ap f (sym same.1) ∙ is in
        let key : j ≡ k = cc in
        any_value-some n j f p there ∙ ap (λ b. any_value n f p || b) (ap p key ∙ passes) ∙ or-true (any_value n f p)
    at (Some j) there (inr other) more = let apart = other.1 in any_value-some n j f p there ∙ ap (λ b. b || p j) (more (omega arith))

no_value : (n : ℕ) (f : ℕ → Option ℕ) (p : ℕ → Bool) → ((h k : ℕ) → h < n → f h ≡ Some k → p k ≡ false) → any_value n f p ≡ false
no_value zero f p fails = any_value-zero f p
no_value (suc n) f p fails = at (f n) refl (no_value n f p (λ h k small is. fails h k (omega arith) is))
  where
    at : (o : Option ℕ) → f n ≡ o → any_value n f p ≡ false → any_value (suc n) f p ≡ false
    at None none rest = any_value-none n f p none ∙ rest
    at (Some k) there rest = any_value-some n k f p there ∙ (λ i. rest i || fails n k (omega arith) there i)

-- ---- keys of a registry

-- the keys are those of its hosts
all_keys : (u : State) → IsWellFormed u → u.keys ≡ map_where u.hosts (key_of u)
all_keys u w = same_keys u.keys (map_where u.hosts (key_of u)) (λ q. at q (nat_lt q u.hosts) (key_of u q) refl refl ∙ sym (get-map_where u.hosts (key_of u) q))
  where
    at : (q : ℕ) (b : Bool) (o : Option ℕ) → nat_lt q u.hosts ≡ b → key_of u q ≡ o → map.get u.keys q ≡ (if nat_lt q u.hosts then key_of u q else None)
    at q true o small is = sym (ap (λ b. if b then key_of u q else None) small)
    at q false None large is = is ∙ sym (ap (λ b. if b then key_of u q else None) large)
    at q false (Some k) large is = let there = (w.keys q k is).0 in absurd (false≢true (sym large ∙ lt-ltb q u.hosts there))

values_of : (u : State) → IsWellFormed u → map.values u.keys ≡ KeysBelow u.hosts (key_of u)
values_of u w = ap map.values (all_keys u w)

-- no more than there are hosts
pub few_keys : (u : State) → IsWellFormed u → length (map.values u.keys) ≤ u.hosts
few_keys u w =
    let few = length-values u.hosts (key_of u) in
    let same = ap length (values_of u w) in
    omega arith

few_values : (u : State) → IsWellFormed u → length (map.values u.keys) ≤ MOST_NEXUSES
few_values u w =
    let few = few_keys u w in
    let most = w.hosts.1 in
    omega arith

-- each has 64 bits
words_of : (xs : List ℕ) → list_any (λ k. nat_le (2 ^ 64) k) xs ≡ false → (i : ℕ) → slice_index xs i < 2 ^ 64
words_of [] none i = lit< tt
words_of (x ∷ xs) none zero = leb-false (2 ^ 64) x (or_parts (nat_le (2 ^ 64) x) (list_any (λ k. nat_le (2 ^ 64) k) xs) none).0
words_of (x ∷ xs) none (suc i) = words_of xs (or_parts (nat_le (2 ^ 64) x) (list_any (λ k. nat_le (2 ^ 64) k) xs) none).1 i

value_words : (u : State) → IsWellFormed u → (i : ℕ) → slice_index (map.values u.keys) i < 2 ^ 64
value_words u w = words_of (map.values u.keys) (ap (list_any (λ k. nat_le (2 ^ 64) k)) (values_of u w) ∙ no_value u.hosts (key_of u) (λ k. nat_le (2 ^ 64) k) (λ h k small is. lt-leb (2 ^ 64) k (w.keys h k is).1.1))

length-flat : (ks : List ℕ) → length (flat_map (to_be_bytes w64) ks) ≡ 8 * length ks
length-flat [] = refl
length-flat (k ∷ ks) = omega (arith, length-append (to_be_bytes w64 k) (flat_map (to_be_bytes w64) ks), length-flat ks)

pub length-keys_bytes : (g : ℕ) (ks : List ℕ) → length (keys_bytes g ks) ≡ 8 + 8 * length ks
unfolding keys_bytes
length-keys_bytes g ks =
    let front = to_be_bytes w32 g ++ to_be_bytes w32 (8 * length ks) in
    omega (arith, length-append front (flat_map (to_be_bytes w64) ks), length-flat ks)

-- the keys that READ KEYS returns
pub keys_read : (u : State) → IsWellFormed u → keys_in (cut 8192 (keys_bytes u.generation (map.values u.keys))) ≡ map.values u.keys
keys_read u w =
    let few = few_values u w in
    let short : length (keys_bytes u.generation (map.values u.keys)) ≤ 8192 = let len = length-keys_bytes u.generation (map.values u.keys) in omega arith in
    ap keys_in (take_all 8192 (keys_bytes u.generation (map.values u.keys)) short) ∙ keys_in-keys_bytes u.generation (map.values u.keys) few (value_words u w)

pub key_read : (u : State) (g k : ℕ) → IsWellFormed u → key_of u g ≡ Some k → list_any (λ j. j == k) (keys_in (cut 8192 (keys_bytes u.generation (map.values u.keys)))) ≡ true
key_read u g k w is =
    ap (list_any (λ j. j == k)) (keys_read u w ∙ values_of u w) ∙ value_there u.hosts (key_of u) (λ j. j == k) g k (w.keys g k is).0 is (eq-eqb k k refl)

pub key_not_read : (u : State) (k : ℕ) → IsWellFormed u → ((g j : ℕ) → key_of u g ≡ Some j → (j == k) ≡ false) → list_any (λ j. j == k) (keys_in (cut 8192 (keys_bytes u.generation (map.values u.keys)))) ≡ false
key_not_read u k w none =
    ap (list_any (λ j. j == k)) (keys_read u w ∙ values_of u w) ∙ no_value u.hosts (key_of u) (λ j. j == k) (λ g j small is. none g j is)

-- ---- the reservation

length-reservation_bytes : (g : ℕ) (held : Option (ℕ × Kind)) → length (reservation_bytes g held) ≤ 24
unfolding reservation_bytes
length-reservation_bytes g None = omega arith
length-reservation_bytes g (Some r) = omega arith

pub holder_read : (g : ℕ) (held : Option (ℕ × Kind)) → HasKey held → holder_in (cut 8192 (reservation_bytes g held)) ≡ Some (holder held)
holder_read g held fits =
    let short : length (reservation_bytes g held) ≤ 8192 = let few = length-reservation_bytes g held in omega arith in
    ap holder_in (take_all 8192 (reservation_bytes g held) short) ∙ holder_in-reservation_bytes g held fits
