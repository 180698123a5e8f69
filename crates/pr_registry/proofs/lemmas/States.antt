-- Each service action keeps states well formed, and the table follows the registrations.
use Rattle.pr_registry.proofs.Common.{◌≡◌, ℕ, zero, suc, ◌<◌, ◌≤◌, Bool, true, false, cond, not, ◌&&◌, List, [], ◌∷◌, length, is_some, if◌then◌else◌, IsTrue, nat_lt, ◌==◌, slice_set, Some, None, Option, sym, refl, ap, ◌∙◌, subst, arith, false≢true, nat_tests, MOST_NEXUSES, preempt_case, removed_by_preempt, Hosts, Keys, just, is_key, is_empty, hosts_in, hosts_with, map_where, State, is_registered, IsWellFormed, table_keys, state_of, eqb-true, lt-ltb}
use Rattle.std.proofs.Common.{◌≢◌, ◌^◌, inl, inr, ◌⊎◌, lit<, option_map, eq-eqb}
use Rattle.std.specs.FinSet as set
use Rattle.std.specs.FinMap as map
use Rattle.std.proofs.lemmas.Bool.Decides.{eqb_tells}
use Rattle.std.proofs.lemmas.List.{get_or-set_same, get_or-set_other}
use Rattle.pr_cdb.specs.declared.command.Kind.{Kind}
use Rattle.pr_registry.specs.declared.held.Held.{Held}
use Rattle.pr_registry.specs.declared.held.Held.TheVariants.{One, All}
use Rattle.pr_registry.specs.Hosts.{without}
use Rattle.pr_registry.specs.Registrations.{IsKey, HasHolder, holds_alone, is_all, new_reservation}
use Rattle.pr_registry.specs.Tables.{state_from, empty_registry}
use Rattle.pr_registry.specs.inside.TableStates.{IsKeyOrNone}
use Rattle.pr_registry.specs.Effects.{next, held_by_rest, held_or, held_after_preempt, with_registration, without_registration, with_reservation, after_release, after_clear, after_preempt}
use Rattle.pr_registry.specs.Changes.{Case, ReplacesAll, ReplacesHolder, RemovesKey, is_released}
use Rattle.pr_registry.specs.Premises.{HasKindIfReplacing}
use Rattle.pr_registry.proofs.lemmas.Sets.{same_keys, get-insert, get-empty, get-without, contains-just, contains-remove, contains-hosts_with, not_empty_from_some}
use Rattle.pr_registry.proofs.lemmas.Tables.{slot, get-table_keys, get-table_keys_in}

-- ---- the table after a write

slot-set : (slots : List (Option ℕ)) (h : ℕ) (o : Option ℕ) (q : ℕ) → h < length slots → slot (slice_set slots h o) q ≡ (if q == h then o else slot slots q)
slot-set slots h o q small = at (eqb_tells q h)
  where
    at : (((q == h) ≡ true) × (q ≡ h)) ⊎ (((q == h) ≡ false) × (q ≢ h)) → slot (slice_set slots h o) q ≡ (if q == h then o else slot slots q)
    at (inl same) = rw same.0 (rw same.1 (get_or-set_same slots h o None small))
    at (inr other) = rw other.0 (get_or-set_other slots h q o None other.1)

get-table_keys-set : (slots : List (Option ℕ)) (h : ℕ) (o : Option ℕ) (q : ℕ) → length slots ≡ MOST_NEXUSES → h < MOST_NEXUSES
    → map.get (table_keys MOST_NEXUSES (slice_set slots h o)) q ≡ (if q == h then o else map.get (table_keys MOST_NEXUSES slots) q)
get-table_keys-set slots h o q whole small =
    get-table_keys MOST_NEXUSES (slice_set slots h o) q ∙ ap (λ x. cond (nat_lt q MOST_NEXUSES) x None) (slot-set slots h o q (omega arith))
    ∙ swapped (nat_lt q MOST_NEXUSES) (q == h) (λ e. ap (λ x. nat_lt x MOST_NEXUSES) (eqb-true q h e) ∙ lt-ltb h MOST_NEXUSES small)
    ∙ ap (λ x. cond (q == h) o x) (sym (get-table_keys MOST_NEXUSES slots q))
  where
    swapped : (l e : Bool) → (e ≡ true → l ≡ true) → cond l (cond e o (slot slots q)) None ≡ cond e o (cond l (slot slots q) None)
    swapped true true in_range = refl
    swapped true false in_range = refl
    swapped false true in_range = absurd (false≢true (in_range refl))
    swapped false false in_range = refl

pub table_keys-insert : (slots : List (Option ℕ)) (h k : ℕ) → length slots ≡ MOST_NEXUSES → h < MOST_NEXUSES → table_keys MOST_NEXUSES (slice_set slots h (Some k)) ≡ map.insert (table_keys MOST_NEXUSES slots) h k
table_keys-insert slots h k whole small =
    same_keys _ _ (λ q. get-table_keys-set slots h (Some k) q whole small ∙ sym (get-insert (table_keys MOST_NEXUSES slots) h k q))

pub table_keys-without : (slots : List (Option ℕ)) (h : ℕ) → length slots ≡ MOST_NEXUSES → h < MOST_NEXUSES → table_keys MOST_NEXUSES (slice_set slots h None) ≡ without (table_keys MOST_NEXUSES slots) (just h)
table_keys-without slots h whole small =
    same_keys _ _ (λ q. get-table_keys-set slots h None q whole small
    ∙ ap (λ b. cond b None (map.get (table_keys MOST_NEXUSES slots) q)) (sym (contains-just h q))
    ∙ sym (get-without (table_keys MOST_NEXUSES slots) (just h) q))

-- a place for each of n hosts, with no key
abbrev pub nones : ℕ → List (Option ℕ)
nones zero = []
nones (suc n) = None ∷ nones n

pub table_keys-none : table_keys MOST_NEXUSES (nones MOST_NEXUSES) ≡ map.empty
unfolding map_where
table_keys-none = refl

pub state_of-registered : (hosts : ℕ) (old new : List (Option ℕ)) (held : Option Held) (g after_g h k : ℕ) → table_keys MOST_NEXUSES new ≡ map.insert (table_keys MOST_NEXUSES old) h k → after_g ≡ next g
    → state_of hosts new held after_g ≡ with_registration (state_of hosts old held g) h k
state_of-registered hosts old new held g after_g h k keys more = λ x. record { hosts = hosts; keys = keys x; held = held; generation = more x }

pub state_of-unregistered : (hosts : ℕ) (old new : List (Option ℕ)) (held after : Option Held) (g after_g h : ℕ) → table_keys MOST_NEXUSES new ≡ without (table_keys MOST_NEXUSES old) (just h)
    → after ≡ (if holds_alone held h then None else held_by_rest (table_keys MOST_NEXUSES new) held) → after_g ≡ next g
    → state_of hosts new after after_g ≡ without_registration (state_of hosts old held g) h
state_of-unregistered hosts old new held after g after_g h keys is more =
    let left = is ∙ ap (λ rest. if holds_alone held h then None else held_by_rest rest held) keys in
    λ x. record { hosts = hosts; keys = keys x; held = left x; generation = more x }

pub state_of-reserved : (hosts : ℕ) (slots : List (Option ℕ)) (held : Option Held) (new : Held) (g h : ℕ) (t : Kind) → is_some held ≡ false → new ≡ new_reservation t h
    → state_of hosts slots (Some new) g ≡ with_reservation (state_of hosts slots held g) h t
state_of-reserved hosts slots None new g h t free is = λ x. record { hosts = hosts; keys = table_keys MOST_NEXUSES slots; held = Some (is x); generation = g }
state_of-reserved hosts slots (Some v) new g h t free is = absurd (false≢true (sym free))

pub state_of-cleared : (hosts : ℕ) (slots : List (Option ℕ)) (held : Option Held) (g after_g : ℕ) → after_g ≡ next g
    → state_of hosts (nones MOST_NEXUSES) None after_g ≡ after_clear (state_of hosts slots held g)
state_of-cleared hosts slots held g after_g more = λ x. record { hosts = hosts; keys = table_keys-none x; held = None; generation = more x }

pub state_of-preempted : (hosts : ℕ) (old new : List (Option ℕ)) (held after : Option Held) (g after_g h sark : ℕ) (kind : Option Kind) (case : Case) (removed : Hosts)
    → case ≡ preempt_case (table_keys MOST_NEXUSES old) held sark → removed ≡ removed_by_preempt (table_keys MOST_NEXUSES old) h sark (preempt_case (table_keys MOST_NEXUSES old) held sark)
    → table_keys MOST_NEXUSES new ≡ without (table_keys MOST_NEXUSES old) removed → after ≡ held_after_preempt (table_keys MOST_NEXUSES new) held h kind case → after_g ≡ next g
    → state_of hosts new after after_g ≡ after_preempt (state_of hosts old held g) h sark kind
state_of-preempted hosts old new held after g after_g h sark kind case removed case_is removed_is keys is more =
    let rest = keys ∙ ap (without (table_keys MOST_NEXUSES old)) removed_is in
    let left = is ∙ (λ x. held_after_preempt (rest x) held h kind (case_is x)) in
    λ x. record { hosts = hosts; keys = rest x; held = left x; generation = more x }

-- ---- well formed states

pub well_formed-fresh : (hosts : ℕ) → 1 ≤ hosts → hosts ≤ MOST_NEXUSES → IsWellFormed (empty_registry hosts)
well_formed-fresh hosts some most = record {
  hosts = (some, most);
  keys = λ h k is. let bad : None ≡ Some k = sym (get-empty h) ∙ is in cc;
  held = tt;
  generation = lit< tt;
}

next-lt : (g : ℕ) → next g < 2 ^ 32
next-lt g = omega arith

-- a registration more
HasHolder-insert : (keys : Keys) (held : Option Held) (h k : ℕ) → HasHolder keys held → HasHolder (map.insert keys h k) held
HasHolder-insert keys None h k has = tt
HasHolder-insert keys (Some (One t g)) h k has = (has.0, rw (get-insert keys h k g) (there (g == h)))
  where
    there : (b : Bool) → IsTrue (is_some (cond b (Some k) (map.get keys g)))
    there true = refl
    there false = has.1
HasHolder-insert keys (Some (All t)) h k has =
    (has.0, not_empty_from_some (map.insert keys h k) h k (get-insert keys h k h ∙ ap (λ b. cond b (Some k) (map.get keys h)) (eq-eqb h h refl)))

pub well_formed-registered : (u : State) (h k : ℕ) → IsWellFormed u → h < u.hosts → IsKey k → IsWellFormed (with_registration u h k)
well_formed-registered u h k w small key = record {
  hosts = w.hosts;
  keys = λ q j is. at q j (eqb_tells q h) (sym (get-insert u.keys h k q) ∙ is);
  held = HasHolder-insert u.keys u.held h k w.held;
  generation = next-lt u.generation;
}
  where
    at : (q j : ℕ) → (((q == h) ≡ true) × (q ≡ h)) ⊎ (((q == h) ≡ false) × (q ≢ h)) → cond (q == h) (Some k) (map.get u.keys q) ≡ Some j → (q < u.hosts) × IsKey j
    at q j (inl same) is =
        let one : Some k ≡ Some j = rw same.0 at is in
        let j_is : k ≡ j = cc in
        (rw same.1 small, subst IsKey j_is key)
    at q j (inr other) is = w.keys q j (rw other.0 at is)

-- fewer registrations are still of hosts that are there
keys-without : (u : State) (removed : Hosts) → IsWellFormed u → (q j : ℕ) → map.get (without u.keys removed) q ≡ Some j → (q < u.hosts) × IsKey j
keys-without u removed w q j is = at (set.contains removed q) (sym (get-without u.keys removed q) ∙ is)
  where
    at : (b : Bool) → cond b None (map.get u.keys q) ≡ Some j → (q < u.hosts) × IsKey j
    at true none = let bad : None ≡ Some j = none in cc
    at false some = w.keys q j some

abbrev IsKept : Hosts → Option Held → Type 0
IsKept removed (Some (One t g)) = set.contains removed g ≡ false
IsKept removed _ = Unit {0}

contains_key-without : (keys : Keys) (removed : Hosts) (g : ℕ) → set.contains removed g ≡ false → map.contains_key (without keys removed) g ≡ map.contains_key keys g
contains_key-without keys removed g kept = ap is_some (get-without keys removed g ∙ ap (λ b. cond b None (map.get keys g)) kept)

-- what is left of a reservation has a holder, where a single holder stays
HasHolder-rest : (keys : Keys) (removed : Hosts) (held : Option Held) → HasHolder keys held → IsKept removed held → HasHolder (without keys removed) (held_by_rest (without keys removed) held)
HasHolder-rest keys removed None has kept = tt
HasHolder-rest keys removed (Some (One t g)) has kept = (has.0, rw (contains_key-without keys removed g kept) has.1)
HasHolder-rest keys removed (Some (All t)) has kept =
    elim (is_empty (without keys removed)) as (λ b. is_empty (without keys removed) ≡ b → HasHolder (without keys removed) (if b then None else Some (All t))) [
      | true ↦ λ _. tt
      | false ↦ λ is. (has.0, is)
    ] refl

HasHolder-unregistered : (keys : Keys) (held : Option Held) (h : ℕ) → HasHolder keys held
    → HasHolder (without keys (just h)) (if holds_alone held h then None else held_by_rest (without keys (just h)) held)
HasHolder-unregistered keys None h has = tt
HasHolder-unregistered keys (Some (One t g)) h has =
    elim (g == h) as (λ b. (g == h) ≡ b → HasHolder (without keys (just h)) (if b then None else Some (One t g))) [
      | true ↦ λ _. tt
      | false ↦ λ is. HasHolder-rest keys (just h) (Some (One t g)) has (contains-just h g ∙ is)
    ] refl
HasHolder-unregistered keys (Some (All t)) h has = HasHolder-rest keys (just h) (Some (All t)) has tt

pub well_formed-unregistered : (u : State) (h : ℕ) → IsWellFormed u → IsWellFormed (without_registration u h)
well_formed-unregistered u h w = record {
  hosts = w.hosts;
  keys = keys-without u (just h) w;
  held = HasHolder-unregistered u.keys u.held h w.held;
  generation = next-lt u.generation;
}

-- a reservation that a registrant establishes
HasHolder-established : (keys : Keys) (t : Kind) (h : ℕ) → IsTrue (map.contains_key keys h) → HasHolder keys (Some (new_reservation t h))
HasHolder-established keys t h there =
    elim (is_all t) as (λ b. is_all t ≡ b → HasHolder keys (Some (if b then All t else One t h))) [
      | true ↦ λ is. (is, some (map.get keys h) refl there)
      | false ↦ λ is. (is, there)
    ] refl
  where
    some : (o : Option ℕ) → map.get keys h ≡ o → IsTrue (is_some o) → is_empty keys ≡ false
    some None is there = absurd (false≢true there)
    some (Some k) is there = not_empty_from_some keys h k is

pub well_formed-reserved : (u : State) (h : ℕ) (t : Kind) → IsWellFormed u → IsTrue (is_registered u h) → IsWellFormed (with_reservation u h t)
well_formed-reserved u h t w there = record {
  hosts = w.hosts;
  keys = w.keys;
  held = at u.held w.held;
  generation = w.generation;
}
  where
    at : (held : Option Held) → HasHolder u.keys held → HasHolder u.keys (held_or held (new_reservation t h))
    at None has = HasHolder-established u.keys t h there
    at (Some v) has = has

pub well_formed-released : (u : State) (h : ℕ) (t : Kind) → IsWellFormed u → IsWellFormed (after_release u h t)
well_formed-released u h t w = record {
  hosts = w.hosts;
  keys = w.keys;
  held = at (is_released u h t);
  generation = w.generation;
}
  where
    at : (b : Bool) → HasHolder u.keys (if b then None else u.held)
    at true = tt
    at false = w.held

pub well_formed-cleared : (u : State) → IsWellFormed u → IsWellFormed (after_clear u)
well_formed-cleared u w = record {
  hosts = w.hosts;
  keys = λ h k is. let bad : None ≡ Some k = sym (get-empty h) ∙ is in cc;
  held = tt;
  generation = next-lt u.generation;
}

HasHolder-replaced : (keys : Keys) (removed : Hosts) (h : ℕ) (kind : Option Kind) → IsTrue (map.contains_key keys h) → IsTrue (is_some kind) → set.contains removed h ≡ false
    → HasHolder (without keys removed) (option_map (λ t. new_reservation t h) kind)
HasHolder-replaced keys removed h None there typed kept = absurd (false≢true typed)
HasHolder-replaced keys removed h (Some t) there typed kept =
    HasHolder-established (without keys removed) t h (rw (contains_key-without keys removed h kept) there)

contains-remove_itself : (s : Hosts) (h : ℕ) → set.contains (set.remove s h) h ≡ false
contains-remove_itself s h = contains-remove s h h ∙ ap (λ b. not b && set.contains s h) (eq-eqb h h refl)

-- where a key is merely removed, a single holder has another
IsKept-removed : (keys : Keys) (held : Option Held) (h sark : ℕ) → (case : Case) → preempt_case keys held sark ≡ case → case ≡ RemovesKey → IsKept (removed_by_preempt keys h sark case) held
IsKept-removed keys (Some (One t g)) h sark case is removes =
    rw removes (contains-hosts_with keys sark g ∙ at (is_key (map.get keys g) sark) (is ∙ removes))
  where
    at : (b : Bool) → (if b then ReplacesHolder t else RemovesKey) ≡ RemovesKey → b ≡ false
    at true replaces = let bad : ReplacesHolder t ≡ RemovesKey = replaces in cc
    at false replaces = refl
IsKept-removed keys _ h sark case is removes = tt

HasHolder-preempted : (u : State) (h sark : ℕ) (kind : Option Kind) (case : Case) → preempt_case u.keys u.held sark ≡ case → HasHolder u.keys u.held → IsTrue (is_registered u h) → HasKindIfReplacing kind case
    → HasHolder (without u.keys (removed_by_preempt u.keys h sark case)) (held_after_preempt (without u.keys (removed_by_preempt u.keys h sark case)) u.held h kind case)
HasHolder-preempted u h sark kind ReplacesAll is has there typed =
    HasHolder-replaced u.keys (set.remove (hosts_in u.keys) h) h kind there (typed refl) (contains-remove_itself (hosts_in u.keys) h)
HasHolder-preempted u h sark kind (ReplacesHolder s) is has there typed =
    HasHolder-replaced u.keys (set.remove (hosts_with u.keys sark) h) h kind there (typed refl) (contains-remove_itself (hosts_with u.keys sark) h)
HasHolder-preempted u h sark kind RemovesKey is has there typed =
    HasHolder-rest u.keys (hosts_with u.keys sark) u.held has (IsKept-removed u.keys u.held h sark RemovesKey is refl)

pub well_formed-preempted : (u : State) (h sark : ℕ) (kind : Option Kind) → IsWellFormed u → IsTrue (is_registered u h) → HasKindIfReplacing kind (preempt_case u.keys u.held sark) → IsWellFormed (after_preempt u h sark kind)
well_formed-preempted u h sark kind w there typed = record {
  hosts = w.hosts;
  keys = keys-without u (removed_by_preempt u.keys h sark (preempt_case u.keys u.held sark)) w;
  held = HasHolder-preempted u h sark kind (preempt_case u.keys u.held sark) refl w.held there typed;
  generation = next-lt u.generation;
}

-- ---- states from lists of keys

pub are_keys-from : (keys : List (Option ℕ)) (held : Option Held) (g : ℕ) → IsWellFormed (state_from keys held g) → (i : ℕ) → i < length keys → IsKeyOrNone (slot keys i)
are_keys-from keys held g w i small = at (slot keys i) refl
  where
    at : (o : Option ℕ) → slot keys i ≡ o → IsKeyOrNone o
    at None is = tt
    at (Some k) is = (w.keys i k (get-table_keys_in (length keys) keys i small ∙ is)).1

pub well_formed-from : (keys : List (Option ℕ)) (held : Option Held) (g : ℕ) → 1 ≤ length keys → length keys ≤ MOST_NEXUSES
    → ((i : ℕ) → i < length keys → IsKeyOrNone (slot keys i)) → HasHolder (table_keys (length keys) keys) held → g < 2 ^ 32 → IsWellFormed (state_from keys held g)
well_formed-from keys held g some most are has fits = record {
  hosts = (some, most);
  keys = λ h k is. at h k (nat_lt h (length keys)) refl (sym (get-table_keys (length keys) keys h) ∙ is);
  held = has;
  generation = fits;
}
  where
    at : (h k : ℕ) (b : Bool) → nat_lt h (length keys) ≡ b → cond b (slot keys h) None ≡ Some k → (h < length keys) × IsKey k
    at h k true is some =
        let small : h < length keys = grind (arith, nat_tests) in
        (small, subst IsKeyOrNone some (are h small))
    at h k false is none = let bad : None ≡ Some k = none in cc
