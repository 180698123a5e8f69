-- The reservation of the first start, and the registrations under it.
use Rattle.pr_roles.proofs.Common.{◌≡◌, ℕ, zero, suc, ◌+◌, ◌<◌, Bool, true, false, cond, List, [], ◌∷◌, map, length, is_some, slice_get, slice_index_or, Some, None, Contains, Option, option_map, sym, refl, ap, ◌∙◌, subst, arith, false≢true, none-some, same_Some, slice_get_within, Held, One, All, Starts, first_of, first_key, keys_under, first_under, list_any, Kind}
use Rattle.std.specs.Prelude.{position, slice_set, option_and_then}
use Rattle.std.specs.Option.{option_or}
use Rattle.std.specs.List.{position_from}
use Rattle.std.proofs.lemmas.List.{get_or-set_same}
use Rattle.std.proofs.lemmas.Iterator.Adapters.{position_from-zero}
use Rattle.std.proofs.lemmas.List.Elements.{Contains-append_right}
use Rattle.pr_roles.specs.FirstStarts.{with_key}
use Rattle.pr_roles.proofs.lemmas.FirstStarts.Existence.{Chosen, chosen_length, chosen_set, AreOffered, firsts_chosen, first_key_there, first_key_found, contains_first}

-- the list has a key at h
abbrev pub HasKeyAt : List (Option ℕ) → ℕ → Type 0
HasKeyAt keys h = is_some (slice_index_or keys h None) ≡ true

-- who holds is among these registrations
unfoldable pub Holding : List (Option ℕ) → Option Held → Type 0
Holding keys None = Unit {0}
Holding keys (Some (One t h)) = (h < length keys) × HasKeyAt keys h
Holding keys (Some (All t)) = (h : ℕ) × (h < length keys) × HasKeyAt keys h

pub record Made (all : Starts) (keys : List (Option ℕ)) (held : Option Held) : Type 0 where
  pub chosen : Chosen all keys
  pub holding : Holding keys held

-- one nexus has a key of its own among its alternatives, and these are the registrations with it
record Put (all : Starts) (keys : List (Option ℕ)) (h : ℕ) (new : List (Option ℕ)) : Type 0 where
  alternatives : List (Option ℕ)
  there : slice_get all h ≡ Some alternatives
  key : ℕ
  first : first_key alternatives ≡ Some key
  is : new ≡ slice_set keys h (Some key)

put-key : (all : Starts) (keys : List (Option ℕ)) (h : ℕ) (new ks : List (Option ℕ)) → slice_get all h ≡ Some ks
    → (o : Option ℕ) → first_key ks ≡ o → option_map (λ k. slice_set keys h (Some k)) o ≡ Some new → Put all keys h new
put-key all keys h new ks there None none is = absurd (none-some new is)
put-key all keys h new ks there (Some k) first is = record { alternatives = ks; there = there; key = k; first = first; is = sym (same_Some _ _ is) }

put-at : (all : Starts) (keys : List (Option ℕ)) (h : ℕ) (new : List (Option ℕ)) (o : Option (List (Option ℕ))) → slice_get all h ≡ o
    → option_and_then (λ ks. option_map (λ k. slice_set keys h (Some k)) (first_key ks)) o ≡ Some new → Put all keys h new
put-at all keys h new None none is = absurd (none-some new is)
put-at all keys h new (Some ks) there is = put-key all keys h new ks there (first_key ks) refl is

put : (all : Starts) (keys : List (Option ℕ)) (h : ℕ) (new : List (Option ℕ)) → with_key all keys h ≡ Some new → Put all keys h new
put all keys h new is = put-at all keys h new (slice_get all h) refl is

-- where the nexus has a key among its alternatives there is something to put
put_any : (all : Starts) (keys : List (Option ℕ)) (h : ℕ) (ks : List (Option ℕ)) → slice_get all h ≡ Some ks → is_some (first_key ks) ≡ true → is_some (with_key all keys h) ≡ true
put_any all keys h ks there some =
    ap (λ o. is_some (option_and_then (λ ks. option_map (λ k. slice_set keys h (Some k)) (first_key ks)) o)) there ∙ mapped (first_key ks) some
  where
    mapped : (o : Option ℕ) → is_some o ≡ true → is_some (option_map (λ k. slice_set keys h (Some k)) o) ≡ true
    mapped None some = some
    mapped (Some k) some = refl

put_chosen : (all : Starts) (keys : List (Option ℕ)) (h : ℕ) (new : List (Option ℕ)) → Chosen all keys → Put all keys h new → Chosen all new
put_chosen all keys h new chosen p =
    subst (Chosen all) (sym p.is) (chosen_set all keys h p.alternatives (Some p.key) chosen p.there (first_key_there p.alternatives p.key p.first))

put_there : (all : Starts) (keys : List (Option ℕ)) (h : ℕ) (new : List (Option ℕ)) → Chosen all keys → Put all keys h new → (h < length new) × HasKeyAt new h
put_there all keys h new chosen p =
    let within = slice_get_within all h p.alternatives p.there in
    let short : h < length keys = omega (arith, within, chosen_length all keys chosen) in
    let long = chosen_length all new (put_chosen all keys h new chosen p) in
    (omega (arith, within, long), ap is_some (ap (λ l. slice_index_or l h None) p.is ∙ get_or-set_same keys h (Some p.key) None short))

-- ---- all registrants

any_key : (keys : List (Option ℕ)) → list_any (λ k. is_some k) keys ≡ true → (h : ℕ) × (h < length keys) × HasKeyAt keys h
any_key [] any = absurd (false≢true any)
any_key ((Some k) ∷ keys) any = (0, omega arith, refl)
any_key (None ∷ keys) any = let more = any_key keys any in (suc more.0, omega (arith, more.1), more.2)

made_by_all : (all : Starts) (t : Kind) (keys : List (Option ℕ)) (b : Bool) (new : List (Option ℕ)) → Chosen all keys → list_any (λ k. is_some k) keys ≡ b
    → cond b (Some keys) (option_and_then (λ h. with_key all keys h) (position (λ ks. is_some (first_key ks)) all)) ≡ Some new → Made all new (Some (All t))
unfolding Holding
made_by_all all t keys true new chosen any is =
    subst (λ l. Made all l (Some (All t))) (same_Some _ _ is) (record { chosen = chosen; holding = any_key keys any })
made_by_all all t keys false new chosen any is = at (position (λ ks. is_some (first_key ks)) all) is
  where
    at : (o : Option ℕ) → option_and_then (λ h. with_key all keys h) o ≡ Some new → Made all new (Some (All t))
    at None is = absurd (none-some new is)
    at (Some h) is = let p = put all keys h new is in
        let there = put_there all keys h new chosen p in
        record { chosen = put_chosen all keys h new chosen p; holding = (h, there.0, there.1) }

-- what is found under a reservation is chosen from the alternatives, and holds it
pub made : (all : Starts) (held : Option Held) (new : List (Option ℕ)) → AreOffered all → keys_under all held ≡ Some new → Made all new held
unfolding Holding
made all None new offered is = subst (λ l. Made all l None) (same_Some _ _ is) (record { chosen = firsts_chosen all offered; holding = tt })
made all (Some (One t h)) new offered is =
    let chosen = firsts_chosen all offered in
    let p = put all (map first_of all) h new is in
    record { chosen = put_chosen all (map first_of all) h new chosen p; holding = put_there all (map first_of all) h new chosen p }
made all (Some (All t)) new offered is =
    made_by_all all t (map first_of all) (list_any (λ k. is_some k) (map first_of all)) new (firsts_chosen all offered) refl is

-- the first reservation is one of the alternatives, with what is found under it
pub record First (all : Starts) (vs : List (Option Held)) (held : Option Held) (keys : List (Option ℕ)) : Type 0 where
  pub there : Contains vs held
  pub under : keys_under all held ≡ Some keys

pub first : (all : Starts) (vs : List (Option Held)) (held : Option Held) (keys : List (Option ℕ)) → first_under all vs ≡ Some (held, keys) → First all vs held keys
first all [] held keys is = absurd (none-some _ is)
first all (v ∷ vs) held keys is = at (keys_under all v) refl is (first all vs held keys)
  where
    at : (o : Option (List (Option ℕ))) → keys_under all v ≡ o → option_or (option_map (λ ks. (v, ks)) o) (first_under all vs) ≡ Some (held, keys)
        → (first_under all vs ≡ Some (held, keys) → First all vs held keys) → First all (v ∷ vs) held keys
    at (Some ks) under is later =
        let same = same_Some (v, ks) (held, keys) is in
        let this : v ≡ held = ap (λ p. p.0) same in
        let those : ks ≡ keys = ap (λ p. p.1) same in
        record { there = subst (Contains (v ∷ vs)) this (contains_first v vs); under = ap (keys_under all) (sym this) ∙ (under ∙ ap Some those) }
    at None under is later = let f = later is in record { there = Contains-append_right (v ∷ []) vs held f.there; under = f.under }

-- ---- that there is one

some_or : {A B : Type 0} (f : A → B) (o : Option A) (p : Option B) → is_some o ≡ true → is_some (option_or (option_map f o) p) ≡ true
some_or f None p some = absurd (false≢true some)
some_or f (Some x) p some = refl

or_some : {A : Type 0} (o p : Option A) → is_some p ≡ true → is_some (option_or o p) ≡ true
or_some None p some = some
or_some (Some x) p some = refl

-- a reservation under which something is found is enough
pub found_first : (all : Starts) (vs : List (Option Held)) (held : Option Held) → Contains vs held → is_some (keys_under all held) ≡ true → is_some (first_under all vs) ≡ true
found_first all vs held there found = at vs there.0 there.1 there.2
  where
    at : (vs : List (Option Held)) (i : ℕ) → i < length vs → slice_index_or vs i held ≡ held → is_some (first_under all vs) ≡ true
    at [] i short is = absurd (omega (arith, short))
    at (v ∷ vs) zero short is = some_or (λ ks. (v, ks)) (keys_under all v) (first_under all vs) (ap (λ w. is_some (keys_under all w)) is ∙ found)
    at (v ∷ vs) (suc i) short is = or_some (option_map (λ ks. (v, ks)) (keys_under all v)) (first_under all vs) (at vs i (omega (arith, short)) is)

-- a nexus with a key among its alternatives is enough for a reservation of its own
pub found_alone : (all : Starts) (t : Kind) (h k : ℕ) (ks : List (Option ℕ)) → slice_get all h ≡ Some ks → Contains ks (Some k) → is_some (keys_under all (Some (One t h))) ≡ true
found_alone all t h k ks there key = put_any all (map first_of all) h ks there (first_key_found ks k key)

-- the first place at which a list passes, where some place does
record Passing (p : List (Option ℕ) → Bool) (all : Starts) (n : ℕ) : Type 0 where
  place : ℕ
  alternatives : List (Option ℕ)
  there : slice_get all place ≡ Some alternatives
  passes : p alternatives ≡ true
  is : position_from p n all ≡ Some (n + place)

passing : (p : List (Option ℕ) → Bool) (all : Starts) (n h : ℕ) (ks : List (Option ℕ)) → slice_get all h ≡ Some ks → p ks ≡ true → Passing p all n
passing p [] n h ks there pass = absurd (none-some ks there)
passing p (js ∷ all) n h ks there pass = at (p js) refl h there (λ h there. passing p all (n + 1) h ks there pass)
  where
    at : (b : Bool) → p js ≡ b → (h : ℕ) → slice_get (js ∷ all) h ≡ Some ks → ((h : ℕ) → slice_get all h ≡ Some ks → Passing p all (n + 1)) → Passing p (js ∷ all) n
    at true is h there later =
        record { place = 0; alternatives = js; there = refl; passes = is; is = ap (λ b. cond b (Some n) (position_from p (n + 1) all)) is ∙ ap Some (omega arith) }
    at false is zero there later = absurd (false≢true (sym is ∙ (ap p (same_Some _ _ there) ∙ pass)))
    at false is (suc h) there later =
        let more = later h there in
        record {
          place = suc more.place;
          alternatives = more.alternatives;
          there = more.there;
          passes = more.passes;
          is = ap (λ b. cond b (Some n) (position_from p (n + 1) all)) is ∙ (more.is ∙ ap Some (omega arith));
        }

-- and for one of all registrants
pub found_all : (all : Starts) (t : Kind) (h k : ℕ) (ks : List (Option ℕ)) → slice_get all h ≡ Some ks → Contains ks (Some k) → is_some (keys_under all (Some (All t))) ≡ true
found_all all t h k ks there key = at (list_any (λ k. is_some k) (map first_of all)) refl
  where
    at : (b : Bool) → list_any (λ k. is_some k) (map first_of all) ≡ b
        → is_some (cond b (Some (map first_of all)) (option_and_then (λ h. with_key all (map first_of all) h) (position (λ ks. is_some (first_key ks)) all))) ≡ true
    at true any = refl
    at false any =
        let p = passing (λ ks. is_some (first_key ks)) all 0 h ks there (first_key_found ks k key) in
        let place : position (λ ks. is_some (first_key ks)) all ≡ Some p.place = position_from-zero (λ ks. is_some (first_key ks)) all ∙ (p.is ∙ ap Some (omega arith)) in
        ap (λ o. is_some (option_and_then (λ h. with_key all (map first_of all) h) o)) place
        ∙ put_any all (map first_of all) p.place p.alternatives p.there p.passes
