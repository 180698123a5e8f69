-- Lists of outcomes to which one landing is added.
use Rattle.pr_domain.proofs.Common.{◌≡◌, ℕ, zero, suc, true, ◌||◌, ◌≢◌, ◌⊎◌, ◌↔◌, List, [], ◌∷◌, length, get_or, slice_get, slice_set, Some, None, Option, sym, refl, ap, ◌∙◌, subst, inl, inr, arith, cases_eq, or_cases, or_left, or_right, same_Some, slice_get_within, get_or_from_slice_get, has_wide, has, has_at, view_in, Scope, Item, Registration, Reservation, Attentions, IsPossible, Possibilities, Landing, HasOutcome, AreKept, AreMore}
use Rattle.std.proofs.Common.{◌++◌, ⊎_elim}
use Rattle.pr_views.proofs.lemmas.Rooms.Places.{get_other}

-- ---- one place

get_push_new : {X : Type 0} (xs : List X) (y : X) → slice_get (xs ++ y ∷ []) (length xs) ≡ Some y
get_push_new [] y = refl
get_push_new (x ∷ xs) y = get_push_new xs y

get_push_other : {X : Type 0} (xs : List X) (y : X) (k : ℕ) → k ≢ length xs → slice_get (xs ++ y ∷ []) k ≡ slice_get xs k
get_push_other [] y zero differs = absurd (differs refl)
get_push_other [] y (suc k) differs = refl
get_push_other (x ∷ xs) y zero differs = refl
get_push_other (x ∷ xs) y (suc k) differs = get_push_other xs y k (λ same. differs (ap suc same))

get_set_same : {X : Type 0} (xs : List X) (i : ℕ) (y x : X) → slice_get xs i ≡ Some x → slice_get (slice_set xs i y) i ≡ Some y
get_set_same [] i y x there = let bad : None ≡ Some x = there in cc
get_set_same (z ∷ xs) zero y x there = refl
get_set_same (z ∷ xs) (suc i) y x there = get_set_same xs i y x there

-- the landing was put in this place with these possibilities, and stood in no other
pub record IsPut (old : List (Landing × Possibilities)) (place : ℕ) (l : Landing) (p : Possibilities) (new : List (Landing × Possibilities)) : Type 0 where
  pub here : slice_get new place ≡ Some (l, p)
  pub others : (k : ℕ) → k ≢ place → slice_get new k ≡ slice_get old k
  pub alone : (k : ℕ) (m : Landing) (w : Possibilities) → slice_get old k ≡ Some (m, w) → (k ≡ place) ↔ (m ≡ l)

pub put_pushed : (old : List (Landing × Possibilities)) (l : Landing) (p : Possibilities) → ((k : ℕ) (w : Possibilities) → slice_get old k ≢ Some (l, w)) → IsPut old (length old) l p (old ++ (l, p) ∷ [])
put_pushed old l p none = record {
  here = get_push_new old (l, p);
  others = get_push_other old (l, p);
  alone = λ k m w read. (
    λ same. let small = slice_get_within old k (m, w) read in absurd (omega arith),
    λ same. absurd (none k w (read ∙ ap (λ n. Some (n, w)) same)),
  );
}

pub put_joined : (old : List (Landing × Possibilities)) (place : ℕ) (l : Landing) (p : Possibilities) (v : Landing × Possibilities) → AreKept old → slice_get old place ≡ Some v → v.0 ≡ l → IsPut old place l p (slice_set old place (v.0, p))
put_joined old place l p v kept there here = record {
  here = get_set_same old place (v.0, p) v there ∙ ap (λ m. Some (m, p)) here;
  others = λ k differs. get_other old place k (v.0, p) differs;
  alone = λ k m w read. (
    λ same. ap (λ (o : Landing × Possibilities). o.0) (same_Some (m, w) v (sym read ∙ ap (slice_get old) same ∙ there)) ∙ here,
    λ same. kept.once k place l w v.1 (read ∙ ap (λ n. Some (n, w)) same) (there ∙ ap (λ n. Some (n, v.1)) here),
  );
}

module _ (old new : List (Landing × Possibilities)) (place : ℕ) (l : Landing) (p : Possibilities) (is : IsPut old place l p new) where
  abbrev Read : ℕ → Landing → Possibilities → Type 0
  Read k m w = ((k ≢ place) × (slice_get old k ≡ Some (m, w))) ⊎ ((k ≡ place) × (m ≡ l) × (w ≡ p))

  read : (k : ℕ) (m : Landing) (w : Possibilities) → slice_get new k ≡ Some (m, w) → Read k m w
  read k m w now =
      ⊎_elim
      (λ same.
      let both : ◌≡◌ {A = Landing × Possibilities} (m, w) (l, p) = same_Some _ _ (sym now ∙ ap (slice_get new) same ∙ is.here) in
      inr (same, ap (λ (o : Landing × Possibilities). o.0) both, ap (λ (o : Landing × Possibilities). o.1) both))
      (λ differs. inl (differs, sym (is.others k differs) ∙ now)) (cases_eq k place)

  pub kept_put : AreKept old → (x : ℕ) × (has_wide p.reservations x ≡ true) → AreKept new
  kept_put kept some = record {
    reserved = λ k m w now. reserved_at k m w (read k m w now);
    once = λ j k m v w now also. once_at j k m v w (read j m v now) (read k m w also);
  }
    where
      reserved_at : (k : ℕ) (m : Landing) (w : Possibilities) → Read k m w → (x : ℕ) × (has_wide w.reservations x ≡ true)
      reserved_at k m w (inl before) = kept.reserved k m w before.1
      reserved_at k m w (inr put) = subst (λ (q : Possibilities). (x : ℕ) × (has_wide q.reservations x ≡ true)) (sym put.2) some

      once_at : (j k : ℕ) (m : Landing) (v w : Possibilities) → Read j m v → Read k m w → j ≡ k
      once_at j k m v w (inl before) (inl also) = kept.once j k m v w before.1 also.1
      once_at j k m v w (inl before) (inr put) = absurd (before.0 ((is.alone j m v before.1).1 put.1))
      once_at j k m v w (inr put) (inl also) = absurd (also.0 ((is.alone k m w also.1).1 put.1))
      once_at j k m v w (inr put) (inr also) = put.0 ∙ sym also.0

  -- the possibilities are those that stood with the landing, and these
  pub more_put : (s : Scope) (This : Item → Type 0) → ((i : Item) → IsPossible (view_in s p) i ↔ (HasOutcome s old l i ⊎ This i)) → AreMore s old (λ m i. (m ≡ l) × This i) new
  more_put s This both m i = (
    λ now.
        ⊎_elim (λ before. inl (now.0, now.1, before.1, now.3))
        (λ put. ⊎_elim (λ before. inl (subst (λ k. HasOutcome s old k i) (sym put.1) before)) (λ this. inr (put.1, this)) ((both i).0 (subst (λ q. IsPossible (view_in s q) i) put.2 now.3)))
        (read now.0 m now.1 now.2),
    ⊎_elim
        (λ (before : HasOutcome s old m i).
        ⊎_elim (λ same. let is_l = (is.alone before.0 m before.1 before.2).0 same in here is_l (inl (subst (λ k. HasOutcome s old k i) is_l before)))
        (λ differs. (before.0, before.1, is.others before.0 differs ∙ before.2, before.3)) (cases_eq before.0 place))
        (λ this. here this.0 (inr this.1)),
  )
    where
      here : m ≡ l → HasOutcome s old l i ⊎ This i → HasOutcome s new m i
      here same it = (place, p, is.here ∙ ap (λ k. Some (k, p)) (sym same), (both i).1 it)

-- nothing stood with the landing
pub none_there : (s : Scope) (old : List (Landing × Possibilities)) (l : Landing) (This : Item → Type 0) → ((k : ℕ) (w : Possibilities) → slice_get old k ≢ Some (l, w)) → (i : Item) → This i ↔ (HasOutcome s old l i ⊎ This i)
none_there s old l This none i = (λ this. inr this, ⊎_elim (λ (has : HasOutcome s old l i). absurd (none has.0 has.1 has.2)) (λ this. this))

-- what is possible once these possibilities are joined to those that stood with the landing
module _ (s : Scope) (old : List (Landing × Possibilities)) (place : ℕ) (l : Landing) (v : Landing × Possibilities) (q joined : Possibilities) (kept : AreKept old) (there : slice_get old place ≡ Some v) (here : v.0 ≡ l)
    (registrations : (g r : ℕ) → has_at joined.registrations g r ≡ (has_at v.1.registrations g r || has_at q.registrations g r))
    (reservations : (x : ℕ) → has_wide joined.reservations x ≡ (has_wide v.1.reservations x || has_wide q.reservations x)) (pending : (n : ℕ) → has joined.pending n ≡ (has v.1.pending n || has q.pending n)) where
  split : (i : Item) → IsPossible (view_in s joined) i → IsPossible (view_in s v.1) i ⊎ IsPossible (view_in s q) i
  split (Registration g r) has = ⊎_elim (λ one. inl (has.0, one)) (λ other. inr (has.0, other)) (or_cases _ _ (sym (registrations g r) ∙ has.1))
  split (Reservation x) has = or_cases _ _ (sym (reservations x) ∙ has)
  split (Attentions n) has = or_cases _ _ (sym (pending n) ∙ has)

  both : (i : Item) → IsPossible (view_in s v.1) i ⊎ IsPossible (view_in s q) i → IsPossible (view_in s joined) i
  both (Registration g r) (inl one) = (one.0, registrations g r ∙ or_left _ _ one.1)
  both (Registration g r) (inr other) = (other.0, registrations g r ∙ or_right (has_at v.1.registrations g r) _ other.1)
  both (Reservation x) (inl one) = reservations x ∙ or_left _ _ one
  both (Reservation x) (inr other) = reservations x ∙ or_right (has_wide v.1.reservations x) _ other
  both (Attentions n) (inl one) = pending n ∙ or_left _ _ one
  both (Attentions n) (inr other) = pending n ∙ or_right (has v.1.pending n) _ other

  pub joined_there : (i : Item) → IsPossible (view_in s joined) i ↔ (HasOutcome s old l i ⊎ IsPossible (view_in s q) i)
  joined_there i = (
    λ has. ⊎_elim (λ one. inl (place, v.1, at_l, one)) (λ other. inr other) (split i has),
    ⊎_elim (λ (has : HasOutcome s old l i).
        let same = kept.once has.0 place l has.1 v.1 has.2 at_l in
        let one : ◌≡◌ {A = Landing × Possibilities} (l, has.1) v = same_Some _ _ (sym has.2 ∙ ap (slice_get old) same ∙ there) in
        both i (inl (subst (λ (o : Landing × Possibilities). IsPossible (view_in s o.1) i) one has.3))) (λ other. both i (inr other)),
  )
    where
      at_l : slice_get old place ≡ Some (l, v.1)
      at_l = there ∙ ap (λ m. Some (m, v.1)) here

-- ---- what is read

-- the outcome that is read is the one that was found
pub read_there : (xs ys : List (Landing × Possibilities)) (k : ℕ) (l : Landing) (p : Possibilities) (x : Landing × Possibilities) → ys ≡ xs → slice_get ys k ≡ Some (l, p) → x ≡ get_or xs k x
    → (slice_get xs k ≡ Some x) × (x.0 ≡ l)
read_there xs ys k l p x same found read =
    let there : slice_get xs k ≡ Some (l, p) = ap (λ (zs : List (Landing × Possibilities)). slice_get zs k) (sym same) ∙ found in
    let is : ◌≡◌ {A = Landing × Possibilities} x (l, p) = read ∙ get_or_from_slice_get xs k (l, p) x there in
    (there ∙ ap (λ y. Some y) (sym is), ap (λ (y : Landing × Possibilities). y.0) is)

-- ---- what is more, in other words

pub more_by : (s : Scope) (old new : List (Landing × Possibilities)) (This That : Landing → Item → Type 0) → ((l : Landing) (i : Item) → This l i ↔ That l i) → AreMore s old This new → AreMore s old That new
more_by s old new This That same more l i = (
  λ has. ⊎_elim (λ before. inl before) (λ this. inr ((same l i).0 this)) ((more l i).0 has),
  λ is. (more l i).1 (⊎_elim (λ before. inl before) (λ that. inr ((same l i).1 that)) is),
)

-- this is more, and then that
pub more_then : (s : Scope) (old mid new : List (Landing × Possibilities)) (This That : Landing → Item → Type 0) → AreMore s old This mid → AreMore s mid That new → AreMore s old (λ l i. This l i ⊎ That l i) new
more_then s old mid new This That first second l i = (
  λ has. ⊎_elim (λ before. ⊎_elim (λ older. inl older) (λ this. inr (inl this)) ((first l i).0 before)) (λ that. inr (inr that)) ((second l i).0 has),
  λ is. (second l i).1 (⊎_elim (λ older. inl ((first l i).1 (inl older))) (⊎_elim (λ this. inl ((first l i).1 (inr this))) (λ that. inr that)) is),
)

-- where there was nothing, this is all
pub more_than_none : (s : Scope) (none new : List (Landing × Possibilities)) (This : Landing → Item → Type 0) → none ≡ [] → AreMore s none This new → (l : Landing) (i : Item) → HasOutcome s new l i ↔ This l i
more_than_none s none new This empty more l i = (
  λ has.
      ⊎_elim (λ (old : HasOutcome s none l i). let bad : ◌≡◌ {A = Option (Landing × Possibilities)} None (Some (l, old.1)) = ap (λ xs. slice_get xs old.0) (sym empty) ∙ old.2 in cc) (λ this. this) ((more l i).0 has),
  λ this. (more l i).1 (inr this),
)
