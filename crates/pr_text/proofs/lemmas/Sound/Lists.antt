-- Keys, nexuses, and reservations stay sound with one line more.
use Rattle.pr_text.proofs.Common.{◌≡◌, ℕ, suc, ◌+◌, ◌<◌, Bool, true, false, cond, not, ◌&&◌, ◌||◌, List, [], ◌∷◌, ◌++◌, map, length, is_some, nat_lt, nat_le, ◌==◌, Some, None, Option, option_map, position, option_and_then, bytes_eq, sym, refl, ap, ◌∙◌, subst, arith, list_all, list_any, position_from, unwrap_or, and_parts, false≢true, nat_tests, position_from-zero, Command, Held, is_written, is_name, Test, are_distinct, is_action, MOST_PLANNED, each, and_from, Declared, WrittenTask, scripted, planned, Declaration, outside, OpenBlock, sending, declared_keys, held_of, number_of, ScriptLine, arm_on, send_at, start_of, IsTask, IsDeclaration, AreDeclarations, IsSound, Reached, may, may_all, IsPlace, not-false, not-true, or_parts, keys_line}
use Rattle.std.proofs.lemmas.Bool.{false_from_ne_true, lt-ltb}
use Rattle.std.proofs.lemmas.List.{length_push, map_push}
use Rattle.std.proofs.lemmas.List.Folds.{list_any-append}
use Rattle.std.proofs.lemmas.List.Sums.{AllPass-from_list_all}
use Rattle.std.proofs.lemmas.Slice.Eq.{bytes_eq-Decides}
use Rattle.pr_cdb.specs.declared.command.Kind.{Kind}
use Rattle.pr_registry.specs.declared.held.Held.TheVariants.{One, All as Everybody}
use Rattle.pr_registry.specs.Registrations.{IsKey, is_all}
use Rattle.pr_script.specs.declared.script.Test.TheVariants as test
use Rattle.pr_roles.specs.declared.role.Action.{Action}
use Rattle.std.specs.Prelude.{is_none}
use Rattle.pr_roles.specs.Fitting.{are_reservations, is_reservation, is_same_reservation, is_alternative}
use Rattle.pr_roles.specs.declared.limits.TheConstants.{MOST_KEYS}
use Rattle.pr_lines.specs.ScenarioLines.{StartReservation, nobody, single, everybody}
use Rattle.pr_text.specs.Texts.{reservations_of}
use Rattle.pr_text.specs.inside.Sound.{at_first, may_arm, next}
use Rattle.pr_lines.proofs.lemmas.ScenarioLines.Terms.{is_key, is_wanted}
use Rattle.pr_text.specs.LineFaults.{past_limit}
use Rattle.pr_text.specs.NextLine.{with_more}
use Rattle.pr_text.proofs.lemmas.Sound.Scripts.{all_more, skips}

-- ---- what holds without keys holds under any

module _ (keys : List ℕ) where
  written_more : (c : Command) → is_written [] c ≡ true → is_written keys c ≡ true
  written_more _ h = grind (arith, nat_tests)

  arm_more : (t : Test) (bs : List OpenBlock) → may_arm [] t bs ≡ true → may_arm keys t bs ≡ true
  arm_more (test.GoodHas key) ((sending c arms) ∷ bs) h = grind (arith, nat_tests)
  arm_more (test.GoodHeld key) ((sending c arms) ∷ bs) h = grind (arith, nat_tests)
  arm_more _ _ h = h

  line_more : (s : Reached) (l : ScriptLine) → may [] s l ≡ true → may keys s l ≡ true
  line_more s (send_at n c) h = grind (arith, nat_tests, written_more c)
  line_more s (arm_on t) h = arm_more t s.blocks h
  line_more s _ h = h

  lines_more : (s : Reached) (ls : List ScriptLine) → may_all [] s ls ≡ true → may_all keys s ls ≡ true
  lines_more s [] h = refl
  lines_more s (l ∷ ls) h = let parts = and_parts (may [] s l) _ h in and_from _ _ (line_more s l parts.0) (lines_more (next s l) ls parts.1)

  task_more : (o : Option WrittenTask) → IsTask [] o → IsTask keys o
  task_more None h = tt
  task_more (Some (scripted ls budget)) h = (record { standing = lines_more at_first ls h.0.standing; short = h.0.short; rising = h.0.rising }, h.1)
  task_more (Some (planned commands)) h = let parts = and_parts (nat_le (length commands) MOST_PLANNED) _ h in and_from _ _ parts.0 (all_more (is_written []) (is_written keys) written_more commands parts.1)

  action_more : (a : Action) → is_action [] a ≡ true → is_action keys a ≡ true
  action_more _ h = grind (arith, nat_tests)

  alternative_more : (o : Option ℕ) → is_alternative [] o ≡ true → is_alternative keys o ≡ true
  alternative_more _ h = grind (arith, nat_tests)

  declarations_more : (xs : List Declaration) → AreDeclarations [] xs → AreDeclarations keys xs
  declarations_more [] h = tt
  declarations_more (x ∷ xs) h =
      let acts = all_more (λ c. is_action [] c.action) (λ c. is_action keys c.action) (λ c k. action_more c.action k) x.role in
      let starts = all_more (is_alternative []) (is_alternative keys) alternative_more (start_of x) in
      (record { described = grind (arith, nat_tests, acts, starts, h.0.described); task = task_more x.task h.0.task }, declarations_more xs h.1)

key_is : (k : ℕ) → is_key k ≡ true → IsKey k
key_is k h = grind (arith, nat_tests)

none_of : {A : Type 0} (o : Option A) → is_some o ≡ false → o ≡ None
none_of None h = refl
none_of (Some x) h = cc

few_keys : (n : ℕ) → nat_lt MOST_KEYS n ≡ false → nat_le n MOST_KEYS ≡ true
few_keys n h = grind (arith, nat_tests)

pub keys_sound : (n : ℕ) (keys : List ℕ) (d : Declared) → d.place ≡ outside → list_all is_key keys ≡ true → IsSound n d
    → (is_some d.keys || not (are_distinct (λ j k. j == k) keys)) ≡ false → past_limit d (keys_line keys) ≡ None → IsSound (n + 1) (record d { keys = Some keys })
keys_sound n keys d at sound h once within =
    let parts = or_parts (is_some d.keys) _ once in
    let before : declared_keys d ≡ [] = ap (λ o. unwrap_or o []) (none_of d.keys parts.0) in
    record {
      keys = record {
        each = λ k x below. key_is _ (AllPass-from_list_all is_key keys sound k x below);
        once = and_from _ _ (few_keys (length keys) (skips (nat_lt MOST_KEYS (length keys)) _ _ within).0) (not-false _ parts.1);
      };
      reservations = h.reservations;
      apart = h.apart;
      each = declarations_more keys d.nexuses (subst (λ ks. AreDeclarations ks d.nexuses) before h.each);
      place = subst (IsPlace keys (n + 1)) (sym at) tt;
    }

-- ---- names and numbers

found_within : {A : Type 0} (p : A → Bool) (b : Bool) (n h : ℕ) (xs : List A) → ((m : ℕ) → position_from p m xs ≡ Some h → h < m + length xs)
    → cond b (Some n) (position_from p (n + 1) xs) ≡ Some h → h < n + suc (length xs)
found_within p true n h xs later e = let same : n ≡ h = cc in omega arith
found_within p false n h xs later e = let below = later (n + 1) e in omega arith

from_within : {A : Type 0} (p : A → Bool) (h : ℕ) (xs : List A) (n : ℕ) → position_from p n xs ≡ Some h → h < n + length xs
from_within p h [] n e = cc
from_within p h (x ∷ xs) n e = found_within p (p x) n h xs (λ m. from_within p h xs m) e

found_none : {A : Type 0} (p : A → Bool) (b : Bool) (n : ℕ) (xs : List A) → ((m : ℕ) → position_from p m xs ≡ None → list_any p xs ≡ false)
    → cond b (Some n) (position_from p (n + 1) xs) ≡ None → (b || list_any p xs) ≡ false
found_none p true n xs later e = cc
found_none p false n xs later e = later (n + 1) e

from_none : {A : Type 0} (p : A → Bool) (xs : List A) (n : ℕ) → position_from p n xs ≡ None → list_any p xs ≡ false
from_none p [] n e = refl
from_none p (x ∷ xs) n e = found_none p (p x) n xs (λ m. from_none p xs m) e

number_within : (xs : List Declaration) (name : List ℕ) (h : ℕ) → number_of xs name ≡ Some h → h < length xs
unfolding number_of
number_within xs name h e =
    let p : Declaration → Bool = λ x. bytes_eq x.name name in
    let below = from_within p h xs 0 (sym (position_from-zero p xs) ∙ e) in
    omega arith

number_none : (xs : List Declaration) (name : List ℕ) → is_some (number_of xs name) ≡ false → list_any (λ x. bytes_eq x.name name) xs ≡ false
unfolding number_of
number_none xs name e =
    let p : Declaration → Bool = λ x. bytes_eq x.name name in
    from_none p xs 0 (sym (position_from-zero p xs) ∙ none_of (position p xs) e)

-- ---- nexuses

pub other_way : (xs ys : List ℕ) → bytes_eq xs ys ≡ false → bytes_eq ys xs ≡ false
other_way xs ys e = false_from_ne_true (bytes_eq ys xs) (λ h. false≢true (sym e ∙ (bytes_eq-Decides xs ys).1 (sym ((bytes_eq-Decides ys xs).0 h))))

names_more : (xs : List Declaration) (x : Declaration) → are_distinct bytes_eq (map (λ y. y.name) xs) ≡ true → list_any (λ y. bytes_eq y.name x.name) xs ≡ false
    → are_distinct bytes_eq (map (λ y. y.name) (xs ++ x ∷ [])) ≡ true
names_more [] x h fresh = refl
names_more (y ∷ xs) x h fresh =
    let parts = and_parts (not (list_any (λ z. bytes_eq z y.name) (map (λ w. w.name) xs))) _ h in
    let news = or_parts (bytes_eq y.name x.name) _ fresh in
    let apart = list_any-append (λ z. bytes_eq z y.name) (map (λ w. w.name) xs) (x.name ∷ []) in
    and_from _ _ (rw (map_push (λ w. w.name) xs x, apart, not-true _ parts.0, other_way y.name x.name news.0) refl) (names_more xs x parts.1 news.1)

held_more : (n : ℕ) (v : Option Held) → is_reservation n v ≡ true → is_reservation (n + 1) v ≡ true
held_more n (Some (One kind g)) h = grind (arith, nat_tests)
held_more n _ h = h

reservations_more : (vs : List (Option Held)) (n : ℕ) → are_reservations n vs ≡ true → are_reservations (n + 1) vs ≡ true
reservations_more vs n h = grind (arith, nat_tests, all_more (is_reservation n) (is_reservation (n + 1)) (held_more n) vs)

declarations_with : (keys : List ℕ) (xs : List Declaration) (x : Declaration) → AreDeclarations keys xs → IsDeclaration keys x → AreDeclarations keys (xs ++ x ∷ [])
declarations_with keys [] x all is = (is, tt)
declarations_with keys (y ∷ xs) x all is = (all.0, declarations_with keys xs x all.1 is)

pub nexus_sound : (n : ℕ) (guest : Bool) (name : List ℕ) (d : Declared) → d.place ≡ outside → is_name name ≡ true → IsSound n d → is_some (number_of d.nexuses name) ≡ false
    → IsSound (n + 1) (with_more (n + 1) guest name d)
nexus_sound n guest name d at named h free = record {
  keys = h.keys;
  reservations = rw (length_push d.nexuses _) (reservations_more (reservations_of d) (length d.nexuses) h.reservations);
  apart = names_more d.nexuses _ h.apart (number_none d.nexuses name free);
  each = declarations_with (declared_keys d) d.nexuses _ h.each (record { described = and_from _ _ named refl; task = tt });
  place = subst (IsPlace (declared_keys d) (n + 1)) (sym at) tt;
}

-- ---- reservations

held_by : (xs : List Declaration) (kind : Kind) (name : List ℕ) (o : Option ℕ) (v : Option Held) → number_of xs name ≡ o → not (is_all kind) ≡ true
    → option_map (λ h. Some (One kind h)) o ≡ Some v → is_reservation (length xs) v ≡ true
held_by xs kind name None v is s e = cc
held_by xs kind name (Some h) v is s e =
    let same : ◌≡◌ {A = Option Held} (Some (One kind h)) v = cc in
    subst (λ x. is_reservation (length xs) x ≡ true) same (and_from _ _ s (lt-ltb h (length xs) (number_within xs name h is)))

held_sound : (xs : List Declaration) (w : StartReservation) (v : Option Held) → is_wanted w ≡ true → held_of xs w ≡ Some v → is_reservation (length xs) v ≡ true
held_sound xs nobody None s e = refl
held_sound xs nobody (Some v) s e = cc
held_sound xs (everybody kind) v s e = let same : ◌≡◌ {A = Option Held} (Some (Everybody kind)) v = cc in subst (λ x. is_reservation (length xs) x ≡ true) same s
held_sound xs (single kind name) v s e = held_by xs kind name (number_of xs name) v refl s e

helds_then : (xs : List Declaration) (w : StartReservation) (ws : List StartReservation) (us : List (Option Held)) (o : Option (Option Held)) (p : Option (List (Option Held))) → held_of xs w ≡ o → is_wanted w ≡ true
    → ((vs : List (Option Held)) → p ≡ Some vs → (list_all (is_reservation (length xs)) vs ≡ true) × (length vs ≡ length ws))
    → option_and_then (λ v. option_map (λ vs. v ∷ vs) p) o ≡ Some us
    → (list_all (is_reservation (length xs)) us ≡ true) × (length us ≡ length (w ∷ ws))
helds_then xs w ws us (Some v) (Some vs) is s later e =
    let same : v ∷ vs ≡ us = cc in
    let rest = later vs refl in (
      subst (λ ys. list_all (is_reservation (length xs)) ys ≡ true) same (and_from _ _ (held_sound xs w v s is) rest.0),
      subst (λ ys. length ys ≡ length (w ∷ ws)) same (omega (arith, rest.1)),
    )
helds_then xs w ws us _ _ is s later e = cc

helds_sound : (xs : List Declaration) (ws : List StartReservation) (us : List (Option Held)) → list_all is_wanted ws ≡ true
    → each (held_of xs) ws ≡ Some us → (list_all (is_reservation (length xs)) us ≡ true) × (length us ≡ length ws)
helds_sound xs [] us s e = let same : [] ≡ us = cc in (subst (λ ys. list_all (is_reservation (length xs)) ys ≡ true) same refl, subst (λ ys. length ys ≡ 0) same refl)
helds_sound xs (w ∷ ws) us s e =
    let parts = and_parts (is_wanted w) _ s in
    helds_then xs w ws us (held_of xs w) (each (held_of xs) ws) refl parts.0 (λ vs q. helds_sound xs ws vs parts.1 q) e

some_held : (n m : ℕ) → n ≡ m → not (m == 0) ≡ true → not (n == 0) ≡ true
some_held n m e h = grind (arith, nat_tests)

pub reservation_sound : (n : ℕ) (ws : List StartReservation) (d : Declared) → d.place ≡ outside → (not (length ws == 0) && list_all is_wanted ws) ≡ true → IsSound n d
    → is_none (each (held_of d.nexuses) ws) ≡ false → (is_some d.reservations || not (are_distinct is_same_reservation (unwrap_or (each (held_of d.nexuses) ws) []))) ≡ false
    → IsSound (n + 1) (record d { reservations = each (held_of d.nexuses) ws })
reservation_sound n ws d at s h known once = by_helds (each (held_of d.nexuses) ws) refl known once
  where
    by_helds : (o : Option (List (Option Held))) → each (held_of d.nexuses) ws ≡ o → is_none o ≡ false → (is_some d.reservations || not (are_distinct is_same_reservation (unwrap_or o []))) ≡ false
        → IsSound (n + 1) (record d { reservations = o })
    by_helds None is none apart = cc
    by_helds (Some vs) is known apart =
        let wanted = and_parts (not (length ws == 0)) _ s in
        let held = helds_sound d.nexuses ws vs wanted.1 is in
        record {
          keys = h.keys;
          reservations = and_from _ _ (some_held (length vs) (length ws) held.1 wanted.0) (and_from _ _ held.0 (not-false _ (or_parts (is_some d.reservations) _ apart).1));
          apart = h.apart;
          each = h.each;
          place = subst (IsPlace (declared_keys d) (n + 1)) (sym at) tt;
        }
