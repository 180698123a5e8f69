-- The branches of a command that preempts a key while another host holds the reservation alone.
use Rattle.pr_regions.proofs.Common.{◌≡◌, ℕ, ◌<◌, Bool, true, false, not, ◌≢◌, ◌⊎◌, [], ◌∷◌, is_some, if◌then◌else◌, IsTrue, ◌==◌, Some, None, Option, sym, refl, ap, ◌∙◌, subst, inl, inr, arith, not-true, false≢true, nat_tests, Command, Kind, is_kind, held_by_rest, is_key, Keys, key_of, new_reservation, Held, One, UnitState, HasSomebody, Scope, number_of, Registration, IsSo, HasNumber, Meets, HasRoom, IsInRegion, IsCovered, Standing, Branch, Transition, Conflict, Good, Does, any, only, is_of_registrant, but, another, told_but, lost_if, is_named, Leaves, EndsIn, Tell, eq-eqb, tells_of_removal, tells_of_replacement, HasHolder, one_registration}
use Rattle.pr_unit.specs.declared.demand.Demand.TheVariants.{Preempt}
use Rattle.std.specs.FinMap as map
use Rattle.pr_regions.proofs.lemmas.Purposes.Conduct.{key_named}
use Rattle.pr_regions.proofs.lemmas.Regions.Effects.{is_registered-number}
use Rattle.pr_regions.proofs.lemmas.Parts.Branches.{left_to, in_region, from_region, HasNobody, somebody_or_nobody, each_of_two, each_of_three, untested, tested, tell}
use Rattle.pr_regions.proofs.lemmas.Regions.KeyHolders.{HasKeys, keys_of, has_key, key_is, IsNotHolders, replaced_ends, removed_ends, nobody_ends}
use Rattle.pr_regions.proofs.lemmas.Parts.Preemption.{both_not, not_either, none_is_not, own_key, does_so}
use Rattle.pr_regions.proofs.lemmas.Portions.GatheredStates.{few_keys}

-- the reservation of h alone
abbrev pub held_by : Kind → ℕ → Option Held
held_by old h = Some (One old h)

-- the registration of the holder, which is a key's
record HasHolderNumber (s : Scope) (h : ℕ) (u : UnitState) : Type 0 where
  number : ℕ
  so : IsSo s u (Registration h number)
  some : is_of_registrant number ≡ true

holder_number : (s : Scope) (j : ℕ) (t old : Kind) (h sender : ℕ) (standing : Standing) (u : UnitState) (c : Command) → Meets s (Preempt j t) (held_by old h) sender standing u c → HasHolderNumber s h u
holder_number s j t old h sender standing u c m = at (key_of u.registry h) refl (subst (λ (v : Option Held). HasHolder u.registry.keys v) m.held m.formed.registry.held).1
  where
    at : (o : Option ℕ) → key_of u.registry h ≡ o → IsTrue (is_some (key_of u.registry h)) → HasHolderNumber s h u
    at None is there = absurd (false≢true (sym (ap is_some is) ∙ there))
    at (Some k) is there =
        let it = m.numbered h (subst (λ n. h < n) m.hosts (m.formed.registry.keys h k is).0) in
        record { number = it.0; so = it.1; some = sym (is_registered-number s.keys u.registry h it.0 (record { known = it.1.1; key = it.1.2 })) ∙ there }

-- what is left to the holder, and to the others
left_to_holder : (holder others : ℕ → Bool) (old : Kind) (h r : ℕ) → left_to holder others (held_by old h) h r ≡ holder r
left_to_holder holder others old h r = ap (λ b. if b then holder r else others r) (eq-eqb h h refl)

left_to_each : (holder others : ℕ → Bool) (old : Kind) (h g r : ℕ) → ((h == g) ≡ true → holder r ≡ true) → ((h == g) ≡ false → others r ≡ true) → left_to holder others (held_by old h) g r ≡ true
left_to_each holder others old h g r one other = at (h == g) refl
  where
    at : (b : Bool) → (h == g) ≡ b → (if b then holder r else others r) ≡ true
    at true is = one is
    at false is = other is

another_is_not : (j r : ℕ) → another j r ≡ true → only j r ≡ false
another_is_not j r is = (both_not (r == 0) (only j r) is).1

is_another : (j r : ℕ) → is_of_registrant r ≡ true → only j r ≡ false → another j r ≡ true
is_another j r some other = not_either (r == 0) (only j r) (not-true (r == 0) some) other

another_or_but : (j r : ℕ) (b : Bool) → (if b then another j r else but j r) ≡ true → only j r ≡ false
another_or_but j r true is = another_is_not j r is
another_or_but j r false is = not-true (only j r) is

-- ---- in each region

-- the holder's registration is among those that a region leaves to it
holder_is : (s : Scope) (j : ℕ) (t old : Kind) (h sender : ℕ) (standing : Standing) (u : UnitState) (c : Command) (b : Branch) (holder others : ℕ → Bool) (test : Option (ℕ → Bool)) → h ≢ sender
    → Meets s (Preempt j t) (held_by old h) sender standing u c → Leaves b.region holder others test → IsInRegion s sender b.region u → (r : ℕ) → IsSo s u (Registration h r) → holder r ≡ true
holder_is s j t old h sender standing u c b holder others test apart m leaves inside r so =
    let there = from_region s u sender b.region holder others test (few_keys s.keys m.scope.keys) leaves inside in
    sym (left_to_holder holder others old h r) ∙ sym (ap (λ v. left_to holder others v h r) m.held) ∙ there.registrations h r apart so

-- the holder has the key
pub holders_key : (hosts j : ℕ) (t old : Kind) (h sender : ℕ) (standing : Standing) (b : Branch) (change : Transition) → HasNumber (Preempt j t) → h ≢ sender
    → Leaves b.region (only j) any None → b.ending ≡ Good change
    → Does change None (only j) (number_of hosts (Some (new_reservation t sender))) (tells_of_replacement (told_but (not (is_kind old t)) j) (only j)) → HasRoom hosts (Good change)
    → EndsIn hosts (Preempt j t) (held_by old h) sender standing b
holders_key hosts j t old h sender standing b change has apart leaves ending does room = record {
  ends = λ s u c alike m inside.
      let it = holder_number s j t old h sender standing u c m in
      let keys = keys_of s j t (held_by old h) sender standing u c has m in
      rw ending (replaced_ends s hosts j t old h (held_by old h) sender standing u c change has m alike refl
      (key_is s j sender standing u h it.number keys it.so (holder_is s j t old h sender standing u c b (only j) any None apart m leaves inside it.number it.so)) does);
  proper = untested b.region.somebody leaves.tested;
  fits = rw ending room;
}

-- the holder has another key
not_holders : (s : Scope) (j : ℕ) (t old : Kind) (h sender : ℕ) (standing : Standing) (u : UnitState) (c : Command) (b : Branch) (others : ℕ → Bool) (test : Option (ℕ → Bool)) → h ≢ sender
    → Meets s (Preempt j t) (held_by old h) sender standing u c → HasKeys s j sender standing u → Leaves b.region (another j) others test → IsInRegion s sender b.region u
    → IsNotHolders u.registry.keys u.registry.held (key_named s.keys j)
not_holders s j t old h sender standing u c b others test apart m keys leaves inside =
    let it = holder_number s j t old h sender standing u c m in
    let differs : is_key (map.get u.registry.keys h) (key_named s.keys j) ≡ false =
    has_key s j sender standing u h it.number keys it.so ∙ another_is_not j it.number (holder_is s j t old h sender standing u c b (another j) others test apart m leaves inside it.number it.so) in
    subst (λ (v : Option Held). IsNotHolders u.registry.keys v (key_named s.keys j)) (sym m.held) differs

-- it stays
same_number : (s : Scope) (hosts : ℕ) (old : Kind) (h : ℕ) (u : UnitState) (rest : Keys) → s.hosts ≡ hosts → u.registry.held ≡ held_by old h
    → number_of hosts (held_by old h) ≡ number_of s.hosts (held_by_rest rest u.registry.held)
same_number s hosts old h u rest alike is = λ i. number_of (sym alike i) (held_by_rest rest (sym is i))

-- the holder has another key, and the sender this one
pub own_key_goes : (hosts j : ℕ) (t old : Kind) (h sender : ℕ) (standing : Standing) (b : Branch) (goes : Transition) → HasNumber (Preempt j t) → h ≢ sender → is_named standing ≡ true
    → Leaves b.region (another j) any None → b.ending ≡ Good goes → Does goes (lost_if true) (only j) (number_of hosts (held_by old h)) (tells_of_removal (only j)) → HasRoom hosts (Good goes)
    → EndsIn hosts (Preempt j t) (held_by old h) sender standing b
own_key_goes hosts j t old h sender standing b goes has apart own leaves ending does room = record {
  ends = λ s u c alike m inside.
      let keys = keys_of s j t (held_by old h) sender standing u c has m in
      rw ending (removed_ends s j t (held_by old h) sender standing u c (number_of hosts (held_by old h)) sender goes has m
      (not_holders s j t old h sender standing u c b any None apart m keys leaves inside) (own_key s j t (held_by old h) sender standing u c m keys own)
      (same_number s hosts old h u _ alike m.held)
      (does_so goes true (is_named standing) (only j) (number_of hosts (held_by old h)) (tells_of_removal (only j)) own does));
  proper = untested b.region.somebody leaves.tested;
  fits = rw ending room;
}

-- the holder has another key, and so has the sender, and somebody has this one
pub somebodys_key_goes : (hosts j : ℕ) (t old : Kind) (h sender : ℕ) (standing : Standing) (b : Branch) (goes : Transition) → HasNumber (Preempt j t) → h ≢ sender → is_named standing ≡ false
    → Leaves b.region (another j) any (Some (only j)) → b.ending ≡ Good goes → Does goes (lost_if false) (only j) (number_of hosts (held_by old h)) (tells_of_removal (only j)) → HasRoom hosts (Good goes)
    → EndsIn hosts (Preempt j t) (held_by old h) sender standing b
somebodys_key_goes hosts j t old h sender standing b goes has apart other leaves ending does room = record {
  ends = λ s u c alike m inside.
      let keys = keys_of s j t (held_by old h) sender standing u c has m in
      let there = (from_region s u sender b.region (another j) any (Some (only j)) (few_keys s.keys m.scope.keys) leaves inside).somebody in
      rw ending (removed_ends s j t (held_by old h) sender standing u c (number_of hosts (held_by old h)) there.0 goes has m
      (not_holders s j t old h sender standing u c b any (Some (only j)) apart m keys leaves inside) (key_is s j sender standing u there.0 there.1 keys there.3 there.4)
      (same_number s hosts old h u _ alike m.held)
      (does_so goes false (is_named standing) (only j) (number_of hosts (held_by old h)) (tells_of_removal (only j)) other does));
  proper = tested b.region.somebody (only j) (none_is_not j has.0) leaves.tested;
  fits = rw ending room;
}

-- nobody has this key
pub nobodys_key : (hosts j : ℕ) (t old : Kind) (h sender : ℕ) (standing : Standing) (b : Branch) → HasNumber (Preempt j t) → is_named standing ≡ false
    → Leaves b.region (another j) (but j) None → b.ending ≡ Conflict → EndsIn hosts (Preempt j t) (held_by old h) sender standing b
nobodys_key hosts j t old h sender standing b has other leaves ending = record {
  ends = λ s u c alike m inside.
      let there = from_region s u sender b.region (another j) (but j) None (few_keys s.keys m.scope.keys) leaves inside in
      rw ending (nobody_ends s j t (held_by old h) sender standing u c has m other (λ g r apart so.
      another_or_but j r (h == g) (sym (ap (λ v. left_to (another j) (but j) v g r) m.held) ∙ there.registrations g r apart so)));
  proper = untested b.region.somebody leaves.tested;
  fits = rw ending tt;
}

-- ---- all regions

-- in the region of the holder with another key everyone else may have any
open_to_others : (s : Scope) (j : ℕ) (t old : Kind) (h sender : ℕ) (standing : Standing) (u : UnitState) (c : Command) (holder : ℕ → Bool) (n : ℕ) → Meets s (Preempt j t) (held_by old h) sender standing u c
    → IsSo s u (Registration h n) → holder n ≡ true → (g r : ℕ) → g ≢ sender → IsSo s u (Registration g r) → left_to holder any u.registry.held g r ≡ true
open_to_others s j t old h sender standing u c holder n m so is g r apart at_g =
    ap (λ v. left_to holder any v g r) m.held ∙ left_to_each holder any old h g r
    (λ same.
    let equal : g ≡ h = grind (arith, nat_tests) in
    ap holder (one_registration s u h r n m.scope (subst (λ x. IsSo s u (Registration x r)) equal at_g) so) ∙ is)
    (λ differs. refl)

pub tell_own_single : (hosts j : ℕ) (t old : Kind) (h sender : ℕ) (standing : Standing) (a b : Branch) → HasNumber (Preempt j t) → h ≢ sender
    → Leaves a.region (only j) any None → EndsIn hosts (Preempt j t) (held_by old h) sender standing a
    → Leaves b.region (another j) any None → EndsIn hosts (Preempt j t) (held_by old h) sender standing b
    → Tell hosts (Preempt j t) (held_by old h) sender standing (a ∷ b ∷ [])
tell_own_single hosts j t old h sender standing a b has apart leaves_a ends_a leaves_b ends_b =
    tell hosts (Preempt j t) (held_by old h) sender standing (a ∷ b ∷ []) (each_of_two (EndsIn hosts (Preempt j t) (held_by old h) sender standing) a b ends_a ends_b)
    (λ s u c alike m.
    let it = holder_number s j t old h sender standing u c m in
    covers s u c m it.number it.so it.some (only j it.number) refl)
  where
    covers : (s : Scope) (u : UnitState) (c : Command) → Meets s (Preempt j t) (held_by old h) sender standing u c → (n : ℕ) → IsSo s u (Registration h n) → is_of_registrant n ≡ true
        → (x : Bool) → only j n ≡ x → IsCovered s sender (a ∷ b ∷ []) u
    covers s u c m n so some true is = record {
      branch = a;
      listed = (0, omega arith, refl);
      inside = in_region s u sender a.region (only j) any None (few_keys s.keys m.scope.keys) leaves_a
          (record { registrations = open_to_others s j t old h sender standing u c (only j) n m so is; somebody = tt });
    }
    covers s u c m n so some false is = record {
      branch = b;
      listed = (1, omega arith, refl);
      inside = in_region s u sender b.region (another j) any None (few_keys s.keys m.scope.keys) leaves_b
          (record { registrations = open_to_others s j t old h sender standing u c (another j) n m so (is_another j n some is); somebody = tt });
    }

pub tell_other_single : (hosts j : ℕ) (t old : Kind) (h sender : ℕ) (standing : Standing) (a b d : Branch) → HasNumber (Preempt j t) → h ≢ sender
    → Leaves a.region (only j) any None → EndsIn hosts (Preempt j t) (held_by old h) sender standing a
    → Leaves b.region (another j) any (Some (only j)) → EndsIn hosts (Preempt j t) (held_by old h) sender standing b
    → Leaves d.region (another j) (but j) None → EndsIn hosts (Preempt j t) (held_by old h) sender standing d
    → Tell hosts (Preempt j t) (held_by old h) sender standing (a ∷ b ∷ d ∷ [])
tell_other_single hosts j t old h sender standing a b d has apart leaves_a ends_a leaves_b ends_b leaves_d ends_d =
    tell hosts (Preempt j t) (held_by old h) sender standing (a ∷ b ∷ d ∷ []) (each_of_three (EndsIn hosts (Preempt j t) (held_by old h) sender standing) a b d ends_a ends_b ends_d)
    (λ s u c alike m.
    let it = holder_number s j t old h sender standing u c m in
    covers s u c m it.number it.so it.some (only j it.number) refl (somebody_or_nobody s (Preempt j t) (held_by old h) sender standing u c (only j) m))
  where
    covers : (s : Scope) (u : UnitState) (c : Command) → Meets s (Preempt j t) (held_by old h) sender standing u c → (n : ℕ) → IsSo s u (Registration h n) → is_of_registrant n ≡ true
        → (x : Bool) → only j n ≡ x → HasSomebody s u sender (Some (only j)) ⊎ HasNobody s u sender (only j) → IsCovered s sender (a ∷ b ∷ d ∷ []) u
    covers s u c m n so some true is who = record {
      branch = a;
      listed = (0, omega arith, refl);
      inside = in_region s u sender a.region (only j) any None (few_keys s.keys m.scope.keys) leaves_a
          (record { registrations = open_to_others s j t old h sender standing u c (only j) n m so is; somebody = tt });
    }
    covers s u c m n so some false is (inl there) = record {
      branch = b;
      listed = (1, omega arith, refl);
      inside = in_region s u sender b.region (another j) any (Some (only j)) (few_keys s.keys m.scope.keys) leaves_b
          (record { registrations = open_to_others s j t old h sender standing u c (another j) n m so (is_another j n some is); somebody = there });
    }
    covers s u c m n so some false is (inr nobody) = record {
      branch = d;
      listed = (2, omega arith, refl);
      inside = in_region s u sender d.region (another j) (but j) None (few_keys s.keys m.scope.keys) leaves_d
          (record {
            registrations = λ g r away at_g. ap (λ v. left_to (another j) (but j) v g r) m.held ∙ left_to_each (another j) (but j) old h g r
                (λ same.
                let equal : g ≡ h = grind (arith, nat_tests) in
                let number = one_registration s u h r n m.scope (subst (λ x. IsSo s u (Registration x r)) equal at_g) so in
                ap (another j) number ∙ is_another j n some is)
                (λ differs. ap not (nobody g r away at_g));
            somebody = tt;
          });
    }
