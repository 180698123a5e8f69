-- The branches of a command that preempts a key.
use Rattle.pr_regions.proofs.Common.{◌≡◌, ℕ, ◌≤◌, Bool, true, false, not, ◌&&◌, ◌||◌, ◌≢◌, ◌⊎◌, [], ◌∷◌, is_some, if◌then◌else◌, ◌==◌, Some, None, Option, sym, refl, ap, ◌∙◌, subst, inl, inr, arith, not-true, false≢true, nat_tests, eqb_tells, Command, Kind, is_held_by_all, is_kind, held_by_rest, is_key, Keys, without, hosts_with, is_empty, is_registered, key_of, new_reservation, Held, One, All, UnitState, HasSomebody, Scope, number_of, key_at, Registration, IsSo, HasNumber, Meets, HasRoom, IsCovered, Standing, Branch, Transition, Conflict, Good, Does, AlwaysEnds, any, only, but, another, told_but, lost_if, is_named, Leaves, EndsIn, Tell, ne_eqb, Audience, tells_of_removal, tells_of_replacement}
use Rattle.pr_unit.specs.declared.demand.Demand.TheVariants.{Preempt}
use Rattle.std.specs.FinMap as map
use Rattle.pr_regions.specs.inside.Parts.{free_or, IsNotAnothers}
use Rattle.pr_regions.proofs.lemmas.Showing.Numbers.{is_some-key_at}
use Rattle.pr_regions.proofs.lemmas.Purposes.Conduct.{key_named}
use Rattle.pr_regions.proofs.lemmas.Parts.Endings.{sender_of}
use Rattle.pr_regions.proofs.lemmas.Parts.Branches.{left_to, everyone, in_region, from_region, HasNobody, somebody_or_nobody, each_of_two, untested, tested, tell}
use Rattle.pr_regions.proofs.lemmas.Portions.GatheredStates.{few_keys}
use Rattle.pr_regions.proofs.lemmas.Regions.KeyHolders.{HasKeys, keys_of, has_key, key_is, number_or_none, none_left, number_left, sender_left, rest_stays, IsNotHolders, replaced_ends, removed_ends, nobody_ends}

-- ---- tests

but_others : (j r : ℕ) → but j r ≡ true → only j r ≡ false
but_others j r is = not-true (only j r) is

others_but : (j r : ℕ) → only j r ≡ false → but j r ≡ true
others_but j r is = ap not is

pub none_is_not : (j : ℕ) → 1 ≤ j → only j 0 ≡ false
none_is_not j some = grind (arith, nat_tests)

pub both_not : (a b : Bool) → (not a && not b) ≡ true → (a ≡ false) × (b ≡ false)
both_not false false is = (refl, refl)
both_not _ _ is = absurd (false≢true is)

either_is : (a b : Bool) → (not a && not b) ≡ false → (b || a) ≡ true
either_is true true is = refl
either_is true false is = refl
either_is false true is = refl
either_is false false is = sym is

pub not_either : (a b : Bool) → a ≡ false → b ≡ false → (not a && not b) ≡ true
not_either a b one other = λ i. not (one i) && not (other i)

-- ---- holders

-- to a single holder but the sender nothing is left apart
not_holder : (holder others : ℕ → Bool) (held : Option Held) (sender g r : ℕ) → IsNotAnothers held sender → g ≢ sender → left_to holder others held g r ≡ others r
not_holder holder others (Some (One t h)) sender g r own other =
    ap (λ b. if b then holder r else others r) (ne_eqb h g (λ same. other (sym same ∙ own)))
not_holder holder others _ sender g r own other = refl

all_own : (held : Option Held) (sender : ℕ) → is_held_by_all held ≡ true → IsNotAnothers held sender
all_own (Some (One t h)) sender all = absurd (false≢true all)
all_own _ sender all = tt

-- where no other host holds alone and the sender has another key, no single holder has the key
not_holders : (s : Scope) (j : ℕ) (t : Kind) (held : Option Held) (sender : ℕ) (standing : Standing) (u : UnitState) (c : Command) → Meets s (Preempt j t) held sender standing u c
    → HasKeys s j sender standing u → is_named standing ≡ false → IsNotAnothers held sender → IsNotHolders u.registry.keys u.registry.held (key_named s.keys j)
not_holders s j t held sender standing u c m keys other own =
    subst (λ (v : Option Held). IsNotHolders u.registry.keys v (key_named s.keys j)) (sym m.held) (at held own)
  where
    differs : is_key (key_of u.registry sender) (key_named s.keys j) ≡ false
    differs =
        let it = sender_of s (Preempt j t) held sender standing u c m in
        has_key s j sender standing u sender it.number keys (m.below, it.is.known, it.is.key) ∙ keys.own it.number it.is ∙ other

    at : (v : Option Held) → IsNotAnothers v sender → IsNotHolders u.registry.keys v (key_named s.keys j)
    at (Some (One t h)) own = ap (λ g. is_key (map.get u.registry.keys g) (key_named s.keys j)) own ∙ differs
    at _ own = tt

-- all registrants hold: no single holder has the key
nobodys_alone : (keys : Keys) (held : Option Held) (k : ℕ) → is_held_by_all held ≡ true → IsNotHolders keys held k
nobodys_alone keys (Some (One t h)) k all = absurd (false≢true all)
nobodys_alone keys _ k all = tt

-- the sender has the key that it names
pub own_key : (s : Scope) (j : ℕ) (t : Kind) (held : Option Held) (sender : ℕ) (standing : Standing) (u : UnitState) (c : Command) → Meets s (Preempt j t) held sender standing u c
    → HasKeys s j sender standing u → is_named standing ≡ true → key_of u.registry sender ≡ Some (key_named s.keys j)
own_key s j t held sender standing u c m keys own =
    let it = sender_of s (Preempt j t) held sender standing u c m in
    key_is s j sender standing u sender it.number keys (m.below, it.is.known, it.is.key) (keys.own it.number it.is ∙ own)

-- what a change does, by how the sender stands
pub does_so : (change : Transition) (b named : Bool) (out : ℕ → Bool) (left : ℕ) (tells : Audience) → named ≡ b → Does change (lost_if b) out left tells → Does change (lost_if named) out left tells
does_so change b named out left tells is does = subst (λ x. Does change (lost_if x) out left tells) (sym is) does

-- ---- another's key, and no other host holds alone

pub tell_others : (hosts j : ℕ) (t : Kind) (held : Option Held) (sender : ℕ) (standing : Standing) (b d : Branch) (goes : Transition) → HasNumber (Preempt j t)
    → is_named standing ≡ false → IsNotAnothers held sender
    → Leaves b.region any any (Some (only j)) → b.ending ≡ Good goes → Does goes (lost_if false) (only j) (number_of hosts held) (tells_of_removal (only j)) → HasRoom hosts (Good goes)
    → Leaves d.region any (but j) None → d.ending ≡ Conflict
    → Tell hosts (Preempt j t) held sender standing (b ∷ d ∷ [])
tell_others hosts j t held sender standing b d goes has other own leaves_b ends_b does room leaves_d ends_d =
    tell hosts (Preempt j t) held sender standing (b ∷ d ∷ [])
    (each_of_two (EndsIn hosts (Preempt j t) held sender standing) b d
    (record {
      ends = λ s u c alike m inside.
          let there = (from_region s u sender b.region any any (Some (only j)) (few_keys s.keys m.scope.keys) leaves_b inside).somebody in
          let keys = keys_of s j t held sender standing u c has m in
          rw ends_b (removed_ends s j t held sender standing u c (number_of hosts held) there.0 goes has m (not_holders s j t held sender standing u c m keys other own)
          (key_is s j sender standing u there.0 there.1 keys there.3 there.4)
          ((λ i. number_of (sym alike i) (sym m.held i)) ∙ ap (number_of s.hosts) (sym (rest_stays (without u.registry.keys (hosts_with u.registry.keys (key_named s.keys j))) u.registry.held
          (sender_left s j t held sender standing u c m keys other))))
          (does_so goes false (is_named standing) (only j) (number_of hosts held) (tells_of_removal (only j)) other does));
      proper = tested b.region.somebody (only j) (none_is_not j has.0) leaves_b.tested;
      fits = rw ends_b room;
    })
    (record {
      ends = λ s u c alike m inside.
          let there = from_region s u sender d.region any (but j) None (few_keys s.keys m.scope.keys) leaves_d inside in
          rw ends_d (nobody_ends s j t held sender standing u c has m other (λ g r apart so.
          but_others j r (sym (ap (λ v. left_to any (but j) v g r) m.held ∙ not_holder any (but j) held sender g r own apart) ∙ there.registrations g r apart so)));
      proper = untested d.region.somebody leaves_d.tested;
      fits = rw ends_d tt;
    }))
    (λ s u c alike m. covers s u c m (somebody_or_nobody s (Preempt j t) held sender standing u c (only j) m))
  where
    covers : (s : Scope) (u : UnitState) (c : Command) → Meets s (Preempt j t) held sender standing u c → HasSomebody s u sender (Some (only j)) ⊎ HasNobody s u sender (only j) → IsCovered s sender (b ∷ d ∷ []) u
    covers s u c m (inl there) = record {
      branch = b;
      listed = (0, omega arith, refl);
      inside = in_region s u sender b.region any any (Some (only j)) (few_keys s.keys m.scope.keys) leaves_b (record { registrations = λ g r other so. everyone u.registry.held g r; somebody = there });
    }
    covers s u c m (inr nobody) = record {
      branch = d;
      listed = (1, omega arith, refl);
      inside = in_region s u sender d.region any (but j) None (few_keys s.keys m.scope.keys) leaves_d
          (record {
            registrations = λ g r apart so. ap (λ v. left_to any (but j) v g r) m.held ∙ not_holder any (but j) held sender g r own apart ∙ others_but j r (nobody g r apart so);
            somebody = tt;
          });
    }

-- ---- the sender's own key

pub own_unheld : (hosts j : ℕ) (t : Kind) (sender : ℕ) (standing : Standing) (goes : Transition) → HasNumber (Preempt j t) → is_named standing ≡ true
    → Does goes (lost_if true) (only j) 0 (tells_of_removal (only j)) → HasRoom hosts (Good goes) → AlwaysEnds hosts (Preempt j t) None sender standing (Good goes)
own_unheld hosts j t sender standing goes has own does room = record {
  ends = λ s u c alike m.
      let keys = keys_of s j t None sender standing u c has m in
      removed_ends s j t None sender standing u c 0 sender goes has m (subst (λ (v : Option Held). IsNotHolders u.registry.keys v (key_named s.keys j)) (sym m.held) tt)
      (own_key s j t None sender standing u c m keys own)
      (ap (λ v. number_of s.hosts (held_by_rest (without u.registry.keys (hosts_with u.registry.keys (key_named s.keys j))) v)) (sym m.held))
      (does_so goes true (is_named standing) (only j) 0 (tells_of_removal (only j)) own does);
  fits = room;
}

pub own_single : (hosts j : ℕ) (t old : Kind) (h sender : ℕ) (standing : Standing) (change : Transition) → HasNumber (Preempt j t) → is_named standing ≡ true → h ≡ sender
    → Does change None (only j) (number_of hosts (Some (new_reservation t sender))) (tells_of_replacement (told_but (not (is_kind old t)) j) (only j)) → HasRoom hosts (Good change)
    → AlwaysEnds hosts (Preempt j t) (Some (One old h)) sender standing (Good change)
own_single hosts j t old h sender standing change has own is does room = record {
  ends = λ s u c alike m.
      let keys = keys_of s j t (Some (One old h)) sender standing u c has m in
      replaced_ends s hosts j t old h (Some (One old h)) sender standing u c change has m alike refl (ap (key_of u.registry) is ∙ own_key s j t (Some (One old h)) sender standing u c m keys own) does;
  fits = room;
}

-- of all registrants
pub tell_own : (hosts j : ℕ) (t : Kind) (held : Option Held) (sender : ℕ) (standing : Standing) (b d : Branch) (stays ends : Transition) → HasNumber (Preempt j t)
    → is_named standing ≡ true → is_held_by_all held ≡ true
    → Leaves b.region any any (Some (another j)) → b.ending ≡ Good stays → Does stays (lost_if true) (only j) (number_of hosts held) (tells_of_removal (only j)) → HasRoom hosts (Good stays)
    → Leaves d.region any (free_or j) None → d.ending ≡ Good ends → Does ends (lost_if true) (only j) 0 (tells_of_removal (only j)) → HasRoom hosts (Good ends)
    → Tell hosts (Preempt j t) held sender standing (b ∷ d ∷ [])
tell_own hosts j t held sender standing b d stays ends has own all leaves_b ends_b does_b room_b leaves_d ends_d does_d room_d =
    tell hosts (Preempt j t) held sender standing (b ∷ d ∷ [])
    (each_of_two (EndsIn hosts (Preempt j t) held sender standing) b d
    (record {
      ends = λ s u c alike m inside.
          let there = (from_region s u sender b.region any any (Some (another j)) (few_keys s.keys m.scope.keys) leaves_b inside).somebody in
          let keys = keys_of s j t held sender standing u c has m in
          let parts = both_not (there.1 == 0) (only j there.1) there.4 in
          let holds : is_registered u.registry there.0 ≡ true = ap is_some there.3.2 ∙ is_some-key_at s.keys there.1 there.3.1 ∙ ap not parts.0 in
          rw ends_b (removed_ends s j t held sender standing u c (number_of hosts held) sender stays has m
          (nobodys_alone u.registry.keys u.registry.held (key_named s.keys j) (ap is_held_by_all m.held ∙ all)) (own_key s j t held sender standing u c m keys own)
          ((λ i. number_of (sym alike i) (sym m.held i)) ∙ ap (number_of s.hosts) (sym (rest_stays (without u.registry.keys (hosts_with u.registry.keys (key_named s.keys j))) u.registry.held
          (number_left s j sender standing u there.0 there.1 keys there.3 holds parts.1))))
          (does_so stays true (is_named standing) (only j) (number_of hosts held) (tells_of_removal (only j)) own does_b));
      proper = tested b.region.somebody (another j) refl leaves_b.tested;
      fits = rw ends_b room_b;
    })
    (record {
      ends = λ s u c alike m inside.
          let there = from_region s u sender d.region any (free_or j) None (few_keys s.keys m.scope.keys) leaves_d inside in
          let keys = keys_of s j t held sender standing u c has m in
          let left = without u.registry.keys (hosts_with u.registry.keys (key_named s.keys j)) in
          let none : is_empty left ≡ true =
          none_left u.registry (key_named s.keys j) (λ g. gone s u c m keys (λ g r apart so. sym (ap (λ v. left_to any (free_or j) v g r) m.held ∙ not_holder any (free_or j) held sender g r (all_own held sender all) apart) ∙ there.registrations g r apart so)
          g (number_or_none s j t held sender standing u c m g) (eqb_tells g sender)) in
          rw ends_d (removed_ends s j t held sender standing u c 0 sender ends has m
          (nobodys_alone u.registry.keys u.registry.held (key_named s.keys j) (ap is_held_by_all m.held ∙ all)) (own_key s j t held sender standing u c m keys own)
          (ap (number_of s.hosts) (sym (ended left u.registry.held (ap is_held_by_all m.held ∙ all) none)))
          (does_so ends true (is_named standing) (only j) 0 (tells_of_removal (only j)) own does_d));
      proper = untested d.region.somebody leaves_d.tested;
      fits = rw ends_d room_d;
    }))
    (λ s u c alike m. covers s u c m (somebody_or_nobody s (Preempt j t) held sender standing u c (another j) m))
  where
    ended : (left : Keys) (v : Option Held) → is_held_by_all v ≡ true → is_empty left ≡ true → held_by_rest left v ≡ None
    ended left None all none = refl
    ended left (Some (One t h)) all none = absurd (false≢true all)
    ended left (Some (All t)) all none = ap (λ b. if b then None else Some (All t)) none

    by_number : (s : Scope) (u : UnitState) (g r : ℕ) → HasKeys s j sender standing u → IsSo s u (Registration g r) → (b : Bool) → only j r ≡ b → (b || r == 0) ≡ true
        → (key_of u.registry g ≡ None) ⊎ (is_key (key_of u.registry g) (key_named s.keys j) ≡ true)
    by_number s u g r keys so true is free = inr (has_key s j sender standing u g r keys so ∙ is)
    by_number s u g r keys so false is free = let zero_is : r ≡ 0 = grind (arith, nat_tests) in inl (so.2 ∙ ap (key_at s.keys) zero_is)

    gone : (s : Scope) (u : UnitState) (c : Command) → Meets s (Preempt j t) held sender standing u c → HasKeys s j sender standing u
        → ((g r : ℕ) → g ≢ sender → IsSo s u (Registration g r) → free_or j r ≡ true)
        → (g : ℕ) → (key_of u.registry g ≡ None) ⊎ ((r : ℕ) × IsSo s u (Registration g r)) → (((g == sender) ≡ true) × (g ≡ sender)) ⊎ (((g == sender) ≡ false) × (g ≢ sender))
        → (key_of u.registry g ≡ None) ⊎ (is_key (key_of u.registry g) (key_named s.keys j) ≡ true)
    gone s u c m keys free g (inl none) test = inl none
    gone s u c m keys free g (inr it) (inr apart) = by_number s u g it.0 keys it.1 (only j it.0) refl (free g it.0 apart.1 it.1)
    gone s u c m keys free g (inr it) (inl same) =
        let so : IsSo s u (Registration sender it.0) = subst (λ h. IsSo s u (Registration h it.0)) same.1 it.1 in
        inr (has_key s j sender standing u g it.0 keys it.1 ∙ keys.own it.0 (record { known = so.1; key = so.2 }) ∙ own)

    covers : (s : Scope) (u : UnitState) (c : Command) → Meets s (Preempt j t) held sender standing u c → HasSomebody s u sender (Some (another j)) ⊎ HasNobody s u sender (another j) → IsCovered s sender (b ∷ d ∷ []) u
    covers s u c m (inl there) = record {
      branch = b;
      listed = (0, omega arith, refl);
      inside = in_region s u sender b.region any any (Some (another j)) (few_keys s.keys m.scope.keys) leaves_b (record { registrations = λ g r other so. everyone u.registry.held g r; somebody = there });
    }
    covers s u c m (inr nobody) = record {
      branch = d;
      listed = (1, omega arith, refl);
      inside = in_region s u sender d.region any (free_or j) None (few_keys s.keys m.scope.keys) leaves_d
          (record {
            registrations = λ g r apart so.
                ap (λ v. left_to any (free_or j) v g r) m.held ∙ not_holder any (free_or j) held sender g r (all_own held sender all) apart ∙ either_is (r == 0) (only j r) (nobody g r apart so);
            somebody = tt;
          });
    }
