-- The possibilities of a tally, and the attentions beside them, are those of each way to end.
use Rattle.pr_domain.proofs.Common.{◌≡◌, ℕ, zero, suc, Bool, true, false, not, ◌&&◌, ◌||◌, ◌⊎◌, ◌↔◌, List, is_some, nat_lt, ◌==◌, slice_get, Some, None, Option, sym, refl, ap, ◌∙◌, subst, inl, inr, arith, option_map_or, false≢true, not-true, and_parts, or_cases, and_from, or_left, or_right, nat_tests, has, BitSet, Command, Reply, Sense, Plain, power_on, code_of, codes_of, Attention, PowerOn, command_conflicts, command_fault, good, check, conflict, report, data_of, UnitState, is_pending, is_any_pending, effect, after_report, Test, view_in, Scope, Item, Attentions, IsSo, View, Shows, Possibilities, first_test, IsLanding, Landing, Unserved, Tally, AreReported, Reports, Conflicts, Fails, EndsGood, Refuses, refusal, landing_at, IsRegistered, has_part, has_tallied, arm_of, Leaves, IsTally, ATTENTION_SETS, MayReport}
use Rattle.std.specs.FinSet as set
use Rattle.std.proofs.lemmas.Bool.{lt-ltb}
use Rattle.pr_views.proofs.lemmas.Possibilities.Numbers.{one_attentions}
use Rattle.pr_domain.specs.inside.Reporting.{AreCalm, AreQuiet}
use Rattle.pr_domain.proofs.lemmas.Reporting.OwnerStates.{after_reported, reported_after, idle_from_zero, quiet_number, untold_pending}
use Rattle.pr_domain.proofs.lemmas.Tallies.Origins.{so_from_registered, still_registered, IsWay, IsTold}

-- ---- what a tally has

way_says : (t : Tally) (w : ℕ) (p : Possibilities) → slice_get t.ways w ≡ Some p → (j : Item) → has_tallied t w j ≡ has_part p j
way_says t w p is j = ap (λ o. option_map_or (λ x. has_part x j) o false) is

pub way_of_tally : (v : View) (c : Command) (tests : List Test) (t : Tally) (w : ℕ) (p : Possibilities) → IsTally v c tests t → slice_get t.ways w ≡ Some p
    → IsWay v (Leaves v.scope c tests w) p
way_of_tally v c tests t w p tally is = record {
  all = λ u j shown left. sym (way_says t w p is j) ∙ tally.all u w j shown left;
  only = λ j q has pending.
      let found = tally.only w j q (way_says t w p is j ∙ has) pending in
      (found.unit, found.shown, found.leaves, found.pending);
}

-- with and without a conflict
pub either_way : (v : View) (c : Command) (tests : List Test) (t : Tally) (p q either : Possibilities) → IsTally v c tests t → slice_get t.ways 0 ≡ Some p → slice_get t.ways 1 ≡ Some q
    → ((j : Item) → has_part either j ≡ (has_part p j || has_part q j)) → IsWay v (IsRegistered v.scope) either
either_way v c tests t p q either tally first second is = record { all = all; only = λ j n has pending. only j n pending (or_cases (has_part p j) _ (sym (is j) ∙ has)) }
  where
    conflicting : IsWay v (Leaves v.scope c tests 0) p
    conflicting = way_of_tally v c tests t 0 p tally first

    free : IsWay v (Leaves v.scope c tests 1) q
    free = way_of_tally v c tests t 1 q tally second

    all : (u : UnitState) (j : Item) → Shows v u → IsRegistered v.scope u j → has_part either j ≡ true
    all u j shown so = at (command_conflicts u.registry v.scope.own c) refl
      where
        at : (b : Bool) → command_conflicts u.registry v.scope.own c ≡ b → has_part either j ≡ true
        at true conflicts = is j ∙ or_left _ _ (conflicting.all u j shown (conflicts, so))
        at false not_so = is j ∙ or_right (has_part p j) _ (free.all u j shown (not_so, so))

    only : (j : Item) (n : ℕ) → v.pending n ≡ true → (has_part p j ≡ true) ⊎ (has_part q j ≡ true) → (u : UnitState) × Shows v u × IsRegistered v.scope u j × IsSo v.scope u (Attentions n)
    only j n pending (inl has) = let found = conflicting.only j n has pending in (found.0, found.1, found.2.1, found.3)
    only j n pending (inr has) = let found = free.only j n has pending in (found.0, found.1, found.2.1, found.3)

module _ (s : Scope) (known : Possibilities) (c : Command) (tests : List Test) (l : Landing) where
  -- ---- reports

  pub told_power_on : (left : BitSet) → AreReported ATTENTION_SETS known.pending PowerOn left → IsLanding tests (report (Plain c) power_on) l
      → IsTold (view_in s known) c tests (Reports false PowerOn) l (IsRegistered s) left
  told_power_on left are landing = record {
    forth = λ u r w j shown ends landed so. still_registered s u w j (ap (λ (x : UnitState). x.registry) ends.1.2) so;
    pends = λ u r w q n ends possible so left.
        are.all q n so.0 possible (reported_after s u PowerOn q n so ends.1.0 (subst (λ x. IsSo s x (Attentions n)) ends.1.2 left));
    back = λ n has.
        let found = are.only n has in (
          found.0,
          found.2,
          λ u j shown so pending. record {
            reply = report (Plain c) power_on;
            after = after_report u s.own power_on;
            ends = (λ later. absurd (later refl), (pending.1 power_on ∙ found.3.1, refl, refl));
            landing = landing;
            is = so_from_registered s (after_report u s.own power_on) j (still_registered s (after_report u s.own power_on) u j refl so);
            left = after_reported s u PowerOn found.0 n pending found.3;
          },
        );
  }

  calm_from : (calm : BitSet) → AreCalm known calm → (u : UnitState) (q : ℕ) → has known.pending q ≡ true → IsSo s u (Attentions q) → is_pending u s.own power_on ≡ false → has calm q ≡ true
  calm_from calm are u q possible so none =
      are q ∙ and_from _ _ (and_from (has known.pending q) _ possible (ap not (sym (so.1 power_on) ∙ none))) (lt-ltb q ATTENTION_SETS so.0)

  calm_is : (calm : BitSet) → AreCalm known calm → (q : ℕ) → has calm q ≡ true → (has known.pending q ≡ true) × (set.contains (codes_of q) power_on ≡ false)
  calm_is calm are q is =
      let parts = and_parts (has known.pending q && not (set.contains (codes_of q) power_on)) (nat_lt q ATTENTION_SETS) (sym (are q) ∙ is) in
      let both = and_parts (has known.pending q) (not (set.contains (codes_of q) power_on)) parts.0 in
      (both.0, not-true _ both.1)

  pub told_later : (conflicting : Bool) (a : Attention) (Left : UnitState → Item → Type 0) (calm left : BitSet)
      → ((u : UnitState) → MayReport c s.own u conflicting a ↔ ((is_pending u s.own power_on ≡ false) × (command_conflicts u.registry s.own c ≡ conflicting)))
      → ((u : UnitState) (j : Item) → Left u j ↔ ((command_conflicts u.registry s.own c ≡ conflicting) × IsRegistered s u j)) → AreCalm known calm → AreReported ATTENTION_SETS calm a left → IsLanding tests (report (Plain c) (code_of a)) l
      → IsTold (view_in s known) c tests (Reports conflicting a) l Left left
  told_later conflicting a Left calm left may leaves calms are landing = record {
    forth = λ u r w j shown ends landed so. (leaves u j).1 (((may u).0 ends.0).1, still_registered s u w j (ap (λ (x : UnitState). x.registry) ends.1.2) so);
    pends = λ u r w q n ends possible so left.
        are.all q n so.0 (calm_from calm calms u q possible so ((may u).0 ends.0).0) (reported_after s u a q n so ends.1.0 (subst (λ x. IsSo s x (Attentions n)) ends.1.2 left));
    back = λ n has.
        let found = are.only n has in
        let known = calm_is calm calms found.0 found.2 in (
          found.0,
          known.0,
          λ u j shown so pending. record {
            reply = report (Plain c) (code_of a);
            after = after_report u s.own (code_of a);
            ends = ((may u).1 (pending.1 power_on ∙ known.1, ((leaves u j).0 so).0), (pending.1 (code_of a) ∙ found.3.1, refl, refl));
            landing = landing;
            is = so_from_registered s (after_report u s.own (code_of a)) j (still_registered s (after_report u s.own (code_of a)) u j refl ((leaves u j).0 so).1);
            left = after_reported s u a found.0 n pending found.3;
          },
        );
  }

  -- ---- a refusal

  pub told_refusal : (refused : Unserved) → IsLanding tests (refusal refused) l → IsTold (view_in s known) c tests (Refuses refused) l (IsRegistered s) known.pending
  told_refusal refused landing = record {
    forth = λ u r w j shown ends landed so. still_registered s u w j (ap (λ (x : UnitState). x.registry) ends.1) so;
    pends = λ u r w q n ends possible so left.
        let same = one_attentions s u q n so (subst (λ x. IsSo s x (Attentions n)) ends.1 left) in
        subst (λ m. has known.pending m ≡ true) same possible;
    back = λ n has. (
      n,
      has,
      λ u j shown so pending. record {
        reply = refusal refused;
        after = u;
        ends = (refl, refl);
        landing = landing;
        is = so_from_registered s u j so;
        left = pending;
      },
    );
  }

  -- ---- a conflict

  pub told_conflict : (calm : BitSet) → AreCalm known calm → IsLanding tests conflict l → IsTold (view_in s known) c tests Conflicts l (Leaves s c tests 0) calm
  told_conflict calm calms landing = record {
    forth = λ u r w j shown ends landed so. (ends.1, still_registered s u w j (ap (λ (x : UnitState). x.registry) ends.3) so);
    pends = λ u r w q n ends possible so left.
        let same = one_attentions s u q n so (subst (λ x. IsSo s x (Attentions n)) ends.3 left) in
        subst (λ m. has calm m ≡ true) same (calm_from calm calms u q possible so ends.0);
    back = λ n has.
        let known = calm_is calm calms n has in (
          n,
          known.0,
          λ u j shown so pending. record {
            reply = conflict;
            after = u;
            ends = (pending.1 power_on ∙ known.1, so.0, refl, refl);
            landing = landing;
            is = so_from_registered s u j so.1;
            left = pending;
          },
        );
  }

  -- ---- where nothing is pending

  quiet_from : (quiet : BitSet) → AreQuiet known quiet → (u : UnitState) (q n : ℕ) → has known.pending q ≡ true → IsSo s u (Attentions q) → IsSo s u (Attentions n) → is_any_pending u s.own ≡ false
      → has quiet n ≡ true
  quiet_from quiet are u q n possible so also none =
      let zero_is : q ≡ 0 = quiet_number s u q so none in
      let same : n ≡ 0 = quiet_number s u n also none in
      let tells : (n == 0) ≡ true = grind (arith, nat_tests) in
      are n ∙ and_from _ _ (ap (has known.pending) (same ∙ sym zero_is) ∙ possible) tells

  quiet_is : (quiet : BitSet) → AreQuiet known quiet → (n : ℕ) → has quiet n ≡ true → (has known.pending n ≡ true) × (n ≡ 0)
  quiet_is quiet are n is =
      let parts = and_parts (has known.pending n) (n == 0) (sym (are n) ∙ is) in
      let tells = parts.1 in
      (parts.0, grind (arith, nat_tests))

  pub told_fault : (quiet : BitSet) (sense : Sense) → AreQuiet known quiet → ((u : UnitState) (x : Sense) → command_fault u.registry s.own c ≡ Some x → x ≡ sense)
      → IsLanding tests (check sense) l → IsTold (view_in s known) c tests Fails l (Leaves s c tests 2) quiet
  told_fault quiet sense quiets fixed landing = record {
    forth = λ u r w j shown ends landed so. (ends.1, ap is_some ends.3, still_registered s u w j (ap (λ (x : UnitState). x.registry) ends.5) so);
    pends = λ u r w q n ends possible so left. quiet_from quiet quiets u q n possible so (subst (λ x. IsSo s x (Attentions n)) ends.5 left) ends.0;
    back = λ n has.
        let known = quiet_is quiet quiets n has in (
          n,
          known.0,
          λ u j shown so pending.
              let some = is_there (command_fault u.registry s.own c) so.1 in
              record {
                reply = check sense;
                after = u;
                ends = (idle_from_zero s u (subst (λ m. IsSo s u (Attentions m)) known.1 pending), so.0, sense, some.1 ∙ ap (λ x. Some x) (fixed u some.0 some.1), refl, refl);
                landing = landing;
                is = so_from_registered s u j so.2;
                left = pending;
              },
        );
  }
    where
      is_there : (o : Option Sense) → is_some o ≡ true → (x : Sense) × (o ≡ Some x)
      is_there None some = absurd (false≢true some)
      is_there (Some x) some = (x, refl)

  -- the landing of GOOD by the arm that takes the data
  pub told_good : (quiet : BitSet) (arm : ℕ) → AreQuiet known quiet → l ≡ landing_at arm → IsTold (view_in s known) c tests EndsGood l (Leaves s c tests (suc (suc (suc arm)))) quiet
  told_good quiet arm quiets is_landing = record {
    forth = λ u r w j shown ends landed so.
        (ends.1, ends.2, taken arm r (good (data_of u.registry c)) ends.3 (subst (IsLanding tests r) is_landing landed), registered_at u w j ends.4 so);
    pends = λ u r w q n ends possible so left.
        let before = subst (λ m. IsSo s u (Attentions m)) (one_attentions s (effect u s.own c) q n (untold_pending s u c q so) (subst (λ x. IsSo s x (Attentions n)) ends.4 left)) so in
        quiet_from quiet quiets u q n possible so before ends.0;
    back = λ n has.
        let known = quiet_is quiet quiets n has in (
          n,
          known.0,
          λ u j shown so pending. record {
            reply = good (data_of u.registry c);
            after = effect u s.own c;
            ends = (idle_from_zero s u (subst (λ m. IsSo s u (Attentions m)) known.1 pending), so.0, so.1, refl, refl);
            landing = subst (IsLanding tests (good (data_of u.registry c))) (sym is_landing) (lands_at arm u so.2);
            is = so_from_registered s (effect u s.own c) j so.3;
            left = untold_pending s u c n pending;
          },
        );
  }
    where
      taken : (arm : ℕ) (r d : Reply) → r ≡ d → IsLanding tests r (landing_at arm) → first_test tests d ≡ arm_of arm
      taken zero r d same landed = ap (first_test tests) (sym same) ∙ landed.0
      taken (suc n) r d same landed = ap (first_test tests) (sym same) ∙ landed

      lands_at : (arm : ℕ) (u : UnitState) → first_test tests (good (data_of u.registry c)) ≡ arm_of arm → IsLanding tests (good (data_of u.registry c)) (landing_at arm)
      lands_at zero u is = (is, refl)
      lands_at (suc n) u is = is

      registered_at : (u w : UnitState) (j : Item) → w ≡ effect u s.own c → IsRegistered s w j → IsRegistered s (effect u s.own c) j
      registered_at u w j same so = subst (λ x. IsRegistered s x j) same so
