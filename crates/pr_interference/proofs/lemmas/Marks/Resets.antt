-- What a reset makes of a view.
use Rattle.pr_interference.proofs.Common.{◌≡◌, ℕ, ◌<◌, true, ◌&&◌, ◌||◌, ◌==◌, bit_or, sym, refl, ap, ◌∙◌, subst, arith, and_parts, nat_tests, has_wide, has, BitSet, UnitState, has_at, view_in, Scope, count_of_reservations, Item, Registration, Reservation, Attentions, IsSo, AreInRange, View, IsPossible, Shows, Possibilities, IsImage, IsSame, shows_within, first, ATTENTION_SETS}
use Rattle.std.proofs.Common.{nat_lt}
use Rattle.std.specs.FinSet as set
use Rattle.std.proofs.Math.Bool.{or_comm}
use Rattle.pr_attention.specs.declared.attention.Attention.TheVariants.{PowerOn}
use Rattle.pr_attention.specs.Attentions.{power_on}
use Rattle.pr_attention.specs.Flagged.{codes_of}
use Rattle.pr_attention.proofs.lemmas.Bits.{codes_of-or_flag, or_flag-lt}
use Rattle.pr_attention.proofs.lemmas.Sets.{contains-insert_code}
use Rattle.pr_unit.specs.UnitStates.{is_pending, reset}
use Rattle.pr_unit.proofs.lemmas.Attentions.Resets.{pending-reset, well_formed-reset}
use Rattle.pr_regions.specs.Keeping.{IsKept}
use Rattle.pr_interference.specs.Interference.{IsAfterReset, IsLeftByReset}
use Rattle.pr_regions.proofs.lemmas.Showing.AlikeViews.{reservation_below}

-- the owner has what it had, and power on
so_after_reset : (s : Scope) (u : UnitState) (q : ℕ) → u.registry.hosts ≡ s.hosts → s.own < s.hosts → IsSo s u (Attentions q) → IsSo s (reset u) (Attentions (bit_or q 1))
so_after_reset s u q hosts own so = (or_flag-lt q PowerOn so.0, λ code. told code)
  where
    there : nat_lt s.own u.registry.hosts ≡ true
    there = let small : s.own < u.registry.hosts = subst (λ n. s.own < n) (sym hosts) own in grind (arith, nat_tests)

    told : (code : ℕ) → is_pending (reset u) s.own code ≡ set.contains (codes_of (bit_or q 1)) code
    told code =
        pending-reset u s.own code
        ∙ ap (λ b. is_pending u s.own code || (b && code == power_on)) there
        ∙ ap (λ b. b || code == power_on) (so.1 code)
        ∙ or_comm (set.contains (codes_of q) code) (code == power_on)
        ∙ sym (ap (λ (s : set.FinSet _). set.contains s code) (codes_of-or_flag q PowerOn) ∙ contains-insert_code (codes_of q) power_on code)

below_all : (q : ℕ) (w : BitSet) → q < ATTENTION_SETS → has w q ≡ true → first ATTENTION_SETS w q ≡ true
below_all q w few is = let small : nat_lt q ATTENTION_SETS ≡ true = grind (arith, nat_tests) in rw (small, is) refl

pub is_after_reset : (s : Scope) (v kept left : Possibilities) → s.own < s.hosts → IsKept (view_in s v) (view_in s kept)
    → left.registrations ≡ kept.registrations → left.reservations ≡ kept.reservations → IsImage (first ATTENTION_SETS kept.pending) (λ q. bit_or q 1) (has left.pending)
    → IsAfterReset (view_in s v) (view_in s left)
is_after_reset s v kept left own is registrations reservations image = record { cover = cover; only = only }
  where
    cover : (u : UnitState) → Shows (view_in s v) u → Shows (view_in s left) (reset u)
    cover u shown = record {
      formed = well_formed-reset u shown.formed;
      hosts = shown.hosts;
      registrations = λ g there.
          let seen = shown.registrations g there in
          let had = is.all u (Registration g seen.0) shown seen.1.1 in
          (seen.0, ((there, subst (λ ws. has_at ws g seen.0 ≡ true) (sym registrations) had.1), seen.1.1));
      reservation =
          let seen = shown.reservation in
          let had = is.all u (Reservation seen.0) shown seen.1.1 in
          (seen.0, (subst (λ w. has_wide w seen.0 ≡ true) (sym reservations) had, seen.1.1));
      pending =
          let seen = shown.pending in
          let had = is.all u (Attentions seen.0) shown seen.1.1 in
          (bit_or seen.0 1, (image.all seen.0 (below_all seen.0 kept.pending seen.1.1.0 had), so_after_reset s u seen.0 shown.hosts own seen.1.1));
    }

    only : (i : Item) → IsPossible (view_in s left) i → IsLeftByReset (view_in s v) i
    only (Registration g r) got =
        let from = is.only (Registration g r) (got.0, subst (λ ws. has_at ws g r ≡ true) registrations got.1) in
        record { from = from.unit; shown = from.shown; is = from.is }
    only (Reservation x) got =
        let from = is.only (Reservation x) (subst (λ w. has_wide w x ≡ true) reservations got) in
        record { from = from.unit; shown = from.shown; is = from.is }
    only (Attentions n) got =
        let found = image.only n got in
        let from = is.only (Attentions found.0) (and_parts (nat_lt found.0 ATTENTION_SETS) (has kept.pending found.0) found.1).1 in
        record {
          from = from.unit;
          shown = from.shown;
          is = subst (λ m. IsSo s (reset from.unit) (Attentions m)) (sym found.2) (so_after_reset s from.unit found.0 from.shown.hosts own from.is);
        }

pub left_in_range : (s : Scope) (v : View) (p : Possibilities) → v.scope ≡ s → IsAfterReset v (view_in s p) → AreInRange s.hosts s.keys p
left_in_range s v p same is = record {
  registrations = λ g r small got. (let left = is.only (Registration g r) (small, got) in (subst (λ t. IsSo t (reset left.from) (Registration g r)) same left.is).1);
  reservations = λ x got. reserved x (is.only (Reservation x) got);
  pending = λ q got. (let left = is.only (Attentions q) got in left.is.0);
}
  where
    reserved : (x : ℕ) → IsLeftByReset v (Reservation x) → x < count_of_reservations s.hosts
    reserved x left =
        reservation_below s (reset left.from) x (well_formed-reset left.from left.shown.formed) (left.shown.hosts ∙ ap (λ (t : Scope). t.hosts) same)
        (subst (λ t. IsSo t (reset left.from) (Reservation x)) same left.is)

pub after_reset_same : (v w x y : View) → IsSame v w → IsSame x y → IsAfterReset v x → IsAfterReset w y
after_reset_same v w x y before after is = record {
  cover = λ u shown. shows_within x y (reset u) after.scope after.there (is.cover u (shows_within w v u (sym before.scope) before.back shown));
  only = λ i possible.
      let left = is.only i (after.back i possible) in
      record {
        from = left.from;
        shown = shows_within v w left.from before.scope before.there left.shown;
        is = subst (λ s. IsSo s (reset left.from) i) (sym before.scope) left.is;
      };
}
