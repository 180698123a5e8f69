-- Where the possibilities of each landing come from.
use Rattle.pr_domain.proofs.Common.{◌≡◌, ℕ, ◌-◌, ◌<◌, true, ◌⊎◌, ◌↔◌, List, Some, None, Option, sym, refl, ap, ◌∙◌, subst, inl, inr, same_Some, has, BitSet, Command, Reply, Plain, code_of, Attention, State, key_of, Step, UnitState, IsWellFormed, effect, is_written, Test, view_in, Scope, number_of, Item, Registration, Reservation, Attentions, IsSo, View, IsPossible, Shows, Possibilities, first_test, IsClass, IsLanding, Class, Good, Landing, Ending, Reports, Conflicts, Fails, EndsGood, Refuses, Ends, LandsBy, IsOfWay, IsRegistered, has_part}
use Rattle.std.proofs.Common.{◌^◌, bit_and}
use Rattle.pr_cdb.specs.declared.reply.Status.{Status}
use Rattle.pr_cdb.specs.declared.reply.Status.TheVariants as status
use Rattle.pr_cdb.specs.Ranges.{Fits as FitsCommand}
use Rattle.pr_attention.proofs.lemmas.Bits.{flag_of, codes_of-without_flag, without_flag-lt}
use Rattle.pr_unit.specs.Laws.{IsQuiet}
use Rattle.pr_unit.proofs.lemmas.Steps.QuietSteps.{quiet_well_formed}
use Rattle.pr_unit.proofs.lemmas.Steps.WellFormedSteps.{well_formed-step, hosts-step}
use Rattle.pr_script.specs.declared.landing.Landing.TheVariants.{Arm, NoArm}
use Rattle.pr_script.specs.declared.landing.Class.TheVariants.{Conflict, Busy, Full, Sense as WithSense}
use Rattle.pr_domain.proofs.lemmas.Reporting.Ends.{steps_or_quiet}
use Rattle.pr_domain.proofs.lemmas.Reporting.OwnerStates.{after_reported, untold_pending, IsNumbered, numbered_after}

-- ---- a reply lands in one place

-- the status of a reply of each class
abbrev status_of : Class → Status
status_of Good = status.Good
status_of Conflict = status.Conflict
status_of Busy = status.Busy
status_of Full = status.TaskFull
status_of (WithSense s) = status.CheckCondition

has_status : (r : Reply) (class : Class) → IsClass r class → r.status ≡ status_of class
has_status r (WithSense s) is = is.0
has_status r _ is = is

pub one_class : (r : Reply) (a b : Class) → IsClass r a → IsClass r b → a ≡ b
one_class r Good Good is also = refl
one_class r Conflict Conflict is also = refl
one_class r Busy Busy is also = refl
one_class r Full Full is also = refl
one_class r (WithSense s) (WithSense t) is also = ap WithSense (same_Some s t (sym is.1 ∙ also.1))
one_class r a b is also = let bad : status_of a ≡ status_of b = sym (has_status r a is) ∙ has_status r b also in cc

pub one_landing : (tests : List Test) (r : Reply) (l m : Landing) → IsLanding tests r l → IsLanding tests r m → l ≡ m
one_landing tests r (Arm a) (Arm b) is also = ap Arm (same_Some a b (sym is ∙ also))
one_landing tests r (Arm a) (NoArm class) is also = let bad : Some a ≡ None = sym is ∙ also.0 in cc
one_landing tests r (NoArm class) (Arm b) is also = let bad : None ≡ Some b = sym is.0 ∙ also in cc
one_landing tests r (NoArm a) (NoArm b) is also = ap NoArm (one_class r a b is.1 also.1)

pub lands_somewhere : (tests : List Test) (r : Reply) (class : Class) → IsClass r class → (l : Landing) × IsLanding tests r l
lands_somewhere tests r class is = at (first_test tests r) refl
  where
    at : (o : Option ℕ) → first_test tests r ≡ o → (l : Landing) × IsLanding tests r l
    at None none = (NoArm class, (none, is))
    at (Some n) some = (Arm n, some)

-- ---- what is so after the command

pub so_from_registered : (s : Scope) (u : UnitState) (j : Item) → IsRegistered s u j → IsSo s u j
so_from_registered s u (Registration g r) is = is
so_from_registered s u (Reservation x) is = is
so_from_registered s u (Attentions q) is = absurd is

pub still_registered : (s : Scope) (u w : UnitState) (j : Item) → w.registry ≡ u.registry → IsRegistered s w j → IsRegistered s u j
still_registered s u w (Registration g r) same is = (is.0, is.1, ap (λ (x : State). key_of x g) (sym same) ∙ is.2)
still_registered s u w (Reservation x) same is = is ∙ ap (λ (x : State). number_of s.hosts x.held) same
still_registered s u w (Attentions q) same is = absurd is

-- the number of what is left once it is reported
abbrev without : ℕ → Attention → ℕ
without q a = bit_and q (2 ^ 8 - 1 - flag_of a)

-- a state in which everything has its number
pub record IsSettled (s : Scope) (w : UnitState) : Type 0 where
  pub formed : IsWellFormed w
  pub hosts : w.registry.hosts ≡ s.hosts
  pub numbered : (g : ℕ) → g < s.hosts → (t : ℕ) × IsSo s w (Registration g t)
  pub pending : (n : ℕ) × IsSo s w (Attentions n)

module _ (v : View) (c : Command) (written : is_written v.scope.keys c ≡ true) (whole : FitsCommand c) (there : v.scope.own < v.scope.hosts) where
  registry_after : (ending : Ending) (u : UnitState) (r : Reply) (w : UnitState) → Ends ending c v.scope.own u r w → (w.registry ≡ u.registry) ⊎ (w ≡ effect u v.scope.own c)
  registry_after (Reports conflicting a) u r w ends = inl (ap (λ (x : UnitState). x.registry) ends.1.2)
  registry_after Conflicts u r w ends = inl (ap (λ (x : UnitState). x.registry) ends.3)
  registry_after Fails u r w ends = inl (ap (λ (x : UnitState). x.registry) ends.5)
  registry_after EndsGood u r w ends = inr ends.4
  registry_after (Refuses refused) u r w ends = inl (ap (λ (x : UnitState). x.registry) ends.1)

  pending_after : (ending : Ending) (u : UnitState) (r : Reply) (w : UnitState) (q : ℕ) → IsSo v.scope u (Attentions q) → Ends ending c v.scope.own u r w → (n : ℕ) × IsSo v.scope w (Attentions n)
  pending_after (Reports conflicting a) u r w q so ends = (
    without q a,
    subst (λ x. IsSo v.scope x (Attentions (without q a))) (sym ends.1.2)
        (after_reported v.scope u a q _ so (without_flag-lt q a so.0, sym (so.1 (code_of a)) ∙ ends.1.0, codes_of-without_flag q a)),
  )
  pending_after Conflicts u r w q so ends = (q, subst (λ x. IsSo v.scope x (Attentions q)) (sym ends.3) so)
  pending_after Fails u r w q so ends = (q, subst (λ x. IsSo v.scope x (Attentions q)) (sym ends.5) so)
  pending_after EndsGood u r w q so ends = (q, subst (λ x. IsSo v.scope x (Attentions q)) (sym ends.4) (untold_pending v.scope u c q so))
  pending_after (Refuses refused) u r w q so ends = (q, subst (λ x. IsSo v.scope x (Attentions q)) (sym ends.1) so)

  pub settled : (ending : Ending) (u : UnitState) (r : Reply) (w : UnitState) → Shows v u → Ends ending c v.scope.own u r w → IsSettled v.scope w
  settled ending u r w shown ends =
      record {
        formed = formed_after (steps_or_quiet ending u v.scope.own c r w ends);
        hosts = hosts_after (steps_or_quiet ending u v.scope.own c r w ends);
        numbered = numbered;
        pending = pending_after ending u r w shown.pending.0 shown.pending.1.1 ends;
      }
    where
      formed_after : Step u v.scope.own (Plain c) r w ⊎ IsQuiet u v.scope.own w → IsWellFormed w
      formed_after (inl step) = well_formed-step u v.scope.own (Plain c) r w shown.formed (subst (λ n. v.scope.own < n) (sym shown.hosts) there) whole step
      formed_after (inr quiet) = quiet_well_formed u w v.scope.own shown.formed quiet

      hosts_after : Step u v.scope.own (Plain c) r w ⊎ IsQuiet u v.scope.own w → w.registry.hosts ≡ v.scope.hosts
      hosts_after (inl step) = hosts-step u v.scope.own (Plain c) r w step ∙ shown.hosts
      hosts_after (inr quiet) = ap (λ (x : State). x.hosts) quiet.registry ∙ shown.hosts

      numbered : (g : ℕ) → g < v.scope.hosts → (t : ℕ) × IsSo v.scope w (Registration g t)
      numbered g small = at (registry_after ending u r w ends)
        where
          before : IsNumbered v.scope.keys (key_of u.registry g)
          before = let t = shown.registrations g small in (t.0, t.1.1.1, t.1.1.2)

          at : (w.registry ≡ u.registry) ⊎ (w ≡ effect u v.scope.own c) → (t : ℕ) × IsSo v.scope w (Registration g t)
          at (inl same) = (before.0, (small, before.1, ap (λ (x : State). key_of x g) same ∙ before.2))
          at (inr is) =
              let new = numbered_after v.scope.keys u.registry v.scope.own c g written before in
              (new.0, (small, new.1, ap (λ (x : UnitState). key_of x.registry g) is ∙ new.2))

-- ---- one way to end

-- the possibilities are what the shown states leave, of registrations and reservation
pub record IsWay (v : View) (Left : UnitState → Item → Type 0) (p : Possibilities) : Type 0 where
  pub all : (u : UnitState) (j : Item) → Shows v u → Left u j → has_part p j ≡ true
  pub only : (j : Item) (q : ℕ) → has_part p j ≡ true → v.pending q ≡ true → (u : UnitState) × Shows v u × Left u j × IsSo v.scope u (Attentions q)

-- from a state with these attentions in which this is left, the command ends so, with this landing and these
-- attentions
pub record Leads (v : View) (c : Command) (tests : List Test) (ending : Ending) (l : Landing) (u : UnitState) (j : Item) (n : ℕ) : Type 0 where
  pub reply : Reply
  pub after : UnitState
  pub ends : Ends ending c v.scope.own u reply after
  pub landing : IsLanding tests reply l
  pub is : IsSo v.scope after j
  pub left : IsSo v.scope after (Attentions n)

-- each possibility is left, and nothing else is
pub record IsTold (v : View) (c : Command) (tests : List Test) (ending : Ending) (l : Landing) (Left : UnitState → Item → Type 0) (pending : BitSet) : Type 0 where
  pub forth : (u : UnitState) (r : Reply) (w : UnitState) (j : Item) → Shows v u → Ends ending c v.scope.own u r w → IsLanding tests r l → IsRegistered v.scope w j → Left u j
  pub pends : (u : UnitState) (r : Reply) (w : UnitState) (q n : ℕ) → Ends ending c v.scope.own u r w → v.pending q ≡ true → IsSo v.scope u (Attentions q) → IsSo v.scope w (Attentions n) → has pending n ≡ true
  pub back : (n : ℕ) → has pending n ≡ true
      → (q : ℕ) × (v.pending q ≡ true) × ((u : UnitState) (j : Item) → Shows v u → Left u j → IsSo v.scope u (Attentions q) → Leads v c tests ending l u j n)

module _ (v : View) (c : Command) (tests : List Test) (ending : Ending) (l : Landing) (Left : UnitState → Item → Type 0) (p : Possibilities) (pending : BitSet)
    (way : IsWay v Left p) (told : IsTold v c tests ending l Left pending) where
  from_part : (j : Item) (n : ℕ) → has_part p j ≡ true → has pending n ≡ true → (u : UnitState) × Shows v u × Leads v c tests ending l u j n
  from_part j n has left =
      let q = told.back n left in
      let found = way.only j q.0 has q.1 in
      (found.0, found.1, q.2 found.0 j found.1 found.2 found.3)

  lands : (u : UnitState) (j i : Item) (n : ℕ) → Shows v u → (x : Leads v c tests ending l u j n) → IsSo v.scope x.after i → LandsBy v c tests ending l i
  lands u j i n shown x so = record { from = u; shown = shown; reply = x.reply; after = x.after; ends = x.ends; landing = x.landing; is = so }

  lands_by : (i : Item) → IsOfWay v.scope p pending i → LandsBy v c tests ending l i
  lands_by (Registration g r) is =
      let x = from_part (Registration g r) is.pends.0 is.possible.1 is.pends.1 in lands x.0 (Registration g r) (Registration g r) is.pends.0 x.1 x.2 x.2.is
  lands_by (Reservation x) is =
      let y = from_part (Reservation x) is.pends.0 is.possible is.pends.1 in lands y.0 (Reservation x) (Reservation x) is.pends.0 y.1 y.2 y.2.is
  lands_by (Attentions n) is =
      let y = from_part (Reservation is.reserved.0) n is.reserved.1 is.possible in lands y.0 (Reservation is.reserved.0) (Attentions n) n y.1 y.2 y.2.left

  module _ (written : is_written v.scope.keys c ≡ true) (whole : FitsCommand c) (there : v.scope.own < v.scope.hosts) where
    of_way : (i : Item) → LandsBy v c tests ending l i → IsOfWay v.scope p pending i
    of_way i by = record {
      reserved = (number_of v.scope.hosts by.after.registry.held, part (Reservation (number_of v.scope.hosts by.after.registry.held)) refl);
      pends = let n = (settled v c written whole there ending by.from by.reply by.after by.shown by.ends).pending in (n.0, left n.0 n.1);
      possible = possible i by.is;
    }
      where
        part : (j : Item) → IsRegistered v.scope by.after j → has_part p j ≡ true
        part j is = way.all by.from j by.shown (told.forth by.from by.reply by.after j by.shown by.ends by.landing is)

        left : (n : ℕ) → IsSo v.scope by.after (Attentions n) → has pending n ≡ true
        left n so = told.pends by.from by.reply by.after by.shown.pending.0 n by.ends by.shown.pending.1.0 by.shown.pending.1.1 so

        possible : (i : Item) → IsSo v.scope by.after i → IsPossible (view_in v.scope (record p { pending = pending })) i
        possible (Registration g r) so = (so.0, part (Registration g r) so)
        possible (Reservation x) so = part (Reservation x) so
        possible (Attentions n) so = left n so

    pub way_lands : (m : Landing) (i : Item) → ((m ≡ l) × IsOfWay v.scope p pending i) ↔ ((m ≡ l) × LandsBy v c tests ending m i)
    way_lands m i = (
      λ is. (is.0, subst (λ k. LandsBy v c tests ending k i) (sym is.0) (lands_by i is.1)),
      λ by. (by.0, of_way i (subst (λ k. LandsBy v c tests ending k i) by.0 by.1)),
    )
