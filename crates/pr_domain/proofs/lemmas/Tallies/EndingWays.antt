-- What is added for each way in which a command can end.
use Rattle.pr_domain.proofs.Common.{◌≡◌, ℕ, Bool, true, zero, suc, ◌+◌, ◌-◌, ◌<◌, ◌≤◌, false, ◌||◌, ◌↔◌, List, length, slice_get, Some, sym, refl, ap, ◌∙◌, subst, arith, lit<, has_wide, BitSet, Command, Reply, Sense, Plain, power_on, code_of, Attention, PowerOn, command_conflicts, command_fault, good, check, conflict, report, UnitState, is_pending, matches, Test, has_at, Item, Registration, Reservation, Attentions, View, Possibilities, IsClass, IsLanding, Good, Landing, Unserved, AreReported, AreMore, Ending, Reports, Conflicts, Fails, EndsGood, Refuses, refusal, Ends, landing_at, LandsBy, LandsGood, view_of_sending, IsOfWayAt, LandsOf, IsRegistered, has_part, Leaves, ATTENTION_SETS, MOST_ARMS, scope_of_sending, MayReport, way_for}
use Rattle.std.proofs.lemmas.List.Quantifiers.{position-Some}
use Rattle.pr_script.specs.declared.script.Test.TheVariants as test
use Rattle.pr_script.specs.declared.landing.Landing.TheVariants.{Arm, NoArm}
use Rattle.pr_domain.specs.declared.reporting.Sending.{Sending}
use Rattle.pr_domain.specs.inside.Reporting.{AreCalm, AreQuiet, IsLater}
use Rattle.pr_domain.specs.inside.Sendings.{IsTallied}
use Rattle.pr_domain.proofs.lemmas.Reporting.OutcomeLists.{more_by}
use Rattle.pr_domain.proofs.lemmas.Tallies.Origins.{one_class, one_landing, IsWay, IsTold, way_lands}
use Rattle.pr_domain.proofs.lemmas.Tallies.Possibilities.{way_of_tally, either_way, told_power_on, told_later, told_conflict, told_refusal, told_fault, told_good}

-- ---- one way

-- what is of the way to end and lands here is this
abbrev pub IsAddedBy : Sending → (Landing → Item → Type 0) → Landing → Possibilities → BitSet → Type 0
IsAddedBy q This l p pending =
    (old new : List (Landing × Possibilities)) → AreMore (scope_of_sending q) old (IsOfWayAt q l p pending) new → AreMore (scope_of_sending q) old This new

module _ (q : Sending) (tally : IsTallied q) where
  by_reply : (ending : Ending) (l : Landing) (Left : UnitState → Item → Type 0) (p : Possibilities) (pending : BitSet) → IsWay (view_of_sending q) Left p → IsTold (view_of_sending q) q.asked.command q.asked.tests.now ending l Left pending
      → ((u : UnitState) (r : Reply) (w : UnitState) → Ends ending q.asked.command q.sender u r w → IsLanding q.asked.tests.now r l)
      → IsAddedBy q (LandsOf q ending) l p pending
  by_reply ending l Left p pending way told landing old new =
      more_by (scope_of_sending q) old new (IsOfWayAt q l p pending) (LandsOf q ending) (λ m i.
      let both = way_lands (view_of_sending q) q.asked.command q.asked.tests.now ending l Left p pending way told q.asked.written q.asked.whole q.there m i in
      (λ is. (both.0 is).1, λ by. both.1 (one_landing q.asked.tests.now by.reply m l by.landing (landing by.from by.reply by.after by.ends), by)))

  pub adds_power_on : (l : Landing) (p free either : Possibilities) (left : BitSet) → slice_get q.tally.now.ways 0 ≡ Some p → slice_get q.tally.now.ways 1 ≡ Some free
      → ((j : Item) → has_part either j ≡ (has_part p j || has_part free j)) → AreReported ATTENTION_SETS q.known.pending PowerOn left → IsLanding q.asked.tests.now (report (Plain q.asked.command) power_on) l
      → IsAddedBy q (LandsOf q (Reports false PowerOn)) l either left
  adds_power_on l p free either left first second is are landing =
      by_reply (Reports false PowerOn) l (IsRegistered (scope_of_sending q)) either left
      (either_way (view_of_sending q) q.asked.command q.asked.tests.now q.tally.now p free either tally first second is)
      (told_power_on (scope_of_sending q) q.known q.asked.command q.asked.tests.now l left are landing)
      (λ u r w ends. subst (λ x. IsLanding q.asked.tests.now x l) (sym ends.1.1) landing)

  pub adds_refusal : (refused : Unserved) (l : Landing) (p free either : Possibilities) → slice_get q.tally.now.ways 0 ≡ Some p → slice_get q.tally.now.ways 1 ≡ Some free
      → ((j : Item) → has_part either j ≡ (has_part p j || has_part free j)) → IsLanding q.asked.tests.now (refusal refused) l
      → IsAddedBy q (LandsOf q (Refuses refused)) l either q.known.pending
  adds_refusal refused l p free either first second is landing =
      by_reply (Refuses refused) l (IsRegistered (scope_of_sending q)) either q.known.pending
      (either_way (view_of_sending q) q.asked.command q.asked.tests.now q.tally.now p free either tally first second is)
      (told_refusal (scope_of_sending q) q.known q.asked.command q.asked.tests.now l refused landing)
      (λ u r w ends. subst (λ x. IsLanding q.asked.tests.now x l) (sym ends.0) landing)

  may : (conflicting : Bool) (a : Attention) → IsLater a → (u : UnitState)
      → MayReport q.asked.command q.sender u conflicting a ↔ ((is_pending u q.sender power_on ≡ false) × (command_conflicts u.registry q.sender q.asked.command ≡ conflicting))
  may conflicting a later u = (λ may_report. may_report later, λ both _. both)

  left_by : (conflicting : Bool) (u : UnitState) (j : Item)
      → Leaves (scope_of_sending q) q.asked.command q.asked.tests.now (way_for conflicting) u j ↔ ((command_conflicts u.registry q.sender q.asked.command ≡ conflicting) × IsRegistered (scope_of_sending q) u j)
  left_by true u j = (λ is. is, λ is. is)
  left_by false u j = (λ is. is, λ is. is)

  pub adds_report : (conflicting : Bool) (a : Attention) (l : Landing) (p : Possibilities) (calm left : BitSet) → IsLater a → slice_get q.tally.now.ways (way_for conflicting) ≡ Some p → AreCalm q.known calm → AreReported ATTENTION_SETS calm a left
      → IsLanding q.asked.tests.now (report (Plain q.asked.command) (code_of a)) l → IsAddedBy q (LandsOf q (Reports conflicting a)) l p left
  adds_report conflicting a l p calm left later there calms are landing =
      by_reply (Reports conflicting a) l (Leaves (scope_of_sending q) q.asked.command q.asked.tests.now (way_for conflicting)) p left
      (way_of_tally (view_of_sending q) q.asked.command q.asked.tests.now q.tally.now (way_for conflicting) p tally there)
      (told_later (scope_of_sending q) q.known q.asked.command q.asked.tests.now l conflicting a _ calm left (may conflicting a later) (left_by conflicting) calms are landing)
      (λ u r w ends. subst (λ x. IsLanding q.asked.tests.now x l) (sym ends.1.1) landing)

  pub adds_conflict : (l : Landing) (p : Possibilities) (calm : BitSet) → slice_get q.tally.now.ways 0 ≡ Some p → AreCalm q.known calm → IsLanding q.asked.tests.now conflict l
      → IsAddedBy q (LandsOf q Conflicts) l p calm
  adds_conflict l p calm first calms landing =
      by_reply Conflicts l (Leaves (scope_of_sending q) q.asked.command q.asked.tests.now 0) p calm
      (way_of_tally (view_of_sending q) q.asked.command q.asked.tests.now q.tally.now 0 p tally first)
      (told_conflict (scope_of_sending q) q.known q.asked.command q.asked.tests.now l calm calms landing)
      (λ u r w ends. subst (λ x. IsLanding q.asked.tests.now x l) (sym ends.2) landing)

  pub adds_fault : (l : Landing) (p : Possibilities) (quiet : BitSet) (sense : Sense) → slice_get q.tally.now.ways 2 ≡ Some p → AreQuiet q.known quiet
      → ((u : UnitState) (x : Sense) → command_fault u.registry q.sender q.asked.command ≡ Some x → x ≡ sense) → IsLanding q.asked.tests.now (check sense) l
      → IsAddedBy q (LandsOf q Fails) l p quiet
  adds_fault l p quiet sense third quiets fixed landing =
      by_reply Fails l (Leaves (scope_of_sending q) q.asked.command q.asked.tests.now 2) p quiet
      (way_of_tally (view_of_sending q) q.asked.command q.asked.tests.now q.tally.now 2 p tally third)
      (told_fault (scope_of_sending q) q.known q.asked.command q.asked.tests.now l quiet sense quiets fixed landing)
      (λ u r w ends. subst (λ x. IsLanding q.asked.tests.now x l) (sym (ends.4 ∙ ap check (fixed u ends.2 ends.3))) landing)

  pub adds_good : (l : Landing) (p : Possibilities) (quiet : BitSet) (arm : ℕ) → slice_get q.tally.now.ways (suc (suc (suc arm))) ≡ Some p → AreQuiet q.known quiet → l ≡ landing_at arm
      → IsAddedBy q (LandsGood (view_of_sending q) q.asked.command q.asked.tests.now arm) l p quiet
  adds_good l p quiet arm there quiets is_landing =
      let v = view_of_sending q in
      let Left = Leaves (scope_of_sending q) q.asked.command q.asked.tests.now (suc (suc (suc arm))) in
      let way = way_of_tally v q.asked.command q.asked.tests.now q.tally.now (suc (suc (suc arm))) p tally there in
      let told = told_good (scope_of_sending q) q.known q.asked.command q.asked.tests.now l quiet arm quiets is_landing in
      λ old new.
      more_by (scope_of_sending q) old new (IsOfWayAt q l p quiet) (LandsGood v q.asked.command q.asked.tests.now arm) (λ m i.
      let both = way_lands v q.asked.command q.asked.tests.now EndsGood l Left p quiet way told q.asked.written q.asked.whole q.there m i in
      (λ is. let so = both.0 is in (so.0 ∙ is_landing, so.1), λ is. both.1 (is.0 ∙ sym is_landing, is.1)))

-- ---- what the code reads

pub part_joined : (p free either : Possibilities) → ((g r : ℕ) → has_at either.registrations g r ≡ (has_at p.registrations g r || has_at free.registrations g r))
    → ((x : ℕ) → has_wide either.reservations x ≡ (has_wide p.reservations x || has_wide free.reservations x)) → (j : Item) → has_part either j ≡ (has_part p j || has_part free j)
part_joined p free either registrations reservations (Registration g r) = registrations g r
part_joined p free either registrations reservations (Reservation x) = reservations x
part_joined p free either registrations reservations (Attentions q) = refl

pub at_arm : (n : ℕ) → (n ≡ 0 → ⊥) → Arm (n - 1) ≡ landing_at n
at_arm zero some = absurd (some refl)
at_arm (suc n) some = ap Arm (omega arith)

-- ---- GOOD with the data taken by each arm

arm_of_landing : (tests : List Test) (r : Reply) (l : Landing) → length tests ≤ MOST_ARMS → IsClass r Good → IsLanding tests r l → (arm : ℕ) × (arm < MOST_ARMS + 1) × (l ≡ landing_at arm)
arm_of_landing tests r (Arm n) few good is =
    let small = (position-Some (λ t. matches t r) tests n test.Good is).0 in
    (suc n, omega arith, refl)
arm_of_landing tests r (NoArm class) few good is = (0, lit< tt, ap NoArm (one_class r class Good is.1 good))

pub good_all : (v : View) (c : Command) (tests : List Test) (bound : ℕ) → length tests ≤ MOST_ARMS → MOST_ARMS < bound → (l : Landing) (i : Item) → ((arm : ℕ) × (arm < bound) × LandsGood v c tests arm l i) ↔ LandsBy v c tests EndsGood l i
good_all v c tests bound few all l i = (
  λ lands. lands.2.1,
  λ by.
      let arm = arm_of_landing tests by.reply l few (ap (λ (r : Reply). r.status) by.ends.3) by.landing in
      (arm.0, (let small = arm.1 in omega arith), (arm.2, by)),
)
