-- Where less is pending for the sender in a state than a step leaves, the same step leads there from a state with less.
use Rattle.pr_unit.proofs.Common.{◌≡◌, ℕ, Bool, true, false, not, ◌&&◌, ◌||◌, List, ◌==◌, Some, None, Option, sym, refl, ap, ◌∙◌, subst, false≢true, and_parts, Command, Reply, Sense, Request, Plain, Faulty, power_on, Pairs, Step, UnitState, is_pending, is_any_pending, IsWellFormed, effect, after_report, conflicts, fault, ◌⊎◌, inl, inr}
use Rattle.std.proofs.Common.{ne_eqb, eqb-true, eq-eqb, ◌≢◌}
use Rattle.std.proofs.lemmas.Bool.{false_from_ne_true, or_cases}
use Rattle.std.proofs.lemmas.Bool.Decides.{eqb_tells}
use Rattle.std.proofs.lemmas.List.Folds.{Any-from_list_any, list_any-from_Any}
use Rattle.std.specs.FinSet as set
use Rattle.std.specs.List.{list_any}
use Rattle.pr_unit.specs.Attentions.{attentions}
use Rattle.pr_unit.specs.Replies.{report}
use Rattle.pr_unit.specs.Steps.{IsDone}
use Rattle.pr_unit.specs.Laws.{IsQuiet}
use Rattle.pr_unit.specs.SharedPaths.{IsFromLess}
use Rattle.pr_unit.proofs.lemmas.Attentions.Pairs.{contains-remove-pair, contains-insert-pair, same_pairs}
use Rattle.pr_unit.proofs.lemmas.Steps.QuietSteps.{same-quiet, reported-quiet, reported-gone}
use Rattle.pr_unit.proofs.lemmas.UnitStates.Effects.{own_pending}

-- one of the list has it
pub one_of : (p : ℕ → Bool) (code : ℕ) (xs : List ℕ) → list_any (λ a. code == a) xs ≡ true → p code ≡ true → list_any p xs ≡ true
one_of p code xs there is =
    let found = Any-from_list_any (λ a. code == a) xs there in
    list_any-from_Any p xs (found.0, found.1, found.2, found.3, ap p (sym (eqb-true code found.1 found.4)) ∙ is)

-- ---- one attention more: the state in which it was not reported yet

unreported : UnitState → ℕ → ℕ → UnitState
unreported w h code = record { registry = w.registry; pending = set.insert w.pending (h, code) }

module _ (w : UnitState) (h code : ℕ) (gone : is_pending w h code ≡ false) where
  cancels : (b c : Bool) → (b ≡ true → c ≡ false) → (not b && (b || c)) ≡ c
  cancels true c none = sym (none refl)
  cancels false c none = refl

  not_here : (p : ℕ × ℕ) → (p.0 == h && p.1 == code) ≡ true → set.contains w.pending p ≡ false
  not_here p is =
      let parts = and_parts (p.0 == h) (p.1 == code) is in
      let host : p.0 ≡ h = eqb-true p.0 h parts.0 in
      let same : p.1 ≡ code = eqb-true p.1 code parts.1 in
      ap (λ (q : ℕ × ℕ). set.contains w.pending q) (λ i. (host i, same i)) ∙ gone

  back : after_report (unreported w h code) h code ≡ w
  unfolding unreported
  back = ap (λ (p : Pairs). record w { pending = p }) (same_pairs _ _ at)
    where
      at : (p : ℕ × ℕ) → set.contains (set.remove (set.insert w.pending (h, code)) (h, code)) p ≡ set.contains w.pending p
      at p = contains-remove-pair (set.insert w.pending (h, code)) (h, code) p
          ∙ ap (λ b. not (p.0 == h && p.1 == code) && b) (contains-insert-pair w.pending (h, code) p)
          ∙ cancels (p.0 == h && p.1 == code) (set.contains w.pending p) (not_here p)

now_pending : (w : UnitState) (h code : ℕ) → is_pending (unreported w h code) h code ≡ true
unfolding unreported
now_pending w h code = contains-insert-pair w.pending (h, code) (h, code) ∙ (λ i. (eq-eqb h h refl i && eq-eqb code code refl i) || set.contains w.pending (h, code))

unreported-quiet : (u w : UnitState) (h code : ℕ) → is_pending u h code ≡ true → IsQuiet (after_report u h code) h w → IsQuiet u h (unreported w h code)
unfolding unreported
unreported-quiet u w h code here less = record {
  registry = less.registry;
  others = λ other x differs. contains-insert-pair w.pending (h, code) (other, x)
      ∙ ap (λ b. (b && x == code) || set.contains w.pending (other, x)) (ne_eqb other h differs)
      ∙ less.others other x differs ∙ (reported-quiet u h code).others other x differs;
  own = λ x is. at x (or_cases (h == h && x == code) (set.contains w.pending (h, x)) (sym (contains-insert-pair w.pending (h, code) (h, x)) ∙ is));
}
  where
    at : (x : ℕ) → ((h == h && x == code) ≡ true) ⊎ (set.contains w.pending (h, x) ≡ true) → is_pending u h x ≡ true
    at x (inl same) = ap (is_pending u h) (eqb-true x code (and_parts (h == h) (x == code) same).1) ∙ here
    at x (inr left) = (reported-quiet u h code).own x (less.own x left)

gone_reported : (u w : UnitState) (h code : ℕ) → IsQuiet (after_report u h code) h w → is_pending w h code ≡ false
gone_reported u w h code less = false_from_ne_true (is_pending w h code) (λ is. false≢true (sym (reported-gone u h code) ∙ less.own code is))

-- ---- by what decides

-- nothing at all is pending for it
pub quiet_all : (u : UnitState) (h : ℕ) → IsWellFormed u → is_any_pending u h ≡ false → (code : ℕ) → is_pending u h code ≡ false
quiet_all u h formed none code = false_from_ne_true (is_pending u h code) (λ is. false≢true (sym none ∙ one_of (is_pending u h) code attentions (formed.pending h code is).1 is))

-- so that nothing can be gone
pub same_state : (v w : UnitState) (h : ℕ) → ((code : ℕ) → is_pending v h code ≡ false) → IsQuiet v h w → w ≡ v
same_state v w h none less = λ i. record { registry = less.registry i; pending = same i }
  where
    own : (code : ℕ) → is_pending w h code ≡ false
    own code = false_from_ne_true (is_pending w h code) (λ is. false≢true (sym (none code) ∙ less.own code is))

    at : (g code : ℕ) → (((g == h) ≡ true) × (g ≡ h)) ⊎ (((g == h) ≡ false) × (g ≢ h)) → is_pending w g code ≡ is_pending v g code
    at g code (inl same) = ap (λ k. is_pending w k code) same.1 ∙ own code ∙ sym (none code) ∙ ap (λ k. is_pending v k code) (sym same.1)
    at g code (inr other) = less.others g code other.1

    same : w.pending ≡ v.pending
    same = same_pairs w.pending v.pending (λ p. at p.0 p.1 (eqb_tells p.0 h))

reports_power_on : (u w : UnitState) (h : ℕ) (q : Request) (r : Reply) → is_pending u h power_on ≡ true → r ≡ report q power_on → IsQuiet (after_report u h power_on) h w → IsFromLess (λ x y. Step x h q r y) u h w
reports_power_on u w h q r here reply less = record {
  from = unreported w h power_on;
  less = unreported-quiet u w h power_on here less;
  answer = let is = now_pending w h power_on in rw is (reply, sym (back w h power_on (gone_reported u w h power_on less)));
}

reports_other : (u w : UnitState) (h : ℕ) (q : Request) (r : Reply) (code : ℕ) → IsWellFormed u → is_pending u h power_on ≡ false → conflicts u.registry h q ≡ false → is_pending u h code ≡ true → r ≡ report q code
    → IsQuiet (after_report u h code) h w → IsFromLess (λ x y. Step x h q r y) u h w
reports_other u w h q r code formed calm free here reply less = record {
  from = unreported w h code;
  less = eased;
  answer = let p = no_power_on in let c = no_conflict in let a = any in rw (a, c, p) (record { code = code; pending = now_pending w h code; reply = reply; after = sym (back w h code (gone_reported u w h code less)) });
}
  where
    eased : IsQuiet u h (unreported w h code)
    eased = unreported-quiet u w h code here less

    no_power_on : is_pending (unreported w h code) h power_on ≡ false
    no_power_on = false_from_ne_true _ (λ is. false≢true (sym calm ∙ eased.own power_on is))

    no_conflict : conflicts (unreported w h code).registry h q ≡ false
    no_conflict = ap (λ g. conflicts g h q) eased.registry ∙ free

    any : is_any_pending (unreported w h code) h ≡ true
    any = one_of (is_pending (unreported w h code) h) code attentions (formed.pending h code here).1 (now_pending w h code)

conflicts_still : (u w : UnitState) (h : ℕ) (q : Request) (r : Reply) → is_pending u h power_on ≡ false → conflicts u.registry h q ≡ true → IsQuiet u h w → Step u h q r u → IsFromLess (λ x y. Step x h q r y) u h w
conflicts_still u w h q r calm kept less step = record { from = w; less = less; answer = again }
  where
    no_power_on : is_pending w h power_on ≡ false
    no_power_on = false_from_ne_true _ (λ is. false≢true (sym calm ∙ less.own power_on is))

    conflict_there : conflicts w.registry h q ≡ true
    conflict_there = ap (λ g. conflicts g h q) less.registry ∙ kept

    again : Step w h q r w
    again = let s = rw (kept, calm) at step in let c = conflict_there in let p = no_power_on in rw (c, p) (s.0, refl)

-- where nothing is pending nothing can be gone
nothing_gone : (u v w : UnitState) (h : ℕ) (q : Request) (r : Reply) → ((code : ℕ) → is_pending v h code ≡ false) → Step u h q r v → IsQuiet v h w → IsFromLess (λ x y. Step x h q r y) u h w
nothing_gone u v w h q r none step less = record { from = u; less = same-quiet u h; answer = subst (Step u h q r) (sym (same_state v w h none less)) step }

made_by : (u v : UnitState) (h : ℕ) (q : Request) (r : Reply) → IsDone u h q r v → (c : Command) × (v ≡ effect u h c)
made_by u v h (Plain c) r s = (c, s.1)
made_by u v h (Faulty sense) r s = absurd s

-- where less is pending in a state after a step than the step leaves, less was pending before it
pub eased_steps : (u : UnitState) (h : ℕ) (q : Request) (r : Reply) (v w : UnitState) → IsWellFormed u → Step u h q r v → IsQuiet v h w → IsFromLess (λ x y. Step x h q r y) u h w
eased_steps u h q r v w formed step less = at (is_pending u h power_on) (conflicts u.registry h q) (is_any_pending u h) (fault u.registry h q) refl refl refl refl
  where
    done : (q : Request) → is_any_pending u h ≡ false → Step u h q r v → (v ≡ u) ⊎ ((c : Command) × (v ≡ effect u h c)) → IsFromLess (λ x y. Step x h q r y) u h w
    done q any step (inl same) = nothing_gone u v w h q r (λ code. ap (λ x. is_pending x h code) same ∙ quiet_all u h formed any code) step less
    done q any step (inr made) = nothing_gone u v w h q r (λ code. ap (λ x. is_pending x h code) made.1 ∙ own_pending u h made.0 code ∙ quiet_all u h formed any code) step less

    at : (p c a : Bool) (f : Option Sense) → is_pending u h power_on ≡ p → conflicts u.registry h q ≡ c → is_any_pending u h ≡ a → fault u.registry h q ≡ f → IsFromLess (λ x y. Step x h q r y) u h w
    at true c a f p_is c_is a_is f_is = let s = rw p_is at step in (reports_power_on u w h q r p_is s.0 (subst (λ x. IsQuiet x h w) s.1 less))
    at false true a f p_is c_is a_is f_is =
        let s = rw (p_is, c_is) at step in
        (conflicts_still u w h q r p_is c_is (subst (λ x. IsQuiet x h w) s.1 less) (subst (Step u h q r) s.1 step))
    at false false true f p_is c_is a_is f_is =
        let s = rw (a_is, c_is, p_is) at step in
        (reports_other u w h q r s.code formed p_is c_is s.pending s.reply (subst (λ x. IsQuiet x h w) s.after less))
    at false false false (Some sense) p_is c_is a_is f_is = let s = rw (a_is, f_is, c_is, p_is) at step in (done q a_is step (inl s.1))
    at false false false None p_is c_is a_is f_is = let s = rw (a_is, f_is, c_is, p_is) at step in (done q a_is step (inr (made_by u v h q r s)))
