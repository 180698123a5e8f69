-- What does not end GOOD, and what only looks, changes at most what is pending for the sender.
use Rattle.pr_unit.proofs.Common.{◌≡◌, ℕ, ◌<◌, true, false, not, ◌&&◌, IsTrue, ◌==◌, sym, refl, ap, ◌∙◌, subst, false≢true, and_parts, Command, Request, Plain, Faulty, power_on, Pairs, decision, StepBy, UnitState, is_pending, IsWellFormed, effect, after_report, Decision, PowerOn, Attention, Done, ◌⊎◌, inl, inr, no_change, pending_after}
use Rattle.std.proofs.Common.{◌≢◌, ne_eqb, eq-eqb}
use Rattle.std.proofs.lemmas.Bool.Decides.{eqb_tells}
use Rattle.std.specs.FinSet as set
use Rattle.pr_cdb.specs.declared.command.Command.TheVariants.{TestUnitReady, RequestSense, Read, Write, ReadKeys, ReadReservation, ReportCapabilities}
use Rattle.pr_registry.specs.Registrations.{State, IsWellFormed as IsWellFormedRegistry}
use Rattle.pr_unit.specs.Replies.{is_good}
use Rattle.pr_unit.specs.Laws.{IsQuiet, request_looks, QuietSteps}
use Rattle.pr_unit.proofs.lemmas.Attentions.Pairs.{contains-remove-pair}
use Rattle.pr_unit.proofs.lemmas.Attentions.ToldAttentions.{told-no_change}

-- the same state is quiet
pub same-quiet : (u : UnitState) (h : ℕ) → IsQuiet u h u
same-quiet u h = record { registry = refl; others = λ other code differs. refl; own = λ code is. is }

-- one attention less
pub reported-quiet : (u : UnitState) (h code : ℕ) → IsQuiet u h (after_report u h code)
reported-quiet u h code = record {
  registry = refl;
  others = λ other x differs. contains-remove-pair u.pending (h, code) (other, x)
      ∙ ap (λ b. not (b && x == code) && set.contains u.pending (other, x)) (ne_eqb other h differs);
  own = λ x is. (and_parts (not (h == h && x == code)) (set.contains u.pending (h, x)) (sym (contains-remove-pair u.pending (h, code) (h, x)) ∙ is)).1;
}

pub reported-gone : (u : UnitState) (h code : ℕ) → is_pending (after_report u h code) h code ≡ false
reported-gone u h code = contains-remove-pair u.pending (h, code) (h, code) ∙ (λ i. not (eq-eqb h h refl i && eq-eqb code code refl i) && set.contains u.pending (h, code))

-- nobody is told of anything
unchanged : (u : UnitState) → record u { pending = pending_after u.pending no_change } ≡ u
unchanged u = ap (λ (p : Pairs). record u { pending = p }) (told-no_change u.pending)

-- the effect of a command that only looks
pub effect-looking : (u : UnitState) (h : ℕ) (c : Command) → IsTrue (request_looks (Plain c)) → effect u h c ≡ u
effect-looking u h TestUnitReady looks = unchanged u
effect-looking u h RequestSense looks = unchanged u
effect-looking u h (Read lba blocks) looks = unchanged u
effect-looking u h (Write lba blocks) looks = unchanged u
effect-looking u h (ReadKeys alloc) looks = unchanged u
effect-looking u h (ReadReservation alloc) looks = unchanged u
effect-looking u h (ReportCapabilities alloc) looks = unchanged u
effect-looking u h _ looks = absurd (false≢true looks)

pub quiet_steps : QuietSteps
quiet_steps u h q r v step why = by_decision (decision u h q) step
  where
    to : (w : UnitState) → v ≡ w → IsQuiet u h w → IsQuiet u h v
    to w is quiet = subst (IsQuiet u h) (sym is) quiet

    -- what ends GOOD only looks
    looking : (q : Request) → StepBy Done u h q r v → (is_good r ≡ false) ⊎ IsTrue (request_looks q) → IsQuiet u h v
    looking (Faulty sense) step why = absurd step
    looking (Plain c) step (inl bad) = absurd (false≢true (sym bad ∙ ap is_good step.0))
    looking (Plain c) step (inr looks) = to u (step.1 ∙ effect-looking u h c looks) (same-quiet u h)

    by_decision : (l : Decision) → StepBy l u h q r v → IsQuiet u h v
    by_decision PowerOn step = to (after_report u h power_on) step.1 (reported-quiet u h power_on)
    by_decision Attention step = to (after_report u h step.code) step.after (reported-quiet u h step.code)
    by_decision Done step = looking q step why
    by_decision _ step = to u step.1 (same-quiet u h)

-- ---- well formed states

-- what is pending in a state with less is pending in the other
pub less_pending : (u w : UnitState) (h : ℕ) → IsQuiet u h w → (g code : ℕ) → is_pending w g code ≡ true → is_pending u g code ≡ true
less_pending u w h less g code is = at (eqb_tells g h)
  where
    at : (((g == h) ≡ true) × (g ≡ h)) ⊎ (((g == h) ≡ false) × (g ≢ h)) → is_pending u g code ≡ true
    at (inl same) = ap (λ k. is_pending u k code) same.1 ∙ less.own code (ap (λ k. is_pending w k code) (sym same.1) ∙ is)
    at (inr other) = sym (less.others g code other.1) ∙ is

pub quiet_well_formed : (u w : UnitState) (h : ℕ) → IsWellFormed u → IsQuiet u h w → IsWellFormed w
quiet_well_formed u w h formed less = record {
  registry = subst IsWellFormedRegistry (sym less.registry) formed.registry;
  pending = λ g code is.
      let x = formed.pending g code (less_pending u w h less g code is) in
      (subst (λ (k : State). g < k.hosts) (sym less.registry) x.0, x.1);
}

-- less of less is less
pub less_of_less : (u v w : UnitState) (h : ℕ) → IsQuiet u h v → IsQuiet v h w → IsQuiet u h w
less_of_less u v w h a b = record {
  registry = b.registry ∙ a.registry;
  others = λ g code differs. b.others g code differs ∙ a.others g code differs;
  own = λ code is. a.own code (b.own code is);
}
