-- States that differ in what is pending for one nexus alone: views of the others show them alike.
use Rattle.pr_interference.proofs.Common.{◌≡◌, ℕ, false, not, ◌&&◌, ◌≢◌, ◌==◌, sym, refl, ap, ◌∙◌, Command, State, UnitState, effect, Registration, Reservation, Attentions, View, Shows, IsLike, so_like}
use Rattle.std.specs.FinSet as set
use Rattle.std.specs.List.{list_any}
use Rattle.std.proofs.lemmas.Bool.{and_parts, eq-eqb, ne_eqb}
use Rattle.std.proofs.Math.Bool.{and-false, and-true}
use Rattle.pr_attention.specs.Attentions.{attentions}
use Rattle.pr_unit.proofs.lemmas.Attentions.ToldAttentions.{told_alike}
use Rattle.pr_unit.specs.UnitStates.{registry_after, change, IsWellFormed, is_any_pending, pending_after}
use Rattle.pr_unit.specs.SharedPaths.{silenced}
use Rattle.pr_unit.proofs.lemmas.Steps.QuietSteps.{quiet_well_formed}
use Rattle.pr_unit.proofs.lemmas.Steps.SharedSteps.{silenced-quiet, none_silenced as nothing_silenced}
use Rattle.pr_unit.specs.Laws.{IsQuiet}
use Rattle.pr_unit.proofs.lemmas.Attentions.Pairs.{contains-retain-pair}

pub like_through : (own : ℕ) (u v w : UnitState) → IsLike own u v → IsLike own v w → IsLike own u w
like_through own u v w first second = record {
  registry = second.registry ∙ first.registry;
  pending = λ code. second.pending code ∙ first.pending code;
}

pub quiet_like : (own sender : ℕ) (u w : UnitState) → own ≢ sender → IsQuiet u sender w → IsLike own u w
quiet_like own sender u w other quiet = record { registry = quiet.registry; pending = λ code. quiet.others own code other }

pub shown_like : (v : View) (u w : UnitState) → IsLike v.scope.own u w → IsWellFormed w → Shows v u → Shows v w
shown_like v u w like formed shown = record {
  formed = formed;
  hosts = ap (λ (r : State). r.hosts) like.registry ∙ shown.hosts;
  registrations = λ g there.
      let seen = shown.registrations g there in
      (seen.0, (seen.1.0, so_like v.scope u w (Registration g seen.0) like seen.1.1));
  reservation = (shown.reservation.0, (shown.reservation.1.0, so_like v.scope u w (Reservation shown.reservation.0) like shown.reservation.1.1));
  pending = (shown.pending.0, (shown.pending.1.0, so_like v.scope u w (Attentions shown.pending.0) like shown.pending.1.1));
}

-- a command leaves them alike
pub like_effect : (own h : ℕ) (c : Command) (u w : UnitState) → IsLike own u w → IsLike own (effect u h c) (effect w h c)
like_effect own h c u w like = record {
  registry = ap (λ (r : State). registry_after r h c) like.registry;
  pending = λ code.
      ap (λ (r : State). set.contains (pending_after w.pending (change r h c)) (own, code)) like.registry
      ∙ told_alike u.pending w.pending (change u.registry h c) own code (like.pending code);
}

-- ---- nothing is pending for the sender

pub formed_silenced : (u : UnitState) (h : ℕ) → IsWellFormed u → IsWellFormed (silenced u h)
formed_silenced u h formed = quiet_well_formed u (silenced u h) h formed (silenced-quiet u h)

pub like_silenced : (own : ℕ) (u : UnitState) (h : ℕ) → own ≢ h → IsLike own u (silenced u h)
like_silenced own u h other = quiet_like own h u (silenced u h) other (silenced-quiet u h)

pub none_silenced : (u : UnitState) (h : ℕ) → is_any_pending (silenced u h) h ≡ false
none_silenced u h = λ i. list_any (λ code. nothing_silenced u h code i) attentions
