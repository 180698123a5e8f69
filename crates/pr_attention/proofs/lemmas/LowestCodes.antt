-- The lowest code of a set is the first of the four that is in it.
use Rattle.std.proofs.Common.{◌≡◌, ◌≢◌, ◌↔◌, ℕ, ◌≤◌, Bool, true, false, cond, Option, Some, None, IsNone, IfSome, refl, sym, ap, ◌∙◌, arith}
use Rattle.std.specs.FinSet as set
use Rattle.std.specs.List.{find}
use Rattle.std.proofs.lemmas.Bool.Decides.{nat_tests}
use Rattle.pr_attention.specs.declared.attention.Attention.{Attention}
use Rattle.pr_attention.specs.declared.attention.Attention.TheVariants.{PowerOn, ReservationsPreempted, ReservationsReleased, RegistrationsPreempted}
use Rattle.pr_attention.specs.Attentions.{power_on, reservations_preempted, reservations_released, registrations_preempted, code_of, each_attention, Codes}
use Rattle.pr_attention.specs.CodeSets.{no_code, AreAttentions, IsLowest}
use Rattle.pr_attention.proofs.lemmas.Sets.{same_codes, contains-no_code}

abbrev pub first_in : Codes → Option Attention
first_in s = find (λ a. set.contains s (code_of a)) each_attention

module _ (s : Codes) (are : AreAttentions s) where
  -- a member is one of the four, and none that is not in the set
  another : (q code : ℕ) → set.contains s q ≡ true → set.contains s code ≡ false → q ≢ code
  another q code there not_there same = let wrong = ap (set.contains s) same in cc

  from_power_on : (q : ℕ) → set.contains s q ≡ true → power_on ≤ q
  from_power_on q there = let known = are q there in grind (arith, nat_tests)

  from_preempted : (q : ℕ) → set.contains s q ≡ true → q ≢ power_on → reservations_preempted ≤ q
  from_preempted q there first = let known = are q there in grind (arith, nat_tests)

  from_released : (q : ℕ) → set.contains s q ≡ true → q ≢ power_on → q ≢ reservations_preempted → reservations_released ≤ q
  from_released q there first second = let known = are q there in grind (arith, nat_tests)

  from_registrations : (q : ℕ) → set.contains s q ≡ true → q ≢ power_on → q ≢ reservations_preempted → q ≢ reservations_released → registrations_preempted ≤ q
  from_registrations q there first second third = let known = are q there in grind (arith, nat_tests)

  beyond : (q : ℕ) → set.contains s q ≡ true → q ≢ power_on → q ≢ reservations_preempted → q ≢ reservations_released → q ≢ registrations_preempted → ⊥
  beyond q there first second third fourth = let known = are q there in grind (arith, nat_tests)

  pub IsLowest-first_in : IfSome (first_in s) (λ a. IsLowest s (code_of a))
  IsLowest-first_in =
      at (set.contains s power_on) (set.contains s reservations_preempted) (set.contains s reservations_released) (set.contains s registrations_preempted) refl refl refl refl
    where
      at : (p q r t : Bool) → set.contains s power_on ≡ p → set.contains s reservations_preempted ≡ q → set.contains s reservations_released ≡ r → set.contains s registrations_preempted ≡ t
          → IfSome (cond p (Some PowerOn) (cond q (Some ReservationsPreempted) (cond r (Some ReservationsReleased) (cond t (Some RegistrationsPreempted) None)))) (λ a. IsLowest s (code_of a))
      at true q r t p_is q_is r_is t_is = record { pending = p_is; least = from_power_on }
      at false true r t p_is q_is r_is t_is = record { pending = q_is; least = λ x there. from_preempted x there (another x power_on there p_is) }
      at false false true t p_is q_is r_is t_is = record {
        pending = r_is;
        least = λ x there. from_released x there (another x power_on there p_is) (another x reservations_preempted there q_is);
      }
      at false false false true p_is q_is r_is t_is = record {
        pending = t_is;
        least = λ x there. from_registrations x there (another x power_on there p_is) (another x reservations_preempted there q_is) (another x reservations_released there r_is);
      }
      at false false false false p_is q_is r_is t_is = tt

  pub no_code-first_in : IsNone (first_in s) ↔ (s ≡ no_code)
  no_code-first_in = (
    at (set.contains s power_on) (set.contains s reservations_preempted) (set.contains s reservations_released) (set.contains s registrations_preempted) refl refl refl refl,
    λ none. rw (none_at none power_on, none_at none reservations_preempted, none_at none reservations_released, none_at none registrations_preempted) refl,
  )
    where
      none_at : s ≡ no_code → (q : ℕ) → set.contains s q ≡ false
      none_at none q = ap (λ u. set.contains u q) none ∙ contains-no_code q

      none_there : (q : ℕ) (b : Bool) → set.contains s q ≡ b → (b ≡ true → ⊥) → set.contains s q ≡ false
      none_there q true is never = absurd (never refl)
      none_there q false is never = is

      at : (p q r t : Bool) → set.contains s power_on ≡ p → set.contains s reservations_preempted ≡ q → set.contains s reservations_released ≡ r → set.contains s registrations_preempted ≡ t
          → IsNone (cond p (Some PowerOn) (cond q (Some ReservationsPreempted) (cond r (Some ReservationsReleased) (cond t (Some RegistrationsPreempted) None)))) → s ≡ no_code
      at true q r t p_is q_is r_is t_is wrong = cc
      at false true r t p_is q_is r_is t_is wrong = cc
      at false false true t p_is q_is r_is t_is wrong = cc
      at false false false true p_is q_is r_is t_is wrong = cc
      at false false false false p_is q_is r_is t_is _ =
          same_codes s no_code (λ x. none_there x (set.contains s x) refl (λ there. beyond x there
          (another x power_on there p_is) (another x reservations_preempted there q_is) (another x reservations_released there r_is) (another x registrations_preempted there t_is))
          ∙ sym (contains-no_code x))
