-- The codes of attentions are four.
use Rattle.std.proofs.Common.{◌≡◌, ℕ, ◌<◌, Bool, true, false, ◌==◌, refl, arith}
use Rattle.std.specs.List.{Contains}
use Rattle.std.proofs.lemmas.Bool.Decides.{nat_tests}
use Rattle.pr_attention.specs.declared.attention.Attention.{Attention}
use Rattle.pr_attention.specs.declared.attention.Attention.TheVariants.{PowerOn, ReservationsPreempted, ReservationsReleased, RegistrationsPreempted}
use Rattle.pr_attention.specs.Attentions.{power_on, reservations_preempted, reservations_released, registrations_preempted, each_attention, is_attention, code_of}

-- each is that of an attention
pub which : (code : ℕ) → is_attention code ≡ true → (a : Attention) × (code ≡ code_of a)
which code is = at (code == power_on) (code == reservations_preempted) (code == reservations_released) (code == registrations_preempted) refl refl refl refl is
  where
    at : (p q r t : Bool) → (code == power_on) ≡ p → (code == reservations_preempted) ≡ q → (code == reservations_released) ≡ r → (code == registrations_preempted) ≡ t
        → is_attention code ≡ true → (a : Attention) × (code ≡ code_of a)
    at true q r t p_is q_is r_is t_is is = (PowerOn, grind (arith, nat_tests))
    at false true r t p_is q_is r_is t_is is = (ReservationsPreempted, grind (arith, nat_tests))
    at false false true t p_is q_is r_is t_is is = (ReservationsReleased, grind (arith, nat_tests))
    at false false false true p_is q_is r_is t_is is = (RegistrationsPreempted, grind (arith, nat_tests))
    at false false false false p_is q_is r_is t_is is = absurd (grind (arith, nat_tests))

pub listed : (a : Attention) → Contains each_attention a
listed PowerOn = let below : 0 < 4 = omega arith in (0, below, refl)
listed ReservationsPreempted = let below : 1 < 4 = omega arith in (1, below, refl)
listed ReservationsReleased = let below : 2 < 4 = omega arith in (2, below, refl)
listed RegistrationsPreempted = let below : 3 < 4 = omega arith in (3, below, refl)
