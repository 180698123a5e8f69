-- Agrees with SAM-5, 'Unit attention conditions'; docs/MODEL.md, 'Attentions'.
-- Unit attentions (SAM-5, 'Unit attention conditions'), and sets of them that are pending.
-- A code is the additional sense code times 256, and its qualifier.
use Rattle.std.specs.Prelude.{ℕ, ◌/◌, ◌%◌, ◌==◌, Bool, List, [], ◌∷◌, map}
use Rattle.std.specs.Ordering.{nat_cmp}
use Rattle.std.specs.FinSet as set
use Rattle.std.specs.List.{list_any}
use Rattle.pr_cdb.specs.declared.codes.TheConstants.{POWER_ON, RESERVATIONS_PREEMPTED, RESERVATIONS_RELEASED, REGISTRATIONS_PREEMPTED, UNIT_ATTENTION}
use Rattle.pr_cdb.specs.declared.reply.Sense.{Sense}
use Rattle.pr_attention.specs.declared.attention.Attention.{Attention}
use Rattle.pr_attention.specs.declared.attention.Attention.TheVariants.{PowerOn, ReservationsPreempted, ReservationsReleased, RegistrationsPreempted}

-- ---- the codes

-- power on, reset, or bus device reset occurred
abbrev pub power_on : ℕ
power_on = POWER_ON

abbrev pub reservations_preempted : ℕ
reservations_preempted = RESERVATIONS_PREEMPTED

abbrev pub reservations_released : ℕ
reservations_released = RESERVATIONS_RELEASED

abbrev pub registrations_preempted : ℕ
registrations_preempted = REGISTRATIONS_PREEMPTED

abbrev pub code_of : Attention → ℕ
code_of PowerOn = power_on
code_of ReservationsPreempted = reservations_preempted
code_of ReservationsReleased = reservations_released
code_of RegistrationsPreempted = registrations_preempted

-- all of them, the lowest code first
abbrev pub each_attention : List Attention
each_attention = PowerOn ∷ ReservationsPreempted ∷ ReservationsReleased ∷ RegistrationsPreempted ∷ []

-- the four codes
abbrev pub attentions : List ℕ
attentions = map code_of each_attention

abbrev pub is_attention : ℕ → Bool
is_attention code = list_any (λ a. code == a) attentions

-- UNIT ATTENTION with this code
abbrev pub attention_sense : ℕ → Sense
attention_sense code = record { key = UNIT_ATTENTION; asc = code / 256; ascq = code % 256 }

-- ---- sets of codes

abbrev pub Codes : Type 0
Codes = set.FinSet nat_cmp
