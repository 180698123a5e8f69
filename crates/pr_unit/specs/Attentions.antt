-- Agrees with SAM-5, 'Unit attention conditions'; docs/MODEL.md, 'Attentions'.
-- Pending unit attentions, as a set of pairs of a host and a code (SAM-5, 'Unit attention conditions').
-- A code is the additional sense code times 256, and its qualifier.
use Rattle.std.specs.Prelude.{ℕ, zero, suc, [], ◌∷◌, map}
use Rattle.std.specs.Ordering.{nat_cmp}
use Rattle.std.specs.declared.cmp.Ordering.{Ordering}
use Rattle.std.specs.Cmp.Lexicographic.{slice_cmp}
use Rattle.std.specs.FinSet as set
pub use Rattle.pr_attention.specs.Attentions.{power_on, reservations_preempted, reservations_released, registrations_preempted, attentions, is_attention, attention_sense}
use Rattle.pr_registry.specs.Hosts.{Hosts, nobody}

-- by the host, then by the code
abbrev pub pair_cmp : ℕ × ℕ → ℕ × ℕ → Ordering
pair_cmp p q = slice_cmp nat_cmp (p.0 ∷ p.1 ∷ []) (q.0 ∷ q.1 ∷ [])

abbrev pub Pairs : Type 0
Pairs = set.FinSet pair_cmp

-- the hosts below n
unfoldable pub hosts_below : ℕ → Hosts
hosts_below zero = nobody
hosts_below (suc n) = set.insert (hosts_below n) n

-- each of these hosts, with this code
unfoldable pub each_with : Hosts → ℕ → Pairs
each_with hosts code = set.from_list (map (λ h. (h, code)) (set.items hosts))
