-- Every key, as the registrations of which each is a registrant's.
use Rattle.pr_regions.proofs.Common.{◌≡◌, ℕ, zero, suc, ◌≤◌, true, false, arith, nat_tests, has, BitSet, is_of_registrant, MOST_KEYS, HasThose}

pub keys_those : (w : BitSet) → ((r : ℕ) → 1 ≤ r → r ≤ MOST_KEYS → has w r ≡ true) → has w 0 ≡ false → HasThose w is_of_registrant
keys_those w keys none zero few = none
keys_those w keys none (suc r) few = grind (keys (suc r) (omega arith) few, arith, nat_tests)
