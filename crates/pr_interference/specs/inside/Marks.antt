-- What a change makes of sets of attentions.
use Rattle.std.specs.Prelude.{◌≡◌, ℕ, Bool, true, ◌&&◌, nat_lt, bit_or}
use Rattle.pr_sets.specs.declared.bit_set.BitSet.{BitSet}
use Rattle.pr_sets.specs.BitSets.{has}
use Rattle.pr_views.specs.declared.view.TheConstants.{ATTENTION_SETS, MOST_REGISTRATIONS}
use Rattle.pr_regions.specs.declared.region.Transition.{Transition}
use Rattle.pr_regions.specs.Regions.{mark}

-- those numbers of the word that are below the bound
abbrev pub first : ℕ → BitSet → ℕ → Bool
first bound w n = nat_lt n bound && has w n

-- of the sets of attentions, what they are for an owner with one of the registrations that there may be
pub record AreTold (c : Transition) (owners pending told : BitSet) : Type 0 where
  pub all : (r q : ℕ) → first MOST_REGISTRATIONS owners r ≡ true → first ATTENTION_SETS pending q ≡ true → has told (bit_or q (mark c r)) ≡ true
  pub only : (n : ℕ) → has told n ≡ true → (r : ℕ) × (q : ℕ) × (first MOST_REGISTRATIONS owners r ≡ true) × (first ATTENTION_SETS pending q ≡ true) × (n ≡ bit_or q (mark c r))
