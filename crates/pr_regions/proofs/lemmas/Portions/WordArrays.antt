-- Words in an array.
use Rattle.pr_regions.proofs.Common.{◌≡◌, ◌≢◌, ℕ, ◌<◌, ◌≤◌, Bool, true, false, ◌==◌, ◌&&◌, not, if◌then◌else◌, List, Option, Some, None, refl, sym, ap, ◌∙◌, subst, inl, inr, ◌⊎◌, eqb_tells, Held, One, All, BitSet, has, holds_alone, has_at, Region, filter_of, Place}
use Rattle.std.proofs.Math.Bool.{and-true}
use Rattle.pr_regions.specs.inside.Portions.{passes}

-- ---- what a portion leaves to each

-- to all but the sender and who holds alone the region leaves the same
leaves_the_same : (held : Option Held) (is_sender : Bool) (g r : ℕ) (senders : BitSet) (region : Region) → is_sender ≡ false → holds_alone held g ≡ false
    → (has (if is_sender then senders else filter_of region held g) r && not (holds_alone held g && r == 0)) ≡ has region.others r
leaves_the_same None is_sender g r senders region other alone = rw other (and-true (has region.others r))
leaves_the_same (Some (One t h)) is_sender g r senders region other alone = rw (other, alone) (and-true (has region.others r))
leaves_the_same (Some (All t)) is_sender g r senders region other alone = rw other (and-true (has region.others r))

pub left_to_each : (place : Place) (senders : BitSet) (region : Region) (view first second third : List BitSet)
    → ((g r : ℕ) → g < place.hosts → has_at first g r ≡ (has_at view g r && has region.others r))
    → ((g r : ℕ) → g < place.hosts → holds_alone place.held g ≡ true → has_at second g r ≡ (has_at view g r && passes place senders region g r))
    → ((g r : ℕ) → (holds_alone place.held g ≡ false) ⊎ (place.hosts ≤ g) → has_at second g r ≡ has_at first g r)
    → (place.sender < place.hosts → (r : ℕ) → has_at third place.sender r ≡ (has_at view place.sender r && passes place senders region place.sender r))
    → ((g r : ℕ) → (g ≢ place.sender) ⊎ (place.hosts ≤ place.sender) → has_at third g r ≡ has_at second g r)
    → (g r : ℕ) → g < place.hosts → has_at third g r ≡ (has_at view g r && passes place senders region g r)
left_to_each place senders region view first second third base holder others sender kept g r there = at (eqb_tells g place.sender)
  where
    elsewhere : (b : Bool) → holds_alone place.held g ≡ b → (g == place.sender) ≡ false → has_at second g r ≡ (has_at view g r && passes place senders region g r)
    elsewhere true alone other = holder g r there alone
    elsewhere false alone other =
        others g r (inl alone) ∙ base g r there ∙ ap (λ b. has_at view g r && b) (sym (leaves_the_same place.held (g == place.sender) g r senders region other alone))

    at : (((g == place.sender) ≡ true) × (g ≡ place.sender)) ⊎ (((g == place.sender) ≡ false) × (g ≢ place.sender)) → has_at third g r ≡ (has_at view g r && passes place senders region g r)
    at (inl same) =
        subst (λ h. has_at third h r ≡ (has_at view h r && passes place senders region h r)) (sym same.1) (sender (subst (λ h. h < place.hosts) same.1 there) r)
    at (inr other) = kept g r (inl other.1) ∙ elsewhere (holds_alone place.held g) refl other.0
