-- The names that most proofs of this crate cite, passed on from one place. Declares nothing.
pub use Rattle.std.proofs.Common.{arith, ◌<◌, ◌∙◌, ◌≡◌, ◌^◌, ap, sym, ℕ, refl, true, false, ◌==◌, inl, inr, nat_lt, ◌-◌, ◌⊎◌, Bool, ◌&&◌, ◌≤◌, ◌≢◌, ◌||◌, ◌+◌, ◌/◌, ◌%◌, bit_and, length, not, ◌*◌, subst, nat_le, min, List}
pub use Rattle.std.proofs.lemmas.Bool.Decides.{nat_tests, eqb_tells, leb_tells}
pub use Rattle.std.proofs.lemmas.Nat.Bits.{bit_at-lt, bit_at-zero, bit_at_above, bit_at-trailing_zeros, bit_at_and, bit_at_not, same_from_bits_below}
pub use Rattle.std.specs.Int.{w128, w16, trailing_zeros, bit_at, bit_not}
pub use Rattle.pr_sets.specs.Kept.{numbers_in, numbers_of_bits}
pub use Rattle.pr_sets.specs.Numbers.{Numbers, Within, Has}
pub use Rattle.pr_sets.specs.Wides.{has_wide}
