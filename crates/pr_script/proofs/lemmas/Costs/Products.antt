-- A product of numbers that are cut at a bound.
use Rattle.pr_script.proofs.Common.{◌≡◌, ℕ, zero, suc, min, arith}
use Rattle.std.specs.Prelude.{◌*◌}

-- cutting one factor first changes nothing
pub cut_product : (most n x : ℕ) → min (n * min most x) most ≡ min most (n * x)
cut_product most zero x = omega arith
cut_product most (suc n) x = omega (arith, cut_product most n x)
