use Rattle.pr_domain.proofs.Common.{◌≡◌, ℕ, true, has, key_at, is_not_admitted, standing_of}
use Rattle.pr_domain.proofs.tallying.alike_to.Given as goal

abbrev pub invariant-loop-other : goal.invariant-loop-other
invariant-loop-other l = record {
  itself : has l.alike l.registration ≡ true;
  left : (r : ℕ) → has l.alike r ≡ true → has l.left r ≡ true;
  refused : (r : ℕ) → has l.alike r ≡ true → is_not_admitted (key_at l.asked.keys.now r) l.asked.command ≡ l.refused;
  stands : (r : ℕ) → has l.alike r ≡ true → standing_of l.purpose r ≡ l.standing;
}
