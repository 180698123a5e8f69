use Rattle.pr_verify.proofs.Common.{◌≡◌, ℕ, ◌+◌, length, into_iter_items, Scenario, IsCheckFor, EachFrom, IsAnswerBefore}
use Rattle.std.specs.Vec.Iter.{into_iter_len}
use Rattle.pr_verify.proofs.each.join_all.Given as goal

-- those before this one have come to the first answer
abbrev pub invariant-loop-check : goal.invariant-loop-check
invariant-loop-check g l =
    (s : Scenario) → EachFrom (IsCheckFor s) 0 l.fn.checks.items → (done : ℕ) × (done + into_iter_len l.check-iterator ≡ length l.fn.checks.items) × EachFrom (IsCheckFor s) done (into_iter_items l.check-iterator) × IsAnswerBefore s done l.first
