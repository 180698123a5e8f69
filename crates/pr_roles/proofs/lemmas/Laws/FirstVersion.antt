-- In version 1 of texts no refusal is declared.
use Rattle.pr_roles.proofs.Common.{◌≡◌, ℕ, zero, suc, true, not, ◌||◌, nat_lt, Some, None, Option, sym, ap, ◌∙◌, ◌&&◌, ◌⊎◌, List, [], ◌∷◌, nat_le, ◌==◌, slice_get, refl, subst, inl, inr, arith, false≢true, and_parts, nat_tests, Nexus, IsTrue, option_map_or, How}
use Rattle.std.proofs.lemmas.Bool.{or_cases, ltb-true}
use Rattle.pr_roles.specs.declared.limits.TheConstants.{MOST_REFUSALS}
use Rattle.pr_roles.specs.declared.how.How.TheVariants as how
use Rattle.pr_roles.specs.Fitting.{is_count, is_order, is_task_of, are_of}
use Rattle.pr_roles.specs.Scenarios.{nexus}
use Rattle.pr_roles.specs.Answers.{most_of, refusals_by, most_refusals, may_come}
use Rattle.pr_roles.specs.Laws.{FirstVersionIsPlain}

no_count : (n : ℕ) → is_count 1 n ≡ true → n ≡ 0
no_count n is = at (or_cases (n == 0) (nat_le 2 1 && nat_le n MOST_REFUSALS) is)
  where
    at : ((n == 0) ≡ true) ⊎ ((nat_le 2 1 && nat_le n MOST_REFUSALS) ≡ true) → n ≡ 0
    at (inl none) = grind (arith, nat_tests)
    at (inr later) = absurd (false≢true later)

none_at : (ns : List Nexus) → are_of 1 ns ≡ true → (h : ℕ) → (option_map_or (λ n. n.busy) (slice_get ns h) 0 ≡ 0) × (option_map_or (λ n. n.full) (slice_get ns h) 0 ≡ 0)
none_at [] are h = (refl, refl)
none_at (n ∷ ns) are zero =
    let one = (and_parts (is_count 1 n.busy && (is_count 1 n.full && is_task_of 1 n.task)) (are_of 1 ns) are).0 in
    let busy = and_parts (is_count 1 n.busy) (is_count 1 n.full && is_task_of 1 n.task) one in
    let full = and_parts (is_count 1 n.full) (is_task_of 1 n.task) busy.1 in
    (no_count n.busy busy.0, no_count n.full full.0)
none_at (n ∷ ns) are (suc h) =
    none_at ns (and_parts (is_count 1 n.busy && (is_count 1 n.full && is_task_of 1 n.task)) (are_of 1 ns) are).1 h

pub first_version_is_plain : FirstVersionIsPlain
first_version_is_plain s fits first es h = at (none_at s.nexuses (subst (λ v. are_of v s.nexuses ≡ true) first fits.dated) h)
  where
    at : (most_refusals s h how.Busy ≡ 0) × (most_refusals s h how.Full ≡ 0) → (k : How) → IsTrue (may_come s es h k) → k ≡ how.Plain
    at none how.Plain may = refl
    at none how.Early may = absurd (no_order (or_cases s.early (nat_lt (refusals_by es h how.Early) (most_refusals s h how.Early)) may))
      where
        none_early : (o : Option Nexus) → option_map_or (most_of how.Early) o 0 ≡ 0
        none_early None = refl
        none_early (Some n) = refl

        no_order : (s.early ≡ true) ⊎ (nat_lt (refusals_by es h how.Early) (most_refusals s h how.Early) ≡ true) → ⊥
        no_order (inl early) =
            let order : (not s.early || nat_lt 2 1) ≡ true = subst (λ v. is_order v s.early ≡ true) first fits.order in
            false≢true (sym (ap (λ b. not b || nat_lt 2 1) early) ∙ order)
        no_order (inr less) = absurd (omega (arith, none_early (nexus s h), ltb-true (refusals_by es h how.Early) (most_refusals s h how.Early) less))
    at none how.Busy may = absurd (omega (arith, none.0, ltb-true (refusals_by es h how.Busy) (most_refusals s h how.Busy) may))
    at none how.Full may = absurd (omega (arith, none.1, ltb-true (refusals_by es h how.Full) (most_refusals s h how.Full) may))
