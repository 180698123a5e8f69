-- How many refusals are left to a nexus, by its parts.
use Rattle.pr_audit.proofs.Common.{◌≡◌, ℕ, ◌<◌, false, List, length, nat_lt, Some, None, Option, sym, ap, ◌∙◌, arith, nat_tests, option_map_or, may_come, nexus, Nexus, nexus_of, scenario_of, How, Item, Parts}
use Rattle.std.proofs.Common.{◌||◌, slice_index_or, ◌⊎◌, inl, inr}
use Rattle.std.proofs.Math.Bool.{or-false}
use Rattle.pr_roles.specs.Scenarios.{Scenario}
use Rattle.pr_roles.specs.declared.how.How.TheVariants as how
use Rattle.pr_roles.specs.declared.parts.Nexus.{Nexus as NexusPart}
use Rattle.pr_roles.specs.Answers.{is_answer, most_of, most_refusals, refusals_by}
use Rattle.pr_audit.proofs.lemmas.Auditing.Parts.{named}

no_answer : (s : Scenario) (k : How) → (k ≡ how.Busy) ⊎ (k ≡ how.Full) → is_answer s k ≡ false
no_answer s k (inl is) = ap (is_answer s) is
no_answer s k (inr is) = ap (is_answer s) is

no_less : (n : ℕ) → nat_lt n 0 ≡ false
no_less n = grind (arith, nat_tests)

pub some_left : (p q : Parts) (es : List Item) (h i count most : ℕ) (k : How) (n : NexusPart) → h < length (scenario_of p).nexuses → q ≡ p → i ≡ h → n ≡ slice_index_or q.nexuses.items i n
    → (k ≡ how.Busy) ⊎ (k ≡ how.Full) → count ≡ refusals_by es h k → most ≡ most_of k (nexus_of n) → nat_lt count most ≡ may_come (scenario_of p) es h k
some_left p q es h i count most k n there same at read refused counted declared =
    (λ j. nat_lt (counted j) (declared_most j)) ∙ ap (λ b. b || nat_lt (refusals_by es h k) (most_refusals (scenario_of p) h k)) (sym (no_answer (scenario_of p) k refused))
  where
    declared_most : most ≡ most_refusals (scenario_of p) h k
    declared_most = declared ∙ ap (λ o. option_map_or (most_of k) o 0) (sym (named p q h i n there same at read))

-- an early report is no refusal
order_left : (s : Scenario) (es : List Item) (h : ℕ) → s.early ≡ may_come s es h how.Early
order_left s es h = sym (ap (λ b. s.early || b) (none (nexus s h)) ∙ or-false s.early)
  where
    none : (o : Option Nexus) → nat_lt (refusals_by es h how.Early) (option_map_or (most_of how.Early) o 0) ≡ false
    none None = no_less (refusals_by es h how.Early)
    none (Some n) = no_less (refusals_by es h how.Early)

pub order_here : (p q : Parts) (es : List Item) (h : ℕ) (k : How) → q ≡ p → k ≡ how.Early → q.early ≡ may_come (scenario_of p) es h k
unfolding scenario_of
order_here p q es h k same is = ap (λ (r : Parts). r.early) same ∙ order_left (scenario_of p) es h ∙ ap (may_come (scenario_of p) es h) (sym is)
