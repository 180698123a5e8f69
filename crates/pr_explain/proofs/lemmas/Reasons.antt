-- Of reasons for a refusal.
use Rattle.std.proofs.Common.{◌≡◌, sym, ◌∙◌}
use Rattle.std.specs.Prelude.{◌↔◌, true, false}
use Rattle.std.proofs.lemmas.Bool.{false≢true}
use Rattle.pr_explain.specs.declared.plan.Explanation.{Explanation}
use Rattle.pr_explain.specs.Explanations.{is_refusal}

-- where it is refused, what an acceptance says is not so
pub never_accepted : (e : Explanation) (P : Type 0) → is_refusal e ≡ true → ¬ P → (is_refusal e ≡ false) ↔ P
never_accepted e P is none = (λ no. absurd (false≢true (sym no ∙ is)), λ has. absurd (none has))
