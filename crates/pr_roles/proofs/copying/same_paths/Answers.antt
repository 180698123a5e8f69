use Rattle.pr_roles.proofs.Common.{◌≡◌, ℕ, ◌<◌, Bool, true, false, List, length, map, not, sym, ap, ◌∙◌, arith, false≢true}
use Rattle.std.proofs.Common.{get_or}
use Rattle.std.proofs.lemmas.List.{get_or-map}
use Rattle.pr_roles.specs.declared.parts.Nexus.{Nexus as NexusPart}
use Rattle.pr_roles.specs.Scenarios.{is_shared_by}
use mathlib.Core.Bool.{beq}
use Rattle.pr_roles.proofs.copying.same_paths.Goals as goal

-- of paths that are shared alike each is
path_at : (ns ms : List NexusPart) (k : ℕ) (d e : NexusPart) → k < length ns → k < length ms → is_shared_by (map (λ n. n.shared) ns) ≡ is_shared_by (map (λ n. n.shared) ms)
    → (get_or ns k d).shared ≡ (get_or ms k e).shared
path_at ns ms k d e here there same = sym (get_or-map (λ n. n.shared) ns k d false here) ∙ ap (λ (f : ℕ → Bool). f k) same ∙ get_or-map (λ n. n.shared) ms k e false there

-- where two flags differ they aren't equal
differ : (a b : Bool) → not (beq a b) ≡ true → a ≡ b → ⊥
differ true b are same = false≢true (ap (λ x. not (beq true x)) same ∙ are)
differ false b are same = false≢true (ap (λ x. not (beq false x)) same ∙ are)

pub returns-then-nexus-others : goal.returns-then-nexus-others
returns-then-nexus-others c = (
  λ never. absurd (false≢true never),
  λ same.
      let at = path_at c.args.nexuses.now c.args.others.now c.loop-i.i c.index-nexuses-i.result c.index-others-i.result c.loop-i-test.true (omega (arith, c.loop-i-test.true, c.requires)) same in
      absurd (differ _ _ c.if-nexus-others.true (ap (λ n. n.shared) c.index-nexuses-i.is ∙ at)),
)
