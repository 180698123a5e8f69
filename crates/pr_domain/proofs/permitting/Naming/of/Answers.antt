-- One clause more.
use Rattle.std.proofs.Common.{◌≡◌, Bool, true, false, ◌&&◌, ◌||◌, refl, sym, ap, ◌∙◌}
use Rattle.std.proofs.lemmas.List.Folds.{list_any_more}
use Rattle.pr_domain.specs.inside.Permitting.{naming_permits, permits_at}
use Rattle.pr_domain.proofs.permitting.Naming.of.Goals as goal
use Rattle.pr_domain.proofs.permitting.Naming.of.Goals.{then-names, else-names}

or-false : (b : Bool) → (b || false) ≡ b
or-false true = refl
or-false false = refl

if_named : (before named holds old new : Bool) → before ≡ old → named ≡ true → new ≡ (old || holds) → (before || (named && holds)) ≡ new
if_named before named holds old new is so got = (λ i. is i || (so i && holds)) ∙ sym got

if_not : (before named holds old new : Bool) → before ≡ old → named ≡ false → new ≡ old → (before || (named && holds)) ≡ new
if_not before named holds old new is so got = (λ i. is i || (so i && holds)) ∙ or-false old ∙ sym got

pub loop-clause-preserved : goal.loop-clause-preserved
loop-clause-preserved c place registered =
    list_any_more (λ clause. permits_at clause c.args.command place registered) c.args.clauses.now c.loop-clause.clause-index _ c.loop-clause-test.true
    ∙ (elim c.if-names.branch [
      | then-names w ↦
          if_named _ _ _ _ _ (c.loop-clause.invariant place registered) (sym c.names.ensures ∙ w.if-names.true)
          (ap (λ n. naming_permits n place registered) w.naming-is ∙ w.with-naming.ensures place registered)
      | else-names w ↦
          if_not _ _ _ _ _ (c.loop-clause.invariant place registered) (sym c.names.ensures ∙ w.if-names.false)
          (ap (λ n. naming_permits n place registered) w.naming-is)
    ])
