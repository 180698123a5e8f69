use Rattle.pr_regions.proofs.lemmas.Images.Unions.{IsUnion}
use Rattle.pr_domain.specs.inside.Reporting.{IsAfter}
use Rattle.pr_domain.proofs.attentions.after_report.Given as goal

abbrev pub invariant-loop-attentions : goal.invariant-loop-attentions
invariant-loop-attentions l = IsUnion l.attentions l.pending (λ q n. IsAfter q l.attention n) l.left
