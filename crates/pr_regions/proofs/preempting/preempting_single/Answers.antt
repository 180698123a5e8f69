use Rattle.pr_regions.proofs.Common.{◌≡◌, sym, ◌∙◌, arith}
use Rattle.pr_unit.specs.declared.demand.Demand.TheVariants.{Preempt}
use Rattle.pr_regions.proofs.lemmas.Parts.Preemption.{own_single}
use Rattle.pr_regions.proofs.lemmas.Parts.HeldPreemption.{held_by}
use Rattle.pr_regions.proofs.preempting.preempting_single.Goals as goal

pub returns-then-is_named : goal.returns-then-is_named
returns-then-is_named c =
    let p = c.args.asked in
    let s = p.sender in
    let same : c.args.holder ≡ s.number = omega arith in
    rw c.requires (c.ending_everywhere.ensures s.hosts (Preempt p.key p.kind) (held_by c.args.old c.args.holder) s.number s.standing
    (own_single s.hosts p.key p.kind c.args.old c.args.holder s.number s.standing c.replacement_change.result (p.some, p.most) (sym c.is_named.ensures ∙ c.if-is_named.true) same
    c.replacement_change.ensures.change c.replacement_change.ensures.room))
