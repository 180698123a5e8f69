use Rattle.pr_regions.proofs.Common.{Some, None, sym, ◌∙◌, arith, only, tells_of_removal}
use Rattle.pr_unit.specs.declared.demand.Demand.TheVariants.{Preempt}
use Rattle.pr_regions.proofs.lemmas.Parts.Endings.{has_room}
use Rattle.pr_regions.proofs.lemmas.Parts.Preemption.{own_unheld}
use Rattle.pr_regions.proofs.preempting.preempting_unheld.Goals as goal

pub returns-then-is_named : goal.returns-then-is_named
returns-then-is_named c =
    let p = c.args.asked in
    let s = p.sender in
    let j = p.key in
    rw c.requires (c.ending_everywhere.ensures s.hosts (Preempt j p.kind) None s.number s.standing
    (own_unheld s.hosts j p.kind s.number s.standing c.removal_change.result (p.some, p.most) (sym c.is_named.ensures ∙ c.if-is_named.true) c.removal_change.ensures
    (has_room s.hosts c.removal_change.result (Some 0) (only j) 0 (tells_of_removal (only j)) c.removal_change.ensures (omega arith) (omega arith))))
