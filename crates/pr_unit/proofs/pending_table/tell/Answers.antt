use Rattle.pr_unit.proofs.Common.{◌≡◌, ◌+◌, sym, ap, ◌∙◌, subst, arith, MOST_NEXUSES, code_of, Pairs, table_pairs}
use Rattle.pr_unit.proofs.lemmas.Attentions.Pairs.{IsToldBelow, told_none, told_more, told_skips, told_all}
use Rattle.pr_unit.proofs.pending_table.tell.Goals as goal
use Rattle.pr_unit.proofs.pending_table.tell.Goals.{then-has, else-has}

pub loop-host-init : goal.loop-host-init
loop-host-init c = told_none (table_pairs c.args.pendings.now) c.args.hosts.now (code_of c.args.attention)

pub loop-host-preserved : goal.loop-host-preserved
loop-host-preserved c =
    let old = table_pairs c.args.pendings.now in
    let hosts = c.args.hosts.now in
    let code = code_of c.args.attention in
    let P = λ (new : Pairs). IsToldBelow old new hosts code (c.loop-host.host + 1) in
    elim c.if-has.branch [
      | then-has w ↦
          subst P (sym (ap table_pairs w.pendings-is ∙ w.add.ensures))
          (told_more old (table_pairs c.loop-host.pendings) hosts code c.loop-host.host (sym c.has.ensures ∙ w.if-has.true) c.loop-host.invariant)
      | else-has w ↦
          subst P (sym (ap table_pairs w.pendings-is))
          (told_skips old (table_pairs c.loop-host.pendings) hosts code c.loop-host.host (sym c.has.ensures ∙ w.if-has.false) c.loop-host.invariant)
    ]

pub returns : goal.returns
returns c =
    let last : c.loop-host.host ≡ MOST_NEXUSES = omega arith in
    let old = table_pairs c.args.pendings.now in
    let new = table_pairs c.loop-host.pendings in
    told_all old new c.args.hosts.now (code_of c.args.attention) c.requires
    (subst (λ i. IsToldBelow old new c.args.hosts.now (code_of c.args.attention) i) last c.loop-host.invariant)
