use Rattle.pr_registry.proofs.Common.{◌≡◌, sym, ap, ◌∙◌, arith, MOST_NEXUSES, hosts_where}
use Rattle.std.specs.FinSet as set
use Rattle.pr_registry.proofs.lemmas.Sets.{hosts_where-none, hosts_where-takes, hosts_where-skips}
use Rattle.pr_registry.proofs.lemmas.Tables.{has_key, hosts_where-has_key}
use Rattle.pr_registry.proofs.table.hosts_with.Goals as goal
use Rattle.pr_registry.proofs.table.hosts_with.Goals.{then-has_key, else-has_key}

pub loop-host-init : goal.loop-host-init
loop-host-init c = c.new-hosts.ensures ∙ sym (hosts_where-none (has_key c.args.slots.now c.args.key))

pub loop-host-preserved : goal.loop-host-preserved
loop-host-preserved c =
    let p = has_key c.args.slots.now c.args.key in
    elim c.if-has_key.branch [
      | then-has_key w ↦ w.hosts-is ∙ w.insert.ensures ∙ ap (λ s. set.insert s c.loop-host.host) c.loop-host.invariant
          ∙ sym (hosts_where-takes c.loop-host.host p (sym c.has_key.ensures ∙ w.if-has_key.true))
      | else-has_key w ↦ w.hosts-is ∙ c.loop-host.invariant
          ∙ sym (hosts_where-skips c.loop-host.host p (sym c.has_key.ensures ∙ w.if-has_key.false))
    ]

pub returns : goal.returns
returns c =
    let all : c.loop-host.host ≡ MOST_NEXUSES = omega arith in
    c.loop-host.invariant ∙ ap (λ n. hosts_where n (has_key c.args.slots.now c.args.key)) all
    ∙ hosts_where-has_key c.args.slots.now c.args.key
