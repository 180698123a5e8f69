use Rattle.pr_registry.proofs.Common.{◌≡◌, sym, ap, ◌∙◌, arith, MOST_NEXUSES, table_keys, hosts_where}
use Rattle.std.specs.FinSet as set
use Rattle.std.specs.FinMap as map
use Rattle.pr_registry.proofs.lemmas.Sets.{hosts_where-none, hosts_where-takes, hosts_where-skips}
use Rattle.pr_registry.proofs.lemmas.Tables.{hosts_where-is_registered}
use Rattle.pr_registry.proofs.table.registrants.Goals as goal
use Rattle.pr_registry.proofs.table.registrants.Goals.{then-is_registered, else-is_registered}

pub loop-host-init : goal.loop-host-init
loop-host-init c = c.new-hosts.ensures ∙ sym (hosts_where-none (map.contains_key (table_keys MOST_NEXUSES c.args.slots.now)))

pub loop-host-preserved : goal.loop-host-preserved
loop-host-preserved c =
    let p = map.contains_key (table_keys MOST_NEXUSES c.args.slots.now) in
    elim c.if-is_registered.branch [
      | then-is_registered w ↦ w.hosts-is ∙ w.insert.ensures ∙ ap (λ s. set.insert s c.loop-host.host) c.loop-host.invariant
          ∙ sym (hosts_where-takes c.loop-host.host p (sym c.is_registered.ensures ∙ w.if-is_registered.true))
      | else-is_registered w ↦ w.hosts-is ∙ c.loop-host.invariant
          ∙ sym (hosts_where-skips c.loop-host.host p (sym c.is_registered.ensures ∙ w.if-is_registered.false))
    ]

pub returns : goal.returns
returns c =
    let all : c.loop-host.host ≡ MOST_NEXUSES = omega arith in
    c.loop-host.invariant ∙ ap (λ n. hosts_where n (map.contains_key (table_keys MOST_NEXUSES c.args.slots.now))) all
    ∙ hosts_where-is_registered c.args.slots.now
