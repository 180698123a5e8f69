use Rattle.pr_registry.proofs.Common.{◌≡◌, cond, if◌then◌else◌, None, sym, ap, ◌∙◌, arith, MOST_NEXUSES, just, table_keys}
use Rattle.std.specs.FinMap as map
use Rattle.pr_registry.proofs.lemmas.Sets.{same_keys, get-without, contains-just}
use Rattle.pr_registry.proofs.lemmas.Tables.{is_removed_below, none_below_zero, all_below, removes_more, keeps_more}
use Rattle.pr_registry.proofs.table.remove_all.Goals as goal
use Rattle.pr_registry.proofs.table.remove_all.Goals.{then-has, else-has}

pub loop-host-init : goal.loop-host-init
loop-host-init c =
    λ q. ap (λ b. cond b None (map.get (table_keys MOST_NEXUSES c.args.slots.now) q)) (sym (none_below_zero c.args.removed.now q))

pub loop-host-preserved : goal.loop-host-preserved
loop-host-preserved c =
    let host = c.loop-host.host in
    elim c.if-has.branch [
      | then-has w ↦ λ q. ap (λ s. map.get (table_keys MOST_NEXUSES s) q) w.slots-is ∙ ap (λ m. map.get m q) w.remove.ensures
          ∙ get-without (table_keys MOST_NEXUSES c.loop-host.slots) (just host) q
          ∙ (λ i. if contains-just host q i then None else c.loop-host.invariant q i)
          ∙ removes_more c.args.removed.now host q (map.get (table_keys MOST_NEXUSES c.args.slots.now) q) (sym c.has.ensures ∙ w.if-has.true)
      | else-has w ↦ λ q. ap (λ s. map.get (table_keys MOST_NEXUSES s) q) w.slots-is ∙ c.loop-host.invariant q
          ∙ keeps_more c.args.removed.now host q (map.get (table_keys MOST_NEXUSES c.args.slots.now) q) (sym c.has.ensures ∙ w.if-has.false)
    ]

pub returns : goal.returns
returns c =
    let all : c.loop-host.host ≡ MOST_NEXUSES = omega arith in
    same_keys _ _ (λ q. c.loop-host.invariant q
    ∙ ap (λ n. if is_removed_below c.args.removed.now n q then None else map.get (table_keys MOST_NEXUSES c.args.slots.now) q) all
    ∙ all_below c.args.slots.now c.args.removed.now q ∙ sym (get-without (table_keys MOST_NEXUSES c.args.slots.now) c.args.removed.now q))
