use Rattle.pr_registry.proofs.Common.{ℕ, List, [], ◌∷◌, length, sym, ap, ◌∙◌, arith}
use Rattle.std.proofs.Common.{◌++◌}
use Rattle.arrayvec.specs.ArrayVec.{ArrayVec}
use Rattle.pr_registry.proofs.lemmas.Tables.{slot}
use Rattle.pr_registry.proofs.lemmas.KeyValues.{values-map_where-zero, values-map_where-some, values-map_where-none}
use Rattle.pr_registry.proofs.table.keys.Goals as goal
use Rattle.pr_registry.proofs.table.keys.Goals.{in-Some, in-None}

pub loop-slot-init : goal.loop-slot-init
loop-slot-init c =
    let none = ap length c.new-keys.ensures in
    (c.new-keys.ensures ∙ sym (values-map_where-zero (slot c.args.slots.now)), omega arith)

pub loop-slot-preserved : goal.loop-slot-preserved
loop-slot-preserved c =
    elim c.match-slot.branch [
      | in-Some w ↦
          let is = ap (λ (v : ArrayVec ℕ). v.items) w.keys-is ∙ w.push.ensures.items in
          let len = ap (λ (v : ArrayVec ℕ). length v.items) w.keys-is ∙ w.push.ensures.len in
          let most = c.loop-slot.invariant.1 in (
            is ∙ ap (λ (l : List ℕ). l ++ w.in-Some.key ∷ []) c.loop-slot.invariant.0
                ∙ sym (values-map_where-some c.loop-slot.slot-index w.in-Some.key (slot c.args.slots.now) w.in-Some.is),
            omega arith,
          )
      | in-None w ↦
          let is = ap (λ (v : ArrayVec ℕ). v.items) w.keys-is in
          let len = ap length is in
          let most = c.loop-slot.invariant.1 in
          (is ∙ c.loop-slot.invariant.0 ∙ sym (values-map_where-none c.loop-slot.slot-index (slot c.args.slots.now) w.in-None.is), omega arith)
    ]
