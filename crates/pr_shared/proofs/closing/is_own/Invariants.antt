use Rattle.std.specs.Prelude.{◌≡◌, ◌≤◌, length, take}
use Rattle.pr_shared.specs.Histories.{entries_of}
use Rattle.pr_shared.proofs.closing.is_own.Given as goal

-- what was sent before this item is the front of the list
abbrev pub invariant-loop-item : goal.invariant-loop-item
invariant-loop-item l = record {
  within : l.count ≤ length l.mine;
  own : entries_of (take l.item-index l.history) l.host ≡ take l.count l.mine;
}
