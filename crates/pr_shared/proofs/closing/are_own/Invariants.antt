use Rattle.std.specs.Prelude.{◌≡◌, map, take}
use Rattle.pr_shared.specs.Histories.{entries_by}
use Rattle.pr_shared.proofs.closing.are_own.Given as goal

-- the lists before this one are what was sent
abbrev pub invariant-loop-host : goal.invariant-loop-host
invariant-loop-host l = entries_by l.host l.history ≡ map (λ m. m.items) (take l.host l.lists)
