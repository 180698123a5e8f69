use Rattle.pr_unit.proofs.Common.{All, code_of, unit_of}
use Rattle.std.proofs.Common.{take}
use Rattle.pr_unit.specs.inside.Ways.{Tells}
use Rattle.pr_unit.proofs.shared_paths.tells_any.Given as goal

-- none of those before this one is reported
abbrev pub invariant-loop-attention : goal.invariant-loop-attention
invariant-loop-attention l = All (λ a. Tells (unit_of l.registry l.pendings) l.host l.request l.reply (code_of a) → ⊥) (take l.attention-index l.attention-items)
