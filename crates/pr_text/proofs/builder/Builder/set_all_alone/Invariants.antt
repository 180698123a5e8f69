use Rattle.pr_text.proofs.Common.{◌≡◌, declared_by}
use Rattle.std.specs.Prelude.{fold, take}
use Rattle.pr_text.specs.NextLine.{with_alone}
use Rattle.pr_text.proofs.builder.Builder.set_all_alone.Given as goal

-- those so far are
abbrev pub invariant-loop-name : goal.invariant-loop-name
invariant-loop-name l =
    declared_by l.self ≡ fold (λ d name. with_alone d name.bytes) (declared_by l.fn.self) (take l.name-index l.names)
