-- The statements behind this one are laid, and the arms before this one.
use Rattle.pr_script.proofs.Common.{take, drop, statements_in, arms_in, IsCompiled, AreArmsCompiled}
use Rattle.pr_script.proofs.compile.+compile.Given as goal

abbrev pub invariant-compile-loop-i : goal.invariant-compile-loop-i
invariant-compile-loop-i l = IsCompiled l.fn.rows.items l.rows.items (statements_in (drop l.i l.statements)) l.fn.next l.place

abbrev pub invariant-compile_arms-loop-arm : goal.invariant-compile_arms-loop-arm
invariant-compile_arms-loop-arm l = AreArmsCompiled l.fn.rows.items l.rows.items (arms_in (take l.arm-index l.arms)) l.fn.next l.jumps.items
