-- The names that most proofs of this crate cite, passed on from one place. Declares nothing.
pub use Rattle.std.proofs.Common.{◌≡◌, ℕ, zero, suc, ◌+◌, ◌-◌, ◌<◌, ◌≤◌, min, max, Bool, true, false, ◌&&◌, List, [], ◌∷◌, ◌++◌, length, get_or, take, drop, is_some, nat_lt, Some, None, Option, Vec, option_map, Global, sym, refl, ap, ◌∙◌, subst, inl, inr, arith}
pub use Rattle.pr_cdb.specs.declared.command.Command.{Command}
pub use Rattle.pr_script.specs.Costs.{cost_of, cost_of_all, greatest}
pub use Rattle.pr_script.specs.Depths.{depth_of, depth_of_all, depth_of_arms}
pub use Rattle.pr_script.specs.Grammar.{statement_fits, statements_fit, arms_fit, count_in_arms, lines_of_all, lines_of_arms}
pub use Rattle.pr_script.specs.Scripts.{Stmt, sends, repeats, breaks, Stmts, none, more, Arms, no_arm, arm, statement, mark, Configuration, before, turn, past_mark, becomes}
pub use Rattle.pr_script.specs.Traps.{is_ready}
unfoldable pub use Rattle.pr_script.specs.Scripts.{settled_form}
pub use Rattle.pr_script.specs.Takes.{matches}
pub use Rattle.pr_script.specs.Trees.{statement_of, statements_in, script_of}
pub use Rattle.pr_script.specs.Versions.{are_arms_of}
pub use Rattle.pr_script.specs.declared.advance.LoopFrame.{LoopFrame}
pub use Rattle.pr_script.specs.declared.limits.TheConstants.{MOST_OPEN}
pub use Rattle.pr_script.specs.declared.rows.Instruction.{Instruction}
pub use Rattle.pr_script.specs.declared.rows.Operation.{Operation}
pub use Rattle.pr_script.specs.declared.script.Arm.{Arm}
pub use Rattle.pr_script.specs.declared.script.Statement.{Statement}
pub use Rattle.pr_script.specs.inside.ArmLists.{arms_in}
pub use Rattle.pr_script.specs.inside.Climbs.{last_of_climb}
pub use Rattle.pr_script.specs.inside.Compiled.{IsCompiled, AreArmsCompiled}
pub use Rattle.pr_script.specs.Programs.{place, open_configuration, configuration, deepest, AreLoops}
pub use Rattle.pr_script.specs.inside.Program.{step_at, IsStep, IsTable, IsPlaced}
unfoldable pub use Rattle.pr_script.specs.inside.Program.{meanings}
