-- The names that most proofs of this crate cite, passed on from one place. Declares nothing.
pub use Rattle.std.proofs.Common.{◌≡◌, ◌+◌, ℕ, ◌∙◌, List, [], ◌∷◌, ap, arith, drop, length, sym, subst, ◌≤◌, ◌++◌, refl, ◌<◌, true}
pub use Rattle.std.specs.Io.KnownBytes.{Appends}
pub use Rattle.std.specs.List.{flat_map}
pub use Rattle.pr_script.proofs.lemmas.Trees.Equations.{tree_repeat, tree_send}
pub use Rattle.pr_script.specs.Scripts.{Stmts, more, arm, Arms, sends, repeats, breaks, stops, none, no_arm}
pub use Rattle.pr_script.specs.Trees.{statements_in, script_of, statement_of}
pub use Rattle.pr_script.specs.declared.script.Arm.{Arm}
pub use Rattle.pr_script.specs.declared.script.Statement.{Statement}
pub use Rattle.pr_script.specs.inside.ArmLists.{arms_in}
pub use Rattle.pr_output.proofs.lemmas.Written.Fronts.{puts_err, front_first, puts_last}
pub use Rattle.pr_output.specs.Written.{Wrote, FallsShort, Puts}
pub use Rattle.pr_report.proofs.lemmas.WordsWritten.Possibilities.{puts_as}
pub use Rattle.pr_table.specs.Rows.{row_count_of_all, row_count_of_arms, row_count, first_row, rows_of_all, arm_rows, rows_of_arms, rows_of, again_row, table_rows}
pub use Rattle.pr_table.specs.TableText.{rows_text, arm_line}
unfoldable pub use Rattle.pr_table.specs.TableText.{row_text}
pub use Rattle.pr_table.specs.declared.counts.TheConstants.{MOST_ROWS}
