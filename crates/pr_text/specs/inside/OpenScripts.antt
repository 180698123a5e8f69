-- A script that is open, as its lines and blocks.
use Rattle.std.specs.Prelude.{Bool, false, ◌+◌, ◌==◌, not, List, [], ◌∷◌, ◌++◌, length, Option, Some, None, fold}
use Rattle.std.specs.List.{flat_map}
use Rattle.pr_script.specs.declared.script.Statement.{Statement}
use Rattle.pr_script.specs.declared.script.Arm.{Arm}
use Rattle.pr_script.specs.Trees.{statement_of}
use Rattle.pr_text.specs.declared.open_script.OpenBody.{OpenBody}
use Rattle.pr_text.specs.declared.open_script.BlockHead.{BlockHead}
use Rattle.pr_text.specs.declared.open_script.BlockHead.TheVariants as opener
use Rattle.pr_text.specs.declared.open_script.SendWithoutArm.{SendWithoutArm}
use Rattle.pr_text.specs.declared.open_script.OpenScript.{OpenScript}
use Rattle.pr_text.specs.ScriptLines.{ScriptLine, send_at, arm_on, repeat_of, statement_lines}
use Rattle.pr_text.specs.Declarations.{OpenBlock, repeating, sending, OpenLines}

abbrev pub lines_in : List Statement → List ScriptLine
lines_in statements = flat_map (λ s. statement_lines (statement_of s)) statements

abbrev pub arm_lines : Arm → List ScriptLine
arm_lines a = arm_on a.test ∷ lines_in a.body.statements.items

-- the lines of a block before those of its body
abbrev pub opener_lines : BlockHead → List ScriptLine
opener_lines (opener.Repeat line count) = repeat_of count ∷ []
opener_lines (opener.Arm line command arms test) = send_at line command ∷ (flat_map arm_lines arms.items ++ arm_on test ∷ [])

abbrev pub frame_lines : OpenBody → List ScriptLine
frame_lines f = lines_in f.body.items ++ opener_lines f.opener

abbrev pub block_by : BlockHead → OpenBlock
block_by (opener.Repeat line count) = repeating
block_by (opener.Arm line command arms test) = sending command (length arms.items + 1)

abbrev pub block_of : OpenBody → OpenBlock
block_of f = block_by f.opener

-- the innermost block first
abbrev pub blocks_in : List OpenBody → List OpenBlock
blocks_in frames = fold (λ blocks f. block_of f ∷ blocks) [] frames

abbrev pub armless_lines : Option SendWithoutArm → List ScriptLine
armless_lines None = []
armless_lines (Some a) = send_at a.line a.command ∷ []

abbrev pub with_armless : Option SendWithoutArm → List OpenBlock → List OpenBlock
with_armless None blocks = blocks
with_armless (Some a) blocks = sending a.command 0 ∷ blocks

-- the innermost block has a statement
abbrev pub has_begun : Option SendWithoutArm → List Statement → Bool
has_begun None body = not (length body == 0)
has_begun (Some a) body = false

abbrev pub open_seen : OpenScript → OpenLines
open_seen o = record {
  host = o.host;
  budget = o.budget;
  lines = (flat_map frame_lines o.outer.items ++ lines_in o.body.items) ++ armless_lines o.armless;
  statements = o.statements;
  blocks = with_armless o.armless (blocks_in o.outer.items);
  begun = has_begun o.armless o.body.items;
}

-- the script in which a body is open too
abbrev pub opened_in : BlockHead → OpenLines → OpenLines
opened_in opener o = record o { lines = o.lines ++ opener_lines opener; blocks = block_by opener ∷ o.blocks; begun = false }
