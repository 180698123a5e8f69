-- Agrees with docs/FORMATS.md, 'Table text'.
-- What a table is good for.
use Rattle.std.specs.Prelude.{◌≡◌, ◌≤◌, ℕ, List, [], ◌∷◌, Option, Some, option_map, option_and_then}
use Rattle.pr_cdb.specs.declared.reply.Reply.{Reply}
use Rattle.pr_script.specs.Scripts.{Stmts, Configuration, standing_of_items, first_configuration}
use Rattle.pr_script.specs.Takes.{take}
use Rattle.pr_table.specs.Rows.{table_rows}
use Rattle.pr_table.specs.Following.{followed, standing_at}

-- what a script has still to do once these replies have come, and none of them trapped it
abbrev pub after_replies : List Reply → Configuration → Option Configuration
after_replies [] l = Some l
after_replies (reply ∷ replies) l = option_and_then (after_replies replies) (take l reply)

-- Who follows a script's table from row 1 on does what the script does. Whatever the replies are, one of them traps both; or both
-- send the same command by the same line, or are stopped with the same word, once they have come. As many rows may lead on in
-- between as it takes.
abbrev pub TablesFollowScripts : Type 0
TablesFollowScripts = (b : Stmts) (replies : List Reply)
    → (enough : ℕ) × ((most : ℕ) → enough ≤ most
    → option_map (standing_at (table_rows b)) (followed most (table_rows b) replies (1, []))
    ≡ option_map standing_of_items (after_replies replies (first_configuration b)))
