-- Agrees with docs/FORMATS.md, 'Table text'.
-- How a table is followed, row by row.
use Rattle.std.specs.Prelude.{ℕ, zero, suc, ◌+◌, List, [], ◌∷◌, drop, if◌then◌else◌, Option, Some, None, option_map, option_and_then}
use Rattle.pr_cdb.specs.declared.reply.Reply.{Reply}
use Rattle.pr_script.specs.declared.script.Test.{Test}
use Rattle.pr_script.specs.Scripts.{Standing, ready, stopped}
use Rattle.pr_script.specs.Takes.{matches}
use Rattle.pr_table.specs.Rows.{TableRow, send_row, repeat_row, again_row, leave_row, stop_row, row_at}

-- Where one stands who follows a table: the number of a row, and of each repeat that is open, the innermost first, how often its
-- body is still to run after this time.
abbrev pub Whereabouts : Type 0
Whereabouts = ℕ × List ℕ

-- where a repeat goes on: with its body, behind its row, while that is still to run; and else past it
abbrev pub turn_to : ℕ → ℕ → ℕ → List ℕ → Whereabouts
turn_to at past zero turns = (past, turns)
turn_to at past (suc left) turns = (at + 1, left ∷ turns)

-- the row past a repeat; that of no other row is asked for
abbrev pub past_of : Option TableRow → ℕ
past_of None = 0
past_of (Some (send_row line command arms)) = 0
past_of (Some (repeat_row count past)) = past
past_of (Some (again_row at)) = 0
past_of (Some (leave_row past)) = 0
past_of (Some (stop_row word)) = 0

-- the repeat at this row once more, as often as it is left
abbrev pub again_at : List TableRow → ℕ → List ℕ → Whereabouts
again_at rows at [] = (past_of (row_at rows at), [])
again_at rows at (left ∷ turns) = turn_to at (past_of (row_at rows at)) left turns

-- Where a row leads by itself. A send waits for its reply, and a stop is the end: they stay.
abbrev pub led_by : List TableRow → ℕ → List ℕ → Option TableRow → Whereabouts
led_by rows at turns None = (at, turns)
led_by rows at turns (Some (send_row line command arms)) = (at, turns)
led_by rows at turns (Some (repeat_row count past)) = turn_to at past count turns
led_by rows at turns (Some (again_row repeat)) = again_at rows repeat turns
led_by rows at turns (Some (leave_row past)) = (past, drop 1 turns)
led_by rows at turns (Some (stop_row word)) = (at, turns)

abbrev pub goes_on : List TableRow → Whereabouts → Whereabouts
goes_on rows p = led_by rows p.0 p.1 (row_at rows p.0)

abbrev pub goes_on_often : ℕ → List TableRow → Whereabouts → Whereabouts
goes_on_often zero rows p = p
goes_on_often (suc n) rows p = goes_on_often n rows (goes_on rows p)

-- the row behind the first arm, from the top, that matches the reply
abbrev pub first_arm : List (Test × ℕ) → Reply → Option ℕ
first_arm [] reply = None
first_arm (a ∷ arms) reply = if matches a.0 reply then Some a.1 else first_arm arms reply

-- the row to which a reply leads; none where no arm matches, and then one is trapped
abbrev pub row_after : Option TableRow → Reply → Option ℕ
row_after None reply = None
row_after (Some (send_row line command arms)) reply = first_arm arms reply
row_after (Some (repeat_row count past)) reply = None
row_after (Some (again_row at)) reply = None
row_after (Some (leave_row past)) reply = None
row_after (Some (stop_row word)) reply = None

abbrev pub takes_arm : List TableRow → Whereabouts → Reply → Option Whereabouts
takes_arm rows p reply = option_map (λ row. (row, p.1)) (row_after (row_at rows p.0) reply)

-- Where one stands once these replies have come, and none of them trapped him. No more rows than `most` lead on between two
-- commands.
abbrev pub followed : ℕ → List TableRow → List Reply → Whereabouts → Option Whereabouts
followed most rows [] p = Some (goes_on_often most rows p)
followed most rows (reply ∷ replies) p = option_and_then (followed most rows replies) (takes_arm rows (goes_on_often most rows p) reply)

-- what a row says: a command is to be sent, or it is over
abbrev pub standing_at_row : Option TableRow → Option Standing
standing_at_row None = None
standing_at_row (Some (send_row line command arms)) = Some (ready line command)
standing_at_row (Some (repeat_row count past)) = None
standing_at_row (Some (again_row at)) = None
standing_at_row (Some (leave_row past)) = None
standing_at_row (Some (stop_row word)) = Some (stopped word)

abbrev pub standing_at : List TableRow → Whereabouts → Option Standing
standing_at rows p = standing_at_row (row_at rows p.0)
