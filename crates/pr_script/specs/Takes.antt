-- Agrees with docs/MODEL.md, 'Taking a reply'.
-- Which replies an arm matches, and what a script goes on with after a reply.
use Rattle.std.specs.Prelude.{ℕ, Bool, true, false, ◌==◌, ◌&&◌, [], ◌∷◌, Option, Some, None, option_map, if◌then◌else◌}
use Rattle.std.specs.List.{list_any}
use Rattle.pr_cdb.specs.declared.codes.TheConstants.{UNIT_ATTENTION}
use Rattle.pr_cdb.specs.declared.reply.Sense.{Sense}
use Rattle.pr_cdb.specs.declared.reply.Reply.{Reply}
use Rattle.pr_cdb.specs.Statuses.{is_good_status, is_check_status, is_conflict_status, is_busy_status, is_full_status}
use Rattle.pr_cdb.specs.ReplyData.{keys_in, holder_in}
use Rattle.pr_script.specs.declared.script.Test.{Test}
use Rattle.pr_script.specs.declared.script.Test.TheVariants as test
use Rattle.pr_script.specs.Scripts.{Stmts, Arms, sends, repeats, breaks, stops, no_arm, arm, statement, mark, Configuration, before, settled_form}

-- the data of READ RESERVATION has a reservation with this key
abbrev pub is_held_by : Option (Option (ℕ × ℕ)) → ℕ → Bool
is_held_by None key = false
is_held_by (Some None) key = false
is_held_by (Some (Some held)) key = held.0 == key

-- the data of READ RESERVATION has none
abbrev pub is_unheld : Option (Option (ℕ × ℕ)) → Bool
is_unheld None = false
is_unheld (Some None) = true
is_unheld (Some (Some held)) = false

abbrev pub is_unit_attention : Option Sense → Bool
is_unit_attention None = false
is_unit_attention (Some sense) = sense.key == UNIT_ATTENTION

abbrev pub is_sense : Option Sense → Sense → Bool
is_sense None wanted = false
is_sense (Some sense) wanted = sense.key == wanted.key && (sense.asc == wanted.asc && sense.ascq == wanted.ascq)

abbrev pub matches : Test → Reply → Bool
matches test.Good r = is_good_status r.status
matches (test.GoodHas key) r = is_good_status r.status && list_any (λ k. k == key) (keys_in r.bytes.items)
matches (test.GoodHeld key) r = is_good_status r.status && is_held_by (holder_in r.bytes.items) key
matches test.GoodUnheld r = is_good_status r.status && is_unheld (holder_in r.bytes.items)
matches test.Conflict r = is_conflict_status r.status
matches test.Busy r = is_busy_status r.status
matches test.Full r = is_full_status r.status
matches test.Attention r = is_check_status r.status && is_unit_attention r.sense
matches (test.Sense wanted) r = is_check_status r.status && is_sense r.sense wanted

-- the body of the first arm that matches, from the top
abbrev pub first_match : Arms → Reply → Option Stmts
first_match no_arm r = None
first_match (arm test body more) r = if matches test r then Some body else first_match more r

-- What is still to do once the first item's send has been answered; none where no arm matches, and then
-- the script is trapped.
abbrev pub take : Configuration → Reply → Option Configuration
take [] r = None
take (mark ∷ l) r = None
take ((statement (sends n c a)) ∷ l) r = option_map (λ body. settled_form (before body l)) (first_match a r)
take ((statement (repeats n b)) ∷ l) r = None
take ((statement breaks) ∷ l) r = None
take ((statement (stops w)) ∷ l) r = None
