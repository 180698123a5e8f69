-- Agrees with SAM-5, 'Status'.
-- Which status a reply has.
use Rattle.std.specs.Prelude.{Bool, true, false}
use Rattle.pr_cdb.specs.declared.reply.Status.{Status}
use Rattle.pr_cdb.specs.declared.reply.Status.TheVariants.{Good, CheckCondition, Conflict, Busy, TaskFull}

abbrev pub is_good_status : Status → Bool
is_good_status Good = true
is_good_status CheckCondition = false
is_good_status Conflict = false
is_good_status Busy = false
is_good_status TaskFull = false

abbrev pub is_check_status : Status → Bool
is_check_status Good = false
is_check_status CheckCondition = true
is_check_status Conflict = false
is_check_status Busy = false
is_check_status TaskFull = false

abbrev pub is_conflict_status : Status → Bool
is_conflict_status Good = false
is_conflict_status CheckCondition = false
is_conflict_status Conflict = true
is_conflict_status Busy = false
is_conflict_status TaskFull = false

abbrev pub is_busy_status : Status → Bool
is_busy_status Good = false
is_busy_status CheckCondition = false
is_busy_status Conflict = false
is_busy_status Busy = true
is_busy_status TaskFull = false

abbrev pub is_full_status : Status → Bool
is_full_status Good = false
is_full_status CheckCondition = false
is_full_status Conflict = false
is_full_status Busy = false
is_full_status TaskFull = true
