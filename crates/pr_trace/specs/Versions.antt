-- Agrees with docs/FORMATS.md, 'Versions'.
-- What a version of traces has: its statuses, and how much of each. A trace has the version of its scenario.
use Rattle.std.specs.Prelude.{ℕ, ◌+◌, ◌*◌, ◌==◌, Bool, if◌then◌else◌, nat_le}
use Rattle.pr_cdb.specs.declared.codes.TheConstants.{HEADER_LENGTH, KEY_LENGTH}
use Rattle.pr_cdb.specs.declared.reply.Status.{Status}
use Rattle.pr_cdb.specs.declared.reply.Status.TheVariants.{Good, CheckCondition, Conflict, Busy, TaskFull}
use Rattle.pr_roles.specs.Fitting.{most_declared}
use Rattle.pr_trace.specs.declared.versions.TheConstants.{MOST_ITEMS_1, MOST_ITEMS_2}

-- the version from which on there is this status
abbrev pub since : Status → ℕ
since Good = 1
since CheckCondition = 1
since Conflict = 1
since Busy = 2
since TaskFull = 2

-- this version has resets
abbrev pub has_resets : ℕ → Bool
has_resets version = nat_le 2 version

-- this version has the status
abbrev pub has_status : ℕ → Status → Bool
has_status version status = nat_le (since status) version

-- this version has so many items at most
abbrev pub most_items : ℕ → ℕ
most_items version = if version == 1 then MOST_ITEMS_1 else MOST_ITEMS_2

-- this version has so many bytes of data at most in a reply: those of READ KEYS, where each nexus has a key
abbrev pub most_data : ℕ → ℕ
most_data version = HEADER_LENGTH + KEY_LENGTH * most_declared version
