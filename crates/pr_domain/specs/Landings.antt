-- Agrees with docs/MODEL.md, 'Taking a reply'.
-- Where a script goes on after a reply: in an arm of the send, or nowhere.
use Rattle.std.specs.Prelude.{◌≡◌, List, Some, None}
use Rattle.pr_cdb.specs.declared.reply.Reply.{Reply}
use Rattle.pr_cdb.specs.declared.reply.Status.TheVariants as status
use Rattle.pr_script.specs.declared.script.Test.{Test}
use Rattle.pr_script.specs.declared.landing.Landing.{Landing}
use Rattle.pr_script.specs.declared.landing.Landing.TheVariants.{Arm, NoArm}
use Rattle.pr_script.specs.declared.landing.Class.{Class}
use Rattle.pr_script.specs.declared.landing.Class.TheVariants.{Good, Conflict, Busy, Full, Sense}
use Rattle.pr_regions.specs.Readings.{first_test}

-- how a reply ended
abbrev pub IsClass : Reply → Class → Type 0
IsClass r Good = r.status ≡ status.Good
IsClass r Conflict = r.status ≡ status.Conflict
IsClass r Busy = r.status ≡ status.Busy
IsClass r Full = r.status ≡ status.TaskFull
IsClass r (Sense sense) = (r.status ≡ status.CheckCondition) × (r.sense ≡ Some sense)

-- The first arm whose test the reply passes, counted from 0; with no such arm, how it ended.
abbrev pub IsLanding : List Test → Reply → Landing → Type 0
IsLanding tests r (Arm n) = first_test tests r ≡ Some n
IsLanding tests r (NoArm class) = (first_test tests r ≡ None) × IsClass r class
