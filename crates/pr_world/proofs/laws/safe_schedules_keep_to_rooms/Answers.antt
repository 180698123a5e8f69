use Rattle.pr_world.proofs.lemmas.Workings.Room.{sent_within}
use Rattle.pr_world.proofs.laws.safe_schedules_keep_to_rooms.Goals as goal

pub returns : goal.returns
returns c = sent_within
