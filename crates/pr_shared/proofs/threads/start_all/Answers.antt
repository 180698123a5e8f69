use contract.Lifetimes.{Lfts}
use denote.Param.Send.{IsSend, IsSync, sendable, param_send}
use Rattle.pr_shared.proofs.lemmas.SendableSeats.{shared_sync}
use Rattle.pr_shared.proofs.seat.Seat.TheSendSync as seat
use Rattle.pr_shared.specs.contracts.threads.start_all.{G-row, R-row}
use Rattle.pr_shared.proofs.threads.start_all.Given.{Over}
use Rattle.pr_shared.proofs.threads.start_all.Lts.{arg-3-2}
use Rattle.pr_shared.proofs.threads.start_all.Goals as goal

-- what a thread takes with it
turns_send : (g : Over) (κs : Lfts 9) → IsSync (G-row g.row.C g.row.G g.row.R) → IsSync (R-row g.row.C g.row.G g.row.R)
    → IsSend (arg-3-2 g.row.C g.row.G g.row.R g.C.laws g.G.laws g.R.laws g.C.Round g.C.Round-dict g.C.Ledger g.C.Ledger-dict g.G.Gate g.G.Gate-dict g.R.Threads g.R.Threads-dict g.R.Wait g.R.Wait-dict κs)
turns_send g κs gate rt = search (sendable, shared_sync, seat.the_send) depth 12

pub spawn_with-requires-send-F : goal.spawn_with-requires-send-F
spawn_with-requires-send-F g c = λ κs within.
    param_send 2 (arg-3-2 g.row.C g.row.G g.row.R g.C.laws g.G.laws g.R.laws g.C.Round g.C.Round-dict g.C.Ledger g.C.Ledger-dict g.G.Gate g.G.Gate-dict g.R.Threads g.R.Threads-dict g.R.Wait g.R.Wait-dict κs)
    (turns_send g κs c.type_bounds.sync-G c.type_bounds.sync-R)
