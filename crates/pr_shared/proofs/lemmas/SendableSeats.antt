-- What a lock over a world, and a seat, may go to another thread.
use denote.RattleType.{RattleType}
use denote.Param.Send.{IsSend, IsSync, sendable, recorded_send, recorded_sync, struct_send, struct_sync, enum_send, enum_sync, view_send}
use denote.Struct.Declared.{shape}
use denote.Enum.Declared.{shape as choices}
use Rattle.std.proofs.Crossing.{crosses, Vec-send, Vec-sync}
use Rattle.arrayvec.proofs.array_string.ArrayString.TheSendSync as word
use Rattle.pr_attention.proofs.pending.Pending.TheSendSync as pending
use Rattle.pr_cdb.proofs.command.Command.TheSendSync as command
use Rattle.pr_registry.proofs.held.Held.TheSendSync as held
use Rattle.pr_roles.proofs.role.Role.TheSendSync as role
use Rattle.pr_roles.proofs.parts.Start.TheSendSync as start
use Rattle.pr_roles.proofs.entry.Entry.TheSendSync as entry
use Rattle.pr_world.proofs.course.Course.TheSendSync as course
use Rattle.pr_audit.proofs.end.End.TheSendSync as end
use Rattle.pr_script.proofs.script.Test.TheSendSync as test
use Rattle.pr_script.proofs.script.Statement.TheLaws.TheKnot.{both_send-Script, both_sync-Script}
use Rattle.std.proofs.option.Option.TheSendSync as optional
use Rattle.std.proofs.sync.ledger.Book.TheSendSync as book
use Rattle.std.proofs.sync.ledger.Share.TheSendSync as part
use Rattle.std.specs.declared.sync.ledger.Ledger as Ledger
use Rattle.pr_shared.specs.declared.round.Round as Round
use Rattle.std.specs.contracts.option.Option as option
use Rattle.pr_registry.specs.contracts.held.Held as declared
use Rattle.pr_script.specs.contracts.script.Script as script
use Rattle.pr_roles.specs.contracts.parts.Task as task
use Rattle.pr_roles.specs.contracts.parts.Nexus as nexus
use Rattle.pr_roles.specs.contracts.parts.Parts as parts
use Rattle.pr_roles.specs.contracts.scenario.Scenario as scenario
use Rattle.pr_roles.specs.contracts.verified.Verified as verified
use Rattle.pr_world.specs.contracts.world.World as world
use Rattle.pr_world.specs.contracts.world.World.TheInside as inside
use Rattle.pr_shared.specs.contracts.kept.Kept as kept
use Rattle.pr_shared.specs.contracts.locked.Locked as locked
use Rattle.pr_shared.specs.contracts.shared.SharedWorld as shared

script_send : IsSend (script.the_field).row
script_send =
    both_send-Script (search sendable) (search sendable) command.the_field_send command.the_field_sync (λ h s y. Vec-send h s) (λ h s y. Vec-sync h y) (search (sendable, word.the_send)) (search (sendable, word.the_sync))
    test.the_field_send test.the_field_sync

script_sync : IsSync (script.the_field).row
script_sync =
    both_sync-Script (search sendable) (search sendable) command.the_field_send command.the_field_sync (λ h s y. Vec-send h s) (λ h s y. Vec-sync h y) (search (sendable, word.the_send)) (search (sendable, word.the_sync))
    test.the_field_send test.the_field_sync

task_send : IsSend (task.the_field).row
task_send = enum_send (choices task.the_type) ((script_send, (search sendable, tt)), ((Vec-send _ command.the_send, tt), tt))

task_sync : IsSync (task.the_field).row
task_sync = enum_sync (choices task.the_type) ((script_sync, (search sendable, tt)), ((Vec-sync _ command.the_sync, tt), tt))

nexus_send : IsSend (nexus.the_field).row
nexus_send = struct_send (shape nexus.the_type) (search (sendable, word.the_send), (role.the_field_send, (start.the_field_send, (pending.the_send, (task_send, (search sendable, (search sendable, (search sendable, tt))))))))

nexus_sync : IsSync (nexus.the_field).row
nexus_sync = struct_sync (shape nexus.the_type) (search (sendable, word.the_sync), (role.the_field_sync, (start.the_field_sync, (pending.the_sync, (task_sync, (search sendable, (search sendable, (search sendable, tt))))))))

parts_send : IsSend (parts.the_field).row
parts_send = struct_send (shape parts.the_type) (search sendable, (search (sendable, crosses), (Vec-send (option.the_row declared.the_row) (optional.the_send declared.the_row held.the_send), (search sendable, (search sendable, (search sendable, (Vec-send _ (recorded_send (nexus.the_field).row _ _ (nexus.the_type).to_one nexus_send), tt)))))))

parts_sync : IsSync (parts.the_field).row
parts_sync = struct_sync (shape parts.the_type) (search sendable, (search (sendable, crosses), (Vec-sync (option.the_row declared.the_row) (optional.the_sync declared.the_row held.the_sync), (search sendable, (search sendable, (search sendable, (Vec-sync _ (recorded_sync (nexus.the_field).row _ _ (nexus.the_type).to_one nexus_sync), tt)))))))

scenario_send : IsSend scenario.the_row
scenario_send = search (sendable, parts_send)

scenario_sync : IsSync scenario.the_row
scenario_sync = search (sendable, parts_sync)

verified_send : IsSend verified.the_row
verified_send = search (sendable, scenario_send)

world_send : IsSend world.the_row
world_send = view_send inside.the_row _ _ _ _ (recorded_send (inside.the_field).row _ _ (inside.the_type).to_one (struct_send (shape inside.the_type) (verified_send, (course.the_field_send, tt))))

kept_sync : IsSync (kept.the_field).row
kept_sync = struct_sync (shape kept.the_type) (scenario_sync, (Vec-sync _ (Vec-sync _ entry.the_sync), (Vec-sync _ end.the_sync, tt)))

-- What is behind the lock may go to any thread, and so all of them may share the lock, whichever round it is.
module _ (C : RattleType) (r : Round.Ghosts C.Denot) (l : Ledger.Ghosts C.Denot) where
  locked_send : IsSend (locked.the_row C r l)
  locked_send = recorded_send (locked.the_field C r l).row _ _ (locked.the_type C r l).to_one (struct_send (shape (locked.the_type C r l)) (world_send, (search (sendable, book.the_send), (search (sendable, part.the_send), tt))))

  pub shared_sync : IsSync (shared.the_row C r l)
  shared_sync =
      let lock : IsSend (locked.the_row C r l) = locked_send in
      recorded_sync (shared.the_field C r l).row _ _ (shared.the_type C r l).to_one (struct_sync (shape (shared.the_type C r l)) (search (sendable, crosses, lock), (kept_sync, tt)))
