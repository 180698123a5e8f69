use Rattle.pr_unit.specs.declared.demand.Demand.TheVariants.{Read, Write, Look, Register, Reserve, Release, Clear, PreemptAll}
use Rattle.pr_regions.proofs.dispatch.branches_for.Goals as goal

pub returns-in-Look : goal.returns-in-Look
returns-in-Look c = rw c.in-Look.is (c.ending_everywhere.ensures c.args.sender.hosts Look c.args.sender.held c.args.sender.number c.args.sender.standing c.look_ending.ensures)

pub returns-in-Read : goal.returns-in-Read
returns-in-Read c = rw c.in-Read.is (c.ending_everywhere-in-Read.ensures c.args.sender.hosts (Read c.in-Read.in_range) c.args.sender.held c.args.sender.number c.args.sender.standing (c.transfer_ending.ensures.reading c.keeps_from_reading-is_kept.ensures))

pub returns-in-Write : goal.returns-in-Write
returns-in-Write c = rw c.in-Write.is (c.ending_everywhere-in-Write.ensures c.args.sender.hosts (Write c.in-Write.in_range) c.args.sender.held c.args.sender.number c.args.sender.standing (c.transfer_ending-in-Write.ensures.writing c.keeps_from_writing-is_kept.ensures))

pub returns-in-Register : goal.returns-in-Register
returns-in-Register c = rw c.in-Register.is (c.ending_everywhere-in-Register.ensures c.args.sender.hosts (Register c.in-Register.key) c.args.sender.held c.args.sender.number c.args.sender.standing c.register_ending.ensures)

pub returns-in-Reserve : goal.returns-in-Reserve
returns-in-Reserve c = rw c.in-Reserve.is (c.ending_everywhere-in-Reserve.ensures c.args.sender.hosts (Reserve c.in-Reserve.kind) c.args.sender.held c.args.sender.number c.args.sender.standing c.reserve_ending.ensures)

pub returns-in-Release : goal.returns-in-Release
returns-in-Release c = rw c.in-Release.is (c.ending_everywhere-in-Release.ensures c.args.sender.hosts (Release c.in-Release.kind) c.args.sender.held c.args.sender.number c.args.sender.standing c.release_ending.ensures)

pub returns-in-Clear : goal.returns-in-Clear
returns-in-Clear c = rw c.in-Clear.is (c.ending_everywhere-in-Clear.ensures c.args.sender.hosts Clear c.args.sender.held c.args.sender.number c.args.sender.standing (c.clear_ending.ensures c.args.sender.hosts c.args.sender.held c.args.sender.number c.args.sender.standing))

pub returns-in-PreemptAll : goal.returns-in-PreemptAll
returns-in-PreemptAll c = rw c.in-PreemptAll.is (c.ending_everywhere-in-PreemptAll.ensures c.args.sender.hosts (PreemptAll c.in-PreemptAll.kind) c.args.sender.held c.args.sender.number c.args.sender.standing c.preempt_all_ending.ensures)
