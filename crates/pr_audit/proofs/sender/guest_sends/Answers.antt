use Rattle.pr_audit.proofs.Common.{◌≡◌, ◌≤◌, length, Ok}
use Rattle.std.proofs.Common.{rules}
use Rattle.pr_cdb.specs.declared.codes.TheConstants.{MOST_CDB_LENGTH, PARAMETER_LIST_LENGTH}
use Rattle.pr_cdb.specs.Requests.{AreBytes, request_of_wire}
use Rattle.pr_audit.proofs.lemmas.Auditing.Judgements.{guest_sent}
use Rattle.pr_audit.proofs.sender.guest_sends.Goals as goal

pub returns : goal.returns
returns c =
    let e = c.args.entry.now in
    let cdb : AreBytes e.wire.cdb.items = search rules in
    let params : AreBytes e.wire.params.items = search rules in
    let short : length e.wire.cdb.items ≤ MOST_CDB_LENGTH = search rules in
    let few : length e.wire.params.items ≤ PARAMETER_LIST_LENGTH = search rules in
    let read : request_of_wire e.wire ≡ Ok c.in-Ok.request = search rules in
    guest_sent c.args.shared c.args.how c.args.role.now.clauses.items c.args.unit.now e c.in-Ok.request c.is_answered.result c.is_answered.new.unit (cdb, params) (short, few) read (c.keeps_role.ensures.0 c.if-not-keeps_role.false)
    c.is_answered.ensures
