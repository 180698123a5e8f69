use Rattle.pr_audit.proofs.Common.{◌≡◌, subst, Some, Ok, spelling, Plain, ready, Going, Trapped, standing_of, control_after}
use Rattle.std.proofs.Common.{rules}
use Rattle.pr_cdb.specs.Requests.{request_of_wire}
use Rattle.pr_audit.specs.inside.Auditing.{IsAnswered}
use Rattle.pr_audit.proofs.lemmas.Auditing.Judgements.{guest_judged, script_judged}
use Rattle.pr_audit.proofs.sender.Sender.sends.Goals as goal

pub returns-in-Guest : goal.returns-in-Guest
returns-in-Guest c = record { judged = guest_judged _ _ _ _ _ _ _ _ c.in-Guest.is c.guest_sends.ensures }

pub returns-then-is_err : goal.returns-then-is_err
returns-then-is_err c =
    let e = c.args.entry.now in
    let wire : e.wire ≡ spelling c.in-Send.command = search rules in
    let read : request_of_wire e.wire ≡ Ok (Plain c.in-Send.command) = search rules in
    let stands : standing_of (Going c.in-Host.machine) ≡ Some (ready c.in-Send.line c.in-Send.command) = search rules in
    let takes : Trapped c.in-Send.line ≡ control_after c.in-Send.line (Going c.in-Host.machine) e.reply = search rules in
    record {
      judged = script_judged c.args.shared c.args.how c.args.self.now c.in-Host.machine c.args.role.now.clauses.items c.args.unit.now e c.in-Send.line c.in-Send.command (Trapped c.in-Send.line) c.is_answered.new.unit
          c.in-Host.is stands wire read (subst (λ b. IsAnswered c.args.shared c.args.how c.args.unit.now e b c.is_answered.new.unit) c.if-not-is_answered.false c.is_answered.ensures) takes;
    }

pub returns-else-is_err : goal.returns-else-is_err
returns-else-is_err c =
    let e = c.args.entry.now in
    let wire : e.wire ≡ spelling c.in-Send.command = search rules in
    let read : request_of_wire e.wire ≡ Ok (Plain c.in-Send.command) = search rules in
    let stands : standing_of (Going c.in-Host.machine) ≡ Some (ready c.in-Send.line c.in-Send.command) = search rules in
    let takes : Going c.take.new.self ≡ control_after c.in-Send.line (Going c.in-Host.machine) e.reply = search rules in
    record {
      judged = script_judged c.args.shared c.args.how c.args.self.now c.in-Host.machine c.args.role.now.clauses.items c.args.unit.now e c.in-Send.line c.in-Send.command (Going c.take.new.self) c.is_answered.new.unit
          c.in-Host.is stands wire read (subst (λ b. IsAnswered c.args.shared c.args.how c.args.unit.now e b c.is_answered.new.unit) c.if-not-is_answered.false c.is_answered.ensures) takes;
    }
