use Rattle.pr_report.proofs.Common.{view_of, registration_line, names_of, puts_err, wrote_all, wrote_front, wrote_more}
use Rattle.pr_report.proofs.lemmas.WordsWritten.Possibilities.{range_here, range_end}
use Rattle.pr_report.proofs.outline.put_registrations.Goals as goal

pub returns-in_err-put_registration_line : goal.returns-in_err-put_registration_line
returns-in_err-put_registration_line g c = λ own.
    let each = registration_line (names_of c.args.nexuses.now) (view_of own c.args.view.now) in
    let here = range_here c.loop-host.host c.args.view.now.hosts c.loop-host-test.true in
    puts_err _ _ _ _ (wrote_front _ _ _ _ (each c.loop-host.host) _ (rw here at (c.loop-host.invariant own)) (c.in_err-put_registration_line.ensures own)) c.from_residual.ensures.0

pub loop-host-preserved : goal.loop-host-preserved
loop-host-preserved g c = λ own.
    let each = registration_line (names_of c.args.nexuses.now) (view_of own c.args.view.now) in
    let here = range_here c.loop-host.host c.args.view.now.hosts c.loop-host-test.true in
    wrote_more _ _ _ _ (each c.loop-host.host) _ (rw here at (c.loop-host.invariant own)) (c.in_ok-put_registration_line.ensures own)

pub returns : goal.returns
returns g c = λ own. wrote_all _ _ _ (rw (range_end c.loop-host.host c.args.view.now.hosts c.loop-host-test.false) at (c.loop-host.invariant own))
