use Rattle.pr_commands.proofs.Common.{◌≡◌, ℕ, List, ap, ◌∙◌, subst, arith, Appends, State, name_of, names_of, FallsShort, puts_err, wrote_front, wrote_more, pending_line}
use Rattle.std.specs.FinSet as set
use Rattle.pr_unit.specs.UnitStates.{is_pending}
use Rattle.pr_commands.proofs.lemmas.Witnesses.Lines.{line_first, lines_over, pending_same}
use Rattle.pr_commands.proofs.witness_text.put_pendings.Goals as goal

pub returns-in_err-put_pending : goal.returns-in_err-put_pending
returns-in_err-put_pending g c =
    let f : ℕ → List ℕ = λ host. pending_line (name_of (names_of c.args.nexuses.now) host) (is_pending c.args.start.now host) in
    let there = c.loop-host-test.true in
    let top : c.hosts-host-end.result ≡ c.args.start.now.registry.hosts = c.hosts-host-end.ensures.value ∙ ap (λ (r : State). r.hosts) c.registry-registry.ensures.value in
    let same = ap (λ name. pending_line name (λ code. set.contains c.pending.result.now code)) c.name_of.ensures ∙ pending_same _ _ _ c.pending.ensures.value in
    let short : FallsShort _ _ (f c.loop-host.host) = subst (λ (t : List ℕ). FallsShort (g.W.Write.contents c.loop-host.writer) (g.W.Write.contents c.put_pending.new.writer) t) same c.in_err-put_pending.ensures in
    puts_err _ _ _ _ (wrote_front _ _ _ _ _ _ (line_first f _ c.loop-host.host _ _ (omega (arith, there, top)) c.loop-host.invariant) short) c.from_residual.ensures.0

pub loop-host-preserved : goal.loop-host-preserved
loop-host-preserved g c =
    let f : ℕ → List ℕ = λ host. pending_line (name_of (names_of c.args.nexuses.now) host) (is_pending c.args.start.now host) in
    let there = c.loop-host-test.true in
    let top : c.hosts-host-end.result ≡ c.args.start.now.registry.hosts = c.hosts-host-end.ensures.value ∙ ap (λ (r : State). r.hosts) c.registry-registry.ensures.value in
    let same = ap (λ name. pending_line name (λ code. set.contains c.pending.result.now code)) c.name_of.ensures ∙ pending_same _ _ _ c.pending.ensures.value in
    let done : Appends _ _ (f c.loop-host.host) = subst (λ (t : List ℕ). Appends (g.W.Write.contents c.loop-host.writer) (g.W.Write.contents c.put_pending.new.writer) t) same c.in_ok-put_pending.ensures in
    wrote_more _ _ _ _ _ _ (line_first f _ c.loop-host.host _ _ (omega (arith, there, top)) c.loop-host.invariant) done

pub returns : goal.returns
returns g c =
    let f : ℕ → List ℕ = λ host. pending_line (name_of (names_of c.args.nexuses.now) host) (is_pending c.args.start.now host) in
    let past = c.loop-host-test.false in
    let top : c.hosts-host-end.result ≡ c.args.start.now.registry.hosts = c.hosts-host-end.ensures.value ∙ ap (λ (r : State). r.hosts) c.registry-registry.ensures.value in
    lines_over f _ c.loop-host.host _ _ (omega (arith, past, top)) c.loop-host.invariant
