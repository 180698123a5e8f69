-- One part more, and then all.
use Rattle.pr_commands.proofs.Common.{◌≡◌, ℕ, List, Some, length, refl, sym, subst, slice_get, Appends, name_of, names_of, FallsShort, puts_err, wrote_front, wrote_more}
use Rattle.std.proofs.lemmas.Option.{slice_get_read}
use Rattle.pr_commands.specs.EndsText.{end_part}
use Rattle.pr_commands.proofs.lemmas.Witnesses.Lines.{line_first, lines_over}
use Rattle.pr_commands.proofs.ends_text.put_parts.Goals as goal

pub returns-in_err-put_part : goal.returns-in_err-put_part
returns-in_err-put_part g c =
    let ends = c.args.ends.now in
    let f : ℕ → List ℕ = λ host. end_part (name_of (names_of c.args.nexuses.now) host) (slice_get ends host) in
    let at = slice_get_read ends (length ends) c.loop-host.host c.index-ends-host.result refl c.loop-host-test.true c.index-ends-host.is in
    let same : end_part c.name_at.result.now (Some c.index-ends-host.result) ≡ f c.loop-host.host = λ i. end_part (c.name_at.ensures i) (sym at i) in
    let short : FallsShort _ _ (f c.loop-host.host) = subst (λ (t : List ℕ). FallsShort (g.W.Write.contents c.loop-host.writer) (g.W.Write.contents c.put_part.new.writer) t) same c.in_err-put_part.ensures in
    puts_err _ _ _ _ (wrote_front _ _ _ _ _ _ (line_first f _ c.loop-host.host _ _ c.loop-host-test.true c.loop-host.invariant) short) c.from_residual.ensures.0

pub loop-host-preserved : goal.loop-host-preserved
loop-host-preserved g c =
    let ends = c.args.ends.now in
    let f : ℕ → List ℕ = λ host. end_part (name_of (names_of c.args.nexuses.now) host) (slice_get ends host) in
    let at = slice_get_read ends (length ends) c.loop-host.host c.index-ends-host.result refl c.loop-host-test.true c.index-ends-host.is in
    let same : end_part c.name_at.result.now (Some c.index-ends-host.result) ≡ f c.loop-host.host = λ i. end_part (c.name_at.ensures i) (sym at i) in
    let done : Appends _ _ (f c.loop-host.host) = subst (λ (t : List ℕ). Appends (g.W.Write.contents c.loop-host.writer) (g.W.Write.contents c.put_part.new.writer) t) same c.in_ok-put_part.ensures in
    wrote_more _ _ _ _ _ _ (line_first f _ c.loop-host.host _ _ c.loop-host-test.true c.loop-host.invariant) done

pub returns : goal.returns
returns g c =
    let f : ℕ → List ℕ = λ host. end_part (name_of (names_of c.args.nexuses.now) host) (slice_get c.args.ends.now host) in
    lines_over f _ c.loop-host.host _ _ c.loop-host-test.false c.loop-host.invariant
