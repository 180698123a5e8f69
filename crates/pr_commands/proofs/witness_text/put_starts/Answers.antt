use Rattle.pr_commands.proofs.Common.{◌≡◌, ℕ, List, [], ◌∷◌, Option, ap, ◌∙◌, subst, arith, codes, Appends, State, name_of, names_of, FallsShort, puts_err, wrote_front, wrote_more}
use Rattle.pr_registry.specs.Registrations.{key_of}
use Rattle.pr_output.specs.PrintedLines.{line}
use Rattle.pr_commands.specs.WitnessText.{start_line, start_word}
use Rattle.pr_commands.proofs.lemmas.Witnesses.Lines.{line_first, lines_over}
use Rattle.pr_commands.proofs.witness_text.put_starts.Goals as goal

pub returns-in_err-put_start : goal.returns-in_err-put_start
returns-in_err-put_start g c =
    let names = names_of c.args.nexuses.now in
    let f : ℕ → List ℕ = start_line names c.args.start.now.registry in
    let there = c.loop-host-test.true in
    let top : c.hosts-host-end.result ≡ c.args.start.now.registry.hosts = c.hosts-host-end.ensures.value ∙ ap (λ (r : State). r.hosts) c.registry-registry.ensures.value in
    let same = ap (λ (name : List ℕ). line (codes "start") (name ∷ start_word c.key.result ∷ [])) c.name_of.ensures
    ∙ ap (λ (key : Option ℕ). line (codes "start") (name_of names c.loop-host.host ∷ start_word key ∷ [])) (c.key.ensures ∙ ap (λ (r : State). key_of r c.loop-host.host) c.registry-registry.ensures.value) in
    let short : FallsShort _ _ (f c.loop-host.host) = subst (λ (t : List ℕ). FallsShort (g.W.Write.contents c.loop-host.writer) (g.W.Write.contents c.put_start.new.writer) t) same c.in_err-put_start.ensures in
    puts_err _ _ _ _ (wrote_front _ _ _ _ _ _ (line_first f _ c.loop-host.host _ _ (omega (arith, there, top)) c.loop-host.invariant) short) c.from_residual.ensures.0

pub loop-host-preserved : goal.loop-host-preserved
loop-host-preserved g c =
    let names = names_of c.args.nexuses.now in
    let f : ℕ → List ℕ = start_line names c.args.start.now.registry in
    let there = c.loop-host-test.true in
    let top : c.hosts-host-end.result ≡ c.args.start.now.registry.hosts = c.hosts-host-end.ensures.value ∙ ap (λ (r : State). r.hosts) c.registry-registry.ensures.value in
    let same = ap (λ (name : List ℕ). line (codes "start") (name ∷ start_word c.key.result ∷ [])) c.name_of.ensures
    ∙ ap (λ (key : Option ℕ). line (codes "start") (name_of names c.loop-host.host ∷ start_word key ∷ [])) (c.key.ensures ∙ ap (λ (r : State). key_of r c.loop-host.host) c.registry-registry.ensures.value) in
    let done : Appends _ _ (f c.loop-host.host) = subst (λ (t : List ℕ). Appends (g.W.Write.contents c.loop-host.writer) (g.W.Write.contents c.put_start.new.writer) t) same c.in_ok-put_start.ensures in
    wrote_more _ _ _ _ _ _ (line_first f _ c.loop-host.host _ _ (omega (arith, there, top)) c.loop-host.invariant) done

pub returns : goal.returns
returns g c =
    let names = names_of c.args.nexuses.now in
    let f : ℕ → List ℕ = start_line names c.args.start.now.registry in
    let past = c.loop-host-test.false in
    let top : c.hosts-host-end.result ≡ c.args.start.now.registry.hosts = c.hosts-host-end.ensures.value ∙ ap (λ (r : State). r.hosts) c.registry-registry.ensures.value in
    lines_over f _ c.loop-host.host _ _ (omega (arith, past, top)) c.loop-host.invariant
