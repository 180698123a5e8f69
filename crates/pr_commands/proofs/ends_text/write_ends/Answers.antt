use Rattle.pr_commands.proofs.Common.{◌≡◌, ℕ, List, ap, ◌∙◌, subst, codes, Appends, Parts, scenario_of, names_in, names_of, names_of_scenario, FallsShort, front_first, front_then, puts_err, puts_last, flat_map, Together, ends_line}
use Rattle.pr_commands.proofs.ends_text.write_ends.Goals as goal

-- the lines of them
abbrev lines : List (List ℕ) → List Together → List ℕ
lines names all = flat_map (λ (t : Together). ends_line names t.ends.items t.steps) all

pub returns-in_err-put : goal.returns-in_err-put
returns-in_err-put g c = puts_err _ _ _ _ (front_first _ _ (codes "fence-ends 1\n") _ c.in_err-put.ensures) c.from_residual.ensures.0

pub returns-in_err-put_lines : goal.returns-in_err-put_lines
returns-in_err-put_lines g c =
    let names : names_of c.deref.result.now ≡ names_in (scenario_of c.args.scenario.now) = ap names_of (c.deref.ensures.value ∙ ap (λ (p : Parts). p.nexuses.items) c.parts.ensures.value) ∙ names_of_scenario c.args.scenario.now in
    let short = subst (λ (ns : List (List ℕ)). FallsShort (g.W.Write.contents c.put.new.writer) (g.W.Write.contents c.put_lines.new.writer) (lines ns c.deref-2.result.now)) names c.in_err-put_lines.ensures in
    let all = subst (λ (ts : List Together). FallsShort (g.W.Write.contents c.put.new.writer) (g.W.Write.contents c.put_lines.new.writer) (lines (names_in (scenario_of c.args.scenario.now)) ts)) c.deref-2.ensures.value short in
    puts_err _ _ _ _ (front_then _ _ _ (codes "fence-ends 1\n") _ c.in_ok-put.ensures (front_first _ _ _ _ all)) c.from_residual-in_err-put_lines.ensures.0

pub returns : goal.returns
returns g c =
    let names : names_of c.deref.result.now ≡ names_in (scenario_of c.args.scenario.now) = ap names_of (c.deref.ensures.value ∙ ap (λ (p : Parts). p.nexuses.items) c.parts.ensures.value) ∙ names_of_scenario c.args.scenario.now in
    let wrote = subst (λ (ns : List (List ℕ)). Appends (g.W.Write.contents c.put.new.writer) (g.W.Write.contents c.put_lines.new.writer) (lines ns c.deref-2.result.now)) names c.in_ok-put_lines.ensures in
    let all = subst (λ (ts : List Together). Appends (g.W.Write.contents c.put.new.writer) (g.W.Write.contents c.put_lines.new.writer) (lines (names_in (scenario_of c.args.scenario.now)) ts)) c.deref-2.ensures.value wrote in
    puts_last _ _ _ (codes "fence-ends 1\n") _ _ c.in_ok-put.ensures (puts_last _ _ _ _ _ _ all c.put_last.ensures)
