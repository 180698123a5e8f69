use Rattle.pr_commands.proofs.Common.{◌≡◌, ℕ, List, ap, ◌∙◌, subst, codes, Appends, Parts, scenario_of, names_in, names_of, names_of_scenario, FallsShort, front_first, front_then, puts_err, puts_last, End, ends_line}
use Rattle.pr_commands.proofs.ends_text.put_found.Goals as goal

pub returns-in_err-put : goal.returns-in_err-put
returns-in_err-put g c = puts_err _ _ _ _ (front_first _ _ (codes "fence-witness 1\nends ") _ c.in_err-put.ensures) c.from_residual.ensures.0

pub returns-in_err-put_ends : goal.returns-in_err-put_ends
returns-in_err-put_ends g c =
    let names : names_of c.deref.result.now ≡ names_in (scenario_of c.args.scenario.now) = ap names_of (c.deref.ensures.value ∙ ap (λ (p : Parts). p.nexuses.items) c.parts.ensures.value) ∙ names_of_scenario c.args.scenario.now in
    let short = subst (λ (ns : List (List ℕ)). FallsShort (g.W.Write.contents c.put.new.writer) (g.W.Write.contents c.put_ends.new.writer) (ends_line ns c.deref-2.result.now c.args.steps)) names c.in_err-put_ends.ensures in
    let line = subst (λ (es : List End). FallsShort (g.W.Write.contents c.put.new.writer) (g.W.Write.contents c.put_ends.new.writer) (ends_line (names_in (scenario_of c.args.scenario.now)) es c.args.steps)) c.deref-2.ensures.value short in
    puts_err _ _ _ _ (front_then _ _ _ (codes "fence-witness 1\nends ") _ c.in_ok-put.ensures (front_first _ _ _ _ line)) c.from_residual-in_err-put_ends.ensures.0

pub returns : goal.returns
returns g c =
    let names : names_of c.deref.result.now ≡ names_in (scenario_of c.args.scenario.now) = ap names_of (c.deref.ensures.value ∙ ap (λ (p : Parts). p.nexuses.items) c.parts.ensures.value) ∙ names_of_scenario c.args.scenario.now in
    let wrote = subst (λ (ns : List (List ℕ)). Appends (g.W.Write.contents c.put.new.writer) (g.W.Write.contents c.put_ends.new.writer) (ends_line ns c.deref-2.result.now c.args.steps)) names c.in_ok-put_ends.ensures in
    let line = subst (λ (es : List End). Appends (g.W.Write.contents c.put.new.writer) (g.W.Write.contents c.put_ends.new.writer) (ends_line (names_in (scenario_of c.args.scenario.now)) es c.args.steps)) c.deref-2.ensures.value wrote in
    puts_last _ _ _ (codes "fence-witness 1\nends ") _ _ c.in_ok-put.ensures (puts_last _ _ _ _ _ _ line c.put_certified.ensures)
