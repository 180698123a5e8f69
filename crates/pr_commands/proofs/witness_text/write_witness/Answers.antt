use Rattle.pr_commands.proofs.Common.{◌≡◌, List, ℕ, ap, ◌∙◌, subst, codes, Parts, scenario_of, names_in, names_of, FallsShort, Appends, front_first, front_then, puts_err, puts_last, names_of_scenario}
use Rattle.pr_commands.specs.WitnessText.{broken_line}
use Rattle.pr_commands.proofs.witness_text.write_witness.Goals as goal

pub returns-in_err-put : goal.returns-in_err-put
returns-in_err-put g c = puts_err _ _ _ _ (front_first _ _ (codes "fence-witness 1\n") _ c.in_err-put.ensures) c.from_residual.ensures.0

pub returns-in_err-put_broken : goal.returns-in_err-put_broken
returns-in_err-put_broken g c =
    let names : names_of c.deref.result.now ≡ names_in (scenario_of c.args.scenario.now) = ap names_of (c.deref.ensures.value ∙ ap (λ (p : Parts). p.nexuses.items) c.parts.ensures.value) ∙ names_of_scenario c.args.scenario.now in
    let short = subst (λ (ns : List (List ℕ)). FallsShort (g.W.Write.contents c.put.new.writer) (g.W.Write.contents c.put_broken.new.writer) (broken_line ns c.args.breach.now c.args.is_told)) names c.in_err-put_broken.ensures in
    puts_err _ _ _ _ (front_then _ _ _ (codes "fence-witness 1\n") _ c.in_ok-put.ensures (front_first _ _ _ _ short)) c.from_residual-in_err-put_broken.ensures.0

pub returns : goal.returns
returns g c =
    let names : names_of c.deref.result.now ≡ names_in (scenario_of c.args.scenario.now) = ap names_of (c.deref.ensures.value ∙ ap (λ (p : Parts). p.nexuses.items) c.parts.ensures.value) ∙ names_of_scenario c.args.scenario.now in
    let second = subst (λ (ns : List (List ℕ)). Appends (g.W.Write.contents c.put.new.writer) (g.W.Write.contents c.put_broken.new.writer) (broken_line ns c.args.breach.now c.args.is_told)) names c.in_ok-put_broken.ensures in
    puts_last _ _ _ (codes "fence-witness 1\n") _ _ c.in_ok-put.ensures (puts_last _ _ _ _ _ _ second c.put_certified.ensures)
