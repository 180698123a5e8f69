use Rattle.pr_commands.proofs.Common.{◌≡◌, List, ℕ, ap, ◌∙◌, subst, map, Parts, scenario_of, End, ending_of, names_in, names_of, FallsShort, Puts, Appends, front_first, puts_err, puts_last, names_of_scenario}
use Rattle.pr_roles.specs.declared.item.Item.{Item}
use Rattle.pr_trace.specs.TraceText.{trace_body}
use Rattle.pr_commands.specs.WitnessText.{run_head}
use Rattle.pr_commands.proofs.witness_text.put_certified.Goals as goal

pub returns-in_err-put_head : goal.returns-in_err-put_head
returns-in_err-put_head g c =
    let names : names_of c.deref.result.now ≡ names_in (scenario_of c.args.scenario.now) = ap names_of (c.deref.ensures.value ∙ ap (λ (p : Parts). p.nexuses.items) c.parts.ensures.value) ∙ names_of_scenario c.args.scenario.now in
    let short = subst (λ (ns : List (List ℕ)). FallsShort (g.W.Write.contents c.args.writer.now) (g.W.Write.contents c.put_head.new.writer) (run_head ns c.args.run.now.start)) names c.in_err-put_head.ensures in
    puts_err _ _ _ _ (front_first _ _ _ _ short) c.from_residual.ensures.0

pub returns : goal.returns
returns g c =
    let names : names_of c.deref.result.now ≡ names_in (scenario_of c.args.scenario.now) = ap names_of (c.deref.ensures.value ∙ ap (λ (p : Parts). p.nexuses.items) c.parts.ensures.value) ∙ names_of_scenario c.args.scenario.now in
    let head = subst (λ (ns : List (List ℕ)). Appends (g.W.Write.contents c.args.writer.now) (g.W.Write.contents c.put_head.new.writer) (run_head ns c.args.run.now.start)) names c.in_ok-put_head.ensures in
    let old = g.W.Write.contents c.put_head.new.writer in
    let new = g.W.Write.contents c.write_trace_body.new.writer in
    let ns = names_in (scenario_of c.args.scenario.now) in
    let b = c.args.run.now in
    let one = subst (λ (items : List Item). Puts old new (trace_body ns items b.unit.registry (map ending_of c.deref-3.result.now) c.deref-4.result.now) c.write_trace_body.result) c.deref-2.ensures.value c.write_trace_body.ensures in
    let two = subst (λ (ends : List End). Puts old new (trace_body ns b.history.items b.unit.registry (map ending_of ends) c.deref-4.result.now) c.write_trace_body.result) c.deref-3.ensures.value one in
    let three = subst (λ (counts : List ℕ). Puts old new (trace_body ns b.history.items b.unit.registry (map ending_of b.ends.items) counts) c.write_trace_body.result) c.deref-4.ensures.value two in
    puts_last _ _ _ _ _ _ head three
