-- A statement's cost by its kind, and one statement or arm more.
use Rattle.pr_script.proofs.Common.{◌+◌, min, sym, ap, ◌∙◌, arith, cost_of, cost_of_all, greatest, statement_of, script_of, arms_in}
use Rattle.std.proofs.Common.{◌*◌}
use Rattle.pr_script.specs.declared.limits.TheConstants.{MOST_BUDGET}
use Rattle.pr_script.proofs.lemmas.Trees.Equations.{tree_send, tree_repeat}
use Rattle.pr_script.proofs.lemmas.Trees.ListTails.{cost_taken, greatest_taken}
use Rattle.pr_script.proofs.lemmas.Costs.Products.{cut_product}
use Rattle.pr_script.proofs.sizes.+cost.Goals as goal

pub cost-loop-statement-preserved : goal.cost-loop-statement-preserved
cost-loop-statement-preserved t c =
    omega (arith, cost_taken _ c.loop-statement.statement-index c.statement-item.result c.loop-statement-test.true c.statement-item.is)

pub greatest_cost-loop-arm-preserved : goal.greatest_cost-loop-arm-preserved
greatest_cost-loop-arm-preserved t c =
    omega (arith, greatest_taken _ c.loop-arm.arm-index c.arm-item.result c.loop-arm-test.true c.arm-item.is)

pub statement_cost-returns-in-Send : goal.statement_cost-returns-in-Send
statement_cost-returns-in-Send t c =
    let costs = ap (λ s. cost_of (statement_of s)) c.in-Send.is ∙ ap cost_of (tree_send c.in-Send.line c.in-Send.command c.in-Send.arms) in
    let most = c.greatest_cost.ensures ∙ ap (λ arms. min (MOST_BUDGET + 1) (greatest (arms_in arms))) c.deref.ensures.value in
    omega arith

pub statement_cost-returns-in-Repeat : goal.statement_cost-returns-in-Repeat
statement_cost-returns-in-Repeat t c =
    let costs = ap (λ s. cost_of (statement_of s)) c.in-Repeat.is ∙ ap cost_of (tree_repeat c.in-Repeat.count c.in-Repeat.body) in
    let product = ap (λ n. min (n * c.cost.result) (MOST_BUDGET + 1)) c.from.ensures ∙ ap (λ n. min (c.in-Repeat.count * n) (MOST_BUDGET + 1)) c.cost.ensures
    ∙ cut_product (MOST_BUDGET + 1) c.in-Repeat.count (cost_of_all (script_of c.in-Repeat.body)) in
    c.min-in-Repeat.ensures ∙ product ∙ ap (min (MOST_BUDGET + 1)) (sym costs)
