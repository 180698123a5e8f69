-- Equal lists are as long and equal at each place, and equal statements are of one kind.
use Rattle.pr_script.proofs.Common.{◌≡◌, ◌<◌, length, get_or, ap, ◌∙◌, subst, arith, statement_of, arms_in}
use Rattle.std.proofs.Common.{IsTrue}
use Rattle.pr_script.proofs.lemmas.Trees.Equations.{tree_send, tree_repeat}
use Rattle.pr_script.proofs.lemmas.Trees.Equality.{refuted, not_both, same_length, same_arm_count, same_statement, same_arm, same_so_far, same_arms_so_far, sends_alike, repeats_alike}
use Rattle.pr_script.proofs.script.+same.Goals as goal

pub Script::same-returns-then-len : goal.Script::same-returns-then-len
Script::same-returns-then-len t c = refuted (λ e.
    let as_long = same_length c.args.self.now.statements.items c.args.other.now.statements.items e in
    c.if-len.true (omega (arith, c.len.ensures, c.len-2.ensures, c.args.self.now.statements.ok.0, c.args.other.now.statements.ok.0)))

pub Script::same-returns-then-not-same : goal.Script::same-returns-then-not-same
Script::same-returns-then-not-same t c = refuted (λ e.
    let items = c.deref-statement-items.ensures.value in
    let within = subst (λ xs. c.loop-i.i < length xs) items c.loop-i-test.true in
    let is = c.statement-item.is ∙ ap (λ xs. get_or xs c.loop-i.i c.statement-item.result) items in
    let same = same_statement c.args.self.now.statements.items c.args.other.now.statements.items c.loop-i.i c.statement-item.result c.index.result.now
    within is c.index.ensures e in
    not_both c.if-not-same.true (c.same.ensures.1 same))

pub Script::same-loop-i-preserved : goal.Script::same-loop-i-preserved
Script::same-loop-i-preserved t c =
    let items = c.deref-statement-items.ensures.value in
    let within = subst (λ xs. c.loop-i.i < length xs) items c.loop-i-test.true in
    let is = c.statement-item.is ∙ ap (λ xs. get_or xs c.loop-i.i c.statement-item.result) items in
    let as_long : length c.args.self.now.statements.items ≡ length c.args.other.now.statements.items = omega (arith, c.len.ensures, c.len-2.ensures, c.if-len.false, c.args.self.now.statements.ok.0, c.args.other.now.statements.ok.0) in
    same_so_far c.args.self.now.statements.items c.args.other.now.statements.items c.loop-i.i c.statement-item.result c.index.result.now
    within as_long is c.index.ensures c.loop-i.invariant (c.same.ensures.0 c.if-not-same.false)

pub Statement::same-returns-then-count-other_count : goal.Statement::same-returns-then-count-other_count
Statement::same-returns-then-count-other_count t c = repeats_alike _ _ _ _
    (ap statement_of c.in-Repeat-Repeat.is-0 ∙ tree_repeat _ _)
    (ap statement_of c.in-Repeat-Repeat.is-1 ∙ tree_repeat _ _)
    c.if-count-other_count.true c.same.ensures

pub same_arms-returns-then-arms-others : goal.same_arms-returns-then-arms-others
same_arms-returns-then-arms-others t c = refuted (λ e. c.if-arms-others.true (same_arm_count _ _ e))

pub same_arms-returns-then-not-same : goal.same_arms-returns-then-not-same
same_arms-returns-then-not-same t c = refuted (λ e.
    let same = same_arm c.args.arms.now c.args.others.now c.loop-i.i c.index-arms-i.result c.index-others-i.result
    c.loop-i-test.true c.index-arms-i.is c.index-others-i.is e in
    not_both c.if-not-same.true (c.same.ensures.1 same))

pub same_arms-loop-i-preserved : goal.same_arms-loop-i-preserved
same_arms-loop-i-preserved t c =
    let same = c.same.ensures.0 c.if-not-same.false in
    same_arms_so_far c.args.arms.now c.args.others.now c.loop-i.i c.index-arms-i.result c.index-others-i.result
    c.loop-i-test.true c.if-arms-others.false c.index-arms-i.is c.index-others-i.is c.loop-i.invariant same.0 same.1

pub Statement::same-returns-then-is_same_command : goal.Statement::same-returns-then-is_same_command
Statement::same-returns-then-is_same_command t c =
    let head = c.is_same_command.ensures.0 c.if-is_same_command.true in
    sends_alike _ _ _ _ _ _
    (ap statement_of c.in-Send-Send.is-0 ∙ tree_send _ _ _)
    (ap statement_of c.in-Send-Send.is-1 ∙ tree_send _ _ _)
    head.0 head.1
    (subst (λ xs. (IsTrue c.same_arms.result → arms_in xs ≡ arms_in c.in-Send-Send.other_arms.items) × (arms_in xs ≡ arms_in c.in-Send-Send.other_arms.items → IsTrue c.same_arms.result))
    c.deref.ensures.value
    (subst (λ ys. (IsTrue c.same_arms.result → arms_in c.deref.result.now ≡ arms_in ys) × (arms_in c.deref.result.now ≡ arms_in ys → IsTrue c.same_arms.result))
    c.deref-then-is_same_command.ensures.value c.same_arms.ensures))
