-- The places of a send and of a repeat.
use Rattle.pr_verify.proofs.Common.{◌++◌, map, sym, ap, ◌∙◌, statements_in, script_of, arms_in, round, tests_of, next_of, places_in, places, places_of_arms, place_of}
use Rattle.std.proofs.lemmas.Result.{on_ok_weaker}
use Rattle.pr_script.specs.Trees.{statement_of}
use Rattle.pr_script.proofs.lemmas.Trees.Equations.{tree_send, tree_repeat}
use Rattle.pr_verify.proofs.lemmas.Listing.Statements.{send_listed, repeat_listed, one_more_in_range}
use Rattle.pr_verify.proofs.places.+list.Goals as goal

pub list_at-returns-in_ok-push-in-Send-clause-listed : goal.list_at-returns-in_ok-push-in-Send-clause-listed
list_at-returns-in_ok-push-in-Send-clause-listed t c =
    let is = ap statement_of c.in-Send.is ∙ tree_send c.in-Send.line c.in-Send.command c.in-Send.arms in
    on_ok_weaker c.list_arms.result (λ listed.
    send_listed c.args.spots.now.items c.push.new.self.items c.list_arms.new.spots.items
    (record { line = c.in-Send.line; command = c.in-Send.command; tests = c.in_ok-tests_in-in-Send.field-0; next = c.in_ok-next_in-in-Send.field-0 })
    (arms_in c.in-Send.arms.items) c.args.after.now c.args.broken.now
    c.in_ok-push-in-Send.ensures.items
    (c.in_ok-tests_in-in-Send.ensures ∙ ap (λ a. tests_of (arms_in a)) c.deref.ensures.value)
    (c.in_ok-next_in-in-Send.ensures ∙ ap (λ a. next_of (arms_in a) c.args.after.now c.args.broken.now) c.deref-in-Send.ensures.value)
    (listed ∙ ap (λ a. map place_of c.push.new.self.items ++ places_of_arms (arms_in a) c.args.after.now c.args.broken.now) c.deref-in-Send-2.ensures.value)
    ∙ ap (λ s. map place_of c.args.spots.now.items ++ places_in s c.args.after.now c.args.broken.now) (sym is)) c.list_arms.ensures.listed

pub list_at-returns-in_ok-around-in-Repeat-clause-listed : goal.list_at-returns-in_ok-around-in-Repeat-clause-listed
list_at-returns-in_ok-around-in-Repeat-clause-listed t c =
    let is = ap statement_of c.in-Repeat.is ∙ tree_repeat c.in-Repeat.count c.in-Repeat.body in
    on_ok_weaker c.list.result (λ listed.
    repeat_listed c.args.spots.now.items c.list.new.spots.items c.in-Repeat.count (script_of c.in-Repeat.body) c.args.after.now c.deref-in-Repeat-3.result.now c.args.broken.now
    (c.deref-in-Repeat-3.ensures.value ∙ c.in_ok-around-in-Repeat.ensures ∙ ap (λ b. round c.in-Repeat.count (statements_in b) c.args.after.now) c.deref-in-Repeat.ensures.value)
    (listed ∙ ap (λ b. map place_of c.args.spots.now.items ++ places (statements_in b) c.deref-in-Repeat-3.result.now c.args.after.now) c.deref-in-Repeat-2.ensures.value)
    ∙ ap (λ s. map place_of c.args.spots.now.items ++ places_in s c.args.after.now c.args.broken.now) (sym is)) c.list.ensures.listed

pub list_at-returns-in_ok-push-in-Send-clause-fields : goal.list_at-returns-in_ok-push-in-Send-clause-fields
list_at-returns-in_ok-push-in-Send-clause-fields t c =
    on_ok_weaker c.list_arms.result (λ more before.
    more (one_more_in_range c.args.spots.now.items c.push.new.self.items _ c.in_ok-push-in-Send.ensures.items c.in_range.ensures before)) c.list_arms.ensures.fields
