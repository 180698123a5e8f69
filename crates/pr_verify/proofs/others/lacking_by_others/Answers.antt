use Rattle.pr_verify.proofs.Common.{◌<◌, ◌≤◌, map, length, take, slice_index_or, Contains, ap, ◌∙◌, subst, arith, at_read, AllWithin-more, scenario_of, view_of, IsClosed}
use Rattle.pr_verify.proofs.lemmas.Reviewing.Starts.{scoped, entry_made, compared_before}
use Rattle.pr_verify.proofs.lemmas.Least.Disturbances.{all_closed, open_first, closed_as}
use Rattle.pr_verify.proofs.others.lacking_by_others.Goals.{else-not-known-via-then-not-known+in_ok-is_closed+else-not-branch, else-not-known-via-else-not-known}
use Rattle.pr_verify.proofs.others.lacking_by_others.Goals as goal

pub is_one_of-known-requires : goal.is_one_of-known-requires
is_one_of-known-requires c =
    let s = scenario_of c.args.asked.now.scenario.now in
    let o = c.args.asked.now.outline.now in
    let is = entry_made s o c.deref-entry-items.result.now c.loop-i.i c.entry-item.result c.deref-entry-items.ensures.value c.args.asked.now.made c.loop-i-test.true c.entry-item.is in
    compared_before s o c.deref.result.now c.loop-i.i c.entry-item.result.1 c.deref.ensures.value c.args.asked.now.made is

pub is_closed-requires : goal.is_closed-requires
is_closed-requires c =
    let s = scenario_of c.args.asked.now.scenario.now in
    let o = c.args.asked.now.outline.now in
    entry_made s o c.deref-entry-items.result.now c.loop-i.i c.entry-item.result c.deref-entry-items.ensures.value c.args.asked.now.made c.loop-i-test.true c.entry-item.is

pub returns-then-not-branch : goal.returns-then-not-branch
returns-then-not-branch c =
    let s = scenario_of c.args.asked.now.scenario.now in
    let o = c.args.asked.now.outline.now in
    let xs = o.views.items in
    let small = subst (λ ys. c.loop-i.i < length ys) c.deref-entry-items.ensures.value c.loop-i-test.true in
    let read = c.entry-item.is ∙ ap (λ ys. slice_index_or ys c.loop-i.i c.entry-item.result) c.deref-entry-items.ensures.value in
    open_first s o.host (view_of o.host) xs (scoped s o c.args.asked.now.made) c.args.asked.now.rise c.loop-i.i c.entry-item.result small read c.loop-i.invariant
    (c.in_ok-is_closed.ensures.open c.if-not-branch.true)

pub loop-i-preserved : goal.loop-i-preserved
loop-i-preserved c =
    let s = scenario_of c.args.asked.now.scenario.now in
    let o = c.args.asked.now.outline.now in
    let f = view_of o.host in
    let xs = o.views.items in
    let n = c.loop-i.i in
    let x = c.entry-item.result in
    let scopes = scoped s o c.args.asked.now.made in
    let small = subst (λ ys. n < length ys) c.deref-entry-items.ensures.value c.loop-i-test.true in
    let read = c.entry-item.is ∙ ap (λ ys. slice_index_or ys n x) c.deref-entry-items.ensures.value in
    AllWithin-more (λ e. IsClosed s (f e.1)) xs 0 n c.loop-i.invariant
    (at_read xs (λ e. IsClosed s (f e.1)) n x small read (elim c.else-not-known.branch [
      | else-not-known-via-then-not-known+in_ok-is_closed+else-not-branch w ↦ w.in_ok-is_closed.ensures.closed w.if-not-branch.false
      | else-not-known-via-else-not-known w ↦
          closed_as s o.host f xs scopes c.args.asked.now.rise n (f x.1) (omega arith)
          (subst (λ ys. Contains (map (λ e. f e.1) (take n ys)) (f x.1)) c.deref.ensures.value (c.is_one_of-known.ensures w.if-not-known.false o.host)) c.loop-i.invariant
    ]))

pub returns : goal.returns
returns c =
    let s = scenario_of c.args.asked.now.scenario.now in
    let o = c.args.asked.now.outline.now in
    let all = subst (λ ys. length ys ≤ c.loop-i.i) c.deref-entry-items.ensures.value c.loop-i-test.false in
    all_closed s o.host (view_of o.host) o.views.items (scoped s o c.args.asked.now.made) c.args.asked.now.rise c.loop-i.i all c.loop-i.invariant
