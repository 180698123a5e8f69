use Rattle.std.proofs.Common.{◌≡◌, Some, None, take, sym, ap, ◌∙◌, arith}
use Rattle.std.specs.Prelude.{option_map}
use Rattle.std.specs.List.{filter_map}
use Rattle.std.proofs.lemmas.Bool.{false≢true}
use Rattle.std.proofs.lemmas.List.{append-nil, take_more}
use Rattle.pr_roles.specs.Items.{entry_by}
use Rattle.pr_shared.proofs.lemmas.Senders.EntryLists.{another_next, found_more, too_few}
use Rattle.pr_shared.proofs.closing.is_own.Goals as goal
use Rattle.pr_shared.proofs.closing.is_own.Goals.{in-Some+else-count-mine+else-not-is_same, in_default}

pub returns-then-count-mine : goal.returns-then-count-mine
returns-then-count-mine c =
    let here : entry_by c.args.host c.item-item.result ≡ Some c.in-Some.entry.now = sym c.entry_by.ensures ∙ ap (option_map (λ e. e.now)) c.in-Some.is in (
      λ no. absurd (false≢true no),
      λ all.
          absurd (too_few (entry_by c.args.host) c.args.history.now c.args.mine.now c.loop-item.item-index c.loop-item.count c.item-item.result c.in-Some.entry.now c.loop-item-test.true c.item-item.is here
          c.if-count-mine.true c.loop-item.invariant.own all),
    )

pub returns-then-not-is_same : goal.returns-then-not-is_same
returns-then-not-is_same c =
    let here : entry_by c.args.host c.item-item.result ≡ Some c.in-Some.entry.now = sym c.entry_by.ensures ∙ ap (option_map (λ e. e.now)) c.in-Some.is in (
      λ no. absurd (false≢true no),
      λ all.
          absurd (false≢true (sym c.if-not-is_same.true
          ∙ c.is_same.ensures.1 (another_next (entry_by c.args.host) c.args.history.now c.args.mine.now c.loop-item.item-index c.loop-item.count c.item-item.result c.in-Some.entry.now c.index-mine-count.result
          c.loop-item-test.true c.item-item.is here c.if-count-mine.false c.index-mine-count.is c.loop-item.invariant.own all))),
    )

pub loop-item-preserved : goal.loop-item-preserved
loop-item-preserved c = elim c.match-entry_by.branch [
  | in-Some+else-count-mine+else-not-is_same w ↦
      let here : entry_by c.args.host c.item-item.result ≡ Some w.in-Some.entry.now = sym c.entry_by.ensures ∙ ap (option_map (λ e. e.now)) w.in-Some.is in
      let found = found_more (entry_by c.args.host) c.args.history.now c.loop-item.item-index c.item-item.result (Some w.in-Some.entry.now) c.loop-item-test.true c.item-item.is here in
      let more = take_more c.args.mine.now c.loop-item.count w.index-mine-count.result w.if-count-mine.false in
      record {
        within = omega (arith, w.count-is, w.if-count-mine.false);
        own = cc (w.is_same.ensures.0 w.if-not-is_same.false);
      }
  | in_default w ↦
      let here : entry_by c.args.host c.item-item.result ≡ None = sym c.entry_by.ensures ∙ ap (option_map (λ e. e.now)) w.in_default.is in
      let found = found_more (entry_by c.args.host) c.args.history.now c.loop-item.item-index c.item-item.result None c.loop-item-test.true c.item-item.is here in
      record {
        within = omega (arith, w.count-is, c.loop-item.invariant.within);
        own = cc (append-nil (filter_map (entry_by c.args.host) (take c.loop-item.item-index c.args.history.now)));
      }
]
