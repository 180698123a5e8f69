use Rattle.std.proofs.Common.{sym, ap, ◌∙◌, arith}
use Rattle.std.proofs.lemmas.List.{map_more}
use Rattle.std.proofs.lemmas.List.FromFn.{map-range_with_len_more}
use Rattle.std.proofs.lemmas.Bool.{false≢true}
use Rattle.pr_shared.specs.Histories.{entries_of}
use Rattle.pr_shared.proofs.lemmas.Outcomes.Comparisons.{own_at}
use Rattle.pr_shared.proofs.closing.are_own.Goals as goal

pub returns-then-not-is_own : goal.returns-then-not-is_own
returns-then-not-is_own c = (
  λ no. absurd (false≢true no),
  λ all.
      absurd (false≢true (sym c.if-not-is_own.true
      ∙ c.is_own.ensures.1 (own_at (entries_of c.args.history.now) (λ l. l.items) c.args.lists.now c.loop-host.host c.index-lists-host.result c.loop-host-test.true c.index-lists-host.is all ∙ sym c.deref.ensures.value))),
)

pub loop-host-preserved : goal.loop-host-preserved
loop-host-preserved c =
    let lists = map_more (λ l. l.items) c.args.lists.now c.loop-host.host c.index-lists-host.result c.loop-host-test.true in
    let sent = map-range_with_len_more (entries_of c.args.history.now) 0 c.loop-host.host c.loop-host.host (omega arith) in
    let same = c.is_own.ensures.0 c.if-not-is_own.false ∙ c.deref.ensures.value ∙ ap (λ l. l.items) c.index-lists-host.is in
    cc
