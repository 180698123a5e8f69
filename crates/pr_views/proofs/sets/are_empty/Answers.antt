use Rattle.pr_views.proofs.Common.{◌≡◌, false, slice_index_or, sym, ◌∙◌, arith, false≢true, contains-nobody, option_map_or}
use Rattle.std.specs.FinSet as set
use Rattle.pr_registry.proofs.lemmas.Sets.{same_hosts}
use Rattle.pr_views.proofs.lemmas.Rooms.Places.{holds_at-get_or, more_read}
use Rattle.pr_views.proofs.lemmas.Views.Values.{contains_no}
use Rattle.pr_views.proofs.sets.are_empty.Goals as goal

pub returns-then-not-is_empty : goal.returns-then-not-is_empty
returns-then-not-is_empty g c = (
  λ yes. absurd (false≢true yes),
  λ none. absurd (false≢true (sym c.if-not-is_empty.true ∙ c.is_empty.ensures.1 (same_hosts (g.S.ViewSet.members (slice_index_or c.args.sets.now c.from.result c.index-sets-from.result)) set.empty (λ n.
      sym (holds_at-get_or (λ s. set.contains (g.S.ViewSet.members s) n) c.args.sets.now c.from.result c.index-sets-from.result (omega arith)) ∙ none c.from.result n (omega arith) ∙ sym (contains-nobody n))))),
)

pub loop-host-preserved : goal.loop-host-preserved
loop-host-preserved g c h n =
    more_read (λ _ o. option_map_or (λ s. set.contains (g.S.ViewSet.members s) n) o false ≡ false) c.args.sets.now c.loop-host.host c.from.result c.index-sets-from.result c.from.ensures (omega arith)
    (λ k. c.loop-host.invariant k n) (contains_no _ (c.is_empty.ensures.0 c.if-not-is_empty.false) n) h
