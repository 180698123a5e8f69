use Rattle.pr_views.proofs.Common.{◌≡◌, false, sym, ◌∙◌, arith, length-set, has, contains_at, option_map_or}
use Rattle.std.specs.FinSet as set
use Rattle.pr_views.proofs.lemmas.Rooms.Places.{holds_at-get_or, holds_at_kept, more_set}
use Rattle.pr_views.proofs.sets.words_of.Goals as goal

pub loop-host-preserved : goal.loop-host-preserved
loop-host-preserved g c = record {
  whole = length-set c.loop-host.words c.from-place.result c.word_of.result ∙ c.loop-host.invariant.whole;
  there = λ h n. more_set (λ k o. option_map_or (λ w. has w n) o false ≡ contains_at g.S.ViewSet.members c.args.sets.now k n) c.loop-host.words c.loop-host.host c.from-place.result c.word_of.result
      c.from-place.ensures (omega arith) (λ k. c.loop-host.invariant.there k n)
      (c.word_of.ensures n ∙ sym (holds_at-get_or (λ s. set.contains (g.S.ViewSet.members s) n) c.args.sets.now c.from-place.result c.index-sets-place.result (omega arith))) h;
  past = λ h n late. holds_at_kept (λ w. has w n) c.loop-host.words c.from-place.result h c.word_of.result (λ e. absurd (omega arith)) ∙ c.loop-host.invariant.past h n (omega arith);
}
