use Rattle.pr_views.proofs.Common.{◌≡◌, false, sym, ◌∙◌, arith, has, has_at, option_map_or}
use Rattle.std.specs.FinSet as set
use Rattle.std.proofs.lemmas.List.Elements.{All-set}
use Rattle.pr_views.proofs.lemmas.Rooms.Places.{holds_at-get_or, holds_at_kept, more_set}
use Rattle.pr_views.proofs.sets.sets_of.Goals as goal

pub set_of-requires-clause-below : goal.set_of-requires-clause-below
set_of-requires-clause-below g c n there =
    c.requires.below c.from-place.result n (omega arith) (holds_at-get_or (λ w. has w n) c.args.words.now c.from-place.result (record { bits = 0 }) (omega arith) ∙ there)

pub loop-host-preserved : goal.loop-host-preserved
loop-host-preserved g c = record {
  room = All-set (λ s. g.S.ViewSet.room s ≡ c.args.size) c.loop-host.sets c.from-place.result c.in_ok-sets.field-0 c.in_ok-sets.ensures.room c.loop-host.invariant.room;
  members = λ h n. more_set (λ k o. option_map_or (λ s. set.contains (g.S.ViewSet.members s) n) o false ≡ has_at c.args.words.now k n) c.loop-host.sets c.loop-host.host c.from-place.result
      c.in_ok-sets.field-0 c.from-place.ensures (omega arith) (λ k. c.loop-host.invariant.members k n)
      (c.in_ok-sets.ensures.members n ∙ sym (holds_at-get_or (λ w. has w n) c.args.words.now c.from-place.result (record { bits = 0 }) (omega arith))) h;
  past = λ h n late. holds_at_kept (λ s. set.contains (g.S.ViewSet.members s) n) c.loop-host.sets c.from-place.result h c.in_ok-sets.field-0 (λ e. absurd (omega arith))
      ∙ c.loop-host.invariant.past h n (omega arith);
}
