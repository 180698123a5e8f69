use Rattle.pr_regions.proofs.Common.{◌≡◌, ◌<◌, false, ◌&&◌, length, refl, sym, ap, ◌∙◌, arith, has, has_at, holds_at-get_or, holds_at_kept}
use Rattle.std.specs.Option.{option_map_or}
use Rattle.std.proofs.lemmas.List.{length-set}
use Rattle.pr_views.proofs.lemmas.Rooms.Places.{more_set}
use Rattle.pr_regions.proofs.lemmas.Portions.WordArrays.{left_to_each}
use Rattle.pr_regions.proofs.place.Place.left.Goals as goal

pub loop-host-preserved : goal.loop-host-preserved
loop-host-preserved c =
    let words = c.args.view.now.registrations in
    let others = c.args.region.now.others in
    let n = c.loop-host.host in
    let there : n < length c.loop-host.words = (let e = c.loop-host.invariant.size in omega arith) in
    let within : n < length words = omega arith in
    record {
      done = λ g r. more_set (λ k o. option_map_or (λ x. has x r) o false ≡ (has_at words k r && has others r)) c.loop-host.words n n c.and.result refl there (λ k. c.loop-host.invariant.done k r)
          (c.and.ensures r ∙ ap (λ b. b && has others r) (sym (holds_at-get_or (λ x. has x r) words n (record { bits = 0 }) within))) g;
      past = λ g r above. holds_at_kept (λ x. has x r) c.loop-host.words n g c.and.result (λ same. absurd (omega arith)) ∙ c.loop-host.invariant.past g r (omega arith);
      size = length-set c.loop-host.words n c.and.result ∙ c.loop-host.invariant.size;
    }

pub returns-clause-left : goal.returns-clause-left
returns-clause-left c =
    left_to_each c.args.self.now c.args.senders c.args.region.now c.args.view.now.registrations c.loop-host.words c.leave_to_holder.new.words c.leave_to.new.words
    (λ g r there. c.loop-host.invariant.done g r (omega arith)) c.leave_to_holder.ensures.holder c.leave_to_holder.ensures.others c.leave_to.ensures.here c.leave_to.ensures.others
