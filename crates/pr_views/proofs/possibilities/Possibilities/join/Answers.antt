use Rattle.pr_views.proofs.Common.{◌≡◌, ◌<◌, ◌≤◌, ◌⊎◌, false, ◌||◌, refl, sym, ap, ◌∙◌, inl, inr, arith, cases_lt, has, has_at, BitSet, option_map_or}
use Rattle.std.proofs.Math.Bool.{or_comm}
use Rattle.pr_views.proofs.lemmas.Rooms.Places.{holds_at-get_or, holds_at_past, holds_at_kept, more_set}
use Rattle.pr_views.proofs.possibilities.Possibilities.join.Goals as goal

pub loop-host-preserved : goal.loop-host-preserved
loop-host-preserved c =
    let words = c.loop-host.self.registrations in
    let others = c.args.other.now.registrations in
    let i = c.loop-host.host in
    let nobody : BitSet = record { bits = 0 } in
    record {
      joined = λ g r. more_set (λ k o. option_map_or (λ w. has w r) o false ≡ (has_at c.args.self.now.registrations k r || has_at others k r)) words i i c.or.result refl (omega arith)
          (λ k. c.loop-host.invariant.joined k r)
          (c.or.ensures r ∙ (λ j. (sym (holds_at-get_or (λ w. has w r) words i nobody (omega arith)) ∙ c.loop-host.invariant.past i r (omega arith)) j
          || sym (holds_at-get_or (λ w. has w r) others i nobody (omega arith)) j)) g;
      past = λ g r late. holds_at_kept (λ w. has w r) words i g c.or.result (λ e. absurd (omega arith)) ∙ c.loop-host.invariant.past g r (omega arith);
      reservations = c.loop-host.invariant.reservations;
      pending = c.loop-host.invariant.pending;
    }

pub returns-clause-registrations : goal.returns-clause-registrations
returns-clause-registrations c g r = at (cases_lt g c.loop-host.host)
  where
    at : (g < c.loop-host.host) ⊎ (c.loop-host.host ≤ g) → has_at c.loop-host.self.registrations g r ≡ (has_at c.args.self.now.registrations g r || has_at c.args.other.now.registrations g r)
    at (inl there) = c.loop-host.invariant.joined g r there
    at (inr late) =
        c.loop-host.invariant.past g r late ∙ or_comm false (has_at c.args.self.now.registrations g r)
        ∙ ap (λ b. has_at c.args.self.now.registrations g r || b) (sym (holds_at_past (λ w. has w r) c.args.other.now.registrations g (omega arith)))
