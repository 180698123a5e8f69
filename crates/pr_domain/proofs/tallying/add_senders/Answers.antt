use Rattle.pr_domain.proofs.Common.{◌≡◌, ℕ, ◌+◌, ◌<◌, Bool, true, false, not, ◌&&◌, length, sym, refl, ap, ◌∙◌, subst, inl, inr, arith, false≢true, and_parts, or_cases, has, view_in, Grows, HasOneOf}
use Rattle.std.proofs.Common.{below_more}
use Rattle.std.proofs.lemmas.Bool.{or_left, or_right}
use Rattle.pr_domain.proofs.lemmas.Tallies.ShownStates.{senders_joined, senders_same, senders_none}
use Rattle.pr_domain.proofs.tallying.add_senders.Goals as goal
use Rattle.pr_domain.proofs.tallying.add_senders.Goals.{then-has, else-has}

-- what is asked for and not left is done
done_if : (asked done : Bool) → (asked && not done) ≡ false → asked ≡ true → done ≡ true
done_if true true left is = refl
done_if true false left is = absurd (false≢true (sym left))
done_if false done left is = absurd (false≢true is)

pub loop-registration-init : goal.loop-registration-init
loop-registration-init c = record {
  grows = λ s owners. senders_none s c.args.asked.now.command c.args.asked.now.tests.now (view_in s c.args.view.now) c.args.place c.none-done.result c.args.tally.now c.none-done.ensures;
  done = λ r small. absurd (omega arith);
  asked = λ r is. absurd (false≢true (sym (c.none-done.ensures r) ∙ is));
}

pub loop-registration-preserved : goal.loop-registration-preserved
loop-registration-preserved c =
    let n = c.loop-registration.registration in
    let command = c.args.asked.now.command in
    let tests = c.args.asked.now.tests.now in
    let old = c.args.tally.now in
    let done = c.loop-registration.done in
    let senders = c.args.senders in
    let known = c.loop-registration.invariant in
    elim c.if-has.branch [
      | then-has w ↦ record {
        grows = λ s owners.
            let view = view_in s c.args.view.now in
            let more = senders_joined view s command tests c.args.place done w.alike_to-alike.result w.or-done.result old c.loop-registration.tally w.add_alike.new.tally w.or-done.ensures (known.grows s owners) (w.add_alike.ensures s owners) in
            subst (λ d. Grows view command tests old c.if-has.tally (HasOneOf s c.args.place d)) (sym w.done-is) (subst (λ t. Grows view command tests old t (HasOneOf s c.args.place w.or-done.result)) (sym w.tally-is) more);
        done = subst (λ d. (r : ℕ) → r < n + 1 → has senders r ≡ true → has d r ≡ true) (sym w.done-is)
            (below_more (λ r. has senders r ≡ true → has w.or-done.result r ≡ true) n
            (λ r small may. w.or-done.ensures r ∙ or_left (has done r) (has w.alike_to-alike.result r) (known.done r small may))
            (λ may. w.or-done.ensures n ∙ or_right (has done n) (has w.alike_to-alike.result n) w.alike_to-alike.ensures.alike.itself));
        asked = subst (λ d. (r : ℕ) → has d r ≡ true → has senders r ≡ true) (sym w.done-is)
            (λ r is. elim (or_cases (has done r) (has w.alike_to-alike.result r) (sym (w.or-done.ensures r) ∙ is)) [
              | inl before ↦ known.asked r before
              | inr alike ↦ (and_parts (has senders r) (not (has done r)) (sym (c.except-left.ensures r) ∙ w.alike_to-alike.ensures.left r alike)).0
            ]);
      }
      | else-has w ↦ record {
        grows = λ s owners.
            let view = view_in s c.args.view.now in
            subst (λ d. Grows view command tests old c.if-has.tally (HasOneOf s c.args.place d)) (sym w.done-is) (subst (λ t. Grows view command tests old t (HasOneOf s c.args.place done)) (sym w.tally-is) (known.grows s owners));
        done = subst (λ d. (r : ℕ) → r < n + 1 → has senders r ≡ true → has d r ≡ true) (sym w.done-is)
            (below_more (λ r. has senders r ≡ true → has done r ≡ true) n known.done (done_if (has senders n) (has done n) (sym (c.except-left.ensures n) ∙ sym c.has.ensures ∙ w.if-has.false)));
        asked = subst (λ d. (r : ℕ) → has d r ≡ true → has senders r ≡ true) (sym w.done-is) known.asked;
      }
    ]

pub returns : goal.returns
returns c s owners =
    let whole : c.loop-registration.registration ≡ length c.args.asked.now.keys.now + 1 = omega arith in
    let known = c.loop-registration.invariant in
    senders_same s c.args.asked.now.command c.args.asked.now.tests.now (view_in s c.args.view.now) c.args.place c.loop-registration.done c.args.senders c.args.tally.now c.loop-registration.tally known.asked
    (λ r few may. known.done r (let same = ap length owners.same_keys in omega arith) may)
    (known.grows s owners)
