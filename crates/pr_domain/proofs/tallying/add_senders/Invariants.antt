use Rattle.pr_domain.proofs.Common.{◌≡◌, ℕ, ◌<◌, true, has, view_in, Scope, Grows, HasOneOf, IsOwners}
use Rattle.pr_domain.proofs.tallying.add_senders.Given as goal

abbrev pub invariant-loop-registration : goal.invariant-loop-registration
invariant-loop-registration l = record {
  grows : (s : Scope) → IsOwners s l.asked.keys.now l.view l.place → Grows (view_in s l.view) l.asked.command l.asked.tests.now l.initial.tally l.tally (HasOneOf s l.place l.done);
  done : (r : ℕ) → r < l.registration → has l.senders r ≡ true → has l.done r ≡ true;
  asked : (r : ℕ) → has l.done r ≡ true → has l.senders r ≡ true;
}
