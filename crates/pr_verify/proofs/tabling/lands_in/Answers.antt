use Rattle.pr_verify.proofs.Common.{◌≡◌, true, false, ◌≢◌, arith, All-contains, KeptView, Landing}
use Rattle.pr_verify.proofs.lemmas.Rooms.MappedLists.{unmapped}
use Rattle.pr_verify.proofs.tabling.lands_in.Goals as goal

pub returns : goal.returns
returns c = (
  λ is. let bad : false ≡ true = is in cc,
  λ there.
      let one = unmapped (λ (x : Landing × KeptView). x.0) c.args.outcomes.now c.args.landing there in
      absurd (All-contains (λ (x : Landing × KeptView). x.0 ≢ c.args.landing) c.args.outcomes.now one.0 (λ k d small. c.loop-other.invariant k d (omega arith) (omega arith)) one.1 one.2),
)
