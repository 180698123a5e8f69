use Rattle.pr_witness.proofs.Common.{refl}
use Rattle.pr_witness.proofs.lemmas.FollowedHistories.{followed_whole, forbidden_whole}
use Rattle.pr_witness.proofs.certifying.breaks.Goals as goal

pub returns-then-is_forbidden-clause-broken : goal.returns-then-is_forbidden-clause-broken
returns-then-is_forbidden-clause-broken c holds u first =
    forbidden_whole _ u _ _ c.admits_all.new.auditor c.admits.new.self _ _ c.in-Some.ensures.cases.0 (c.if-not-admits_all.ensures.followed refl u first) c.if-admits.ensures.tried c.if-admits.ensures.acts
    (c.is_forbidden-is_forbidden.ensures holds)

pub returns-else-is_forbidden-clause-broken : goal.returns-else-is_forbidden-clause-broken
returns-else-is_forbidden-clause-broken c holds u first = record {
  followed = followed_whole _ u _ _ c.admits_all.new.auditor c.admits.new.self _ c.in-Some.ensures.cases.0 (c.if-not-admits_all.ensures.followed refl u first) c.if-admits.ensures.tried c.if-admits.ensures.acts;
  breaks = c.is_broken.ensures holds u;
}
