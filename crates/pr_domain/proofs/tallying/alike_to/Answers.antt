use Rattle.pr_domain.proofs.Common.{◌≡◌, sym, ap, ◌∙◌, subst, false≢true, is_not_admitted, standing_of}
use Rattle.std.proofs.lemmas.Option.{same_Some}
use Rattle.pr_domain.proofs.lemmas.Tallies.Requests.{alone_alike, uniform_by}
use Rattle.pr_domain.proofs.tallying.alike_to.Goals as goal

pub returns-then-is_reading-clause-alike : goal.returns-then-is_reading-clause-alike
returns-then-is_reading-clause-alike c = alone_alike c.args.asked.now c.args.registration c.only-alike.result c.only-alike.ensures

pub returns-clause-alike : goal.returns-clause-alike
returns-clause-alike c =
    let known = c.loop-other.invariant in
    record {
      itself = known.itself;
      refused = λ r among. known.refused r among ∙ c.is_not_admitted-refused.ensures ∙ ap (λ k. is_not_admitted k c.args.asked.now.command) c.key_at.ensures;
      stands = λ purpose asks r among.
          let same = same_Some c.purpose_of-purpose.result purpose (c.purpose_of-purpose.ensures.purpose ∙ asks) in
          subst (λ p. standing_of p r ≡ standing_of p c.args.registration) same (known.stands r among ∙ c.standing_of-standing.ensures);
      uniform = uniform_by c.purpose_of-purpose.result c.args.registration c.loop-other.alike (λ r among. known.stands r among ∙ c.standing_of-standing.ensures);
      read = λ reads r among. absurd (false≢true (sym c.if-is_reading.false ∙ c.is_reading.ensures ∙ reads));
    }
