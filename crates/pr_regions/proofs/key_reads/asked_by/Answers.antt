use Rattle.pr_regions.proofs.Common.{◌≡◌, ◌≤◌, ◌≢◌, sym, subst, arith, number_in}
use Rattle.pr_regions.proofs.lemmas.Purposes.Conduct.{declared_number}
use Rattle.pr_regions.proofs.lemmas.Readings.KeyTests.{always_there, there_with_somebody, not_there_with_nobody}
use Rattle.pr_regions.proofs.key_reads.asked_by.Goals as goal

pub returns-then-number-registration-clause-asked : goal.returns-then-number-registration-clause-asked
returns-then-number-registration-clause-asked c hosts held sender s u known =
    let fits = rw c.in-GoodHas.is at c.requires.fits in
    let same : number_in c.args.keys.now c.in-GoodHas.key ≡ c.args.registration = omega (arith, c.number_in-number.ensures.number) in
    rw c.in-GoodHas.is (always_there c.args.keys.now hosts held sender c.args.registration c.in-GoodHas.key s u known fits same)

pub returns-else-number-registration-clause-asked : goal.returns-else-number-registration-clause-asked
returns-else-number-registration-clause-asked c hosts held sender =
    let fits = rw c.in-GoodHas.is at c.requires.fits in
    let keys = c.args.keys.now in
    let own = c.args.registration in
    let k = c.in-GoodHas.key in
    let other : number_in keys k ≢ own = omega (arith, c.number_in-number.ensures.number) in
    rw c.in-GoodHas.is (rw c.number_in-number.ensures.number (
      (λ s u known there. there_with_somebody keys hosts held sender own k s u known fits there),
      (λ s u known nobody. not_there_with_nobody keys hosts held sender own k s u known fits other nobody),
    ))

pub returns-else-number-registration-clause-small : goal.returns-else-number-registration-clause-small
returns-else-number-registration-clause-small c =
    let declared = rw c.in-GoodHas.is at c.requires.fits in
    (subst (λ n. 1 ≤ n) (sym c.number_in-number.ensures.number) (declared_number c.args.keys.now c.in-GoodHas.key declared), c.number_in-number.ensures.most)
