use Rattle.pr_interference.proofs.Common.{◌≡◌, ◌+◌, true, subst, arith, has_wide, number_of, One, Some}
use Rattle.pr_interference.proofs.holders.alone.Goals as goal

pub returns : goal.returns
returns c h small there =
    let number : number_of c.args.hosts (Some (One c.args.kind h)) ≡ c.reservation_number-first.result + h = grind arith in
    c.loop-holder.invariant h (omega arith) (subst (λ x. has_wide c.args.possible x ≡ true) number there)
