use Rattle.pr_sets.proofs.Common.{◌<◌, ◌/◌, ◌^◌, refl, arith}
use Rattle.std.proofs.Math.Nat.{div-le_self}
use Rattle.pr_sets.proofs.lemmas.Bits.{none_from_zero, next_by_zeros}
use Rattle.pr_sets.proofs.word_set.WordSetViewSet.next.Goals as goal

pub returns-then-rest-eq0-clause-none : goal.returns-then-rest-eq0-clause-none
returns-then-rest-eq0-clause-none c = none_from_zero c.args.self.now.bits c.args.from c.if-rest-eq0.true

pub returns-clause-some : goal.returns-clause-some
returns-clause-some c =
    let fits : c.args.self.now.bits < 2 ^ 128 = omega arith in
    let rest_fits : c.args.self.now.bits / 2 ^ c.args.from < 2 ^ 128 = omega (arith, div-le_self c.args.self.now.bits (2 ^ c.args.from)) in
    next_by_zeros c.args.self.now.bits c.args.from _ fits refl (omega (arith, c.if-rest-eq0.false)) rest_fits
