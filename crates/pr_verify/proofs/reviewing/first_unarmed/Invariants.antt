use Rattle.pr_verify.proofs.Common.{AllWithin}
use Rattle.std.specs.Option.{IfSome}
use Rattle.pr_verify.proofs.lemmas.Refusals.Classes.{IsPast, IsFound}
use Rattle.pr_verify.proofs.reviewing.first_unarmed.Given as goal

abbrev pub invariant-loop-landing : goal.invariant-loop-landing
invariant-loop-landing l = record {
  past : AllWithin (IsPast l.outcomes l.from l.first) l.outcomes 0 l.landing-index;
  found : IfSome l.first (IsFound l.outcomes l.from);
}
