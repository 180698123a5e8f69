use Rattle.pr_interference.proofs.Common.{◌<◌, Some, None, ◌∙◌, arith, false≢true, nat_tests, One}
use Rattle.pr_cdb.specs.declared.command.Kind.TheVariants.{WriteExclusive, ExclusiveAccess, WriteExclusiveRegistrantsOnly, ExclusiveAccessRegistrantsOnly, WriteExclusiveAllRegistrants, ExclusiveAccessAllRegistrants}
use Rattle.pr_registry.specs.declared.held.Held.TheVariants.{All}
use Rattle.pr_interference.proofs.holders.Holders.of.Goals as goal

pub returns : goal.returns
returns c None fits there = c.has.ensures ∙ there
returns c (Some (One WriteExclusive h)) fits there = let small : h < c.args.hosts = grind (arith, nat_tests) in c.alone.ensures h small there
returns c (Some (One ExclusiveAccess h)) fits there = let small : h < c.args.hosts = grind (arith, nat_tests) in c.alone-2.ensures h small there
returns c (Some (One WriteExclusiveRegistrantsOnly h)) fits there = let small : h < c.args.hosts = grind (arith, nat_tests) in c.alone-3.ensures h small there
returns c (Some (One ExclusiveAccessRegistrantsOnly h)) fits there = let small : h < c.args.hosts = grind (arith, nat_tests) in c.alone-4.ensures h small there
returns c (Some (One WriteExclusiveAllRegistrants h)) fits there = absurd (false≢true fits)
returns c (Some (One ExclusiveAccessAllRegistrants h)) fits there = absurd (false≢true fits)
returns c (Some (All kind)) fits there = c.everybody.ensures kind fits there
