use Rattle.pr_regions.proofs.words.every_key.Goals as goal

pub returns-clause-none : goal.returns-clause-none
returns-clause-none c = c.without.ensures 0
