use Rattle.pr_unit.proofs.shared_paths.make_way.Goals as goal

pub tells_any-requires-clause-well_formed : goal.tells_any-requires-clause-well_formed
tells_any-requires-clause-well_formed c = c.requires.well_formed
