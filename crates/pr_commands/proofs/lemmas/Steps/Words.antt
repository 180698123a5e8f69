-- The nexuses that words may name.
use Rattle.pr_commands.proofs.Common.{◌≤◌, length, Parts, scenario_of}
use Rattle.pr_cdb.specs.declared.codes.TheConstants.{MOST_NEXUSES}
use Rattle.pr_roles.specs.Fitting.{Fits}
use Rattle.pr_roles.proofs.lemmas.Starts.AllowedStarts.{few_parts}

pub few_nexuses : (p : Parts) → Fits (scenario_of p) → length p.nexuses.items ≤ MOST_NEXUSES
few_nexuses p fits = few_parts p fits
