-- The keys and the nexuses of a scenario's parts.
use Rattle.pr_roles.proofs.Common.{◌≡◌, ◌≤◌, length, nat_le, ◌==◌, refl, and_parts, are_distinct, nexus_of, length-map, Parts, scenario_of, Fits}
use Rattle.std.proofs.lemmas.Bool.{leb-true}
use Rattle.pr_roles.specs.declared.limits.TheConstants.{MOST_KEYS}
use Rattle.pr_roles.specs.Fitting.{AreDeclared}

pub keys_are : (p : Parts) → (scenario_of p).keys ≡ p.keys.items
unfolding scenario_of
keys_are p = refl

pub keys_of_parts : (p : Parts) → Fits (scenario_of p) → AreDeclared p.keys.items
unfolding scenario_of
keys_of_parts p fits = fits.keys

pub few_of_parts : (p : Parts) → Fits (scenario_of p) → length p.keys.items ≤ MOST_KEYS
few_of_parts p fits =
    let keys = p.keys.items in
    leb-true (length keys) MOST_KEYS (and_parts (nat_le (length keys) MOST_KEYS) (are_distinct (λ j k. j == k) keys) (keys_of_parts p fits).once).0

pub count_of_parts : (p : Parts) → length (scenario_of p).nexuses ≡ length p.nexuses.items
unfolding scenario_of
count_of_parts p = length-map p.nexuses.items nexus_of
