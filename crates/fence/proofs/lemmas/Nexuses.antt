-- How many nexuses there are.
use Rattle.std.proofs.Common.{◌≡◌, ℕ, length, vec_len, ap, arith}
use Rattle.pr_roles.specs.declared.parts.Parts.{Parts}
use Rattle.pr_roles.specs.Scenarios.{scenario_of}
use Rattle.pr_audit.proofs.lemmas.Auditing.Parts.{count_of_parts}

pub as_many : (p q : Parts) (h i n : ℕ) → q ≡ p → i ≡ h → n ≡ vec_len q.nexuses → i ≡ n → h ≡ length (scenario_of p).nexuses
as_many p q h i n same at len is =
    let parts = count_of_parts p in
    let items = ap (λ r. length r.nexuses.items) same in
    let all = q.nexuses.ok.0 in
    omega arith
