-- Which threads were started, and which host comes next.
use Rattle.std.proofs.Common.{◌≡◌, ℕ, suc, ◌+◌, ◌<◌, List, ◌∷◌, ◌++◌, length, get_or, Option, Some, refl, subst, sym, ap, ◌∙◌, arith, length-append}
use Rattle.std.specs.Prelude.{map}
use Rattle.std.specs.List.{range_with_len}
use Rattle.std.proofs.lemmas.List.{get_or_at, length-map}
use Rattle.std.proofs.lemmas.List.FromFn.{get_or-range_with_len, length-range_with_len}
use Rattle.pr_shared.specs.inside.Starting.{StartedBut}

-- the one whose thread could not be started comes just after those that were
next_host : (hosts others : List ℕ) (host n : ℕ) → hosts ++ host ∷ others ≡ range_with_len 0 n → (host ≡ length hosts) × (length hosts < n)
next_host hosts others host n all =
    let long : length hosts + suc (length others) ≡ n = sym (length-append hosts (host ∷ others)) ∙ (ap length all ∙ length-range_with_len 0 n) in
    let within : length hosts < n = omega arith in
    let here = get_or_at hosts host others 0 (length hosts) refl in
    let there = ap (λ ns. get_or ns (length hosts) 0) all ∙ get_or-range_with_len 0 n (length hosts) 0 within in
    (omega (arith, here, there), within)

pub failed_next : {X : Type 0} (seats : List X) (f : X → ℕ) (failed : Option ℕ) (host n k : ℕ) → failed ≡ Some host → k ≡ length seats → StartedBut failed (map f seats) (range_with_len 0 n) → (host ≡ k) × (k < n)
failed_next seats f failed host n k is long started =
    let here : StartedBut (Some host) (map f seats) (range_with_len 0 n) = subst (λ x. StartedBut x (map f seats) (range_with_len 0 n)) is started in
    let next = next_host (map f seats) here.0 host n here.1 in
    let same : length (map f seats) ≡ k = length-map seats f ∙ sym long in
    (next.0 ∙ same, omega (arith, next.1, same))
