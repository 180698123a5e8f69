-- Nexuses by their names.
use Rattle.pr_trace.proofs.Common.{◌≡◌, ℕ, ◌+◌, cond, List, [], ◌∷◌, Some, position, bytes_eq, sym, refl, ap, ◌∙◌, names_of}
use Rattle.std.specs.List.{position_from}
use Rattle.std.proofs.lemmas.Iterator.Adapters.{position_from-zero}
use Rattle.pr_roles.specs.declared.parts.Nexus.{Nexus}
use Rattle.pr_trace.specs.TraceReadings.{number_of}

from_names : (w : List ℕ) (n : ℕ) (ns : List Nexus)
    → position_from (λ name. bytes_eq name w) n (names_of ns) ≡ position_from (λ x. bytes_eq x.name.bytes w) n ns
from_names w n [] = refl
from_names w n (x ∷ ns) = ap (λ o. cond (bytes_eq x.name.bytes w) (Some n) o) (from_names w (n + 1) ns)

pub place_in_names : (ns : List Nexus) (w : List ℕ) → position (λ x. bytes_eq x.name.bytes w) ns ≡ number_of (names_of ns) w
place_in_names ns w =
    position_from-zero (λ (x : Nexus). bytes_eq x.name.bytes w) ns
    ∙ (sym (from_names w 0 ns) ∙ sym (position_from-zero (λ name. bytes_eq name w) (names_of ns)))
