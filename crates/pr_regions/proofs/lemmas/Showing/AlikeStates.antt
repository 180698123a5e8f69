-- States that a view of one nexus shows alike.
use Rattle.pr_regions.proofs.Common.{sym, ap, ◌∙◌, State, key_of, UnitState, Scope, Registration, IsSo, number_of, Item, Reservation, Attentions}
use Rattle.pr_unit.proofs.lemmas.UnitStates.AlikeStates.{IsLike}

-- what is so in the one is so in the other
pub so_like : (s : Scope) (u w : UnitState) (i : Item) → IsLike s.own u w → IsSo s u i → IsSo s w i
so_like s u w (Registration g r) like so = (so.0, so.1, ap (λ (r : State). key_of r g) like.registry ∙ so.2)
so_like s u w (Reservation x) like so = so ∙ ap (λ (r : State). number_of s.hosts r.held) (sym like.registry)
so_like s u w (Attentions q) like so = (so.0, λ code. like.pending code ∙ so.1 code)
