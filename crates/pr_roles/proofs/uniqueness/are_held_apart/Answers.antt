-- Two reservations are equal where their types and holders are.
use Rattle.pr_roles.proofs.Common.{◌≡◌, ◌&&◌, ◌==◌, Some, None, Option, refl, ap, ◌∙◌, rules, Held, One, All, Kind}
use Rattle.std.specs.Option.{option_eq}
use Rattle.pr_registry.specs.contracts.held.HeldPartialEq.TheImpl as held
use Rattle.pr_cdb.specs.contracts.command.KindPartialEq.TheImpl as kind
use Rattle.pr_registry.specs.Changes.{is_kind}
use Rattle.pr_roles.specs.Fitting.{is_same_reservation}
use Rattle.pr_roles.proofs.lemmas.Fitting.DistinctLists.{distinct_same}
use Rattle.pr_roles.proofs.uniqueness.are_held_apart.Goals as goal

same_kind : (s t : Kind) → kind.eq-value.it s t ≡ is_kind s t
same_kind s t = search rules

same : (x y : Option Held) → option_eq held.eq-value.it x y ≡ is_same_reservation x y
same None None = refl
same (Some (One s g)) (Some (One t h)) = ap (λ b. b && g == h) (same_kind s t)
same (Some (All s)) (Some (All t)) = same_kind s t
same _ _ = refl

pub returns : goal.returns
returns c = c.are_distinct.ensures ∙ distinct_same _ is_same_reservation same c.args.reservations.now
