-- What the clauses of a role lead to, reservation after reservation, and that with looks they are all that is done.
use Rattle.pr_interference.proofs.Common.{◌≡◌, ℕ, ◌<◌, true, false, ◌⊎◌, List, sym, refl, ◌∙◌, subst, inl, inr, false≢true, and_parts, has_wide, UnitState, effect, is_action, names, holds, Clause, view_in, Scope, number_of, count_of_reservations, Item, Registration, Reservation, Attentions, IsPossible, Shows, Possibilities, one_reservation, Allows, Adds, IsLike, so_like, IsDone, IsLeft, IsInterference, Onlooker, PlaceLeads, IsWidened, IsOnlooking, Any, ClauseLeads, ClauseLeaves}
use Rattle.pr_unit.specs.UnitStates.{IsWellFormed}
use Rattle.pr_unit.proofs.lemmas.Steps.WellFormedSteps.{well_formed-step, hosts-step}
use Rattle.pr_interference.specs.inside.Reaching.{HasShown}
use Rattle.pr_regions.specs.Keeping.{IsKept}
use Rattle.pr_interference.proofs.lemmas.Closing.ClosedViews.{shown_possible}
use Rattle.pr_interference.proofs.lemmas.Interference.Conduct.{kept_left, clause_left, done_leads}
use Rattle.pr_interference.proofs.lemmas.Clauses.Commands.{IsMeant, meant}

-- ---- one reservation after another

-- under a reservation that is not possible nothing is done
pub none_placed : (s : Scope) (view : Possibilities) (clause : Clause) (sender n : ℕ) → has_wide view.reservations n ≡ false → (u w : UnitState) → PlaceLeads (view_in s view) clause sender n u w → ⊥
none_placed s view clause sender n missing u w led =
    let seen = led.leads.shown.reservation in
    false≢true (sym missing ∙ subst (λ x. has_wide view.reservations x ≡ true) (one_reservation s u seen.0 n seen.1.1 led.leads.reserved) seen.1.0)

-- ---- the whole

like_back : (own : ℕ) (u w : UnitState) → IsLike own u w → IsLike own w u
like_back own u w like = record { registry = sym like.registry; pending = λ code. sym (like.pending code) }

shows_allowed : (s : Scope) (p : Possibilities) (u : UnitState) → IsWellFormed u → u.registry.hosts ≡ s.hosts → Allows s p u → Shows (view_in s p) u
shows_allowed s p u formed hosts allows = record {
  formed = formed;
  hosts = hosts;
  registrations = λ g there. let so = allows.numbered g there in (so.0, (allows.items (Registration g so.0) so.1, so.1));
  reservation = (number_of s.hosts u.registry.held, (allows.items (Reservation (number_of s.hosts u.registry.held)) refl, refl));
  pending = (allows.pending.0, (allows.items (Attentions allows.pending.0) allows.pending.1, allows.pending.1));
}

-- what is so in a shown state is possible in the view
pub has_what_it_shows : (s : Scope) (o : Onlooker) → IsOnlooking s o → HasShown s o.view o.view
has_what_it_shows s o is u i shown so = shown_possible (view_in s o.view) u i is.fits.scope shown so

-- it is possible in an answer that has what is shown, as is what is so in a state like a shown one
alike : (s : Scope) (o : Onlooker) (old answer : Possibilities) (u w : UnitState) → HasShown s o.view old → ((i : Item) → IsPossible (view_in s old) i → IsPossible (view_in s answer) i)
    → Shows (view_in s o.view) u → IsLike s.own u w → Allows s answer w
alike s o old answer u w has_shown kept shown like = record {
  items = λ i so. kept i (has_shown u i shown (so_like s w u i (like_back s.own u w like) so));
  numbered = λ g there. let seen = shown.registrations g there in (seen.0, so_like s u w (Registration g seen.0) like seen.1.1);
  pending = (shown.pending.0, so_like s u w (Attentions shown.pending.0) like shown.pending.1.1);
}

-- what a command of the clause leads to under each reservation is all that one leads to, where the answer has what is shown
pub adds_placed : (s : Scope) (o : Onlooker) (clause : Clause) (old answer : Possibilities) → IsOnlooking s o → is_action o.keys.now clause.action ≡ true → HasShown s o.view old
    → Adds s old answer (λ u w. (x : ℕ) × (x < count_of_reservations o.hosts) × PlaceLeads (view_in s o.view) clause o.other x u w) (ClauseLeaves (view_in s o.view) clause o.other)
    → Adds s old answer (ClauseLeads (view_in s o.view) clause o.other) (ClauseLeaves (view_in s o.view) clause o.other)
adds_placed s o clause old answer is declared has_shown adds = record { kept = adds.kept; all = all; only = adds.only }
  where
    all : (u w : UnitState) → ClauseLeads (view_in s o.view) clause o.other u w → Allows s answer w
    all u w leads =
        led (meant s.keys clause.action leads.command u o.other is.fits.scope.keys (subst (λ k. is_action k clause.action ≡ true) (sym is.keys) declared) leads.free.acts
        (and_parts (names clause.action leads.command) (holds clause.condition u.registry o.other) leads.free.permitted).0)
      where
        led : IsMeant s.keys clause.action u.registry.held leads.command ⊎ ((own : ℕ) → IsLike own u (effect u o.other leads.command)) → Allows s answer w
        led (inr none) = alike s o old answer u w has_shown adds.kept leads.shown (subst (IsLike s.own u) (sym leads.after) (none s.own))
        led (inl means) =
            let seen = leads.shown.reservation in
            adds.all u w (
              seen.0,
              subst (λ n. seen.0 < count_of_reservations n) is.hosts (is.fits.reservations seen.0 seen.1.0),
              record {
                purpose = means.purpose;
                meant = means.meant;
                leads = record { shown = leads.shown; reserved = seen.1.1; command = leads.command; free = leads.free; asked = means.asked; after = leads.after };
              },
            )

-- where the answer has what is shown, and what the clauses lead to, it shows what is done
interference_covers : (s : Scope) (o : Onlooker) (role : List Clause) (old answer : Possibilities) → IsOnlooking s o → HasShown s o.view old
    → Adds s old answer (λ u w. Any (λ clause. ClauseLeads (view_in s o.view) clause o.other u w) role) (λ i. Any (λ clause. ClauseLeaves (view_in s o.view) clause o.other i) role)
    → (u w : UnitState) → Shows (view_in s o.view) u → IsDone role o.other u w → Shows (view_in s answer) w
interference_covers s o role old answer is has_shown adds u w shown done =
    let there : o.other < u.registry.hosts = subst (λ n. o.other < n) (sym (shown.hosts ∙ is.hosts)) o.other_there in
    shows_allowed s answer w (well_formed-step u o.other done.request done.reply w shown.formed there done.fits done.step)
    (hosts-step u o.other done.request done.reply w done.step ∙ shown.hosts)
    (allows (done_leads (view_in s o.view) role o.other u w is.other shown done))
  where
    allows : IsLike s.own u w ⊎ Any (λ clause. ClauseLeads (view_in s o.view) clause o.other u w) role → Allows s answer w
    allows (inl like) = alike s o old answer u w has_shown adds.kept shown like
    allows (inr any) = adds.all u w any

pub is_interference : (s : Scope) (o : Onlooker) (role : List Clause) (kept answer : Possibilities) → IsOnlooking s o → IsKept (view_in s o.view) (view_in s kept)
    → Adds s kept answer (λ u w. Any (λ clause. ClauseLeads (view_in s o.view) clause o.other u w) role) (λ i. Any (λ clause. ClauseLeaves (view_in s o.view) clause o.other i) role)
    → IsInterference (view_in s o.view) role o.other (view_in s answer)
is_interference s o role kept answer is keeps adds = record {
  cover = interference_covers s o role kept answer is keeps.all adds;
  only = λ i got. only i (adds.only i got);
}
  where
    only : (i : Item) → IsPossible (view_in s kept) i ⊎ Any (λ clause. ClauseLeaves (view_in s o.view) clause o.other i) role → IsLeft (view_in s o.view) role o.other i
    only i (inl had) = let shown = keeps.only i had in kept_left (view_in s o.view) role o.other shown.unit i is.other shown.shown shown.is
    only i (inr left) = clause_left (view_in s o.view) role o.other i is.other left

-- so the view with what the clauses lead to is widened
pub is_widened : (s : Scope) (o : Onlooker) (role : List Clause) (answer : Possibilities) → IsOnlooking s o
    → Adds s o.view answer (λ u w. Any (λ clause. ClauseLeads (view_in s o.view) clause o.other u w) role) (λ i. Any (λ clause. ClauseLeaves (view_in s o.view) clause o.other i) role)
    → IsWidened (view_in s o.view) role o.other (view_in s answer)
is_widened s o role answer is adds = record {
  contains = adds.kept;
  cover = interference_covers s o role o.view answer is (has_what_it_shows s o is) adds;
  only = λ i got. only i (adds.only i got);
}
  where
    only : (i : Item) → IsPossible (view_in s o.view) i ⊎ Any (λ clause. ClauseLeaves (view_in s o.view) clause o.other i) role
        → IsPossible (view_in s o.view) i ⊎ IsLeft (view_in s o.view) role o.other i
    only i (inl had) = inl had
    only i (inr left) = inr (clause_left (view_in s o.view) role o.other i is.other left)
