-- What others do that ends GOOD: it looks, or a clause permits it and it has its effect.
use Rattle.pr_interference.proofs.Common.{◌≡◌, ℕ, true, ◌||◌, ◌≢◌, ◌⊎◌, List, refl, subst, inl, inr, false≢true, Plain, request_looks, UnitState, effect, Clause, Item, IsSo, View, Shows, IsLike, so_like, IsDone, IsLeft, Any, ClauseLeads, ClauseLeaves}
use Rattle.std.proofs.Common.{IsTrue, Ok}
use Rattle.std.specs.List.{list_any}
use Rattle.std.proofs.lemmas.Bool.{or_right}
use Rattle.std.proofs.lemmas.List.Folds.{Any-from_list_any, list_any-from_Any}
use Rattle.pr_cdb.specs.declared.command.Command.TheVariants as command
use Rattle.pr_cdb.specs.declared.wire.Request.{Request}
use Rattle.pr_cdb.specs.declared.wire.Request.TheVariants.{Faulty}
use Rattle.pr_cdb.specs.Ranges.{FitsWhereRead}
use Rattle.pr_unit.specs.Replies.{good, data_of}
use Rattle.pr_unit.specs.Steps.{Step}
use Rattle.pr_unit.proofs.lemmas.TakenSteps.GoodSteps.{good_effect, good_step}
use Rattle.pr_unit.proofs.lemmas.Steps.QuietSteps.{quiet_steps}
use Rattle.pr_roles.specs.Permits.{is_always_permitted, clause_permits, command_permitted, is_permitted}
use Rattle.pr_roles.proofs.lemmas.Permits.ServiceActions.{Serves, looks_or_serves}
use Rattle.pr_unit.specs.SharedPaths.{silenced}
use Rattle.pr_interference.proofs.lemmas.Interference.PendingStates.{like_through, quiet_like, shown_like, like_effect, formed_silenced, like_silenced, none_silenced}

-- ---- a step that only looks

pub kept_left : (v : View) (role : List Clause) (sender : ℕ) (u : UnitState) (i : Item) → v.scope.own ≢ sender → Shows v u → IsSo v.scope u i → IsLeft v role sender i
kept_left v role sender u i other shown so =
    let from = silenced u sender in
    let like = like_silenced v.scope.own u sender other in
    let reply = good (data_of from.registry command.TestUnitReady) in
    let after = effect from sender command.TestUnitReady in
    let step = good_step from sender command.TestUnitReady (none_silenced u sender) refl refl in
    let quiet = quiet_steps from sender (Plain command.TestUnitReady) reply after step (inr refl) in
    record {
      from = from;
      shown = shown_like v u from like (formed_silenced u sender shown.formed) shown;
      after = after;
      done = record { request = Plain command.TestUnitReady; fits = tt; reply = reply; step = step; good = refl; permitted = refl };
      is = so_like v.scope u after i (like_through v.scope.own u from after like (quiet_like v.scope.own sender from after other quiet)) so;
    }

-- ---- a step that a clause permits

pub clause_left : (v : View) (role : List Clause) (sender : ℕ) (i : Item) → v.scope.own ≢ sender → Any (λ clause. ClauseLeaves v clause sender i) role → IsLeft v role sender i
clause_left v role sender i other among =
    let u = among.4.0 in
    let led = among.4.2 in
    let c = led.command in
    let from = silenced u sender in
    let like = like_silenced v.scope.own u sender other in
    let permits : command_permitted role from.registry sender c ≡ true =
    or_right (is_always_permitted c) _ (list_any-from_Any (λ clause. clause_permits clause from.registry sender c) role (among.0, among.1, among.2, among.3, led.free.permitted)) in
    record {
      from = from;
      shown = shown_like v u from like (formed_silenced u sender led.shown.formed) led.shown;
      after = effect from sender c;
      done = record {
        request = Plain c;
        fits = led.free.fits;
        reply = good (data_of from.registry c);
        step = good_step from sender c (none_silenced u sender) led.free.free led.free.whole;
        good = refl;
        permitted = permits;
      };
      is = so_like v.scope (effect u sender c) (effect from sender c) i (like_effect v.scope.own sender c u from like) (subst (λ x. IsSo v.scope x i) led.after among.4.3);
    }

-- ---- whatever is done

pub done_leads : (v : View) (role : List Clause) (sender : ℕ) (u w : UnitState) → v.scope.own ≢ sender → Shows v u → IsDone role sender u w
    → IsLike v.scope.own u w ⊎ Any (λ clause. ClauseLeads v clause sender u w) role
done_leads v role sender u w other shown done = by_request done.request done.fits done.step done.permitted
  where
    by_request : (q : Request) → FitsWhereRead (Ok q) → Step u sender q done.reply w → IsTrue (is_permitted role u.registry sender q)
        → IsLike v.scope.own u w ⊎ Any (λ clause. ClauseLeads v clause sender u w) role
    by_request (Faulty sense) fits step permitted = absurd (false≢true permitted)
    by_request (Plain c) fits step permitted = by_kind (looks_or_serves c)
      where
        by_kind : IsTrue (request_looks (Plain c)) ⊎ Serves c → IsLike v.scope.own u w ⊎ Any (λ clause. ClauseLeads v clause sender u w) role
        by_kind (inl looks) = inl (quiet_like v.scope.own sender u w other (quiet_steps u sender (Plain c) done.reply w step (inr looks)))
        by_kind (inr serves) =
            let takes = good_effect u sender c done.reply w step done.good serves.acts in
            let any : list_any (λ clause. clause_permits clause u.registry sender c) role ≡ true =
            subst (λ b. (b || list_any (λ clause. clause_permits clause u.registry sender c) role) ≡ true) serves.clause permitted in
            let found = Any-from_list_any (λ clause. clause_permits clause u.registry sender c) role any in
            inr (
              found.0,
              found.1,
              found.2,
              found.3,
              record {
                shown = shown;
                command = c;
                free = record { fits = fits; acts = serves.looks; permitted = found.4; free = takes.free; whole = takes.whole };
                after = takes.after;
              },
            )
