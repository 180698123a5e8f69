-- Agrees with docs/VIEWS.md, 'What a view has'.
-- The view that a value of the program is.
use Rattle.std.specs.Prelude.{◌≡◌, ℕ, ◌<◌, ◌≤◌, true, List, length}
use Rattle.std.specs.FinSet as set
use Rattle.pr_sets.specs.declared.view_set.ViewSet.{Ghosts as ViewSet}
use Rattle.pr_views.specs.declared.view.ViewOf.{ViewOf}
use Rattle.pr_views.specs.Possibilities.{Scope, count_of_reservations, count_of_attentions}
use Rattle.pr_sets.specs.BitSets.{has}
use Rattle.pr_sets.specs.Wides.{has_wide}
use Rattle.pr_views.specs.declared.possibilities.Possibilities.{Possibilities}
use Rattle.pr_views.specs.Views.{View}
use Rattle.pr_views.specs.Portions.{has_at, contains_at}

abbrev pub scope_of : {S : Type 0} {sets : ViewSet S} → ℕ → ViewOf S sets → Scope
scope_of own v = record { own = own; hosts = v.hosts; keys = v.keys.items }

-- the view of this owner
abbrev pub view_of : {S : Type 0} {sets : ViewSet S} → ℕ → ViewOf S sets → View
view_of {sets = sets} own v = record {
  scope = scope_of own v;
  registrations = contains_at sets.members v.registrations;
  reservations = λ x. set.contains (sets.members v.reservations) x;
  pending = λ q. set.contains (sets.members v.pending) q;
}

-- they have the same keys, and speak of as many nexuses
pub record AreAlike {S : Type 0} {sets : ViewSet S} (v w : ViewOf S sets) : Type 0 where
  pub keys : v.keys.items ≡ w.keys.items
  pub hosts : v.hosts ≡ w.hosts

-- the possibilities are ones of so many nexuses and these keys
pub record AreInRange (hosts : ℕ) (keys : List ℕ) (p : Possibilities) : Type 0 where
  pub registrations : (g r : ℕ) → g < hosts → has_at p.registrations g r ≡ true → r ≤ length keys
  pub reservations : (x : ℕ) → has_wide p.reservations x ≡ true → x < count_of_reservations hosts
  pub pending : (q : ℕ) → has p.pending q ≡ true → q < count_of_attentions
