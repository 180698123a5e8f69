-- The outcomes that are found in words are those of the view.
use Rattle.pr_domain.proofs.Common.{◌≡◌, ℕ, ◌<◌, ◌≤◌, false, ◌↔◌, List, get_or, slice_get, Some, None, All, Option, sym, refl, subst, slice_get-get_or, Command, Test, AreDeclared, Refusals, has_at, view_in, Scope, scope_of, view_of, Item, AreInRange, Possibilities, ViewOf, Landing, Tally, HasOutcome, scope_at, IsTally, IsOfScope, AllZip, HasWords, LandsSomehow, IsSame, Plain, Answered, IsSo, View, Within}
use Rattle.std.specs.Option.{IsSomeAnd, MatchOption}
use Rattle.std.proofs.lemmas.Slice.Zip.{AllZip-left, AllZip-right}
use Rattle.pr_sets.specs.declared.view_set.ViewSet.{Ghosts as ViewSet}
use Rattle.pr_views.specs.Rooms.{AreAlike}
use Rattle.pr_views.proofs.lemmas.Views.Values.{words_fit}
use Rattle.pr_regions.proofs.lemmas.Showing.AlikeViews.{shows_within, same_views}
use Rattle.pr_domain.specs.Outcomes.{Outcome, AreOutcomes}

-- the outcomes of a view are also those of another view with the same possibilities
pub same_outcomes : (v w : View) (d : Refusals) (c : Command) (tests : List Test) (outcomes : List Outcome) → v.scope ≡ w.scope → Within v w → Within w v
    → AreOutcomes v d c tests outcomes → AreOutcomes w d c tests outcomes
same_outcomes v w d c tests outcomes same there back are = record {
  cover = λ u r x shown step.
      are.cover u r x (shows_within w v u same back shown) (subst (λ (s : Scope). Answered d u s.own (Plain c) r x) (sym same) step);
  only = λ o i listed possible.
      let lands = are.only o i listed possible in
      record {
        from = lands.from;
        shown = shows_within v w lands.from (sym same) there lands.shown;
        reply = lands.reply;
        after = lands.after;
        answer = subst (λ (s : Scope). Answered d lands.from s.own (Plain c) lands.reply lands.after) same lands.answer;
        landing = lands.landing;
        is = subst (λ (s : Scope). IsSo s lands.after i) same lands.is;
      };
  come = are.come;
  once = are.once;
}

module _ {S : Type 0} {sets : ViewSet S} (own : ℕ) (v : ViewOf S sets) (d : Refusals) (c : Command) (tests : List Test) (known : Possibilities) (tally : Tally) (found : List (Landing × Possibilities)) where
  -- what is found is what the command may come to, by these keys
  abbrev IsTotal : List ℕ → Type 0
  IsTotal keys = (l : Landing) (i : Item) → HasOutcome (scope_at keys v.hosts own) found l i ↔ LandsSomehow (view_in (scope_at keys v.hosts own) known) d c tests l i

  -- what is found with the tally of a view's possibilities is what is found of the states that the view shows
  pub found_of_view : (keys : List ℕ) → keys ≡ v.keys.items → own < v.hosts → ((g r : ℕ) → v.hosts ≤ g → has_at known.registrations g r ≡ false) → AreInRange v.hosts v.keys.items known
      → ((s : Scope) → IsOfScope s v.hosts own keys known → IsTally (view_in s known) c tests tally) → (IsTally (view_in (scope_at keys v.hosts own) known) c tests tally → IsTotal keys) → IsTotal v.keys.items
  found_of_view keys same there past range tallied are =
      subst IsTotal same (are (tallied (scope_at keys v.hosts own) (record {
        same_hosts = refl;
        same_own = refl;
        same_keys = refl;
        fits = words_fit own v.hosts keys known (v.some, v.few) there (subst AreDeclared (sym same) v.declared) (subst (λ (ks : List ℕ). AreInRange v.hosts ks known) (sym same) range) past;
      })))

-- ---- views in place of words

some_and : {A : Type 0} (o : Option A) (P : A → Type 0) → IsSomeAnd o P → (x : A) × (o ≡ Some x) × P x
some_and None P holds = absurd holds
some_and (Some x) P holds = (x, refl, holds)

module _ {S : Type 0} {sets : ViewSet S} (view : ViewOf S sets) (found : List (Landing × Possibilities)) (outcomes : List (Landing × ViewOf S sets))
    (each : AllZip (HasWords view) found outcomes) where
  pub to_view : (k : ℕ) (f : Landing × Possibilities) → slice_get found k ≡ Some f → (o : Landing × ViewOf S sets) × (slice_get outcomes k ≡ Some o) × HasWords view f o
  to_view k f read =
      some_and (slice_get outcomes k) (HasWords view f)
      (subst (λ (x : Option (Landing × Possibilities)). MatchOption x (Unit {0}) (λ y. IsSomeAnd (slice_get outcomes k) (HasWords view y))) read (AllZip-left (HasWords view) found outcomes each k))

  pub to_words : (k : ℕ) (o : Landing × ViewOf S sets) → slice_get outcomes k ≡ Some o → (f : Landing × Possibilities) × (slice_get found k ≡ Some f) × HasWords view f o
  to_words k o read =
      some_and (slice_get found k) (λ f. HasWords view f o)
      (subst (λ (x : Option (Landing × ViewOf S sets)). MatchOption x (Unit {0}) (λ y. IsSomeAnd (slice_get found k) (λ f. HasWords view f y))) read (AllZip-right (HasWords view) found outcomes each k))

  pub all_alike : All (λ o. AreAlike view o.1) outcomes
  all_alike k d within = (to_words k (get_or outcomes k d) (slice_get-get_or outcomes k d within)).2.alike

pub same_as : {S : Type 0} {sets : ViewSet S} (own : ℕ) (view : ViewOf S sets) (f : Landing × Possibilities) (o : Landing × ViewOf S sets) → HasWords view f o → IsSame (view_in (scope_of own view) f.1) (view_of own o.1)
same_as own view f o has = same_views own o.1 (scope_of own view) f.1 (λ i. record { own = own; hosts = sym has.alike.hosts i; keys = sym has.alike.keys i }) (has.same own)
