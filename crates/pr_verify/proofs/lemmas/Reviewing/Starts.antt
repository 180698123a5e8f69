-- What the views lack of the allowed starts, and the scope of the views of an outline.
use Rattle.pr_verify.proofs.Common.{◌≡◌, ℕ, ◌<◌, Bool, true, false, List, [], ◌∷◌, map, length, take, if◌then◌else◌, ◌==◌, slice_index_or, Some, None, All, Contains, Option, sym, refl, ap, ◌∙◌, subst, Stmts, Scenario, IsAllowedStart, Scope, Item, Registration, Reservation, Attentions, scope_of, view_of, AreAlike, View, IsPossible, Fits, Within, KeptView, IsOfStart, Outline, view_at, scope_in, StartsAt, first_lines, outline_of, IsMadeFor, KeptOutline, IsMadeAs, HasAll, Lacks, IsFirstLacking, HasView, IsLeast}
use Rattle.std.proofs.lemmas.List.Elements.{All-head, All-tail, All-weaker, All-take}
use Rattle.pr_roles.specs.Starts.{CanStart}
use Rattle.pr_views.proofs.lemmas.Views.Values.{fits}
use Rattle.pr_verify.specs.inside.Lacking.{CanCompare, LacksView}
use Rattle.pr_verify.proofs.lemmas.Least.FirstLines.{least_as}
use Rattle.pr_verify.proofs.lemmas.LeastOutlines.Possibilities.{IsExact, lacks_from_missing, shown_by_within}

-- ---- views of one scenario

pub scope_same : (s : Scenario) (own : ℕ) (v : KeptView) → v.keys.items ≡ s.keys → v.hosts ≡ length s.nexuses → scope_of own v ≡ scope_in s own
scope_same s own v keys hosts = λ i. record { own = own; hosts = hosts i; keys = keys i }

pub scope_alike : (own : ℕ) (v w : KeptView) → AreAlike v w → scope_of own w ≡ scope_of own v
scope_alike own v w same = λ i. record { own = own; hosts = (sym same.hosts) i; keys = (sym same.keys) i }

-- its possibilities fit
pub kept_fits : (v : KeptView) (own : ℕ) → own < v.hosts → Fits (view_of own v)
kept_fits = fits (λ s. s.below)

-- each view of the outline is of the scope
abbrev pub AreScoped : Outline → Scope → Type 0
AreScoped o s = (line : ℕ) (v : View) → view_at o.views line ≡ Some v → v.scope ≡ s

scoped_in : (s : Scenario) (own : ℕ) (xs : List (ℕ × KeptView)) → All (λ e. (e.1.keys.items ≡ s.keys) × (e.1.hosts ≡ length s.nexuses)) xs
    → (line : ℕ) (v : View) → view_at (map (λ e. (e.0, view_of own e.1)) xs) line ≡ Some v → v.scope ≡ scope_in s own
scoped_in s own [] all line v is = let bad : None ≡ Some v = is in cc
scoped_in s own (x ∷ xs) all line v is =
    at (x.0 == line) refl is (scoped_in s own xs (All-tail (λ e. (e.1.keys.items ≡ s.keys) × (e.1.hosts ≡ length s.nexuses)) x xs all) line v)
  where
    at : (b : Bool) → (x.0 == line) ≡ b → (if b then Some (view_of own x.1) else view_at (map (λ e. (e.0, view_of own e.1)) xs) line) ≡ Some v
        → (view_at (map (λ e. (e.0, view_of own e.1)) xs) line ≡ Some v → v.scope ≡ scope_in s own) → v.scope ≡ scope_in s own
    at true same here rest =
        let e : view_of own x.1 ≡ v = cc in
        let made = All-head (λ e. (e.1.keys.items ≡ s.keys) × (e.1.hosts ≡ length s.nexuses)) x xs all in
        ap (λ (w : View). w.scope) (sym e) ∙ scope_same s own x.1 made.0 made.1
    at false other there rest = rest there

pub scoped : (s : Scenario) (o : KeptOutline) → IsMadeFor s o → AreScoped (outline_of o) (scope_in s o.host)
scoped s o made = scoped_in s o.host o.views.items made

-- a view of the scenario is alike to each
pub alike : (s : Scenario) (o : KeptOutline) (v : KeptView) → IsMadeFor s o → v.keys.items ≡ s.keys → v.hosts ≡ length s.nexuses → All (λ e. AreAlike v e.1) o.views.items
alike s o v made keys hosts =
    All-weaker (λ e. (e.1.keys.items ≡ s.keys) × (e.1.hosts ≡ length s.nexuses)) (λ e. AreAlike v e.1)
    (λ e is. record { keys = keys ∙ sym is.0; hosts = hosts ∙ sym is.1 }) o.views.items made

-- an entry that is read
pub entry_made : (s : Scenario) (o : KeptOutline) (xs : List (ℕ × KeptView)) (i : ℕ) (x : ℕ × KeptView) → xs ≡ o.views.items → IsMadeFor s o → i < length xs → x ≡ slice_index_or xs i x
    → IsMadeAs s x.1
entry_made s o xs i x same made small read =
    subst (λ (e : ℕ × KeptView). IsMadeAs s e.1) (ap (λ ys. slice_index_or ys i x) (sym same) ∙ sym read) (made i x (subst (λ ys. i < length ys) same small))

-- it can be compared with those before it
pub compared_before : (s : Scenario) (o : KeptOutline) (xs : List (ℕ × KeptView)) (i : ℕ) (v : KeptView) → xs ≡ o.views.items → IsMadeFor s o → IsMadeAs s v → CanCompare (take i xs) v
compared_before s o xs i v same made is =
    All-take (λ e. AreAlike v e.1) i xs (subst (All (λ e. AreAlike v e.1)) (sym same) (alike s o v made is.0 is.1))

-- views that are alike to one of the scenario can be compared with each
pub each_compared : {X : Type 0} (s : Scenario) (o : KeptOutline) (v : KeptView) (xs : List (X × KeptView)) → IsMadeFor s o → IsMadeAs s v → All (λ x. AreAlike v x.1) xs
    → All (λ x. CanCompare o.views.items x.1) xs
each_compared s o v xs made is =
    All-weaker (λ x. AreAlike v x.1) (λ x. CanCompare o.views.items x.1)
    (λ x same. alike s o x.1 made (sym same.keys ∙ is.0) (sym same.hosts ∙ is.1)) xs

-- what is possible in a view is so whoever owns it
pub owned : (own other : ℕ) (v : KeptView) (i : Item) → IsPossible (view_of own v) i → IsPossible (view_of other v) i
owned own other v (Registration g r) is = is
owned own other v (Reservation x) is = is
owned own other v (Attentions q) is = is

pub any_own : (v w : KeptView) (own : ℕ) → Within (view_of own v) (view_of own w) → (other : ℕ) → Within (view_of other v) (view_of other w)
any_own v w own within other i is = owned own other w i (within i (owned other own v i is))

-- ---- the start

module _ (s : Scenario) (script : Stmts) (o : Outline) (w : View) where
  exact_start : IsOfStart s w → Fits w → CanStart s → IsExact (IsAllowedStart s) w
  exact_start start fits can = record {
    fits = fits;
    cover = start.cover;
    only = λ i is. let one = start.only i is in (one.unit, one.allowed, one.is);
    some = (can.unit, can.allowed);
  }

  pub lacks_start : (lines : List ℕ) (found : Option ℕ) → IsOfStart s w → Fits w → CanStart s → AreScoped o w.scope → first_lines script ≡ lines
      → IsLeast (HasView o lines w) (LacksView o lines w) found → IsFirstLacking o (StartsAt s script) found
  lacks_start lines found start fits can scopes same = least_as (HasView o lines w) (LacksView o lines w) (HasAll o (StartsAt s script)) (Lacks o (StartsAt s script)) found has lacks
    where
      exact : IsExact (IsAllowedStart s) w
      exact = exact_start start fits can

      has : (line : ℕ) → HasView o lines w line → HasAll o (StartsAt s script) line
      has line within u asks =
          shown_by_within (IsAllowedStart s) w (view_at o.views line) u exact (scopes line) asks.allowed (within (subst (λ l. Contains l line) same asks.first))

      lacks : (line : ℕ) → LacksView o lines w line → Lacks o (StartsAt s script) line
      lacks line missing =
          let one = lacks_from_missing (IsAllowedStart s) w (view_at o.views line) exact (scopes line) missing.missing in
          record { unit = one.0; asks = record { allowed = one.1; first = subst (λ l. Contains l line) (sym same) missing.listed }; missing = one.2 }
