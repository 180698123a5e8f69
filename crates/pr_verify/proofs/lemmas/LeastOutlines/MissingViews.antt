-- The first line at which a view is missing.
use Rattle.pr_verify.proofs.Common.{◌≡◌, ℕ, ◌+◌, ◌<◌, ◌≤◌, Bool, true, false, ◌↔◌, List, map, length, IsTrue, slice_index_or, Some, None, All, Any, Contains, Option, sym, refl, ◌∙◌, subst, arith, false≢true, get_or_default, All-map, All-contains, View, KeptView, IsWithinIn, Outline, view_at, HasView, LacksView, IsLeast, least}
use Rattle.pr_verify.proofs.lemmas.Least.FirstLines.{IsLeastSoFar, least_as, least_more, least_of_all, least-none}

-- what holds of the views of all entries holds of one of them
pub of_entry : (P : KeptView → Type 0) (xs : List (ℕ × KeptView)) (v : KeptView) → All (λ e. P e.1) xs → Contains (map (λ e. e.1) xs) v → P v
of_entry P xs v all there = All-contains P (map (λ e. e.1) xs) v (All-map P (λ e. e.1) xs all) there

module _ (o : Outline) (w : View) (lines : List ℕ) where
  -- if it is this line, then w is within the view there
  abbrev pub HasAt : ℕ → ℕ → Type 0
  HasAt e line = e ≡ line → IsWithinIn w (view_at o.views line)

  -- it is this line, and w is not within the view there
  abbrev pub LacksAt : ℕ → ℕ → Type 0
  LacksAt e line = (e ≡ line) × (IsWithinIn w (view_at o.views line) → ⊥)

  module _ (n : ℕ) (a : Option ℕ) (found : Bool) (small : n < length lines) (tells : IsTrue found ↔ IsWithinIn w (view_at o.views (slice_index_or lines n 0))) (before : IsLeastSoFar HasAt LacksAt lines n a) where
    read : slice_index_or lines n 0 ≡ slice_index_or lines n (slice_index_or lines n 0)
    read = get_or_default lines n 0 (slice_index_or lines n 0) small

    pub with_missing : found ≡ false → IsLeastSoFar HasAt LacksAt lines (n + 1) (least a (Some (slice_index_or lines n 0)))
    with_missing none =
        least_more HasAt LacksAt lines n (slice_index_or lines n 0) a (Some (slice_index_or lines n 0)) small read before
        ((refl, λ is. false≢true (sym none ∙ tells.1 is)), λ earlier less same. absurd (omega (arith, same)))

    pub with_none_missing : found ≡ true → IsLeastSoFar HasAt LacksAt lines (n + 1) a
    with_none_missing is =
        subst (IsLeastSoFar HasAt LacksAt lines (n + 1)) (least-none a)
        (least_more HasAt LacksAt lines n (slice_index_or lines n 0) a None small read before (λ line same. subst (λ l. IsWithinIn w (view_at o.views l)) same (tells.0 is)))

  pub missing_all : (n : ℕ) (a : Option ℕ) → length lines ≤ n → IsLeastSoFar HasAt LacksAt lines n a → IsLeast (HasView o lines w) (LacksView o lines w) a
  missing_all n a whole all =
      least_as (λ line. All (λ e. HasAt e line) lines) (λ line. Any (λ e. LacksAt e line) lines) (HasView o lines w) (LacksView o lines w) a
      (λ line each listed. All-contains (λ e. HasAt e line) lines line each listed refl)
      (λ line one. record { listed = subst (Contains lines) one.4.0 (one.0, one.2, one.3); missing = one.4.1 })
      (least_of_all HasAt LacksAt lines n a whole all)
