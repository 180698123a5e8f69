-- What a fetch leaves.
use Rattle.pr_roles.proofs.Common.{◌≡◌, ℕ, ◌<◌, Bool, true, false, ◌&&◌, ◌||◌, ◌==◌, ◌⊎◌, inl, inr, List, [], ◌∷◌, length, IsTrue, sym, refl, ap, ◌∙◌, subst, false≢true, UnitState, Scenario, World}
use Rattle.std.specs.FinSet as set
use Rattle.std.specs.List.{list_any}
use Rattle.std.specs.Prelude.{◌≢◌, not}
use Rattle.std.proofs.lemmas.Bool.{eq-eqb, ne_eqb, true_from_ne_false}
use Rattle.std.proofs.lemmas.Bool.Decides.{eqb_tells}
use Rattle.pr_unit.specs.Attentions.{attentions}
use Rattle.pr_unit.specs.Laws.{IsQuiet}
use Rattle.pr_unit.proofs.lemmas.Steps.SharedSteps.{less_without}
use Rattle.pr_unit.proofs.lemmas.Attentions.Pairs.{same_pairs}
use Rattle.pr_unit.specs.UnitStates.{is_pending, after_report}
use Rattle.pr_unit.proofs.lemmas.Attentions.Pairs.{contains-remove-pair}
use Rattle.pr_unit.proofs.lemmas.Steps.QuietSteps.{reported-quiet, reported-gone}
use Rattle.pr_roles.specs.SharedAnswers.{FetchesReachAll}
use Rattle.pr_roles.specs.Worlds.{Event, Fetched, Run, after_fetch}
use Rattle.pr_roles.specs.Laws.{IsAfterFetch, FetchesAreUnheard}

others : (u : UnitState) (h code other : ℕ) → other ≢ code → is_pending (after_report u h code) h other ≡ is_pending u h other
others u h code other differs = contains-remove-pair u.pending (h, code) (h, other) ∙ (λ i. not (eq-eqb h h refl i && ne_eqb other code differs i) && set.contains u.pending (h, other))

fetched : (w : World) (h code : ℕ) → IsAfterFetch w h code (after_fetch w h code)
fetched w h code = record { gone = reported-gone w.unit h code; quiet = reported-quiet w.unit h code; others = others w.unit h code; controls = refl; history = refl }

pub fetches_are_unheard : FetchesAreUnheard
fetches_are_unheard s w h code v happens = subst (IsAfterFetch w h code) (sym happens.world) (fetched w h code)

-- ---- whatever is gone was fetched

-- two of which each has what the other has are one
same_quiet : (u v : UnitState) (h : ℕ) → IsQuiet u h v → ((code : ℕ) → is_pending u h code ≡ true → is_pending v h code ≡ true) → v ≡ u
same_quiet u v h less back = λ i. record { registry = less.registry i; pending = same i }
  where
    both : (a b : Bool) → (a ≡ true → b ≡ true) → (b ≡ true → a ≡ true) → a ≡ b
    both true b to from = sym (to refl)
    both false true to from = from refl
    both false false to from = refl

    at : (g code : ℕ) → (((g == h) ≡ true) × (g ≡ h)) ⊎ (((g == h) ≡ false) × (g ≢ h)) → is_pending v g code ≡ is_pending u g code
    at g code (inl own) = ap (λ k. is_pending v k code) own.1 ∙ both (is_pending v h code) (is_pending u h code) (less.own code) (back code) ∙ ap (λ k. is_pending u k code) (sym own.1)
    at g code (inr other) = less.others g code other.1

    same : v.pending ≡ u.pending
    same = same_pairs v.pending u.pending (λ p. at p.0 p.1 (eqb_tells p.0 h))

module _ (s : Scenario) (h : ℕ) (u : UnitState) (within : h < length s.nexuses) (shares : IsTrue (s.shared h)) where
  -- one of these is pending there, and not here
  abbrev AreGone : World → List ℕ → Type 0
  AreGone w codes = (code : ℕ) → is_pending w.unit h code ≡ true → is_pending u h code ≡ false → list_any (λ c. code == c) codes ≡ true

  abbrev Reaches : World → Type 0
  Reaches w = (es : List Event) × Run s w es (record w { unit = u })

  fetched_down : (codes : List ℕ) (w : World) → AreGone w codes → IsQuiet w.unit h u → Reaches w
  fetched_down [] w gone less = ([], λ i. record w { unit = same_quiet w.unit u h less kept i })
    where
      kept : (code : ℕ) → is_pending w.unit h code ≡ true → is_pending u h code ≡ true
      kept code here = true_from_ne_false (is_pending u h code) (λ not. false≢true (gone code here not))
  fetched_down (c ∷ codes) w gone less = at (is_pending w.unit h c) (is_pending u h c) refl refl (fetched_down codes)
    where
      skips : (is_pending w.unit h c ≡ false) ⊎ (is_pending u h c ≡ true) → ((x : World) → AreGone x codes → IsQuiet x.unit h u → Reaches x) → Reaches w
      skips why rest = rest w (λ code here not. of code here not (eqb_tells code c) (gone code here not)) less
        where
          of : (code : ℕ) → is_pending w.unit h code ≡ true → is_pending u h code ≡ false → (((code == c) ≡ true) × (code ≡ c)) ⊎ (((code == c) ≡ false) × (code ≢ c))
              → list_any (λ x. code == x) (c ∷ codes) ≡ true → list_any (λ x. code == x) codes ≡ true
          of code here not (inl own) any = elim why [
            | inl none ↦ absurd (false≢true (sym none ∙ ap (is_pending w.unit h) (sym own.1) ∙ here))
            | inr there ↦ absurd (false≢true (sym not ∙ ap (is_pending u h) own.1 ∙ there))
          ]
          of code here not (inr other) any = ap (λ b. b || list_any (λ x. code == x) codes) (sym other.0) ∙ any

      at : (p q : Bool) → is_pending w.unit h c ≡ p → is_pending u h c ≡ q → ((x : World) → AreGone x codes → IsQuiet x.unit h u → Reaches x) → Reaches w
      at false q here there rest = skips (inl here) rest
      at true true here there rest = skips (inr there) rest
      at true false here there rest =
          let more = rest (after_fetch w h c) still (less_without w.unit u h c less there) in
          (Fetched h c ∷ more.0, (after_fetch w h c, record { there = within; shares = shares; pending = here; world = refl }, more.1))
        where
          still : AreGone (after_fetch w h c) codes
          still code left not = of (eqb_tells code c)
            where
              was : is_pending w.unit h code ≡ true
              was = (reported-quiet w.unit h c).own code left

              of : (((code == c) ≡ true) × (code ≡ c)) ⊎ (((code == c) ≡ false) × (code ≢ c)) → list_any (λ x. code == x) codes ≡ true
              of (inl own) = absurd (false≢true (sym (reported-gone w.unit h c) ∙ ap (is_pending (after_report w.unit h c) h) (sym own.1) ∙ left))
              of (inr other) = ap (λ b. b || list_any (λ x. code == x) codes) (sym other.0) ∙ gone code was not

pub fetches_reach_all : FetchesReachAll
fetches_reach_all s w h u there shares formed less = fetched_down s h u there shares attentions w (λ code here not. (formed.pending h code here).1) less
