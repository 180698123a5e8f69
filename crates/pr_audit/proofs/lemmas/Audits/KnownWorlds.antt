-- An audit knows the worlds that the history so far leads to.
use Rattle.pr_audit.proofs.Common.{◌≡◌, ℕ, ◌+◌, ◌<◌, ◌≤◌, true, List, [], ◌∷◌, ◌++◌, length, get_or, take, Some, sym, refl, ap, ◌∙◌, subst, arith, UnitState, IsLegal, Scenario, World, world_from, Item, Adds, IsWorldOf, IsTried, ActFor, Reaches}
use Rattle.std.proofs.lemmas.List.{take_all, take_more, take-take}
use Rattle.pr_roles.specs.FirstStarts.{first_state}
use Rattle.pr_audit.specs.declared.auditor.Auditor.{Auditor}
use Rattle.pr_audit.specs.Audits.{IsLegalFromFirst, IsFirstIllegal}
use Rattle.pr_audit.specs.Auditors.{world_at}
use Rattle.pr_audit.proofs.lemmas.Auditing.Histories.{reached_legal, reaches_more, reached_before, reached_at_first, only_fetched, legal_take}

-- some run from the first start has this history and leads to the world of the audit, which stands for whatever such a run leads to
pub record IsKnown (s : Scenario) (history : List Item) (a : Auditor) : Type 0 where
  pub start : UnitState
  pub first : first_state s ≡ Some start
  pub reaches : Reaches s start history (world_at a history)
  pub only : (w : World) → Reaches s start history w → IsWorldOf s (world_at a history) w
  pub acts : ActFor s (world_at a [])

pub known_first : (s : Scenario) (a : Auditor) → first_state s ≡ Some a.unit → world_at a [] ≡ world_from s a.unit → ActFor s (world_at a []) → IsKnown s [] a
known_first s a first world acts = record {
  start = a.unit;
  first = first;
  reaches = record { events = []; run = world; items = refl };
  only = λ w reaches. subst (λ x. IsWorldOf s x w) (sym world) (reached_at_first s a.unit w reaches);
  acts = acts;
}

-- past one item more
pub known_then : (s : Scenario) (history : List Item) (a b : Auditor) (e : Item) → IsKnown s history a → IsTried s (world_at a history) e true (world_at b (history ++ e ∷ []))
    → ActFor s (world_at b []) → IsKnown s (history ++ e ∷ []) b
known_then s history a b e known tried acts =
    record {
      start = known.start;
      first = known.first;
      reaches = reaches_more s known.start history (world_at a history) e (world_at b (history ++ e ∷ [])) known.reaches tried.0;
      only = λ w reaches.
          let last = reached_before s known.start history e w reaches in
          let of = tried.1 last.before last.after (known.only last.before last.reaches) last.adds in
          only_fetched s (world_at b (history ++ e ∷ [])) last.after last.later w last.on (reaches.items ∙ sym of.history) of;
      acts = acts;
    }

-- ---- what the audit answers

pub known_all : (s : Scenario) (history : List Item) (i : ℕ) (a : Auditor) → length history ≤ i → IsKnown s (take i history) a → IsLegalFromFirst s history
known_all s history i a done known =
    let all = subst (λ es. IsKnown s es a) (take_all i history done) known in
    record { start = all.start; first = all.first; legal = reached_legal s all.start history (world_at a history) all.reaches }

-- no run has an item more that no event adds
none_legal : (s : Scenario) (history : List Item) (a : Auditor) (e : Item) → (known : IsKnown s history a) → ((x y : World) → IsWorldOf s (world_at a history) x → Adds s x e y → ⊥)
    → IsLegal s known.start (history ++ e ∷ []) → ⊥
none_legal s history a e known none legal =
    let reaches : Reaches s known.start (history ++ e ∷ []) legal.1 = record { events = legal.0; run = legal.2; items = legal.3 } in
    let last = reached_before s known.start history e legal.1 reaches in
    none last.before last.after (known.only last.before last.reaches) last.adds

-- there is one first start
one_start : (s : Scenario) (history : List Item) (u : UnitState) → first_state s ≡ Some u → IsLegalFromFirst s history → IsLegal s u history
one_start s history u first legal =
    let same : Some legal.start ≡ Some u = sym legal.first ∙ first in
    let start : legal.start ≡ u = cc in
    subst (λ x. IsLegal s x history) start legal.legal

pub first_illegal : (s : Scenario) (history : List Item) (i : ℕ) (a : Auditor) (e : Item) → i < length history → e ≡ get_or history i e → IsKnown s (take i history) a
    → ((x y : World) → IsWorldOf s (world_at a (take i history)) x → Adds s x e y → ⊥) → IsFirstIllegal s history (i + 1)
first_illegal s history i a e there is known none = record {
  within = (omega arith, omega arith);
  exactly = λ n. (ends_before n, λ before. begins n before);
}
  where
    more : take (i + 1) history ≡ take i history ++ e ∷ []
    more = take_more history i e there ∙ ap (λ x. take i history ++ x ∷ []) (sym is)

    illegal : IsLegal s known.start (take (i + 1) history) → ⊥
    illegal legal = none_legal s (take i history) a e known none (subst (IsLegal s known.start) more legal)

    ends_before : (n : ℕ) → IsLegalFromFirst s (take n history) → n < i + 1
    ends_before n legal = omega (arith, past)
      where
        past : i + 1 ≤ n → ⊥
        past beyond =
            illegal (subst (IsLegal s known.start) (take-take (i + 1) n history beyond) (legal_take s known.start (i + 1) (take n history) (one_start s (take n history) known.start known.first legal)))

    begins : (n : ℕ) → n < i + 1 → IsLegalFromFirst s (take n history)
    begins n before = record {
      start = known.start;
      first = known.first;
      legal = subst (IsLegal s known.start) (take-take n i history (omega arith))
          (legal_take s known.start n (take i history) (reached_legal s known.start (take i history) (world_at a (take i history)) known.reaches));
    }
