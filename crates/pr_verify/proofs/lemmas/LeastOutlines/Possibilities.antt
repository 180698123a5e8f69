-- A view that is not within another has a possibility that the other is without, and a state in which that is so is not
-- shown by the other.
use Rattle.pr_verify.proofs.Common.{◌≡◌, ℕ, zero, suc, ◌+◌, ◌<◌, Bool, true, false, ◌⊎◌, length, Some, None, Option, sym, refl, ap, ◌∙◌, subst, inl, inr, arith, false≢true, cases_order, cases_eq, UnitState, Scope, IsScope, Item, Registration, Reservation, Attentions, IsSo, View, IsPossible, Shows, Fits, Within, shown_within, IsWithinIn, ShowsIn}
use Rattle.pr_views.specs.Possibilities.{count_of_reservations, count_of_attentions}
use Rattle.pr_interference.proofs.lemmas.Closing.ClosedViews.{shown_possible}

-- ---- numbers that one test passes and another does not

record IsMissed (p q : ℕ → Bool) (n m : ℕ) : Type 0 where
  below : m < n
  there : p m ≡ true
  missing : q m ≡ false

all_or_missed : (n : ℕ) (p q : ℕ → Bool) → ((m : ℕ) → m < n → p m ≡ true → q m ≡ true) ⊎ ((m : ℕ) × IsMissed p q n m)
all_or_missed zero p q = inl (λ m small. absurd (omega arith))
all_or_missed (suc n) p q = at (all_or_missed n p q)
  where
    more : (m : ℕ) → IsMissed p q n m → IsMissed p q (suc n) m
    more m is = record { below = (let e = is.below in let o : m < suc n = omega arith in o); there = is.there; missing = is.missing }

    last : ((m : ℕ) → m < n → p m ≡ true → q m ≡ true) → (b c : Bool) → p n ≡ b → q n ≡ c → ((m : ℕ) → m < suc n → p m ≡ true → q m ≡ true) ⊎ ((m : ℕ) × IsMissed p q (suc n) m)
    last before true false has lacks = inr (n, record { below = omega arith; there = has; missing = lacks })
    last before b true has also = inl (λ m small is. here m small is (cases_eq m n))
      where
        here : (m : ℕ) → m < suc n → p m ≡ true → (m ≡ n) ⊎ (m ≡ n → ⊥) → q m ≡ true
        here m small is (inl same) = ap q same ∙ also
        here m small is (inr other) = before m (omega (arith, cases_order m n)) is
    last before false c lacks any = inl (λ m small is. here m small is (cases_eq m n))
      where
        here : (m : ℕ) → m < suc n → p m ≡ true → (m ≡ n) ⊎ (m ≡ n → ⊥) → q m ≡ true
        here m small is (inl same) = absurd (false≢true (sym lacks ∙ ap p (sym same) ∙ is))
        here m small is (inr other) = before m (omega (arith, cases_order m n)) is

    at : ((m : ℕ) → m < n → p m ≡ true → q m ≡ true) ⊎ ((m : ℕ) × IsMissed p q n m) → ((m : ℕ) → m < suc n → p m ≡ true → q m ≡ true) ⊎ ((m : ℕ) × IsMissed p q (suc n) m)
    at (inl before) = last before (p n) (q n) refl refl
    at (inr missed) = inr (missed.0, more missed.0 missed.1)

-- of as many pairs
each_or_missed : (k n : ℕ) (p q : ℕ → ℕ → Bool)
    → ((g m : ℕ) → g < k → m < n → p g m ≡ true → q g m ≡ true) ⊎ ((g : ℕ) × (m : ℕ) × (g < k) × IsMissed (p g) (q g) n m)
each_or_missed zero n p q = inl (λ g m small. absurd (omega arith))
each_or_missed (suc k) n p q = at (each_or_missed k n p q) (all_or_missed n (p k) (q k))
  where
    at : ((g m : ℕ) → g < k → m < n → p g m ≡ true → q g m ≡ true) ⊎ ((g : ℕ) × (m : ℕ) × (g < k) × IsMissed (p g) (q g) n m)
        → ((m : ℕ) → m < n → p k m ≡ true → q k m ≡ true) ⊎ ((m : ℕ) × IsMissed (p k) (q k) n m)
        → ((g m : ℕ) → g < suc k → m < n → p g m ≡ true → q g m ≡ true) ⊎ ((g : ℕ) × (m : ℕ) × (g < suc k) × IsMissed (p g) (q g) n m)
    at (inr missed) last = inr (missed.0, missed.1, omega arith, missed.3)
    at (inl before) (inr missed) = inr (k, missed.0, omega arith, missed.1)
    at (inl before) (inl last) = inl (λ g m small below. here g m small below (cases_eq g k))
      where
        here : (g m : ℕ) → g < suc k → m < n → (g ≡ k) ⊎ (g ≡ k → ⊥) → p g m ≡ true → q g m ≡ true
        here g m small below (inl same) is = ap (λ h. q h m) same ∙ last m below (ap (λ h. p h m) (sym same) ∙ is)
        here g m small below (inr other) is = before g m (omega (arith, cases_order g k)) below is

-- ---- possibilities

-- one has it, and the other has not
pub record IsMissing (w v : View) (i : Item) : Type 0 where
  pub there : IsPossible w i
  pub missing : IsPossible v i → ⊥

pub within_or_missing : (w v : View) → Fits w → w.scope ≡ v.scope → Within w v ⊎ ((i : Item) × IsMissing w v i)
within_or_missing w v fits same =
    at (each_or_missed w.scope.hosts (length w.scope.keys + 1) w.registrations v.registrations)
    (all_or_missed (count_of_reservations w.scope.hosts) w.reservations v.reservations)
    (all_or_missed count_of_attentions w.pending v.pending)
  where
    hosts : w.scope.hosts ≡ v.scope.hosts
    hosts = ap (λ (s : Scope). s.hosts) same

    all : ((g m : ℕ) → g < w.scope.hosts → m < length w.scope.keys + 1 → w.registrations g m ≡ true → v.registrations g m ≡ true)
        → ((m : ℕ) → m < count_of_reservations w.scope.hosts → w.reservations m ≡ true → v.reservations m ≡ true)
        → ((m : ℕ) → m < count_of_attentions → w.pending m ≡ true → v.pending m ≡ true) → Within w v
    all registrations reservations pending (Registration g r) is =
        let small = fits.registrations g r is.1 in
        (subst (λ n. g < n) hosts is.0, registrations g r is.0 (omega arith) is.1)
    all registrations reservations pending (Reservation x) is = reservations x (fits.reservations x is) is
    all registrations reservations pending (Attentions q) is = pending q (fits.pending q is) is

    at : ((g m : ℕ) → g < w.scope.hosts → m < length w.scope.keys + 1 → w.registrations g m ≡ true → v.registrations g m ≡ true)
        ⊎ ((g : ℕ) × (m : ℕ) × (g < w.scope.hosts) × IsMissed (w.registrations g) (v.registrations g) (length w.scope.keys + 1) m)
        → ((m : ℕ) → m < count_of_reservations w.scope.hosts → w.reservations m ≡ true → v.reservations m ≡ true)
        ⊎ ((m : ℕ) × IsMissed w.reservations v.reservations (count_of_reservations w.scope.hosts) m)
        → ((m : ℕ) → m < count_of_attentions → w.pending m ≡ true → v.pending m ≡ true) ⊎ ((m : ℕ) × IsMissed w.pending v.pending count_of_attentions m)
        → Within w v ⊎ ((i : Item) × IsMissing w v i)
    at (inl registrations) (inl reservations) (inl pending) = inl (all registrations reservations pending)
    at (inr missed) reservations pending =
        inr (Registration missed.0 missed.1, record { there = (missed.2, missed.3.there); missing = λ is. false≢true (sym missed.3.missing ∙ is.1) })
    at (inl registrations) (inr missed) pending =
        inr (Reservation missed.0, record { there = missed.1.there; missing = λ is. false≢true (sym missed.1.missing ∙ is) })
    at (inl registrations) (inl reservations) (inr missed) =
        inr (Attentions missed.0, record { there = missed.1.there; missing = λ is. false≢true (sym missed.1.missing ∙ is) })

-- ---- states

-- so a view does not show a state in which something is so that is not possible in it
pub not_shown : (v : View) (u : UnitState) (i : Item) → IsScope v.scope → IsSo v.scope u i → (IsPossible v i → ⊥) → Shows v u → ⊥
not_shown v u i scope is missing shown = missing (shown_possible v u i scope shown is)

-- ---- a view of just these states

-- it shows each of them; whatever is possible in it is so in one of them; and there is one
pub record IsExact (Asked : UnitState → Type 0) (w : View) : Type 0 where
  pub fits : Fits w
  pub cover : (u : UnitState) → Asked u → Shows w u
  pub only : (i : Item) → IsPossible w i → (u : UnitState) × Asked u × IsSo w.scope u i
  pub some : (u : UnitState) × Asked u

-- where the one view is not within the other, the other does not show one of the states
pub lacks_from_missing : (Asked : UnitState → Type 0) (w : View) (o : Option View) → IsExact Asked w → ((v : View) → o ≡ Some v → v.scope ≡ w.scope) → (IsWithinIn w o → ⊥)
    → (u : UnitState) × Asked u × (ShowsIn o u → ⊥)
lacks_from_missing Asked w None exact scope missing = (exact.some.0, exact.some.1, λ none. none)
lacks_from_missing Asked w (Some v) exact scope missing = at (within_or_missing w v exact.fits (sym same))
  where
    same : v.scope ≡ w.scope
    same = scope v refl

    at : Within w v ⊎ ((i : Item) × IsMissing w v i) → (u : UnitState) × Asked u × (Shows v u → ⊥)
    at (inl within) = absurd (missing within)
    at (inr one) =
        let is = exact.only one.0 one.1.there in
        (is.0, is.1, not_shown v is.0 one.0 (subst IsScope (sym same) exact.fits.scope) (subst (λ s. IsSo s is.0 one.0) (sym same) is.2) one.1.missing)

pub shown_by_within : (Asked : UnitState → Type 0) (w : View) (o : Option View) (u : UnitState) → IsExact Asked w → ((v : View) → o ≡ Some v → v.scope ≡ w.scope) → Asked u → IsWithinIn w o → ShowsIn o u
shown_by_within Asked w None u exact scope asked within = within
shown_by_within Asked w (Some v) u exact scope asked within = shown_within w v u (sym (scope v refl)) within (exact.cover u asked)
