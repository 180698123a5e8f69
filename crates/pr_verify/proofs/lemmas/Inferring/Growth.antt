-- A view lacks less once something is joined to it, and fewer possibilities where it was without one of them.
use Rattle.pr_verify.proofs.Common.{◌≡◌, ℕ, ◌+◌, ◌<◌, ◌≤◌, Bool, true, false, ◌⊎◌, nat_lt, refl, ap, subst, inl, inr, arith, ltb-true, cases_lt, and_parts, Registration, Reservation, Attentions, View, Fits, Within}
use Rattle.std.proofs.lemmas.Bool.{lt-ltb, and_from}
use Rattle.pr_interference.specs.inside.Closing.{count_of_lacking, count_of_all_lacking}
use Rattle.pr_interference.proofs.lemmas.Closing.ClosedViews.{Passes, lacking_less, lacking_fewer, lacking_all_less, lacking_all_fewer}
use Rattle.pr_regions.proofs.lemmas.Portions.GatheredStates.{few_keys}
use Rattle.pr_verify.specs.inside.Inferring.{has_registration, lacks}
use Rattle.pr_sets.specs.Numbers.{most}

-- ---- what lacks no less has the same

lacks_no_less : (n k : ℕ) (p q : ℕ → Bool) → k < n → Passes p q → count_of_lacking n p ≤ count_of_lacking n q → q k ≡ true → p k ≡ true
lacks_no_less n k p q small goes same has_it = at (p k) refl
  where
    at : (b : Bool) → p k ≡ b → p k ≡ true
    at true is = is
    at false is = absurd (let fewer = lacking_fewer n k p q small goes is has_it in omega arith)

all_lack_no_less : (n g k : ℕ) (p q : ℕ → ℕ → Bool) → g < n → k < most → ((h : ℕ) → Passes (p h) (q h)) → count_of_all_lacking n p ≤ count_of_all_lacking n q → q g k ≡ true → p g k ≡ true
all_lack_no_less n g k p q there small goes same has_it = at (p g k) refl
  where
    at : (b : Bool) → p g k ≡ b → p g k ≡ true
    at true is = is
    at false is = absurd (let fewer = lacking_all_fewer n g k p q there small (λ h below. goes h) is has_it in omega arith)

-- ---- views

module _ (v w : View) (hosts : w.scope.hosts ≡ v.scope.hosts) (within : Within v w) where
  has_more : (g : ℕ) → Passes (has_registration v g) (has_registration w g)
  has_more g r is =
      let parts = and_parts (nat_lt g v.scope.hosts) (v.registrations g r) is in
      let there = ltb-true g v.scope.hosts parts.0 in
      let wide = within (Registration g r) (there, parts.1) in
      and_from (nat_lt g w.scope.hosts) (w.registrations g r) (lt-ltb g w.scope.hosts wide.0) wide.1

  registrations_less : count_of_all_lacking v.scope.hosts (has_registration w) ≤ count_of_all_lacking v.scope.hosts (has_registration v)
  registrations_less = lacking_all_less v.scope.hosts (has_registration v) (has_registration w) (λ g below. has_more g)

  reservations_less : count_of_lacking most w.reservations ≤ count_of_lacking most v.reservations
  reservations_less = lacking_less most v.reservations w.reservations (λ x is. within (Reservation x) is)

  attentions_less : count_of_lacking most w.pending ≤ count_of_lacking most v.pending
  attentions_less = lacking_less most v.pending w.pending (λ q is. within (Attentions q) is)

  lacks_by : lacks w ≡ count_of_all_lacking v.scope.hosts (has_registration w) + (count_of_lacking most w.reservations + count_of_lacking most w.pending)
  unfolding lacks
  lacks_by = ap (λ n. count_of_all_lacking n (has_registration w) + (count_of_lacking most w.reservations + count_of_lacking most w.pending)) hosts

  -- what has all that another has lacks no more
  pub lacks_less : lacks w ≤ lacks v
  unfolding lacks
  lacks_less =
      let one = registrations_less in
      let two = reservations_less in
      let three = attentions_less in
      let by = lacks_by in
      omega arith

  module _ (o : View) (also : o.scope.hosts ≡ v.scope.hosts) (fits : Fits o) (joined : Within o w) where
    -- and if it lacks as much, it has nothing more
    nothing_more : lacks v ≤ lacks w → Within o v
    unfolding lacks
    nothing_more same (Registration g r) is =
        let one = registrations_less in
        let two = reservations_less in
        let three = attentions_less in
        let by = lacks_by in
        let few = few_keys o.scope.keys fits.scope.keys in
        let small = fits.registrations g r is.1 in
        let there : g < v.scope.hosts = subst (λ n. g < n) also is.0 in
        let wide = joined (Registration g r) is in
        let had = all_lack_no_less v.scope.hosts g r (has_registration v) (has_registration w) there (omega arith) has_more (omega arith)
        (and_from (nat_lt g w.scope.hosts) (w.registrations g r) (lt-ltb g w.scope.hosts wide.0) wide.1) in
        (there, (and_parts (nat_lt g v.scope.hosts) (v.registrations g r) had).1)
    nothing_more same (Reservation x) is =
        let one = registrations_less in
        let two = reservations_less in
        let three = attentions_less in
        let by = lacks_by in
        let few = fits.scope.hosts.1 in
        let small = fits.reservations x is in
        lacks_no_less most x v.reservations w.reservations (omega arith) (λ y had. within (Reservation y) had) (omega arith) (joined (Reservation x) is)
    nothing_more same (Attentions q) is =
        let one = registrations_less in
        let two = reservations_less in
        let three = attentions_less in
        let by = lacks_by in
        let small = fits.pending q is in
        lacks_no_less most q v.pending w.pending (omega arith) (λ y had. within (Attentions y) had) (omega arith) (joined (Attentions q) is)

    -- so if it was without something of what was joined, it lacks fewer
    pub lacks_fewer : (Within o v → ⊥) → lacks w < lacks v
    lacks_fewer new = at (cases_lt (lacks w) (lacks v))
      where
        at : (lacks w < lacks v) ⊎ (lacks v ≤ lacks w) → lacks w < lacks v
        at (inl fewer) = fewer
        at (inr same) = absurd (new (nothing_more same))
