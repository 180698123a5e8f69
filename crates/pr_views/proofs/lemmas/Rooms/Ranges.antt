-- What is below a size, and possibilities that a view has room for.
use Rattle.pr_views.proofs.Common.{◌≡◌, ℕ, ◌+◌, ◌<◌, ◌≤◌, Bool, true, false, not, ◌&&◌, ◌⊎◌, ◌↔◌, List, length, IsTrue, nat_lt, sym, refl, ap, ◌∙◌, subst, inl, inr, arith, lt-ltb, le-ltb, false≢true, and_parts, cases_lt, has_wide, has, has_at}
use Rattle.pr_views.specs.Possibilities.{count_of_reservations, count_of_attentions}
use Rattle.pr_views.specs.Rooms.{AreInRange}
use Rattle.pr_views.specs.declared.possibilities.Possibilities.{Possibilities}

-- ---- one set

-- of a set nothing is left without what is below the size just where all of it is below
pub below_tells : (p left : ℕ → Bool) (size : ℕ) (r : Bool) → ((n : ℕ) → left n ≡ (p n && not (nat_lt n size))) → (IsTrue r → (n : ℕ) → left n ≡ false)
    → (r ≡ false → (n : ℕ) × IsTrue (left n)) → IsTrue r ↔ ((n : ℕ) → p n ≡ true → n < size)
below_tells p left size true is empty filled = (λ yes n there. at n there (cases_lt n size), λ all. refl)
  where
    at : (n : ℕ) → p n ≡ true → (n < size) ⊎ (size ≤ n) → n < size
    at n there (inl small) = small
    at n there (inr large) =
        absurd (false≢true (sym (empty refl n) ∙ is n ∙ ap (λ b. b && not (nat_lt n size)) there ∙ ap not (le-ltb n size large)))
below_tells p left size false is empty filled = (λ yes. absurd (false≢true yes), λ all. absurd (at all (filled refl)))
  where
    at : ((n : ℕ) → p n ≡ true → n < size) → (n : ℕ) × IsTrue (left n) → ⊥
    at all some =
        let both = and_parts (p some.0) (not (nat_lt some.0 size)) (sym (is some.0) ∙ some.1) in
        false≢true (sym (ap not (lt-ltb some.0 size (all some.0 both.0))) ∙ both.1)

-- ---- a whole view

pub in_range : (hosts : ℕ) (keys : List ℕ) (p : Possibilities) (r x : ℕ) → r ≡ length keys + 1 → x ≡ count_of_reservations hosts
    → ((g n : ℕ) → g < hosts → has_at p.registrations g n ≡ true → n < r) → ((n : ℕ) → has_wide p.reservations n ≡ true → n < x)
    → ((n : ℕ) → has p.pending n ≡ true → n < count_of_attentions) → AreInRange hosts keys p
in_range hosts keys p r x of_keys of_hosts registrations reservations pending = record {
  registrations = λ g n there has_it. let small = registrations g n there has_it in omega arith;
  reservations = λ n has_it. subst (λ b. n < b) of_hosts (reservations n has_it);
  pending = pending;
}

pub registrations_below : (hosts : ℕ) (keys : List ℕ) (p : Possibilities) (r : ℕ) → r ≡ length keys + 1 → AreInRange hosts keys p
    → (g n : ℕ) → g < hosts → has_at p.registrations g n ≡ true → n < r
registrations_below hosts keys p r of_keys fits g n there has_it =
    let few = fits.registrations g n there has_it in omega arith

pub reservations_below : (hosts : ℕ) (keys : List ℕ) (p : Possibilities) (x : ℕ) → x ≡ count_of_reservations hosts → AreInRange hosts keys p
    → (n : ℕ) → has_wide p.reservations n ≡ true → n < x
reservations_below hosts keys p x of_hosts fits n has_it = subst (λ b. n < b) (sym of_hosts) (fits.reservations n has_it)
