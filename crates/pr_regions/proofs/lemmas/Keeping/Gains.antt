-- Possibilities that others are without.
use Rattle.pr_regions.proofs.Common.{◌≡◌, ℕ, ◌<◌, true, false, sym, ◌∙◌, false≢true, has, Scope, Registration, has_wide, Possibilities, Reservation, Attentions, has_at}
use Rattle.pr_regions.specs.Keeping.{IsNew}

-- ---- gains

pub new_registration : (s : Scope) (old new : Possibilities) (g n : ℕ) → g < s.hosts → has_at new.registrations g n ≡ true → has_at old.registrations g n ≡ false → IsNew s old new
new_registration s old new g n there got none = record { item = Registration g n; possible = (there, got); not_before = λ had. false≢true (sym none ∙ had.1) }

pub new_reservation : (s : Scope) (old new : Possibilities) (x : ℕ) → has_wide new.reservations x ≡ true → has_wide old.reservations x ≡ false → IsNew s old new
new_reservation s old new x got none = record { item = Reservation x; possible = got; not_before = λ had. false≢true (sym none ∙ had) }

pub new_attentions : (s : Scope) (old new : Possibilities) (q : ℕ) → has new.pending q ≡ true → has old.pending q ≡ false → IsNew s old new
new_attentions s old new q got none = record { item = Attentions q; possible = got; not_before = λ had. false≢true (sym none ∙ had) }
