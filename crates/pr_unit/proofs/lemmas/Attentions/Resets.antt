-- What a reset makes pending.
use Rattle.pr_unit.proofs.Common.{◌≡◌, ℕ, zero, suc, ◌+◌, ◌<◌, Bool, true, false, ◌&&◌, ◌||◌, IsTrue, nat_lt, UnitState, IsWellFormed, ◌==◌, sym, refl, ap, ◌∙◌, arith, false≢true, nat_tests, power_on, Pairs, each_with, hosts_below, or-false, contains-nobody}
use Rattle.std.proofs.Common.{add-one}
use Rattle.std.specs.FinSet as set
use Rattle.pr_sets.proofs.lemmas.Members.{lt-suc, lt-zero}
use Rattle.pr_attention.specs.Attentions.{is_attention}
use Rattle.pr_registry.proofs.lemmas.Sets.{contains-insert}
use Rattle.pr_unit.specs.UnitStates.{reset}
use Rattle.pr_unit.specs.Laws.{ResetsTellEach, ResetsAreWellFormed}
use Rattle.pr_unit.proofs.lemmas.Attentions.Pairs.{same_pairs, contains-insert-pair, contains-union-pairs, contains-each_with}

contains-hosts_below : (n q : ℕ) → set.contains (hosts_below n) q ≡ nat_lt q n
unfolding hosts_below
contains-hosts_below zero q = contains-nobody q ∙ sym (lt-zero q)
contains-hosts_below (suc n) q = contains-insert (hosts_below n) n q ∙ ap (λ b. q == n || b) (contains-hosts_below n q) ∙ sym (lt-suc q n)

contains-told : (old : Pairs) (n code q x : ℕ) → set.contains (set.union old (each_with (hosts_below n) code)) (q, x) ≡ (set.contains old (q, x) || (nat_lt q n && x == code))
contains-told old n code q x =
    contains-union-pairs old (each_with (hosts_below n) code) (q, x)
    ∙ ap (λ b. set.contains old (q, x) || b) (contains-each_with (hosts_below n) code q x ∙ ap (λ b. b && x == code) (contains-hosts_below n q))

-- no host yet
pub told_nobody : (old : Pairs) (code : ℕ) → old ≡ set.union old (each_with (hosts_below 0) code)
told_nobody old code =
    same_pairs _ _ (λ p. sym (contains-told old 0 code p.0 p.1 ∙ ap (λ b. set.contains old p || (b && p.1 == code)) (lt-zero p.0) ∙ or-false (set.contains old p)))

-- one host more
pub told_one : (old : Pairs) (code n : ℕ) → set.insert (set.union old (each_with (hosts_below n) code)) (n, code) ≡ set.union old (each_with (hosts_below (n + 1)) code)
told_one old code n =
    same_pairs _ _ (λ p. contains-insert-pair (set.union old (each_with (hosts_below n) code)) (n, code) p
    ∙ ap (λ b. (p.0 == n && p.1 == code) || b) (contains-told old n code p.0 p.1)
    ∙ at (p.0 == n) (p.1 == code) (set.contains old p) (nat_lt p.0 n)
    ∙ ap (λ b. set.contains old p || (b && p.1 == code)) (sym (rw add-one (lt-suc p.0 n)))
    ∙ sym (contains-told old (n + 1) code p.0 p.1))
  where
    at : (e c o l : Bool) → ((e && c) || (o || (l && c))) ≡ (o || ((e || l) && c))
    at true true true l = refl
    at true true false l = refl
    at true false true l = refl
    at true false false true = refl
    at true false false false = refl
    at false c o l = refl

pub pending-reset : ResetsTellEach
pending-reset u h code = contains-told u.pending u.registry.hosts power_on h code

-- whichever attention each host is told, the state stays well formed
pub well_formed-told : (u : UnitState) (hosts code : ℕ) (pending : Pairs) → pending ≡ set.union u.pending (each_with (hosts_below hosts) code)
    → hosts ≡ u.registry.hosts → IsTrue (is_attention code) → IsWellFormed u → IsWellFormed (record { registry = u.registry; pending = pending })
well_formed-told u hosts code pending told all known w = record {
  registry = w.registry;
  pending = λ h x is. at h x (set.contains u.pending (h, x)) (nat_lt h hosts) (x == code) refl refl refl
      (sym (ap (λ (p : Pairs). set.contains p (h, x)) told ∙ contains-told u.pending hosts code h x) ∙ is);
}
  where
    at : (h x : ℕ) (o l c : Bool) → set.contains u.pending (h, x) ≡ o → nat_lt h hosts ≡ l → (x == code) ≡ c → (o || (l && c)) ≡ true
        → (h < u.registry.hosts) × IsTrue (is_attention x)
    at h x true l c there below is both = w.pending h x there
    at h x false true true there below is both =
        (let small : h < hosts = grind (arith, nat_tests) in omega arith, let same : x ≡ code = grind (arith, nat_tests) in rw same known)
    at h x false true false there below is both = absurd (false≢true both)
    at h x false false c there below is both = absurd (false≢true both)

pub well_formed-reset : ResetsAreWellFormed
well_formed-reset u w = well_formed-told u u.registry.hosts power_on (reset u).pending refl refl refl w
