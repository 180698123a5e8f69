use Rattle.pr_unit.proofs.Common.{◌≡◌, ℕ, zero, suc, ◌+◌, ◌<◌, Bool, true, false, ◌&&◌, List, [], ◌∷◌, length, if◌then◌else◌, nat_lt, ◌==◌, sym, refl, ap, ◌∙◌, subst, arith, false≢true, and_parts, nat_tests, MOST_NEXUSES, Codes, AreAttentions, contains-no_code, place, table_pairs}
use Rattle.std.proofs.Common.{length-set, slice_set, rules, eqb-true, ltb-true}
use Rattle.std.specs.FinSet as set
use Rattle.pr_unit.proofs.lemmas.Attentions.Pairs.{same_pairs, contains-table_pairs, place-set}
use Rattle.pr_unit.proofs.unit.table_of.Goals as goal

-- where a table has a code, it has a place
has_place : (table : List Codes) (h code : ℕ) → set.contains (place table h) code ≡ true → h < length table
has_place [] h code is = absurd (false≢true (sym (contains-no_code code) ∙ is))
has_place (codes ∷ table) zero code is = omega arith
has_place (codes ∷ table) (suc h) code is = let there = has_place table h code is in omega arith

-- what holds of each place before, and of the codes that are written at the next
one_more : (P : ℕ → Codes → Type 0) (table : List Codes) (i : ℕ) (codes : Codes) → i < length table → ((h : ℕ) → h < i → P h (place table h)) → P i codes
    → (h : ℕ) → h < i + 1 → P h (place (slice_set table i codes) h)
one_more P table i codes there each one h small = subst (P h) (sym (place-set table i codes h there)) (at (h == i) refl)
  where
    at : (b : Bool) → (h == i) ≡ b → P h (if b then codes else place table h)
    at true is = subst (λ q. P q codes) (sym (eqb-true h i is)) one
    at false is = each h (grind (arith, nat_tests))

same_table : (a b : List Codes) → ((h : ℕ) → h < MOST_NEXUSES → place a h ≡ place b h) → table_pairs a ≡ table_pairs b
same_table a b same =
    same_pairs _ _ (λ p. contains-table_pairs a p.0 p.1 ∙ at p (nat_lt p.0 MOST_NEXUSES) refl ∙ sym (contains-table_pairs b p.0 p.1))
  where
    at : (p : ℕ × ℕ) (l : Bool) → nat_lt p.0 MOST_NEXUSES ≡ l → (l && set.contains (place a p.0) p.1) ≡ (l && set.contains (place b p.0) p.1)
    at p true inside = ap (λ s. set.contains s p.1) (same p.0 (ltb-true p.0 MOST_NEXUSES inside))
    at p false outside = refl

pub loop-host-init : goal.loop-host-init
loop-host-init c = record {
  whole = search rules;
  there = λ h small. absurd (omega arith);
  members = λ h small. absurd (omega arith);
}

pub loop-host-preserved : goal.loop-host-preserved
loop-host-preserved c =
    let before = c.loop-host.invariant in
    let there : c.loop-host.host < length c.loop-host.table = omega (arith, before.whole, c.loop-host-test.true) in
    record {
      whole = length-set c.loop-host.table c.loop-host.host c.place_of.result ∙ before.whole;
      there = one_more (λ h codes. codes ≡ place c.args.pendings.now h) c.loop-host.table c.loop-host.host c.place_of.result there before.there c.place_of.ensures.value;
      members = one_more (λ h codes. AreAttentions codes) c.loop-host.table c.loop-host.host c.place_of.result there before.members c.place_of.ensures.members;
    }

pub returns-clause-value : goal.returns-clause-value
returns-clause-value c =
    same_table c.loop-host.table c.args.pendings.now (λ h small. c.loop-host.invariant.there h (omega (arith, c.loop-host-test.false)))

pub returns-clause-members : goal.returns-clause-members
returns-clause-members c = λ host code is.
    let table = c.loop-host.table in
    let parts = and_parts (nat_lt host MOST_NEXUSES) (set.contains (place table host) code) (sym (contains-table_pairs table host code) ∙ is) in
    let small = ltb-true host MOST_NEXUSES parts.0 in
    let early : host < c.loop-host.host = omega (arith, c.loop-host-test.false) in (
      has_place c.args.pendings.now host code (ap (λ s. set.contains s code) (sym (c.loop-host.invariant.there host early)) ∙ parts.1),
      c.loop-host.invariant.members host early code parts.1,
    )
