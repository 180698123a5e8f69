-- What a test of READ KEYS asks of the others' registrations.
use Rattle.pr_regions.proofs.Common.{◌≡◌, ℕ, ◌<◌, ◌≤◌, true, false, ◌≢◌, ◌⊎◌, List, length, ◌==◌, Some, Option, sym, refl, ap, ◌∙◌, subst, inl, inr, arith, false≢true, nat_tests, eqb_tells, ReadKeys, key_of, Held, UnitState, matches, WRITTEN_LENGTH, HasSomebody, Scope, key_at, Registration, IsSo, number_in, only, IsKnown, answer, one_registration}
use Rattle.pr_registry.proofs.lemmas.Contents.{key_read, key_not_read}
use Rattle.pr_script.specs.declared.script.Test.TheVariants.{GoodHas}
use Rattle.pr_script.specs.Grammar.{test_fits}
use Rattle.pr_views.proofs.lemmas.Possibilities.Numbers.{once_of, same_registration}
use Rattle.pr_regions.specs.inside.Reads.{HasNobody}
use Rattle.pr_regions.proofs.lemmas.Purposes.Conduct.{number_named, declared_number}

-- the number that the test names is the key's
numbered : (keys : List ℕ) (k : ℕ) → test_fits keys (ReadKeys WRITTEN_LENGTH) (GoodHas k) ≡ true → (number_in keys k ≤ length keys) × (key_at keys (number_in keys k) ≡ Some k)
numbered keys k fits = number_named keys k (number_in keys k) refl (declared_number keys k fits)

key_by_number : (keys : List ℕ) (hosts : ℕ) (held : Option Held) (sender own : ℕ) (k g r : ℕ) (s : Scope) (u : UnitState) → IsKnown keys hosts held sender own s u
    → test_fits keys (ReadKeys WRITTEN_LENGTH) (GoodHas k) ≡ true → IsSo s u (Registration g r) → r ≡ number_in keys k → key_of u.registry g ≡ Some k
key_by_number keys hosts held sender own k g r s u known fits so is =
    so.2 ∙ (λ i. key_at (known.keys i) (is i)) ∙ (numbered keys k fits).1

pub always_there : (keys : List ℕ) (hosts : ℕ) (held : Option Held) (sender own : ℕ) (k : ℕ) (s : Scope) (u : UnitState) → IsKnown keys hosts held sender own s u
    → test_fits keys (ReadKeys WRITTEN_LENGTH) (GoodHas k) ≡ true → number_in keys k ≡ own → matches (GoodHas k) (answer u (ReadKeys WRITTEN_LENGTH)) ≡ true
always_there keys hosts held sender own k s u known fits is =
    key_read u.registry sender k known.formed.registry (key_by_number keys hosts held sender own k sender own s u known fits known.sender (sym is))

pub there_with_somebody : (keys : List ℕ) (hosts : ℕ) (held : Option Held) (sender own : ℕ) (k : ℕ) (s : Scope) (u : UnitState) → IsKnown keys hosts held sender own s u
    → test_fits keys (ReadKeys WRITTEN_LENGTH) (GoodHas k) ≡ true → HasSomebody s u sender (Some (only (number_in keys k))) → matches (GoodHas k) (answer u (ReadKeys WRITTEN_LENGTH)) ≡ true
there_with_somebody keys hosts held sender own k s u known fits there =
    let is = there.4 in
    let same : there.1 ≡ number_in keys k = grind (arith, nat_tests) in
    key_read u.registry there.0 k known.formed.registry (key_by_number keys hosts held sender own k there.0 there.1 s u known fits there.3 same)

pub not_there_with_nobody : (keys : List ℕ) (hosts : ℕ) (held : Option Held) (sender own : ℕ) (k : ℕ) (s : Scope) (u : UnitState) → IsKnown keys hosts held sender own s u
    → test_fits keys (ReadKeys WRITTEN_LENGTH) (GoodHas k) ≡ true → number_in keys k ≢ own → HasNobody s u sender (only (number_in keys k)) → matches (GoodHas k) (answer u (ReadKeys WRITTEN_LENGTH)) ≡ false
not_there_with_nobody keys hosts held sender own k s u known fits other nobody =
    key_not_read u.registry k known.formed.registry (λ g j is. by_test g j is (eqb_tells j k))
  where
    is_number : (g r : ℕ) → IsSo s u (Registration g r) → key_of u.registry g ≡ Some k → r ≡ number_in keys k
    is_number g r so is =
        let named = numbered keys k fits in
        let fits_s : number_in keys k ≤ length s.keys = subst (λ (l : List ℕ). number_in keys k ≤ length l) (sym known.keys) named.0 in
        same_registration s.keys r (number_in keys k) (once_of s.keys known.scope.keys) so.1 fits_s (sym so.2 ∙ is ∙ sym named.1 ∙ ap (λ l. key_at l (number_in keys k)) (sym known.keys))

    impossible : (g r : ℕ) → IsSo s u (Registration g r) → r ≡ number_in keys k → (((g == sender) ≡ true) × (g ≡ sender)) ⊎ (((g == sender) ≡ false) × (g ≢ sender)) → ⊥
    impossible g r so is (inl same) =
        let own_so : IsSo s u (Registration sender r) = subst (λ h. IsSo s u (Registration h r)) same.1 so in
        other (sym is ∙ one_registration s u sender r own known.scope own_so known.sender)
    impossible g r so is (inr apart) = let none = nobody g r apart.1 so in let same : only (number_in keys k) r ≡ true = grind (arith, nat_tests) in false≢true (sym none ∙ same)

    by_test : (g j : ℕ) → key_of u.registry g ≡ Some j → (((j == k) ≡ true) × (j ≡ k)) ⊎ (((j == k) ≡ false) × (j ≢ k)) → (j == k) ≡ false
    by_test g j is (inr differs) = differs.0
    by_test g j is (inl same) =
        let it = known.numbered g (subst (λ n. g < n) known.registry (known.formed.registry.keys g j is).0) in
        absurd (impossible g it.0 it.1 (is_number g it.0 it.1 (is ∙ ap Some same.1)) (eqb_tells g sender))
