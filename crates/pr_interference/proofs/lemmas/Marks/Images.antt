-- Images of sets of numbers, one number after another.
use Rattle.pr_interference.proofs.Common.{◌≡◌, ℕ, ◌+◌, ◌<◌, Bool, true, false, ◌||◌, ◌==◌, bit_or, sym, ◌∙◌, subst, arith, lt-ltb, and_parts, and_from, has, BitSet, IsImage, mark, Transition, first, ATTENTION_SETS, MOST_REGISTRATIONS, eq-eqb, eqb-true, refl}
use Rattle.std.proofs.Common.{nat_lt}
use Rattle.std.proofs.lemmas.Bool.{ltb-true}
use Rattle.pr_regions.specs.Regions.{flag}
use Rattle.pr_regions.proofs.lemmas.Images.Unions.{IsUnion, union_joined}
use Rattle.pr_interference.specs.inside.Marks.{AreTold}

-- ---- the numbers of a word below a bound

pub first_parts : (bound : ℕ) (w : BitSet) (n : ℕ) → first bound w n ≡ true → (n < bound) × (has w n ≡ true)
first_parts bound w n is = let parts = and_parts (nat_lt n bound) (has w n) is in (ltb-true n bound parts.0, parts.1)

pub first_from : (bound : ℕ) (w : BitSet) (n : ℕ) → n < bound → has w n ≡ true → first bound w n ≡ true
first_from bound w n small is = and_from (nat_lt n bound) (has w n) (lt-ltb n bound small) is

-- ---- one number after another

-- it becomes this one
pub union_with : (i m : ℕ) (w to more : BitSet) (f : ℕ → ℕ) → has w i ≡ true → m ≡ f i → ((n : ℕ) → has more n ≡ (n == m || has to n)) → IsUnion i w (λ k n. n ≡ f k) to → IsUnion (i + 1) w (λ k n. n ≡ f k) more
union_with i m w to more f there is with_m = union_joined i w to more (λ k n. n ≡ f k) (λ n. n == m) there with_m (λ n. (λ same. eqb-true n m same ∙ is, λ same. eq-eqb n m (same ∙ sym is)))

-- what each becomes
pub image_of : (bound : ℕ) (w to : BitSet) (f : ℕ → ℕ) → IsUnion bound w (λ m n. n ≡ f m) to → IsImage (first bound w) f (has to)
image_of bound w to f union = record {
  all = λ m is. let parts = first_parts bound w m is in union.all m (f m) parts.0 parts.1 refl;
  only = λ n is. let found = union.only n is in (found.0, first_from bound w found.0 found.1 found.2, found.3);
}

-- ---- marks

mark_few : (c : Transition) (r : ℕ) → mark c r < ATTENTION_SETS
mark_few c r = few (has c.told_03 r) (has c.told_04 r) (has c.told_05 r)
  where
    few : (a b d : Bool) → flag a 2 + (flag b 4 + flag d 8) < ATTENTION_SETS
    few true true true = omega arith
    few true true false = omega arith
    few true false true = omega arith
    few true false false = omega arith
    few false true true = omega arith
    few false true false = omega arith
    few false false true = omega arith
    few false false false = omega arith

pub told_from_marks : (c : Transition) (owners pending marks told : BitSet) → IsImage (first MOST_REGISTRATIONS owners) (mark c) (has marks)
    → IsUnion ATTENTION_SETS marks (λ m n. (q : ℕ) × (first ATTENTION_SETS pending q ≡ true) × (n ≡ bit_or q m)) told → AreTold c owners pending told
told_from_marks c owners pending marks told image marked = record {
  all = λ r q owns pends. marked.all (mark c r) (bit_or q (mark c r)) (mark_few c r) (image.all r owns) (q, pends, refl);
  only = λ n is.
      let found = marked.only n is in
      let owner = image.only found.0 found.2 in
      (owner.0, found.3.0, owner.1, found.3.1, subst (λ m. n ≡ bit_or found.3.0 m) owner.2 found.3.2);
}
