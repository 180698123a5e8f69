-- The first byte that passes a test, as the kit's search of bytes finds it.
use Rattle.pr_trace.proofs.Common.{◌≡◌, ℕ, Bool, cond, List, length, get_or, nat_lt, Some, None, Option, position, sym, ap, ◌∙◌, arith, position_or_len, lt-ltb}
use Rattle.std.proofs.lemmas.List.Sums.{position_or_len_is}
use Rattle.memchr.specs.Find.{IsFirstByte}
use Rattle.std.proofs.lemmas.Bool.{false_from_ne_true, le-ltb}

by_place : (test : ℕ → Bool) (hay : List ℕ) (k : ℕ) → position_or_len test hay ≡ k → position test hay ≡ cond (nat_lt k (length hay)) (Some k) None
by_place test hay k is = ap (λ n. cond (nat_lt n (length hay)) (Some n) None) is

pub first_is_position : (test : ℕ → Bool) (hay : List ℕ) (r : Option ℕ) → IsFirstByte test hay r → r ≡ position test hay
first_is_position test hay None h =
    let all = position_or_len_is test hay (length hay) 0 (omega arith) (λ k lt. false_from_ne_true (test (get_or hay k 0)) (h k (omega arith) lt)) (λ lt. absurd (omega arith)) in
    sym (by_place test hay (length hay) all ∙ ap (λ b. cond b (Some (length hay)) None) (le-ltb (length hay) (length hay) (omega arith)))
first_is_position test hay (Some k) h =
    let first = position_or_len_is test hay k 0 (omega (arith, h.0.high)) (λ j lt. false_from_ne_true (test (get_or hay j 0)) (h.0.before j (omega arith) lt)) (λ lt. h.1) in
    sym (by_place test hay k first ∙ ap (λ b. cond b (Some k) None) (lt-ltb k (length hay) h.0.high))
