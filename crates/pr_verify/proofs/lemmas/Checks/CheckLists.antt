-- Checks that are made side by side: lists of them, and what they come to.
use Rattle.pr_verify.proofs.Common.{◌≡◌, ℕ, suc, ◌+◌, List, [], ◌∷◌, ◌++◌, length, slice_index_or, Ok, Err, Result, refl, sym, subst, arith, task, Scenario, scenario_of, HasOutline, OnScripted, SendsFit, Refusal, IsAnswerFor, EachFrom, IsAnswerBefore, below_more}
use Rattle.std.specs.Result.{result_and}
use Rattle.std.proofs.lemmas.List.{get_or_append_left, get_or_push, length_push}
use Rattle.pr_verify.specs.declared.each.CheckOf.{CheckOf}
use Rattle.pr_verify.specs.inside.Checks.{IsPromised}
use Rattle.pr_verify.proofs.lemmas.Verdicts.Reasons.{is_verdict}

-- ---- lists, numbered

pub each_more : {X : Type 0} (P : ℕ → X → Type 0) (n k : ℕ) (xs ys : List X) (x : X) → ys ≡ xs ++ x ∷ [] → n + length xs ≡ k → P k x → EachFrom P n xs → EachFrom P n ys
each_more P n k xs ys x pushed last here before = subst (EachFrom P n) (sym pushed) (λ i d there.
    below_more (λ j. P (n + j) (slice_index_or (xs ++ x ∷ []) j d)) (length xs) (λ j small. rw (get_or_append_left xs (x ∷ []) d j small) (before j d small))
    (rw (get_or_push xs x d (length xs) refl, last) here) i (rw length_push at there))

pub each_first : {X : Type 0} (P : ℕ → X → Type 0) (n : ℕ) (xs ys : List X) (x : X) → xs ≡ x ∷ ys → EachFrom P n xs → P n x
each_first P n xs ys x is each =
    let all : EachFrom P n (x ∷ ys) = subst (EachFrom P n) is each in
    let first : n + 0 ≡ n = omega arith in
    subst (λ m. P m x) first (all 0 x (omega arith))

pub each_rest : {X : Type 0} (P : ℕ → X → Type 0) (n : ℕ) (xs ys : List X) (x : X) → xs ≡ x ∷ ys → EachFrom P n xs → EachFrom P (n + 1) ys
each_rest P n xs ys x is each i d there =
    let all : EachFrom P n (x ∷ ys) = subst (EachFrom P n) is each in
    let next : n + suc i ≡ n + 1 + i = omega arith in
    subst (λ m. P m (slice_index_or ys i d)) next (all (suc i) d (omega arith))

-- ---- what they come to

-- what was promised is an answer for the host
pub kept_answer : (s : Scenario) (h : ℕ) (promise : CheckOf) (answer : Result (Unit {0}) Refusal) → IsPromised s h promise → IsAnswerFor (scenario_of promise.scenario.value) promise.host answer → IsAnswerFor s h answer
kept_answer s h promise answer is kept = subst (λ t. IsAnswerFor t h answer) is.0 (subst (λ k. IsAnswerFor (scenario_of promise.scenario.value) k answer) is.1 kept)

-- the answer for one host more
pub answer_next : (s : Scenario) (n : ℕ) (before one : Result (Unit {0}) Refusal) → IsAnswerBefore s n before → IsAnswerFor s n one → IsAnswerBefore s (n + 1) (result_and before one)
answer_next s n (Ok u) (Ok v) all here = (
  below_more (λ h. OnScripted (task s h) (HasOutline s h)) n all.0 here.0,
  (below_more (λ h. OnScripted (task s h) (λ script budget. SendsFit script)) n all.1.0 here.1.0, tt),
)
answer_next s n (Ok u) (Err refusal) all here = (tt, (tt, is_verdict s n refusal here.1.1 all.0))
answer_next s n (Err refusal) one all here = (tt, (tt, all.1.1))
