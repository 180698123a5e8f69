-- The first line at which something is lacking: of two kinds of things, and of the elements of a list.
use Rattle.pr_verify.proofs.Common.{◌≡◌, ℕ, ◌+◌, ◌<◌, ◌≤◌, min, ◌⊎◌, List, length, slice_index_or, Some, None, Option, sym, refl, subst, inl, inr, arith, cases_lt, All, AllWithin, Any, at_read, AllWithin-more, IsLeast, least, IsLeastAmong}

-- ---- of two kinds

module _ (F P G Q : ℕ → Type 0) where
  pub least_as : (a : Option ℕ) → ((line : ℕ) → F line → G line) → ((line : ℕ) → P line → Q line) → IsLeast F P a → IsLeast G Q a
  least_as None has lacks all = λ line. has line (all line)
  least_as (Some line) has lacks first = (lacks line first.0, λ earlier small. has earlier (first.1 earlier small))

  pub least_either : (a b : Option ℕ) → IsLeast F P a → IsLeast G Q b → IsLeast (λ line. F line × G line) (λ line. P line ⊎ Q line) (least a b)
  least_either None None all also = λ line. (all line, also line)
  least_either None (Some n) all first = (inr first.0, λ earlier small. (all earlier, first.1 earlier small))
  least_either (Some m) None first all = (inl first.0, λ earlier small. (first.1 earlier small, all earlier))
  least_either (Some m) (Some n) first second = at (cases_lt m n)
    where
      before : (earlier : ℕ) → earlier < min m n → F earlier × G earlier
      before earlier small = (first.1 earlier (omega arith), second.1 earlier (omega arith))

      at : (m < n) ⊎ (n ≤ m) → (P (min m n) ⊎ Q (min m n)) × ((earlier : ℕ) → earlier < min m n → F earlier × G earlier)
      at (inl less) = let same : m ≡ min m n = omega arith in (inl (subst P same first.0), before)
      at (inr more) = let same : n ≡ min m n = omega arith in (inr (subst Q same second.0), before)

pub least-none : (a : Option ℕ) → least a None ≡ a
least-none None = refl
least-none (Some line) = refl

-- ---- of elements

module _ {X : Type 0} (Has Lacks : X → ℕ → Type 0) (xs : List X) where
  -- the first n have what they have to, but for what is lacking from that line on
  abbrev pub IsLeastSoFar : ℕ → Option ℕ → Type 0
  IsLeastSoFar n = IsLeast (λ line. AllWithin (λ e. Has e line) xs 0 n) (λ line. Any (λ e. Lacks e line) xs)

  pub least_more : (n : ℕ) (x : X) (a b : Option ℕ) → n < length xs → x ≡ slice_index_or xs n x → IsLeastSoFar n a → IsLeast (Has x) (Lacks x) b → IsLeastSoFar (n + 1) (least a b)
  least_more n x a b small read before here =
      least_as (λ line. AllWithin (λ e. Has e line) xs 0 n × Has x line) (λ line. Any (λ e. Lacks e line) xs ⊎ Lacks x line)
      (λ line. AllWithin (λ e. Has e line) xs 0 (n + 1)) (λ line. Any (λ e. Lacks e line) xs) (least a b)
      (λ line both. AllWithin-more (λ e. Has e line) xs 0 n both.0 (at_read xs (λ e. Has e line) n x small read both.1)) one
      (least_either (λ line. AllWithin (λ e. Has e line) xs 0 n) (λ line. Any (λ e. Lacks e line) xs) (Has x) (Lacks x) a b before here)
    where
      one : (line : ℕ) → Any (λ e. Lacks e line) xs ⊎ Lacks x line → Any (λ e. Lacks e line) xs
      one line (inl any) = any
      one line (inr lacks) = (n, x, small, sym read, lacks)

  pub least_of_all : (n : ℕ) (a : Option ℕ) → length xs ≤ n → IsLeastSoFar n a → IsLeastAmong xs Has Lacks a
  least_of_all n a whole =
      least_as (λ line. AllWithin (λ e. Has e line) xs 0 n) (λ line. Any (λ e. Lacks e line) xs) (λ line. All (λ e. Has e line) xs) (λ line. Any (λ e. Lacks e line) xs) a
      (λ line all k d small. all k d (omega arith) (omega arith)) (λ line any. any)
