-- How the lines of a witness go out, one for each nexus.
use Rattle.pr_commands.proofs.Common.{◌≡◌, ℕ, ◌+◌, ◌<◌, ◌≤◌, Bool, List, ◌++◌, drop, length, Option, ap, ◌∙◌, subst, arith, flat_map, range_with_len, Appends, Wrote, flat_map_end, flat_map_from, wrote_all, pending_line}
use Rattle.std.proofs.Common.{zero-add}
use Rattle.std.proofs.lemmas.List.FromFn.{get_or-range_with_len, length-range_with_len}

module _ (f : ℕ → List ℕ) (n i : ℕ) (old mid : Option (List ℕ)) where
  lines_from : i < n → flat_map f (drop i (range_with_len 0 n)) ≡ f i ++ flat_map f (drop (i + 1) (range_with_len 0 n))
  lines_from there =
      let all : length (range_with_len 0 n) ≡ n = length-range_with_len 0 n in
      flat_map_from f (range_with_len 0 n) i 0 (omega arith)
      ∙ ap (λ k. f k ++ flat_map f (drop (i + 1) (range_with_len 0 n))) (get_or-range_with_len 0 n i 0 there ∙ zero-add i)

  -- what is still to be written begins with this line
  pub line_first : i < n → Wrote old mid (flat_map f (range_with_len 0 n)) (flat_map f (drop i (range_with_len 0 n)))
      → Wrote old mid (flat_map f (range_with_len 0 n)) (f i ++ flat_map f (drop (i + 1) (range_with_len 0 n)))
  line_first there wrote = subst (λ r. Wrote old mid (flat_map f (range_with_len 0 n)) r) (lines_from there) wrote

  pub lines_over : n ≤ i → Wrote old mid (flat_map f (range_with_len 0 n)) (flat_map f (drop i (range_with_len 0 n))) → Appends old mid (flat_map f (range_with_len 0 n))
  lines_over past wrote =
      let all : length (range_with_len 0 n) ≡ n = length-range_with_len 0 n in
      wrote_all old mid (flat_map f (range_with_len 0 n))
      (subst (λ r. Wrote old mid (flat_map f (range_with_len 0 n)) r) (flat_map_end f (range_with_len 0 n) i (omega arith)) wrote)

-- the same codes are pending
pub pending_same : (name : List ℕ) (p q : ℕ → Bool) → ((code : ℕ) → p code ≡ q code) → pending_line name p ≡ pending_line name q
pending_same name p q same = λ i. pending_line name (λ code. same code i)
