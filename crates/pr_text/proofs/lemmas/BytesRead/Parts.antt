-- Reading bytes in parts.
use Rattle.pr_text.proofs.Common.{ℕ, ◌+◌, ◌≤◌, List, ◌++◌, length, OnErr, Some, None, Ok, Err, Option, Result, sym, ap, ◌∙◌, append_assoc, arith, length-append}
use Rattle.std.specs.Io.KnownBytes.{Consumes}
use Rattle.pr_text.specs.BytesRead.{LosesUpTo}

-- a fact that holds whatever the result is
pub on_err : {T E P : Type 0} (r : Result T E) → P → OnErr r P
on_err (Ok x) p = tt
on_err (Err e) p = p

pub consumes_both : (old mid new : Option (List ℕ)) (xs ys : List ℕ) → Consumes old mid xs → Consumes mid new ys → Consumes old new (xs ++ ys)
consumes_both None mid new xs ys h k = tt
consumes_both (Some a) None new xs ys h k = absurd h
consumes_both (Some a) (Some b) None xs ys h k = absurd k
consumes_both (Some a) (Some b) (Some c) xs ys h k = h ∙ (ap (λ z. xs ++ z) k ∙ sym (append_assoc xs ys c))

pub loses_both : (limit : ℕ) (old mid new : Option (List ℕ)) (xs ys : List ℕ) → Consumes old mid xs → Consumes mid new ys → length xs + length ys ≤ limit → LosesUpTo limit old new
loses_both limit old mid new xs ys h k room = record {
  lost = xs ++ ys;
  taken = consumes_both old mid new xs ys h k;
  limited = omega (arith, length-append xs ys);
}
