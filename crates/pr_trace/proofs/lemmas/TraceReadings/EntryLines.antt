-- The lines of entries.
use Rattle.pr_trace.proofs.Common.{◌≡◌, ℕ, ◌+◌, Bool, true, false, List, ◌++◌, length, ◌==◌, Err, bytes_eq, sym, refl, ap, ◌∙◌, bytes_eq-Decides, words}
use Rattle.std.specs.Prelude.{◌≢◌}
use Rattle.std.proofs.lemmas.Bool.{false≢true}
use Rattle.std.proofs.lemmas.List.{append_cancel_left}
use Rattle.pr_trace.specs.declared.trace_error.TraceError.TheVariants.{Syntax}
use Rattle.pr_trace.specs.EntryWords.{exchange_in}
use Rattle.pr_trace.specs.TraceReadings.{entry_on}

-- a line that does not have seven words
pub not_seven : (version : ℕ) (names : List (List ℕ)) (index : ℕ) (line : List ℕ) → (length (words line) == 7) ≡ false
    → entry_on version names index line ≡ Err (Syntax (index + 1))
unfolding entry_on exchange_in
not_seven version names index line e = rw e refl

-- ---- a line that begins with a word

-- nothing goes before this end
pub no_rest : (line front end : List ℕ) → ((rest : List ℕ) → line ≢ front ++ rest) → false ≡ bytes_eq line (front ++ end)
no_rest line front end none = sym (at (bytes_eq line (front ++ end)) refl)
  where
    at : (b : Bool) → bytes_eq line (front ++ end) ≡ b → bytes_eq line (front ++ end) ≡ false
    at true is = absurd (none end ((bytes_eq-Decides line (front ++ end)).0 is))
    at false is = is

-- what goes before it is all but it
pub by_rest : (line front rest end : List ℕ) → line ≡ front ++ rest → bytes_eq rest end ≡ bytes_eq line (front ++ end)
by_rest line front rest end is = at (bytes_eq rest end) refl (bytes_eq line (front ++ end)) refl
  where
    at : (a : Bool) → bytes_eq rest end ≡ a → (b : Bool) → bytes_eq line (front ++ end) ≡ b → bytes_eq rest end ≡ bytes_eq line (front ++ end)
    at true one false two =
        let same = ap (λ ys. front ++ ys) ((bytes_eq-Decides rest end).0 one) in
        absurd (false≢true (sym two ∙ (bytes_eq-Decides line (front ++ end)).1 (is ∙ same)))
    at false one true two =
        let whole = sym is ∙ (bytes_eq-Decides line (front ++ end)).0 two in
        absurd (false≢true (sym one ∙ (bytes_eq-Decides rest end).1 (append_cancel_left front rest end whole)))
    at _ one _ two = one ∙ sym two
