-- What a text says is settled by its first bytes: as many as a text may have, and one more.
use Rattle.pr_text.proofs.Common.{◌≡◌, ℕ, ◌+◌, ◌<◌, List, [], ◌++◌, length, IfSome, IfOk, IfErr, Some, None, Ok, Err, Option, Result, sym, ap, ◌∙◌, inl, inr, append-nil, arith, length-append, scenario_of, Fails, IsWrittenAs, answer_of, ReadError}
use Rattle.std.proofs.lemmas.Bool.{cases_lt}
use Rattle.pr_roles.specs.declared.parts.Parts.{Parts}
use Rattle.pr_text.specs.declared.fault.ReadError.TheVariants.{ReadFault, Memory}
use Rattle.pr_text.specs.inside.Steps.{ReadsUpTo}
use Rattle.pr_text.specs.Reading.{IsRead}
use Rattle.pr_text.specs.Diagnoses.{fault_alone}
use Rattle.pr_text.specs.declared.diagnosis.Diagnosis.{Diagnosis}
use Rattle.pr_text.specs.declared.text.TheConstants.{MOST_BYTES}
use Rattle.pr_text.proofs.lemmas.Texts.Readings.{too_large}

answer_of_front : (bytes rest : List ℕ) → (length bytes < MOST_BYTES + 1 → rest ≡ []) → answer_of (bytes ++ rest) ≡ answer_of bytes
answer_of_front bytes rest ended =
    elim (cases_lt (length bytes) (MOST_BYTES + 1)) [
      | inl h ↦ ap (λ xs. answer_of (bytes ++ xs)) (ended h) ∙ ap answer_of (append-nil bytes)
      | inr h ↦ too_large (bytes ++ rest) (omega (arith, length-append bytes rest)) ∙ sym (too_large bytes (omega arith))
    ]

read_along : (text bytes : List ℕ) (r : Result Parts ReadError) → answer_of text ≡ answer_of bytes
    → IfOk r (λ p. IsWrittenAs bytes (scenario_of p)) → IfErr r (λ e. Fails e (answer_of bytes)) → IsRead text r
read_along text bytes (Ok parts) e h k = record { declared = h.declared; faultless = e ∙ h.faultless; kept = h.kept }
read_along text bytes (Err ReadFault) e h k = tt
read_along text bytes (Err Memory) e h k = tt
read_along text bytes _ e h k = e ∙ k

-- what is read of the first bytes is read of the whole
pub read_front : (old new : Option (List ℕ)) (bytes : List ℕ) (r : Result Parts ReadError) → ReadsUpTo (MOST_BYTES + 1) old new bytes
    → IfOk r (λ p. IsWrittenAs bytes (scenario_of p)) → IfErr r (λ e. Fails e (answer_of bytes)) → IfSome old (λ text. IsRead text r)
read_front None new bytes r reads h k = tt
read_front (Some text) None bytes r reads h k = absurd reads.taken
read_front (Some text) (Some rest) bytes r reads h k =
    read_along text bytes r (ap answer_of reads.taken ∙ answer_of_front bytes rest reads.ended) h k

-- the same, where a fault is told with what is known of it
pub read_front_told : (old new : Option (List ℕ)) (bytes : List ℕ) (r : Result Parts Diagnosis) → ReadsUpTo (MOST_BYTES + 1) old new bytes
    → IfOk r (λ p. IsWrittenAs bytes (scenario_of p)) → IfErr r (λ d. Fails d.error (answer_of bytes)) → IfSome old (λ text. IsRead text (fault_alone r))
read_front_told old new bytes (Ok p) reads h k = read_front old new bytes (Ok p) reads h k
read_front_told old new bytes (Err d) reads h k = read_front old new bytes (Err d.error) reads h k
