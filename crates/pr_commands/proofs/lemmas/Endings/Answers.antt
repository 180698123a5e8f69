-- What goes to the output of a command whose answer is known.
use Rattle.pr_commands.proofs.Common.{◌≡◌, ℕ, Bool, List, Option, Some, None, Result, Ok, Err, refl, sym, subst, IfSome, IsErrAnd, Appends, Scenario, IsWrittenAs, FallsShort, Fault}
use Rattle.pr_trace.specs.declared.trace_error.TraceError.{TraceError}
use Rattle.pr_commands.specs.declared.fault.Fault.TheVariants as fault
use Rattle.pr_commands.specs.Endings.{IsAnswerOf, Outputs}

-- an answer that holds of the scenario that is read, where the text is known
pub answered : {A : Type 0} (Holds : Scenario → A → Type 0) (lines_of : Scenario → A → List ℕ) (is_refusal : A → Bool) (known : Option (List ℕ)) (s : Scenario) (a : A)
    → IfSome known (λ text. IsWrittenAs text s) → Holds s a → IfSome known (λ text. IsAnswerOf Holds lines_of is_refusal text (lines_of s a) (is_refusal a))
answered Holds lines_of is_refusal None s a read holds = tt
answered Holds lines_of is_refusal (Some text) s a read holds = record { scenario = s; read = read; answer = a; holds = holds; lines_are = refl; refused_is = refl }

-- the writer took all of it
pub whole : (Answers : List ℕ → List ℕ → Bool → Type 0) (known old new : Option (List ℕ)) (lines : List ℕ) (told refused : Bool) → IfSome known (λ text. Answers text lines told)
    → refused ≡ told → Appends old new lines → IfSome known (λ text. (answer : List ℕ) × Answers text answer refused × Appends old new answer)
whole Answers None old new lines told refused is same wrote = tt
whole Answers (Some text) old new lines told refused is same wrote = (lines, subst (Answers text lines) (sym same) is, wrote)

-- the writer failed
pub cut : (Answers : List ℕ → List ℕ → Bool → Type 0) (Misused : Type 0) (Untraced : TraceError → Type 0) (Unstarted : List ℕ → Type 0) (Differs : Type 0)
    (known old new : Option (List ℕ)) (lines : List ℕ) (told : Bool) (r : Result Bool Fault) → IfSome known (λ text. Answers text lines told)
    → FallsShort old new lines → IsErrAnd r (λ f. f ≡ fault.Output) → Outputs Answers Misused Untraced Unstarted Differs known old new r
cut Answers Misused Untraced Unstarted Differs known old new lines told (Ok refused) is short failed = absurd failed
cut Answers Misused Untraced Unstarted Differs known old new lines told (Err f) is short failed =
    subst (λ e. Outputs Answers Misused Untraced Unstarted Differs known old new (Err e)) (sym failed) (at known is)
  where
    at : (o : Option (List ℕ)) → IfSome o (λ text. Answers text lines told)
        → IfSome o (λ text. (answer : List ℕ) × (refused : Bool) × Answers text answer refused × FallsShort old new answer)
    at None is = tt
    at (Some text) is = (lines, told, is, short)
