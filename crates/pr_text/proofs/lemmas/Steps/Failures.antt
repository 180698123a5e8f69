-- What a call answers where a step of it fails.
use Rattle.pr_text.proofs.Common.{◌≡◌, Ok, Err, Result, refl, ap, subst, sym, and_then, Fails, ReadError}
use Rattle.std.specs.Result.{IsErrAnd}
use Rattle.pr_text.specs.inside.Steps.{Gives}
use Rattle.pr_text.specs.declared.fault.ReadError.TheVariants.{Memory}

pub fails_same : (A : Type 0) (e : ReadError) → Fails {A = A} e (Err e)
fails_same A Memory = tt
fails_same A _ = refl

-- a fault of the first step is one of both
pub fails_first : {A B : Type 0} (e : ReadError) (r : Result A ReadError) (f : A → Result B ReadError) → Fails e r → Fails e (and_then r f)
fails_first Memory r f h = tt
fails_first _ r f h = ap (λ s. and_then s f) h

-- what is handed on of a step that failed
pub handed_on : {A B : Type 0} (view : A → B) (e : ReadError) (step : Result B ReadError) (r : Result A ReadError) → IsErrAnd r (λ f. f ≡ e) → Fails e step → Gives view r step
handed_on view e step (Ok a) failed h = absurd failed
handed_on view e step (Err f) failed h = subst (λ x. Fails x step) (sym failed) h
