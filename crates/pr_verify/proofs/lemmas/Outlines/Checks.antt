-- A host's outline, put together from what its check promises.
use Rattle.pr_verify.proofs.Common.{◌≡◌, ℕ, Ok, Err, Result, Stmts, Scenario, Outline, IsSound, IsFitting, HasOutline}
use Rattle.std.specs.Result.{IfOk, OnOk}

pub has_outline : (s : Scenario) (h : ℕ) (script : Stmts) (budget : ℕ) {o : Outline} → o.host ≡ h → IsSound s script o → IsFitting s script budget o → HasOutline s h script budget
has_outline s h script budget {o} host sound fitting = record { outline = o; host = host; sound = sound; fitting = fitting }

-- what holds of a value, and two facts more
pub value_ok : {T E Q R X : Type 0} {P : T → Type 0} (r : Result T E) → ((value : T) → P value → Q → R → X) → IfOk r P → OnOk r Q → OnOk r R → OnOk r X
value_ok (Ok value) all p q r = all value p q r
value_ok (Err error) all p q r = q
