-- What the reader's functions answer, each a step of what is read.
use Rattle.std.specs.Prelude.{◌≡◌, ℕ, ◌≤◌, ◌<◌, List, length, Option, Result, Ok, Err}
use Rattle.std.specs.Str.Lines.{lines}
use Rattle.std.specs.Io.KnownBytes.{Consumes, IsAtEnd}
use Rattle.pr_text.specs.declared.fault.ReadError.{ReadError}
use Rattle.pr_text.specs.Faults.{Fails}
use Rattle.pr_text.specs.Declarations.{Declared, nothing}
use Rattle.pr_text.specs.Texts.{all_placed}

-- what the call answers is what the step gives
abbrev pub Gives : {A B : Type 0} → (A → B) → Result A ReadError → Result B ReadError → Type 0
Gives view (Ok a) step = step ≡ Ok (view a)
Gives view (Err e) step = Fails e step

-- these are the first bytes of what the reader had left, and there are fewer than the limit only where
-- nothing else was left
pub record ReadsUpTo (limit : ℕ) (old new : Option (List ℕ)) (bytes : List ℕ) : Type 0 where
  pub taken : Consumes old new bytes
  pub limited : length bytes ≤ limit
  pub ended : length bytes < limit → IsAtEnd new

-- the text has so many lines, and they declare this
pub record AreRead (text : List ℕ) (number : ℕ) (d : Declared) : Type 0 where
  pub placed : all_placed 0 (lines text) nothing ≡ Ok d
  pub counted : number ≡ length (lines text)
