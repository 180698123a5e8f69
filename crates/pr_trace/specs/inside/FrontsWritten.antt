-- What a call wrote of a text, but for what it left.
use Rattle.std.specs.Prelude.{◌≡◌, ℕ, List, ◌++◌, Option, Result, Ok, Err}
use Rattle.std.specs.Borrow.{MutBor}
use Rattle.std.specs.declared.io.Write as Write
use Rattle.arrayvec.specs.ArrayVec.{ArrayVec}
use denote.Triple.Both.{Both}
use Rattle.pr_output.specs.Written.{Wrote, FallsShort}

-- a call wrote this text but for what is left, where it succeeded, and fell short of it where it failed
abbrev pub PutsAllBut : {E : Type 0} → Option (List ℕ) → Option (List ℕ) → List ℕ → List ℕ → Result (Unit {0}) E → Type 0
PutsAllBut old new text left (Ok done) = Wrote old new text left
PutsAllBut old new text left (Err fault) = FallsShort old new text

-- a call, with the page as it was and as it is, put this text behind what stood on it
abbrev pub Adds : Both (MutBor (ArrayVec ℕ)) (MutBor (ArrayVec ℕ)) → List ℕ → Type 0
Adds page text = page.exit.now.items ≡ page.entry.now.items ++ text

-- a call, with the writer and the page as they were and as they are, wrote what stood on the page and then this text, but for
-- what stands on the page now, where it succeeded, and fell short of it where it failed
abbrev pub WritesPaged : {A E : Type 0} → Write.Ghosts A → Both (MutBor A) (MutBor A) → Both (MutBor (ArrayVec ℕ)) (MutBor (ArrayVec ℕ))
    → List ℕ → Result (Unit {0}) E → Type 0
WritesPaged ghosts writer page text result =
    PutsAllBut (ghosts.contents writer.entry.now) (ghosts.contents writer.exit.now) (page.entry.now.items ++ text) page.exit.now.items
    result
