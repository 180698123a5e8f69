-- Agrees with docs/FORMATS.md, 'Fault lines and exit statuses'.
-- What a writer has taken of a text, where the bytes that it holds are known.
use Rattle.std.specs.Prelude.{◌≡◌, ◌≢◌, ℕ, List, [], ◌++◌, Option, Result, Ok, Err}
use Rattle.std.specs.Borrow.{MutBor}
use Rattle.std.specs.Io.KnownBytes.{Appends}
use Rattle.std.specs.declared.io.Write as Write
use denote.Triple.Both.{Both}

-- of this text the bytes in front of `left` were appended
pub record Wrote (old new : Option (List ℕ)) (text left : List ℕ) : Type 0 where
  pub front : List ℕ
  pub whole : text ≡ front ++ left
  pub appended : Appends old new front

-- some front of this text was appended, and nothing else
pub record AppendsFront (old new : Option (List ℕ)) (text : List ℕ) : Type 0 where
  pub left : List ℕ
  pub wrote : Wrote old new text left

-- some front of this text was appended, and not all of it
pub record FallsShort (old new : Option (List ℕ)) (text : List ℕ) : Type 0 where
  pub left : List ℕ
  pub some_left : left ≢ []
  pub wrote : Wrote old new text left

-- a call wrote this text where it succeeded, and fell short of it where it failed
abbrev pub Puts : {E : Type 0} → Option (List ℕ) → Option (List ℕ) → List ℕ → Result (Unit {0}) E → Type 0
Puts old new text (Ok done) = Appends old new text
Puts old new text (Err fault) = FallsShort old new text

-- a call, with the writer as it was and as it is, wrote this text where it succeeded, and fell short of it where it failed
abbrev pub Writes : {A E : Type 0} → Write.Ghosts A → Both (MutBor A) (MutBor A) → List ℕ → Result (Unit {0}) E → Type 0
Writes ghosts writer text result = Puts (ghosts.contents writer.entry.now) (ghosts.contents writer.exit.now) text result
