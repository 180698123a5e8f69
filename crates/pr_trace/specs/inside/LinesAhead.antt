-- Bytes that were read and not looked at yet, and the lines in them.
use Rattle.std.specs.Prelude.{◌≡◌, ℕ, ◌+◌, ◌≤◌, ◌<◌, ◌==◌, Bool, nat_lt, if◌then◌else◌, List, [], ◌∷◌, ◌++◌, length, take, drop, position, Option, Some, None, IfSome, Result, Ok, IfOk, IfErr, OnOk, MatchBool, Vec}
use Rattle.std.specs.Option.{option_or}
use Rattle.std.specs.Borrow.{MutBor}
use Rattle.std.specs.Io.KnownBytes.{Consumes, IsAtEnd, Keeps, prepend_known}
use Rattle.std.specs.declared.io.Read as Read
use denote.Triple.Both.{Both}
use Rattle.pr_roles.specs.declared.item.Item.{Item}
use Rattle.pr_trace.specs.declared.ahead.TheConstants.{MOST_LINE_BYTES}
use Rattle.pr_trace.specs.declared.ahead.Ahead.{Ahead}
use Rattle.pr_trace.specs.declared.trace_error.TraceError.{TraceError}
use Rattle.pr_trace.specs.TraceReadings.{Faults, and_then, items_of, later_lines, lines, trace_in}

abbrev pub bytes_held : Ahead → List ℕ
bytes_held a = drop a.start a.bytes.items

-- what is left, of which some was read
abbrev pub bytes_left : Ahead → Option (List ℕ) → Option (List ℕ)
bytes_left a known = prepend_known (bytes_held a) known

-- The reader has lost some bytes. They are at hand, as those of before are, but for so many at most.
pub record Takes (dropped : ℕ) (old new : Option (List ℕ)) (before after : ℕ) : Type 0 where
  pub lost : List ℕ
  pub taken : Consumes old new lost
  pub counted : length lost + before ≤ after + dropped

-- Of what is left, which is `held` and then `more`, the first n bytes are a line, or the front of one that is
-- longer than a line may be.
pub record IsFront (held more : List ℕ) (n : ℕ) : Type 0 where
  pub line : List ℕ
  pub others : List (List ℕ)
  pub cut : lines (held ++ more) ≡ line ∷ others
  pub shown : take n held ≡ take n line
  pub whole : n ≤ MOST_LINE_BYTES → (line ≡ take n held) × (lines (drop (n + 1) held ++ more) ≡ others)

-- there is such a line, or nothing is left
abbrev pub StandsInFront : List ℕ → List ℕ → Option ℕ → Type 0
StandsInFront held more None = held ++ more ≡ []
StandsInFront held more (Some n) = IsFront held more n

-- where the line in front ends: at a line feed, or past as many bytes as a line may have
abbrev pub line_end : List ℕ → Option ℕ
line_end held =
    option_or (position (λ b. b == 10) held) (if nat_lt MOST_LINE_BYTES (length held) then Some (length held) else None)

-- Nothing of what was left at the start is lost, and this stands in front of it now.
pub record FindsLine (start : Option (List ℕ)) (held : List ℕ) (known : Option (List ℕ)) (found : Option ℕ) : Type 0 where
  pub kept : Keeps start (prepend_known held known)
  pub within : IfSome found (λ n. n ≤ length held)
  pub front : IfSome known (λ more. StandsInFront held more found)

abbrev pub Between : (List ℕ → List ℕ → Type 0) → Option (List ℕ) → Option (List ℕ) → Type 0
Between P None new = Unit {0}
Between P (Some xs) None = ⊥
Between P (Some xs) (Some ys) = P xs ys

-- this holds of what was left and what is left now, where both are known
pub record Leads (P : List ℕ → List ℕ → Type 0) (old new : Option (List ℕ)) : Type 0 where
  pub holds : Between P old new

-- the first line is right, and these lines follow it
abbrev pub FirstRead : ℕ → List (List ℕ) → List ℕ → List ℕ → Type 0
FirstRead version names old new = trace_in version names (lines old) ≡ items_of version names 0 (lines new)

-- these are all items, and what is left are later lines
abbrev pub ItemsRead : ℕ → List (List ℕ) → List Item → List ℕ → List ℕ → Type 0
ItemsRead version names items old new = items_of version names 0 (lines old) ≡ and_then (later_lines (length items) 0 (lines new)) (λ _. Ok items)

-- A call, with the reader and what is held of it as they were and as they are.
module _ {A : Type 0} (ghosts : Read.Ghosts A) (reader : Both (MutBor A) (MutBor A)) (ahead : Both (MutBor Ahead) (MutBor Ahead)) where
  -- what was left before it
  abbrev pub left_before : Option (List ℕ)
  left_before = bytes_left ahead.entry.now (ghosts.remaining reader.entry.now)

  -- what is left after it
  abbrev pub left_after : Option (List ℕ)
  left_after = bytes_left ahead.exit.now (ghosts.remaining reader.exit.now)

  -- The reader has lost some bytes in it. They are at hand, as those of before are, but for so many at most.
  abbrev pub TakesAhead : ℕ → Type 0
  TakesAhead dropped =
      Takes dropped (ghosts.remaining reader.entry.now) (ghosts.remaining reader.exit.now) (length (bytes_held ahead.entry.now))
      (length (bytes_held ahead.exit.now))

  -- Nothing of what was left before it is lost, and this stands in front of it now.
  abbrev pub FindsAhead : Option ℕ → Type 0
  FindsAhead found = FindsLine left_before (bytes_held ahead.exit.now) (ghosts.remaining reader.exit.now) found

  -- Where it says so, more is at hand now. Where not, what is held is as it was, and the reader is at its end.
  abbrev pub TellsGrown : Bool → Type 0
  TellsGrown more =
      MatchBool more (length (bytes_held ahead.entry.now) < length (bytes_held ahead.exit.now))
      ((bytes_held ahead.exit.now ≡ bytes_held ahead.entry.now) × IsAtEnd (ghosts.remaining reader.exit.now))

  -- Nothing of what was left is lost.
  abbrev pub KeepsAhead : Type 0
  KeepsAhead = Keeps left_before left_after

  -- Where it fails and what was left is known, the fault is that of its lines.
  abbrev pub FaultsAhead : {B C : Type 0} → (List (List ℕ) → Result B TraceError) → Result C TraceError → Type 0
  FaultsAhead answer result = IfSome left_before (λ text. IfErr result (λ e. Faults e (answer (lines text))))

  -- Where it succeeds, the first line is right, and what is left is read under any names as what stands behind it.
  abbrev pub ReadsFirst : {B : Type 0} → ℕ → Result B TraceError → Type 0
  ReadsFirst version result = (names : List (List ℕ)) → OnOk result (Leads (FirstRead version names) left_before left_after)

  -- Where it fails, the fault is that of the whole text, under any names.
  abbrev pub FaultsFirst : {B : Type 0} → ℕ → Result B TraceError → Type 0
  FaultsFirst version result = (names : List (List ℕ)) → FaultsAhead (trace_in version names) result

  -- Where it succeeds, these are all items, and what is left are later lines.
  abbrev pub ReadsItems : {B : Type 0} → ℕ → List (List ℕ) → Result (Vec Item B) TraceError → Type 0
  ReadsItems version names result = IfOk result (λ history. Leads (ItemsRead version names history.items) left_before left_after)

  -- Where it succeeds and what was left is known, that was later lines behind so many items.
  abbrev pub ReadsLater : {B : Type 0} → ℕ → Result B TraceError → Type 0
  ReadsLater items result = IfSome left_before (λ text. OnOk result (later_lines items 0 (lines text) ≡ Ok tt))
