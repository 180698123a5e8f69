-- Agrees with docs/FORMATS.md, 'Scenario text'.
-- Laws of the language.
use Rattle.std.specs.Prelude.{◌≡◌, ℕ, nat_lt, false, List, ◌++◌, Err}
use Rattle.pr_roles.specs.Scenarios.{Scenario}
use Rattle.pr_roles.specs.Starts.{CanStart}
use Rattle.pr_roles.specs.Laws.{NobodyShares}
use Rattle.pr_roles.specs.Fitting.{Fits}
use Rattle.pr_text.specs.declared.fault.ReadError.{ReadError}
use Rattle.pr_text.specs.Declarations.{nothing}
use Rattle.pr_text.specs.Texts.{all_placed, answer_of_lines}
use Rattle.pr_text.specs.Reading.{IsWrittenAs}

-- A text is written as one scenario at most.
abbrev pub TextsAreWrittenOnce : Type 0
TextsAreWrittenOnce = (text : List ℕ) (s t : Scenario) → IsWrittenAs text s → IsWrittenAs text t → s ≡ t

-- What a text is written as keeps the limits, has each key declared that it names, and can start.
abbrev pub WhatIsWrittenFits : Type 0
WhatIsWrittenFits = (text : List ℕ) (s : Scenario) → IsWrittenAs text s → Fits s × CanStart s

-- The first line with a fault decides, whatever lines follow.
abbrev pub FirstFaultDecides : Type 0
FirstFaultDecides = (ls more : List (List ℕ)) (e : ReadError) → all_placed 0 ls nothing ≡ Err e → answer_of_lines (ls ++ more) ≡ Err e

-- In a text of version 1 or 2 nobody else sends on any path, and the disk looks at the reservation before an attention.
abbrev pub EarlierTextsShareNoPath : Type 0
EarlierTextsShareNoPath = (text : List ℕ) (s : Scenario) → IsWrittenAs text s → nat_lt 2 s.version ≡ false → NobodyShares s × (s.early ≡ false)
