-- Agrees with docs/FORMATS.md, 'The lines of a scenario'; docs/FORMATS.md, 'Statements'.
-- The words that lines begin with.
use Rattle.std.specs.Prelude.{ℕ, List, [], ◌∷◌, codes, Option}
use Rattle.pr_lines.specs.declared.keyword.Keyword.{Keyword}
use Rattle.pr_lines.specs.declared.keyword.Keyword.TheVariants.{Fence, Keys, Host, Guest, Start, Pending, Busy, Full, Reservation, Generation, Resets, Alone, Order, Role, Script, Plan, End, Send, On, Done, Repeat, Break, Stop}
use Rattle.pr_lines.specs.Lookups.{lookup}

-- each keyword by its word
abbrev pub keywords : List (List ℕ × Keyword)
keywords =
    (codes "fence", Fence) ∷ (codes "keys", Keys) ∷ (codes "host", Host) ∷ (codes "guest", Guest) ∷ (codes "start", Start)
    ∷ (codes "pending", Pending) ∷ (codes "busy", Busy) ∷ (codes "full", Full) ∷ (codes "reservation", Reservation)
    ∷ (codes "generation", Generation) ∷ (codes "resets", Resets) ∷ (codes "alone", Alone) ∷ (codes "order", Order)
    ∷ (codes "role", Role) ∷ (codes "script", Script)
    ∷ (codes "plan", Plan) ∷ (codes "end", End) ∷ (codes "send", Send) ∷ (codes "on", On) ∷ (codes "done", Done)
    ∷ (codes "repeat", Repeat) ∷ (codes "break", Break) ∷ (codes "stop", Stop) ∷ []

-- the keyword that a word is
unfoldable pub keyword_of : List ℕ → Option Keyword
keyword_of word = lookup keywords word
