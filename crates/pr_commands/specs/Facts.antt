-- Agrees with docs/FORMATS.md, 'Moments'.
-- The facts that are asked for: NAME:write, NAME:read, NAME:registered, NAME:holder, and NAME:no-write and so on.
use Rattle.std.specs.Prelude.{ℕ, ◌+◌, ◌==◌, ◌&&◌, Bool, true, false, if◌then◌else◌, List, take, drop, bytes_eq, codes, Option, Some, None, option_map, option_and_then}
use Rattle.std.specs.List.{position}
use Rattle.pr_lines.specs.WordTerms.{value_after}
use Rattle.pr_trace.specs.TraceReadings.{number_of}
use Rattle.pr_explore.specs.declared.moments.Fact.{Fact}
use Rattle.pr_explore.specs.declared.moments.Sight.{Sight}
use Rattle.pr_explore.specs.declared.moments.Sight.TheVariants.{Write, Read, Registered, Holder}
use Rattle.pr_commands.specs.EachWord.{each_of}
use Rattle.pr_commands.specs.declared.facts.TheConstants.{COLON}

abbrev pub sight_word : Sight → List ℕ
sight_word Write = codes "write"
sight_word Read = codes "read"
sight_word Registered = codes "registered"
sight_word Holder = codes "holder"

-- what this word says of a nexus
abbrev pub sight_of : List ℕ → Option Sight
sight_of word =
    if bytes_eq (sight_word Write) word then Some Write else (
    if bytes_eq (sight_word Read) word then Some Read else (
    if bytes_eq (sight_word Registered) word then Some Registered else (
    if bytes_eq (sight_word Holder) word then Some Holder else None)))

-- what the word says, and that it is so; or behind `no-` that it isn't
abbrev pub said_with : List ℕ → Option (List ℕ) → Option (Sight × Bool)
said_with word None = option_map (λ sight. (sight, true)) (sight_of word)
said_with word (Some rest) = option_map (λ sight. (sight, false)) (sight_of rest)

abbrev pub said_by : List ℕ → Option (Sight × Bool)
said_by word = said_with word (value_after (codes "no-") word)

abbrev pub fact : ℕ → Sight × Bool → Fact
fact h said = record { nexus = h; sight = said.0; is_so = said.1 }

-- of the nexus with the name before the first colon, what stands behind that
abbrev pub fact_at : List (List ℕ) → List ℕ → ℕ → Option Fact
fact_at names word i = option_and_then (λ h. option_map (fact h) (said_by (drop (i + 1) word))) (number_of names (take i word))

unfoldable pub fact_of : List (List ℕ) → List ℕ → Option Fact
fact_of names word = option_and_then (fact_at names word) (position (λ b. b == COLON) word)

-- all of them
abbrev pub facts_of : List (List ℕ) → List (List ℕ) → Option (List Fact)
facts_of names words = each_of (fact_of names) words

-- they say the same of the same nexus, or one that it is so and the other that it isn't
abbrev pub are_of_the_same : Fact → Fact → Bool
are_of_the_same f g = f.nexus == g.nexus && bytes_eq (sight_word f.sight) (sight_word g.sight)
