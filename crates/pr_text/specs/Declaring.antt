-- Agrees with docs/FORMATS.md, 'The lines of a scenario'.
-- What the names and keys of the next line mean, by what is declared before it.
use Rattle.std.specs.Prelude.{ℕ, List, Option, [], bytes_eq, Some, None, option_map, Bool, ◌&&◌, unwrap_or, false, position, fold}
use Rattle.std.specs.Option.{option_map_or}
use Rattle.std.specs.List.{slice_get}
use Rattle.std.specs.FinSet as set
use Rattle.pr_registry.specs.declared.held.Held.{Held}
use Rattle.pr_registry.specs.declared.held.Held.TheVariants.{One, All as Everybody}
use Rattle.pr_attention.specs.Attentions.{Codes, code_of}
use Rattle.pr_attention.specs.CodeSets.{no_code}
use Rattle.pr_attention.specs.declared.attention.Attention.{Attention}
use Rattle.pr_script.specs.Grammar.{is_written, is_written_key}
use Rattle.pr_lines.specs.declared.item.RefusalKind.{RefusalKind}
use Rattle.pr_lines.specs.declared.item.RefusalKind.TheVariants as refusal
use Rattle.pr_lines.specs.declared.spelling.ParsedCommand.{ParsedCommand}
use Rattle.pr_script.specs.Chain.{◌>>=◌}
use Rattle.pr_text.specs.Declarations.{Declaration, Declared}
use Rattle.pr_lines.specs.ScenarioLines.{StartReservation, nobody, single, everybody}

abbrev pub declared_keys : Declared → List ℕ
declared_keys d = unwrap_or d.keys []

-- the number of the nexus with this name
unfoldable pub number_of : List Declaration → List ℕ → Option ℕ
number_of nexuses name = position (λ x. bytes_eq x.name name) nexuses

-- the nexus with this name
abbrev pub nexus_named : Declared → List ℕ → Option Declaration
nexus_named d name = number_of d.nexuses name >>= λ h. slice_get d.nexuses h

-- this holds of the nexus with this name, and of none where none has it
abbrev pub holds_of : Declared → List ℕ → (Declaration → Bool) → Bool
holds_of d name p = option_map_or p (nexus_named d name) false

-- how often this refusal may come to a nexus, where a line has said it
abbrev pub count_in : RefusalKind → Declaration → Option ℕ
count_in refusal.Busy x = x.busy
count_in refusal.Full x = x.full

-- the set of these attentions
abbrev pub codes_of : List Attention → Codes
codes_of xs = fold (λ codes x. set.insert codes (code_of x)) no_code xs

-- a reservation, if its holder is declared
abbrev pub held_of : List Declaration → StartReservation → Option (Option Held)
held_of nexuses nobody = Some None
held_of nexuses (single kind name) = option_map (λ h. Some (One kind h)) (number_of nexuses name)
held_of nexuses (everybody kind) = Some (Some (Everybody kind))

-- the command may stand in a script or plan, and the keys that it drops are declared too
abbrev pub is_spelled : List ℕ → ParsedCommand → Bool
is_spelled keys s = is_written keys s.command && (is_written_key keys s.rk && is_written_key keys s.sark)
