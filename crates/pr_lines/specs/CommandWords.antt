-- Agrees with docs/FORMATS.md, 'COMMAND'.
-- The commands that words spell.
use Rattle.std.specs.Prelude.{ℕ, if◌then◌else◌, List, [], ◌∷◌, codes, bytes_eq, Option, Some, None, unwrap_or, option_map}
use Rattle.pr_cdb.specs.declared.command.Command.{Command}
use Rattle.pr_cdb.specs.declared.command.Command.TheVariants.{TestUnitReady, RequestSense, Read, Write}
use Rattle.pr_lines.specs.declared.spelling.ParsedCommand.{ParsedCommand}
use Rattle.pr_lines.specs.declared.options.Written.{Written}
use Rattle.pr_script.specs.Chain.{◌>>=◌}
use Rattle.pr_lines.specs.TextLines.{only, if_alone}
use Rattle.pr_lines.specs.WordTerms.{amount_of}
use Rattle.pr_lines.specs.CommandOptions.{no_option, with_options, command_of}

-- a command that has no keys
abbrev pub without_keys : Command → ParsedCommand
without_keys command = record { command = command; rk = 0; sark = 0 }

-- the address of the first block, and how many blocks
abbrev pub blocks_of : List (List ℕ) → Option (ℕ × ℕ)
blocks_of [] = None
blocks_of (w ∷ ws) = amount_of 4294967295 w >>= λ lba. only ws >>= λ last. amount_of 65535 last >>= λ blocks. Some (lba, blocks)

-- the command of the options, with the keys that are written, also if the command drops them
abbrev pub spelled_by : Written → Option ParsedCommand
spelled_by w = option_map (λ command. record { command = command; rk = unwrap_or w.rk 0; sark = unwrap_or w.sark 0 }) (command_of w)

-- the command that a word and the words after it spell
unfoldable pub spelled_of : List ℕ → List (List ℕ) → Option ParsedCommand
spelled_of word ws =
    if bytes_eq word (codes "test-unit-ready") then if_alone (without_keys TestUnitReady) ws else (
    if bytes_eq word (codes "request-sense") then if_alone (without_keys RequestSense) ws else (
    if bytes_eq word (codes "read") then option_map (λ b. without_keys (Read b.0 b.1)) (blocks_of ws) else (
    if bytes_eq word (codes "write") then option_map (λ b. without_keys (Write b.0 b.1)) (blocks_of ws) else
    (with_options no_option (word ∷ ws) >>= spelled_by))))

-- the command that these words spell
abbrev pub spelled_in : List (List ℕ) → Option ParsedCommand
spelled_in [] = None
spelled_in (w ∷ ws) = spelled_of w ws
