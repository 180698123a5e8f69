-- Agrees with docs/FORMATS.md, 'COMMAND'.
-- The options that spell a PERSISTENT RESERVE command, as in the manual of `sg_persist`.
use Rattle.std.specs.Prelude.{ℕ, ◌&&◌, if◌then◌else◌, List, [], ◌∷◌, bytes_eq, codes, Option, Some, None, is_none, unwrap_or, option_map}
use Rattle.std.specs.List.{find}
use Rattle.std.specs.Option.{option_or}
use Rattle.pr_cdb.specs.declared.command.Command.{Command}
use Rattle.pr_cdb.specs.declared.action.Direction.{Direction}
use Rattle.pr_cdb.specs.declared.action.Direction.TheVariants.{In, Out}
use Rattle.pr_cdb.specs.declared.action.ServiceAction.{ServiceAction}
use Rattle.pr_cdb.specs.declared.action.TheConstants.ServiceAction.{ALL}
use Rattle.pr_cdb.specs.Actions.{row_of, has_type}
use Rattle.pr_cdb.specs.Requests.{reserve_in_command, reserve_out_command}
use Rattle.pr_cdb.specs.Spelling.{action_number}
use Rattle.pr_script.specs.declared.grammar.TheConstants.{WRITTEN_LENGTH}
use Rattle.pr_lines.specs.declared.options.CommandOption.{CommandOption}
use Rattle.pr_lines.specs.declared.options.CommandOption.TheVariants as option
use Rattle.pr_lines.specs.declared.options.Written.{Written}
use Rattle.pr_script.specs.Chain.{◌>>=◌}
use Rattle.pr_lines.specs.Lookups.{lookup}
use Rattle.pr_lines.specs.WordTerms.{value_after, key_or_zero, kind_of}

-- the key that follows this in the word
abbrev pub key_after : List ℕ → List ℕ → Option ℕ
key_after name word = value_after name word >>= key_or_zero

-- the service action that a word names
abbrev pub action_of : List ℕ → Option ServiceAction
action_of word = find (λ a. bytes_eq word (row_of a).option) ALL

-- the options for the direction of the data
abbrev pub directions : List (List ℕ × Direction)
directions = (codes "--in", In) ∷ (codes "--out", Out) ∷ []

-- the one option that a word is
unfoldable pub option_of : List ℕ → Option CommandOption
option_of word =
    option_or (option_map (λ x. option.Direction x) (lookup directions word)) (
    option_or (option_map (λ x. option.Action x) (action_of word)) (
    option_or (option_map (λ x. option.Rk x) (key_after (codes "--param-rk=") word)) (
    option_or (option_map (λ x. option.Sark x) (key_after (codes "--param-sark=") word)) (
    option_map (λ x. option.Kind x) (value_after (codes "--prout-type=") word >>= kind_of)))))

-- nothing is written yet
abbrev pub no_option : Written
no_option = record { direction = None; action = None; rk = None; sark = None; kind = None }

-- what is written with one option more, of which each may be written once
unfoldable pub with_option : Written → CommandOption → Option Written
with_option w (option.Direction x) = if is_none w.direction then Some (record w { direction = Some x }) else None
with_option w (option.Action x) = if is_none w.action then Some (record w { action = Some x }) else None
with_option w (option.Rk x) = if is_none w.rk then Some (record w { rk = Some x }) else None
with_option w (option.Sark x) = if is_none w.sark then Some (record w { sark = Some x }) else None
with_option w (option.Kind x) = if is_none w.kind then Some (record w { kind = Some x }) else None

-- what is written with these words more
abbrev pub with_options : Written → List (List ℕ) → Option Written
with_options w [] = Some w
with_options w (word ∷ ws) = option_of word >>= λ o. with_option w o >>= λ v. with_options v ws

-- the commands of `--in`, which have neither a key nor a type
abbrev pub command_in : ServiceAction → Written → Option Command
command_in action w = if is_none w.rk && (is_none w.sark && is_none w.kind) then reserve_in_command (action_number action) WRITTEN_LENGTH else None

-- the commands of `--out`: a key that is not written is 0, one that does not count is dropped, and a type that counts has to be
-- written
abbrev pub command_out : ServiceAction → Written → Option Command
command_out action w =
    if is_none w.kind && has_type (row_of action).fields then None else reserve_out_command (action_number action) w.kind (unwrap_or w.rk 0) (unwrap_or w.sark 0)

-- the command of a service action, if that goes in this direction
abbrev pub command_going : Direction → ServiceAction → Written → Option Command
command_going direction action w = by direction (row_of action).direction
  where
    by : Direction → Direction → Option Command
    by In In = command_in action w
    by In Out = None
    by Out In = None
    by Out Out = command_out action w

-- the command that the options spell
unfoldable pub command_of : Written → Option Command
command_of w = w.direction >>= λ direction. w.action >>= λ action. command_going direction action w
