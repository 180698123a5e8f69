-- Agrees with docs/FORMATS.md, 'Trace text'.
-- The words and lines of what is printed. A line is its words with one space between them, and a line feed.
use Rattle.std.specs.Prelude.{ℕ, ◌/◌, ◌%◌, false, List, [], ◌∷◌, ◌++◌, Option, None, Some, codes, decimal}
use Rattle.std.specs.List.{flat_map}
use Rattle.std.specs.Fmt.{digits, digit_glyph}
use Rattle.std.specs.Int.{w32, to_be_bytes}
use Rattle.pr_cdb.specs.declared.command.Kind.{Kind}
use Rattle.pr_cdb.specs.declared.reply.Sense.{Sense}
use Rattle.pr_cdb.specs.Kinds.{type_code}
use Rattle.pr_script.specs.declared.landing.Class.{Class}
use Rattle.pr_script.specs.declared.landing.Class.TheVariants as class

-- each word after a space
unfoldable pub joined_by_spaces : List (List ℕ) → List ℕ
joined_by_spaces others = flat_map (λ word. codes " " ++ word) others

unfoldable pub line : List ℕ → List (List ℕ) → List ℕ
line first others = first ++ (joined_by_spaces others ++ codes "\n")

-- a byte in two hexadecimal digits
abbrev pub pair : ℕ → List ℕ
pair byte = digit_glyph false (byte / 16) ∷ digit_glyph false (byte % 16) ∷ []

unfoldable pub pairs : List ℕ → List ℕ
pairs bytes = flat_map pair bytes

-- bytes in pairs of digits, or `-` where there is none
abbrev pub pairs_or_dash : List ℕ → List ℕ
pairs_or_dash [] = codes "-"
pairs_or_dash (b ∷ bs) = pairs (b ∷ bs)

-- eight digits
abbrev pub generation_word : ℕ → List ℕ
generation_word generation = pairs (to_be_bytes w32 generation)

-- a key without leading zeros, or `-` where there is none
abbrev pub key_or_dash : Option ℕ → List ℕ
key_or_dash None = codes "-"
key_or_dash (Some key) = digits 16 false key

-- a key without leading zeros
abbrev pub key_word : ℕ → List ℕ
key_word key = digits 16 false key

-- as `a=a1`
abbrev pub registration_word : List ℕ → Option ℕ → List ℕ
registration_word name key = name ++ (codes "=" ++ key_or_dash key)

-- as `5:a`
abbrev pub holder_word : Kind → List ℕ → List ℕ
holder_word kind name = decimal (type_code kind) ++ (codes ":" ++ name)

-- the options of a command, as `--param-rk=a1`, `--param-sark=b2` and `--prout-type=5`
abbrev pub reservation_key_word : ℕ → List ℕ
reservation_key_word key = codes "--param-rk=" ++ key_word key

abbrev pub service_action_key_word : ℕ → List ℕ
service_action_key_word key = codes "--param-sark=" ++ key_word key

abbrev pub type_word : Kind → List ℕ
type_word kind = codes "--prout-type=" ++ decimal (type_code kind)

-- as `6/2a/05`
abbrev pub sense_word : Sense → List ℕ
sense_word sense = digits 16 false sense.key ++ ((codes "/" ++ pair sense.asc) ++ (codes "/" ++ pair sense.ascq))

-- how a reply ended, as `good` or `sense 6/2a/05`
abbrev pub class_word : Class → List ℕ
class_word class.Good = codes "good"
class_word class.Conflict = codes "conflict"
class_word class.Busy = codes "busy"
class_word class.Full = codes "full"
class_word (class.Sense sense) = codes "sense " ++ sense_word sense

-- a code of an attention, as `2a/05`
abbrev pub attention_word : ℕ → List ℕ
attention_word code = pair (code / 256) ++ (codes "/" ++ pair (code % 256))

-- each code behind a `+`
abbrev pub more_attentions_word : List ℕ → List ℕ
more_attentions_word others = flat_map (λ code. codes "+" ++ attention_word code) others

-- codes of attentions, as `29/00+2a/05`, or `none` where there is none
abbrev pub attentions_word : List ℕ → List ℕ
attentions_word [] = codes "none"
attentions_word (first ∷ others) = attention_word first ++ more_attentions_word others
