-- Agrees with docs/FORMATS.md, 'COMMAND'.
-- The words by which scenarios name a command, and what an arm asks of a reply.
use Rattle.std.specs.Prelude.{ℕ, List, [], ◌∷◌, codes, decimal, Option, None, Some}
use Rattle.std.specs.List.{flat_map}
use Rattle.pr_cdb.specs.declared.command.Command.{Command}
use Rattle.pr_cdb.specs.declared.command.Kind.{Kind}
use Rattle.pr_cdb.specs.declared.action.Field.{Field}
use Rattle.pr_cdb.specs.declared.action.Field.TheVariants as field
use Rattle.pr_cdb.specs.declared.action.ServiceAction.{ServiceAction}
use Rattle.pr_cdb.specs.declared.layout.Layout.{Layout}
use Rattle.pr_cdb.specs.declared.layout.Layout.TheVariants.{TestUnitReady, RequestSense, Read, Write, ReserveIn, ReserveOut}
use Rattle.pr_cdb.specs.Actions.{row_of}
use Rattle.pr_cdb.specs.Spelling.{layout_of}
use Rattle.pr_script.specs.declared.script.Test.{Test}
use Rattle.pr_script.specs.declared.script.Test.TheVariants.{Good, GoodHas, GoodHeld, GoodUnheld, Conflict, Busy, Full, Attention, Sense}
use Rattle.pr_script.specs.declared.landing.Class.TheVariants as class
use Rattle.pr_output.specs.PrintedLines.{key_word, reservation_key_word, service_action_key_word, type_word, class_word}

-- ---- commands

-- a command of this name, for so many blocks from an address on
abbrev pub blocks_words : List ℕ → ℕ → ℕ → List (List ℕ)
blocks_words name lba blocks = name ∷ decimal lba ∷ decimal blocks ∷ []

-- the option of a type; where the bytes of a preempt have none that is one, neither do its words
abbrev pub type_words : Option Kind → List (List ℕ)
type_words None = []
type_words (Some kind) = type_word kind ∷ []

-- the options of a field
abbrev pub field_words : Option Kind → ℕ → ℕ → Field → List (List ℕ)
field_words kind rk sark field.Rk = reservation_key_word rk ∷ []
field_words kind rk sark field.Sark = service_action_key_word sark ∷ []
field_words kind rk sark field.Kind = type_words kind

-- a service action by which data comes in; its allocation length has no word
abbrev pub in_words : ServiceAction → List (List ℕ)
in_words action = codes "--in" ∷ (row_of action).option ∷ []

-- a service action by which parameters go out, and the options of the fields that count for it
abbrev pub out_words : ServiceAction → Option Kind → ℕ → ℕ → List (List ℕ)
out_words action kind rk sark = codes "--out" ∷ (row_of action).option ∷ flat_map (field_words kind rk sark) (row_of action).fields

abbrev pub layout_words : Layout → List (List ℕ)
layout_words TestUnitReady = codes "test-unit-ready" ∷ []
layout_words RequestSense = codes "request-sense" ∷ []
layout_words (Read lba blocks) = blocks_words (codes "read") lba blocks
layout_words (Write lba blocks) = blocks_words (codes "write") lba blocks
layout_words (ReserveIn action alloc) = in_words action
layout_words (ReserveOut action kind rk sark) = out_words action kind rk sark

abbrev pub command_words : Command → List (List ℕ)
command_words c = layout_words (layout_of c)

-- ---- arms

-- a GOOD that tells so of a key
abbrev pub good_words : List ℕ → ℕ → List (List ℕ)
good_words verb key = class_word class.Good ∷ verb ∷ key_word key ∷ []

-- what an arm asks of a reply; how that ended has the words of its class
abbrev pub test_words : Test → List (List ℕ)
test_words Good = class_word class.Good ∷ []
test_words (GoodHas key) = good_words (codes "has") key
test_words (GoodHeld key) = good_words (codes "held") key
test_words GoodUnheld = class_word class.Good ∷ codes "unheld" ∷ []
test_words Conflict = class_word class.Conflict ∷ []
test_words Busy = class_word class.Busy ∷ []
test_words Full = class_word class.Full ∷ []
test_words Attention = codes "attention" ∷ []
test_words (Sense sense) = class_word (class.Sense sense) ∷ []
