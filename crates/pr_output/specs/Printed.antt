-- Agrees with docs/FORMATS.md, 'Trace text'.
-- The text of a word, and of a line of words.
use Rattle.std.specs.Prelude.{ℕ, List, map}
use Rattle.std.specs.Fmt.{decimal}
use Rattle.pr_output.specs.declared.printing.Token.{Token}
use Rattle.pr_output.specs.declared.printing.Token.TheVariants.{Text, Number, Bytes, Key, Generation, Holder, Registration, ReservationKey, ServiceActionKey, ReservationType, Class, Attentions}
use Rattle.pr_output.specs.PrintedLines.{line, pairs_or_dash, key_word, generation_word, holder_word, registration_word, reservation_key_word, service_action_key_word, type_word, class_word, attentions_word}

unfoldable pub printed_word : Token → List ℕ
printed_word (Text text) = text.now
printed_word (Number number) = decimal number
printed_word (Bytes bytes) = pairs_or_dash bytes.now
printed_word (Key key) = key_word key
printed_word (Generation generation) = generation_word generation
printed_word (Holder kind name) = holder_word kind name.now
printed_word (Registration name key) = registration_word name.now key
printed_word (ReservationKey key) = reservation_key_word key
printed_word (ServiceActionKey key) = service_action_key_word key
printed_word (ReservationType kind) = type_word kind
printed_word (Class class) = class_word class
printed_word (Attentions codes) = attentions_word codes.now

abbrev pub printed_words : List Token → List (List ℕ)
printed_words words = map printed_word words

abbrev pub printed_line : Token → List Token → List ℕ
printed_line first others = line (printed_word first) (printed_words others)
