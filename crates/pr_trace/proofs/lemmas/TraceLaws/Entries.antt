-- Items that were written are read back.
use Rattle.pr_trace.proofs.Common.{◌≡◌, ℕ, zero, suc, ◌+◌, ◌/◌, ◌%◌, ◌<◌, ◌≤◌, Bool, true, false, cond, ◌&&◌, List, [], ◌∷◌, ◌++◌, length, Some, Ok, codes, decimal, bytes_eq, sym, refl, ap, ◌∙◌, append_assoc, arith, length-append, ne_eqb, digit_glyph, digits_onto, digits, nat_tests, bytes_eq-Decides, Item, pairs_or_dash, joined_by_spaces, and_then, items_of, lines, words, item_on, is_later, name_of, item_lines, most_items, MOST_CDB_LENGTH, MOST_LETTERS, MOST_LINE_BYTES, PARAMETER_LIST_LENGTH, Reply, Status, AreBytes, has_status, HasSense, IsItem}
use Rattle.std.proofs.Common.{eqb, add-zero, le-ltb}
use Rattle.pr_cdb.specs.declared.codes.TheConstants.{MOST_DATA_LENGTH}
use Rattle.pr_cdb.specs.declared.reply.Status.TheVariants.{Good}
use Rattle.pr_cdb.specs.declared.wire.Wire.{Wire}
use Rattle.pr_roles.specs.declared.entry.Entry.{Entry}
use Rattle.pr_roles.specs.declared.item.Item.TheVariants.{Sent, Reset}
use Rattle.pr_roles.proofs.lemmas.Starts.AllowedStarts.{most_fits}
use Rattle.pr_trace.specs.Versions.{has_resets, most_data}
use Rattle.pr_trace.specs.TraceText.{entry_line, item_line, reset_line, sense_data, status_word}
use Rattle.pr_trace.specs.TraceLaws.{IsEntry}
use Rattle.pr_trace.specs.EntryWords.{exchange_in, reply_in, wire_in}
use Rattle.pr_trace.specs.TraceReadings.{entry_on, is_reset_on}
use Rattle.pr_trace.proofs.lemmas.TraceReadings.SolidWords.{solid_by, AreSolid, IsWord, bare, bytes_word, digits_word, line_back, spaced_none, spaced_word, words_back}
use Rattle.pr_trace.proofs.lemmas.TraceLaws.Words.{bytes_back, data_are_bytes, data_short, same_bytes, sense_back, status_back}
use Rattle.pr_trace.proofs.lemmas.TraceReadings.ScenarioNames.{AreNames, name_of_word, number_back}

data_bounded : (version n : ℕ) → n ≤ most_data version → n ≤ MOST_DATA_LENGTH
data_bounded version n h = omega (arith, h, most_fits version)

-- ---- the words of an entry

wire_back : (w : Wire) → AreBytes w.cdb.items → AreBytes w.params.items → 0 < length w.cdb.items → length w.cdb.items ≤ MOST_CDB_LENGTH → length w.params.items ≤ PARAMETER_LIST_LENGTH
    → wire_in (pairs_or_dash w.cdb.items) (pairs_or_dash w.params.items) ≡ Some w
wire_back w b c some h k = rw (bytes_back MOST_CDB_LENGTH w.cdb.items b h, bytes_back PARAMETER_LIST_LENGTH w.params.items c k, ne_eqb (length w.cdb.items) 0 (λ e. omega arith)) refl

reply_back : (version : ℕ) (r : Reply) → has_status version r.status ≡ true → HasSense r.status r.sense → AreBytes r.bytes.items → length r.bytes.items ≤ most_data version
    → reply_in version (status_word r.status) (pairs_or_dash (sense_data r.sense)) (pairs_or_dash r.bytes.items) ≡ Some r
reply_back version r t s b h =
    rw (status_back version r.status t, bytes_back 18 (sense_data r.sense) (data_are_bytes r.status r.sense s) (data_short r.sense), sense_back r.status r.sense s, bytes_back (most_data version) r.bytes.items b h) refl

-- an entry's words behind its index
abbrev others_of : List (List ℕ) → Entry → List (List ℕ)
others_of names e =
    name_of names e.host
    ∷ pairs_or_dash e.wire.cdb.items
    ∷ pairs_or_dash e.wire.params.items
    ∷ status_word e.reply.status
    ∷ pairs_or_dash (sense_data e.reply.sense)
    ∷ pairs_or_dash e.reply.bytes.items
    ∷ []

exchange_back : (version : ℕ) (names : List (List ℕ)) (index : ℕ) (e : Entry) → AreNames names → IsEntry version (length names) e
    → exchange_in version index (decimal index ∷ others_of names e) ≡ Some (e.wire, e.reply)
unfolding exchange_in
exchange_back version names index e are is =
    rw (same_bytes (decimal index), are.each e.host is.sender, wire_back e.wire is.bytes.0 is.bytes.1 is.command.0 is.command.1 is.lengths.0, reply_back version e.reply is.status is.sense is.bytes.2 is.lengths.1) refl

-- ---- the line of a reset

reset_solid : AreSolid (codes "reset" ∷ [])
reset_solid = (solid_by (codes "reset") refl, tt)

reset_bare : (index : ℕ) → bare (decimal index) (codes "reset" ∷ []) ≡ decimal index ++ codes " reset"
unfolding joined_by_spaces
reset_bare index = refl

reset_words : (index : ℕ) → words (decimal index ++ codes " reset") ≡ decimal index ∷ codes "reset" ∷ []
reset_words index = ap words (sym (reset_bare index)) ∙ words_back (decimal index) (codes "reset" ∷ []) (digits_word 10 index).solid reset_solid

reset_back : (version : ℕ) (names : List (List ℕ)) (index : ℕ) → has_resets version ≡ true → index ≤ most_items version → item_on version names index (bare (decimal index) (codes "reset" ∷ [])) ≡ Ok Reset
unfolding item_on is_reset_on
reset_back version names index has h =
    let short : length (decimal index ++ codes " reset") ≤ MOST_LINE_BYTES = omega (arith, length-append (decimal index) (codes " reset"), (digits_word 10 index).short) in
    ap (item_on version names index) (reset_bare index)
    ∙ rw (le-ltb (most_items version) index h, le-ltb MOST_LINE_BYTES (length (decimal index ++ codes " reset")) short, has, same_bytes (decimal index ++ codes " reset")) refl

none_of : (a b : Bool) → (b ≡ true → ⊥) → (a && b) ≡ false
none_of true true none = absurd (none refl)
none_of _ _ none = refl

-- ---- its line

status_solid : (t : Status) → IsWord 2 (status_word t)
status_solid Good = record { solid = (omega arith, (omega arith, tt)); short = omega arith }
status_solid _ = record { solid = (omega arith, (omega arith, tt)); short = omega arith }

module _ (version : ℕ) (names : List (List ℕ)) (e : Entry) (are : AreNames names) (is : IsEntry version (length names) e) where
  cdb_word : IsWord 32 (pairs_or_dash e.wire.cdb.items)
  cdb_word = bytes_word MOST_CDB_LENGTH e.wire.cdb.items (omega arith) is.command.1

  params_word : IsWord 48 (pairs_or_dash e.wire.params.items)
  params_word = bytes_word PARAMETER_LIST_LENGTH e.wire.params.items (omega arith) is.lengths.0

  sense_word : IsWord 36 (pairs_or_dash (sense_data e.reply.sense))
  sense_word = bytes_word 18 (sense_data e.reply.sense) (omega arith) (data_short e.reply.sense)

  data_word : IsWord 272 (pairs_or_dash e.reply.bytes.items)
  data_word = bytes_word MOST_DATA_LENGTH e.reply.bytes.items (omega arith) (data_bounded version (length e.reply.bytes.items) is.lengths.1)

  others_solid : AreSolid (others_of names e)
  others_solid =
      ((name_of_word names e.host are).solid, (cdb_word.solid, (params_word.solid, ((status_solid e.reply.status).solid, (sense_word.solid, (data_word.solid, tt))))))

  others_short : length (joined_by_spaces (others_of names e)) ≤ 412
  others_short =
      let reply = pairs_or_dash e.reply.bytes.items in
      let sense = pairs_or_dash (sense_data e.reply.sense) in
      let status = status_word e.reply.status in
      let params = pairs_or_dash e.wire.params.items in
      let cdb = pairs_or_dash e.wire.cdb.items in
      spaced_word MOST_LETTERS _ (name_of names e.host) (cdb ∷ params ∷ status ∷ sense ∷ reply ∷ []) (name_of_word names e.host are)
      (spaced_word 32 _ cdb (params ∷ status ∷ sense ∷ reply ∷ []) cdb_word
      (spaced_word 48 _ params (status ∷ sense ∷ reply ∷ []) params_word
      (spaced_word 2 _ status (sense ∷ reply ∷ []) (status_solid e.reply.status)
      (spaced_word 36 _ sense (reply ∷ []) sense_word
      (spaced_word 272 _ reply [] data_word spaced_none)))))

  bare_short : (index : ℕ) → length (bare (decimal index) (others_of names e)) ≤ MOST_LINE_BYTES
  bare_short index = omega (arith, length-append (decimal index) (joined_by_spaces (others_of names e)), (digits_word 10 index).short, others_short)

  words_are : (index : ℕ) → words (bare (decimal index) (others_of names e)) ≡ decimal index ∷ others_of names e
  words_are index = words_back (decimal index) (others_of names e) (digits_word 10 index).solid others_solid

  entry_back : (index : ℕ) → entry_on version names index (bare (decimal index) (others_of names e)) ≡ Ok e
  unfolding entry_on
  entry_back index =
      rw (words_are index)
      (rw (exchange_back version names index e are is, number_back names e.host are is.sender) refl)

  -- it has more words than the line of a reset
  no_reset : (index : ℕ) → bytes_eq (bare (decimal index) (others_of names e)) (decimal index ++ codes " reset") ≡ true → ⊥
  no_reset index same =
      let lines = (bytes_eq-Decides (bare (decimal index) (others_of names e)) (decimal index ++ codes " reset")).0 same in
      let counts = ap (λ l. length (words l)) lines in
      let many = ap length (words_are index) in
      let few = ap length (reset_words index) in
      omega (arith, counts, many, few)

  sent_back : (index : ℕ) → index ≤ most_items version → item_on version names index (bare (decimal index) (others_of names e)) ≡ Ok (Sent e)
  unfolding item_on is_reset_on
  sent_back index h =
      rw (
        le-ltb (most_items version) index h,
        le-ltb MOST_LINE_BYTES (length (bare (decimal index) (others_of names e))) (bare_short index),
        none_of (has_resets version) (bytes_eq (bare (decimal index) (others_of names e)) (decimal index ++ codes " reset")) (no_reset index),
        entry_back index,
      ) refl

-- ---- a digit comes first

-- the first byte is a digit
abbrev BeginsWithDigit : List ℕ → Type 0
BeginsWithDigit [] = ⊥
BeginsWithDigit (b ∷ bs) = b ≤ 57

glyph_low : (d : ℕ) → d < 10 → digit_glyph false d ≤ 57
glyph_low d h = grind (arith, nat_tests)

begins_onto : (k n : ℕ) (acc : List ℕ) → BeginsWithDigit acc → BeginsWithDigit (digits_onto k 10 false n acc)
begins_onto zero n acc h = h
begins_onto (suc k) n acc h = elim (eqb (n / 10) 0) as (λ b. BeginsWithDigit (cond b (digit_glyph false (n % 10) ∷ acc) (digits_onto k 10 false (n / 10) (digit_glyph false (n % 10) ∷ acc)))) [
  | true ↦ glyph_low (n % 10) (omega arith)
  | false ↦ begins_onto k (n / 10) (digit_glyph false (n % 10) ∷ acc) (glyph_low (n % 10) (omega arith))
]

decimal_begins : (n : ℕ) → BeginsWithDigit (decimal n)
unfolding digits
decimal_begins n = elim (eqb (n / 10) 0) as (λ b. BeginsWithDigit (cond b (digit_glyph false (n % 10) ∷ []) (digits_onto 63 10 false (n / 10) (digit_glyph false (n % 10) ∷ [])))) [
  | true ↦ glyph_low (n % 10) (omega arith)
  | false ↦ begins_onto 63 (n / 10) (digit_glyph false (n % 10) ∷ []) (glyph_low (n % 10) (omega arith))
]

not_later : (w rest : List ℕ) → BeginsWithDigit w → is_later (w ++ rest) ≡ false
unfolding is_later
not_later [] rest h = absurd h
not_later (b ∷ bs) rest h = rw (ne_eqb 117 b (λ e. omega arith), ne_eqb 104 b (λ e. omega arith), ne_eqb 103 b (λ e. omega arith)) refl

-- ---- all items

-- the line of an item without its end
abbrev bare_item : ℕ → List (List ℕ) → Item → List ℕ
bare_item index names (Sent e) = bare (decimal index) (others_of names e)
bare_item index names Reset = bare (decimal index) (codes "reset" ∷ [])

abbrev pub AreItems : ℕ → List (List ℕ) → List Item → Type 0
AreItems version names [] = Unit {0}
AreItems version names (i ∷ is) = IsItem version (length names) i × AreItems version names is

line_is : (version others : ℕ) (names : List (List ℕ)) (i : Item) (rest : List ℕ) → AreNames names → IsItem version (length names) i
    → lines (item_line (others + 1) names i ++ rest) ≡ bare_item (others + 1) names i ∷ lines rest
unfolding entry_line reset_line
line_is version others names (Sent e) rest are is = line_back (decimal (others + 1)) (others_of names e) rest (digits_word 10 (others + 1)).solid (others_solid version names e are is)
line_is version others names Reset rest are is = line_back (decimal (others + 1)) (codes "reset" ∷ []) rest (digits_word 10 (others + 1)).solid reset_solid

item_begins : (index : ℕ) (names : List (List ℕ)) (i : Item) → is_later (bare_item index names i) ≡ false
item_begins index names (Sent e) = not_later (decimal index) (joined_by_spaces (others_of names e)) (decimal_begins index)
item_begins index names Reset = not_later (decimal index) (joined_by_spaces (codes "reset" ∷ [])) (decimal_begins index)

item_back : (version : ℕ) (names : List (List ℕ)) (index : ℕ) (i : Item) → AreNames names → IsItem version (length names) i → index ≤ most_items version
    → item_on version names index (bare_item index names i) ≡ Ok i
item_back version names index (Sent e) are is h = sent_back version names e are is index h
item_back version names index Reset are is h = reset_back version names index is h

one_back : (version : ℕ) (names : List (List ℕ)) (others : ℕ) (i : Item) (ls : List (List ℕ)) → AreNames names → IsItem version (length names) i → others + 1 ≤ most_items version
    → items_of version names others (bare_item (others + 1) names i ∷ ls) ≡ and_then (items_of version names (others + 1) ls) (λ is. Ok (i ∷ is))
one_back version names others i ls are is h =
    rw (item_begins (others + 1) names i, item_back version names (others + 1) i are is h) refl

pub items_back : (version : ℕ) (names : List (List ℕ)) (is : List Item) (others : ℕ) (rest : List ℕ) → AreNames names → AreItems version names is → others + length is ≤ most_items version
    → items_of version names (others + length is) (lines rest) ≡ Ok [] → items_of version names others (lines (item_lines others names is ++ rest)) ≡ Ok is
items_back version names [] others rest are all h k = rw add-zero at k
items_back version names (i ∷ is) others rest are all h k =
    let here = append_assoc (item_line (others + 1) names i) (item_lines (others + 1) names is) rest in
    let cut = line_is version others names i (item_lines (others + 1) names is ++ rest) are all.0 in
    let last : others + suc (length is) ≡ (others + 1) + length is = omega arith in
    let more = items_back version names is (others + 1) rest are all.1 (omega arith) (rw last at k) in
    ap (λ l. items_of version names others (lines l)) here ∙ (ap (items_of version names others) cut
    ∙ (one_back version names others i (lines (item_lines (others + 1) names is ++ rest)) are all.0 (omega arith) ∙ ap (λ r. and_then r (λ xs. Ok (i ∷ xs))) more))
