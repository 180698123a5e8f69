-- The text of a trace is read back.
use Rattle.pr_trace.proofs.Common.{◌≡◌, ℕ, suc, ◌+◌, ◌*◌, ◌<◌, ◌≤◌, true, false, List, [], ◌∷◌, ◌++◌, length, nat_le, slice_index, Some, None, Ok, codes, decimal, All, Option, sym, refl, ap, ◌∙◌, subst, append_assoc, append-nil, arith, length-append, nat_tests, MOST_NEXUSES, Item, joined_by_spaces, line, and_then, later_lines, items_of, trace_in, lines, is_later, names_in, name_of, item_lines, held_word, ending_lines, first_line, unit_line, most_items, MOST_LATER_LINES, MOST_LETTERS, MOST_LINE_BYTES, State, Fits, Scenario, IsItem, trace_of}
use Rattle.std.proofs.Common.{◌^◌}
use Rattle.std.specs.Int.{w32, to_be_bytes}
use Rattle.std.specs.List.{AllByRecursion}
use Rattle.std.proofs.lemmas.List.Elements.{recursion_from_All}
use Rattle.pr_registry.specs.declared.held.Held.TheVariants.{All as Everybody, One}
use Rattle.pr_output.proofs.lemmas.PrintedLines.KeyDigits.{key_short}
use Rattle.pr_registry.specs.Registrations.{IsWellFormed, key_of}
use Rattle.pr_registry.specs.declared.held.Held.{Held}
use Rattle.pr_cdb.specs.Kinds.{type_code}
use Rattle.pr_audit.specs.Ends.{Ending, stops, waits, traps, leaves}
use Rattle.pr_output.specs.PrintedLines.{generation_word, key_or_dash, registration_word}
use Rattle.pr_trace.specs.TraceText.{ending_line, registration_words, trace_text}
use Rattle.pr_trace.specs.TraceLaws.{IsEnding, WrittenTracesAreRead}
use Rattle.pr_trace.proofs.lemmas.LinesAhead.EntriesInFront.{entries_later, lines_none}
use Rattle.pr_trace.proofs.lemmas.TraceReadings.SolidWords.{is_solid, solid_by, AreSolid, IsWord, bare, bare_back, digits_word, line_back, pairs_word, spaced_none, spaced_word, word_both}
use Rattle.pr_trace.proofs.lemmas.TraceLaws.Words.{same_bytes}
use Rattle.pr_trace.proofs.lemmas.TraceReadings.ScenarioNames.{AreNames, name_of_word, name_word, names_count, names_fit}
use Rattle.pr_trace.proofs.lemmas.TraceLaws.Entries.{AreItems, items_back}

-- ---- words that are known

known : (n : ℕ) (w : List ℕ) → is_solid w ≡ true → length w ≤ n → IsWord n w
known n w h k = record { solid = solid_by w h; short = k }

wider : {m : ℕ} (n : ℕ) (w : List ℕ) → IsWord m w → m ≤ n → IsWord n w
wider n w h k = record { solid = h.solid; short = omega (arith, h.short) }

-- words, none of them longer than this
abbrev AreWords : ℕ → List (List ℕ) → Type 0
AreWords n [] = Unit {0}
AreWords n (w ∷ ws) = IsWord n w × AreWords n ws

are_solid : (n : ℕ) (ws : List (List ℕ)) → AreWords n ws → AreSolid ws
are_solid n [] h = tt
are_solid n (w ∷ ws) h = (h.0.solid, are_solid n ws h.1)

spaced_short : (ws : List (List ℕ)) → AreWords 81 ws → length (joined_by_spaces ws) ≤ 82 * length ws
spaced_short [] h = omega (arith, spaced_none)
spaced_short (w ∷ ws) h = omega (arith, spaced_word 81 (82 * length ws) w ws h.0 (spaced_short ws h.1))

-- ---- later lines

-- lines that may stand behind the entries
abbrev AreLater : List (List ℕ) → Type 0
AreLater [] = Unit {0}
AreLater (l ∷ ls) = ((is_later l ≡ true) × (length l ≤ MOST_LINE_BYTES)) × AreLater ls

not_all : (n : ℕ) → n < MOST_LATER_LINES → nat_le MOST_LATER_LINES n ≡ false
not_all n h = grind (arith, nat_tests)

fits : (n : ℕ) → n ≤ MOST_LINE_BYTES → nat_le n MOST_LINE_BYTES ≡ true
fits n h = grind (arith, nat_tests)

later_good : (entries others : ℕ) (ls : List (List ℕ)) → AreLater ls → others + length ls ≤ MOST_LATER_LINES → later_lines entries others ls ≡ Ok tt
later_good entries others [] h k = refl
later_good entries others (l ∷ ls) h k =
    rw (not_all others (omega arith), h.0.0, fits (length l) h.0.1) (later_good entries (others + 1) ls h.1 (omega arith))

-- a line of such words, which is cut off
module _ (first : List ℕ) (others : List (List ℕ)) (solid : IsWord 5 first) (words : AreWords 81 others) (few : length others ≤ 10) where
  later_short : length (bare first others) ≤ MOST_LINE_BYTES
  later_short = omega (arith, length-append first (joined_by_spaces others), solid.short, spaced_short others words)

  later_cut : (rest : List ℕ) → lines (line first others ++ rest) ≡ bare first others ∷ lines rest
  later_cut rest = line_back first others rest solid.solid (are_solid 81 others words)

host_later : (rest : List ℕ) → is_later (codes "host" ++ rest) ≡ true
unfolding is_later
host_later rest = refl

guest_later : (rest : List ℕ) → is_later (codes "guest" ++ rest) ≡ true
unfolding is_later
guest_later rest = refl

unit_later : (rest : List ℕ) → is_later (codes "unit" ++ rest) ≡ true
unfolding is_later
unit_later rest = refl

-- ---- ends

number_word : (n : ℕ) → IsWord 81 (decimal n)
number_word n = wider 81 (decimal n) (digits_word 10 n) (omega arith)

abbrev ending_words : List ℕ → List ℕ → List ℕ → ℕ → List (List ℕ)
ending_words name how what sent = name ∷ how ∷ what ∷ codes "sent" ∷ decimal sent ∷ []

ending_are_words : (name how what : List ℕ) (sent : ℕ) → IsWord MOST_LETTERS name → IsWord 81 how → IsWord 81 what → AreWords 81 (ending_words name how what sent)
ending_are_words name how what sent h k m = (wider 81 name h (omega arith), (k, (m, (known 81 (codes "sent") refl (omega arith), (number_word sent, tt)))))

-- an ending's line is cut off, and may stand there
record IsCut (text rest : List ℕ) : Type 0 where
  pub bare_line : List ℕ
  pub cut : lines (text ++ rest) ≡ bare_line ∷ lines rest
  pub later : is_later bare_line ≡ true
  pub short : length bare_line ≤ MOST_LINE_BYTES

module _ (kind name how what rest : List ℕ) (sent : ℕ) (k : IsWord 5 kind) (n : IsWord MOST_LETTERS name) (h : IsWord 81 how) (w : IsWord 81 what) where
  kind_cut : ((others : List ℕ) → is_later (kind ++ others) ≡ true) → IsCut (line kind (ending_words name how what sent)) rest
  kind_cut later =
      let ws = ending_words name how what sent in
      let are = ending_are_words name how what sent n h w in
      record { bare_line = bare kind ws; cut = later_cut kind ws k are (omega arith) rest; later = later (joined_by_spaces ws); short = later_short kind ws k are (omega arith) }

host_cut : (name how what rest : List ℕ) (sent : ℕ) → IsWord MOST_LETTERS name → IsWord 81 how → IsWord 81 what → IsCut (line (codes "host") (ending_words name how what sent)) rest
host_cut name how what rest sent n h w = kind_cut (codes "host") name how what rest sent (known 5 (codes "host") refl (omega arith)) n h w host_later

ending_cut : (name rest : List ℕ) (e : Ending) (sent : ℕ) → IsWord MOST_LETTERS name → IsEnding e → IsCut (ending_line name e sent) rest
unfolding ending_line
ending_cut name rest (stops word) sent h k = host_cut name (codes "stopped") word rest sent h (known 81 (codes "stopped") refl (omega arith)) (wider 81 word (name_word word k) (omega arith))
ending_cut name rest (waits place) sent h k = host_cut name (codes "ready") (decimal place) rest sent h (known 81 (codes "ready") refl (omega arith)) (number_word place)
ending_cut name rest (traps place) sent h k = host_cut name (codes "trapped") (decimal place) rest sent h (known 81 (codes "trapped") refl (omega arith)) (number_word place)
ending_cut name rest (leaves planned) sent h k = kind_cut (codes "guest") name (codes "left") (decimal planned) rest sent (known 5 (codes "guest") refl (omega arith)) h (known 81 (codes "left") refl (omega arith)) (number_word planned) guest_later

abbrev pub AreEndings : List Ending → Type 0
AreEndings [] = Unit {0}
AreEndings (e ∷ es) = IsEnding e × AreEndings es

-- as many lines as there are ends, each of which may stand there
record AreLines (text : List ℕ) (count : ℕ) : Type 0 where
  pub later : AreLater (lines text)
  pub counted : length (lines text) ≡ count

endings_lines : (names : List (List ℕ)) (counts : List ℕ) (es : List Ending) (host : ℕ) → AreNames names → AreEndings es → AreLines (ending_lines host names counts es) (length es)
endings_lines names counts [] host are h = record { later = rw lines_none tt; counted = ap length lines_none }
endings_lines names counts (e ∷ es) host are h =
    let rest = ending_lines (host + 1) names counts es in
    let cut = ending_cut (name_of names host) rest e (slice_index counts host) (name_of_word names host are) h.0 in
    let more = endings_lines names counts es (host + 1) are h.1 in
    record {
      later = rw cut.cut ((cut.later, cut.short), more.later);
      counted = ap length cut.cut ∙ ap suc more.counted;
    }

-- ---- the unit

generation_are : (generation : ℕ) → IsWord 81 (generation_word generation)
generation_are generation = wider 81 (generation_word generation) (pairs_word 4 (to_be_bytes w32 generation) (omega arith)) (omega arith)

holder_are : (names : List (List ℕ)) (held : Option Held) → AreNames names → IsWord 81 (held_word names held)
holder_are names None are = known 81 (codes "none") refl (omega arith)
holder_are names (Some (One kind host)) are =
    word_both 64 17 (decimal (type_code kind)) (codes ":" ++ name_of names host) (digits_word 10 (type_code kind))
    (word_both 1 MOST_LETTERS (codes ":") (name_of names host) (known 1 (codes ":") refl (omega arith)) (name_of_word names host are))
holder_are names (Some (Everybody kind)) are = number_word (type_code kind)

-- a key of 64 bits has at most 16 digits
abbrev IsShortKey : Option ℕ → Type 0
IsShortKey None = Unit {0}
IsShortKey (Some k) = k < 2 ^ 64

key_are : (key : Option ℕ) → IsShortKey key → IsWord 16 (key_or_dash key)
key_are None h = known 16 (codes "-") refl (omega arith)
key_are (Some key) h = record { solid = (digits_word 16 key).solid; short = key_short key h }

short_key : (u : State) → IsWellFormed u → (h : ℕ) (o : Option ℕ) → key_of u h ≡ o → IsShortKey o
short_key u formed h None is = tt
short_key u formed h (Some k) is = (formed.keys h k is).1.1

registration_are : (name : List ℕ) (key : Option ℕ) → IsWord MOST_LETTERS name → IsShortKey key → IsWord 33 (registration_word name key)
registration_are name key h k = word_both MOST_LETTERS 17 name (codes "=" ++ key_or_dash key) h (word_both 1 16 (codes "=") (key_or_dash key) (known 1 (codes "=") refl (omega arith)) (key_are key k))

registrations_are : (u : State) (host : ℕ) (names : List (List ℕ)) → IsWellFormed u → ((h : ℕ) → IsWord MOST_LETTERS (name_of names h)) → AreWords 33 (registration_words u host names)
registrations_are u host [] formed h = tt
registrations_are u host (name ∷ names) formed h =
    (registration_are name (key_of u host) (h 0) (short_key u formed host (key_of u host) refl), registrations_are u (host + 1) names formed (λ k. h (suc k)))

registrations_short : (ws : List (List ℕ)) → AreWords 33 ws → length (joined_by_spaces ws) ≤ 34 * length ws
registrations_short [] h = omega (arith, spaced_none)
registrations_short (w ∷ ws) h = omega (arith, spaced_word 33 (34 * length ws) w ws h.0 (registrations_short ws h.1))

registrations_count : (u : State) (host : ℕ) (names : List (List ℕ)) → length (registration_words u host names) ≡ length names
registrations_count u host [] = refl
registrations_count u host (name ∷ names) = ap suc (registrations_count u (host + 1) names)

unit_cut : (names : List (List ℕ)) (u : State) (rest : List ℕ) → AreNames names → IsWellFormed u → IsCut (unit_line names u) rest
unfolding unit_line
unit_cut names u rest are formed =
    let registered = registration_words u 0 names in
    let ws = generation_word u.generation ∷ held_word names u.held ∷ registered in
    let generation = generation_are u.generation in
    let held = holder_are names u.held are in
    let each = registrations_are u 0 names formed (λ h. name_of_word names h are) in
    let first = known 5 (codes "unit") refl (omega arith) in
    let long = spaced_word 81 (82 + 34 * length registered) (generation_word u.generation) (held_word names u.held ∷ registered) generation
    (spaced_word 81 (34 * length registered) (held_word names u.held) registered held (registrations_short registered each)) in
    record {
      bare_line = bare (codes "unit") ws;
      cut = line_back (codes "unit") ws rest first.solid (generation.solid, (held.solid, are_solid 33 registered each));
      later = unit_later (joined_by_spaces ws);
      short = omega (arith, length-append (codes "unit") (joined_by_spaces ws), long, registrations_count u 0 names, are.few);
    }

-- ---- the whole text

nothing_more : (version : ℕ) (names : List (List ℕ)) (items : ℕ) (l : List ℕ) (ls : List (List ℕ)) → is_later l ≡ true → later_lines items 0 (l ∷ ls) ≡ Ok tt → items_of version names items (l ∷ ls) ≡ Ok []
nothing_more version names items l ls h k = entries_later version names items l ls h ∙ ap (λ r. and_then r (λ _. Ok [])) k

behind_back : (version : ℕ) (names : List (List ℕ)) (items : ℕ) (u : State) (ends : List Ending) (counts : List ℕ) → AreNames names → IsWellFormed u → length ends ≤ MOST_NEXUSES → AreEndings ends
    → items_of version names items (lines (unit_line names u ++ ending_lines 0 names counts ends)) ≡ Ok []
behind_back version names items u ends counts are formed short each =
    let rest = ending_lines 0 names counts ends in
    let cut = unit_cut names u rest are formed in
    let more = endings_lines names counts ends 0 are each in
    let good : later_lines items 0 (cut.bare_line ∷ lines rest) ≡ Ok tt =
    later_good items 0 (cut.bare_line ∷ lines rest) ((cut.later, cut.short), more.later) (omega (arith, more.counted)) in
    ap (items_of version names items) cut.cut ∙ nothing_more version names items cut.bare_line (lines rest) cut.later good

first_is : (version : ℕ) → first_line version ≡ bare (codes "fence-trace") (decimal version ∷ [])
unfolding first_line joined_by_spaces
first_is version = ap (λ w. codes "fence-trace " ++ w) (sym (append-nil (decimal version)))

first_cut : (version : ℕ) (rest : List ℕ) → lines ((first_line version ++ codes "\n") ++ rest) ≡ first_line version ∷ lines rest
first_cut version rest =
    let solid = solid_by (codes "fence-trace") refl in
    ap lines (append_assoc (first_line version) (codes "\n") rest)
    ∙ (ap (λ w. lines (w ++ (10 ∷ rest))) (first_is version)
    ∙ (bare_back (codes "fence-trace") (decimal version ∷ []) rest solid ((digits_word 10 version).solid, tt) ∙ ap (λ w. w ∷ lines rest) (sym (first_is version))))

first_then : (version : ℕ) (names : List (List ℕ)) (rest : List ℕ) → trace_in version names (first_line version ∷ lines rest) ≡ items_of version names 0 (lines rest)
first_then version names rest = rw (same_bytes (first_line version)) refl

first_back : (version : ℕ) (names : List (List ℕ)) (rest : List ℕ) → trace_of version names ((first_line version ++ codes "\n") ++ rest) ≡ items_of version names 0 (lines rest)
unfolding trace_of
first_back version names rest = ap (trace_in version names) (first_cut version rest) ∙ first_then version names rest

by_recursion : (version : ℕ) (names : List (List ℕ)) (es : List Item) → AllByRecursion (IsItem version (length names)) es → AreItems version names es
by_recursion version names [] h = tt
by_recursion version names (e ∷ es) h = (h.0, by_recursion version names es h.1)

endings_by_recursion : (es : List Ending) → AllByRecursion IsEnding es → AreEndings es
endings_by_recursion [] h = tt
endings_by_recursion (e ∷ es) h = (h.0, endings_by_recursion es h.1)

all_items : (version : ℕ) (names : List (List ℕ)) (n : ℕ) (es : List Item) → n ≡ length names → All (IsItem version n) es → AreItems version names es
all_items version names n es e h = by_recursion version names es (recursion_from_All (IsItem version (length names)) es (subst (λ m. All (IsItem version m) es) e h))

all_endings : (es : List Ending) → All IsEnding es → AreEndings es
all_endings es h = endings_by_recursion es (recursion_from_All IsEnding es h)

-- the text of items that a trace of this version has, which are not too many
pub text_back : (s : Scenario) (es : List Item) (u : State) (ends : List Ending) (counts : List ℕ) → Fits s → IsWellFormed u → AreItems s.version (names_in s) es → length es ≤ most_items s.version
    → length ends ≤ MOST_NEXUSES → AreEndings ends → trace_of s.version (names_in s) (trace_text s.version (names_in s) es u ends counts) ≡ Ok es
text_back s es u ends counts fits formed each few short all =
    let names = names_in s in
    let are = names_fit s fits in
    let rest = unit_line names u ++ ending_lines 0 names counts ends in
    first_back s.version names (item_lines 0 names es ++ rest)
    ∙ items_back s.version names es 0 rest are each (omega arith) (behind_back s.version names (0 + length es) u ends counts are formed short all)

pub written_are_read : WrittenTracesAreRead
written_are_read s es u ends counts fits formed each few ended all =
    let names = names_in s in
    let short : length ends ≤ MOST_NEXUSES = omega (arith, ended, names_count s, (names_fit s fits).few) in
    text_back s es u ends counts fits formed (all_items s.version names (length s.nexuses) es (sym (names_count s)) each) few short (all_endings ends all)
