-- A trace goes out one line after another.
use Rattle.pr_trace.proofs.Common.{◌≡◌, ℕ, suc, ◌+◌, ◌<◌, ◌≤◌, List, [], ◌∷◌, ◌++◌, map, length, get_or, drop, slice_index, codes, Option, Result, sym, refl, ap, ◌∙◌, subst, append_assoc, append-nil, scenario_of, Item, Parts, ending_of, joined_by_spaces, line, names_in, names_of, name_of, item_lines, held_word, ending_lines, first_line, unit_line, Wrote, FallsShort, Puts, State}
use Rattle.std.proofs.Common.{add-one, drop_of_length-le, drop-cons}
use Rattle.pr_output.specs.PrintedLines.{generation_word, registration_word}
use Rattle.pr_trace.specs.TraceText.{item_line, ending_line, registration_words, trace_body, trace_text}
use Rattle.pr_roles.specs.declared.parts.Nexus.{Nexus as NexusPart}
use Rattle.pr_registry.specs.Registrations.{key_of}
use Rattle.pr_audit.specs.declared.end.End.{End}
use Rattle.pr_roles.proofs.lemmas.Fitting.DistinctLists.{names_of_parts}
use Rattle.pr_trace.proofs.lemmas.FrontsWritten.HeldLines.{held_first, held_front, held_more}

-- the element that a loop is at, and what comes after it
pub drop_here : {X : Type 0} (xs : List X) (i : ℕ) (x : X) → i < length xs → x ≡ get_or xs i x → drop i xs ≡ x ∷ drop (i + 1) xs
drop_here xs i x h e = rw add-one (drop-cons xs i x h ∙ ap (λ y. y ∷ drop (suc i) xs) (sym e))

-- Entries.

pub item_lines_from : (names : List (List ℕ)) (es : List Item) (i : ℕ) (e : Item) → i < length es → e ≡ get_or es i e
    → item_lines i names (drop i es) ≡ item_line (i + 1) names e ++ item_lines (i + 1) names (drop (i + 1) es)
item_lines_from names es i e h is = rw (drop_here es i e h is) refl

pub item_lines_end : (names : List (List ℕ)) (es : List Item) (i : ℕ) → length es ≤ i → item_lines i names (drop i es) ≡ []
item_lines_end names es i h = rw (drop_of_length-le es {i = i} h) refl

-- Registrations.

abbrev pub registrations : State → ℕ → List NexusPart → List ℕ
registrations unit host nexuses = joined_by_spaces (registration_words unit host (names_of nexuses))

pub registrations_from : (unit : State) (nexuses : List NexusPart) (i : ℕ) (n : NexusPart) → i < length nexuses → n ≡ get_or nexuses i n
    → registrations unit i (drop i nexuses) ≡ (32 ∷ registration_word n.name.bytes (key_of unit i)) ++ registrations unit (i + 1) (drop (i + 1) nexuses)
unfolding joined_by_spaces
registrations_from unit nexuses i n h is = rw (drop_here nexuses i n h is) refl

pub registrations_end : (unit : State) (nexuses : List NexusPart) (i : ℕ) → length nexuses ≤ i → registrations unit i (drop i nexuses) ≡ []
unfolding joined_by_spaces
registrations_end unit nexuses i h = rw (drop_of_length-le nexuses {i = i} h) refl

regrouped : (a b c d : List ℕ) → (a ++ (b ++ c)) ++ d ≡ (a ++ (b ++ [])) ++ (c ++ d)
regrouped a b c d = simp (append_assoc, append-nil)

-- the four pieces in which the line of the unit goes out
pub unit_pieces : (names : List (List ℕ)) (unit : State)
    → unit_line names unit
    ≡ codes "unit" ++ (joined_by_spaces (generation_word unit.generation ∷ held_word names unit.held ∷ []) ++ (joined_by_spaces (registration_words unit 0 names) ++ (10 ∷ [])))
unfolding unit_line line joined_by_spaces
unit_pieces names unit =
    ap (λ w. codes "unit" ++ (32 ∷ w)) (regrouped (generation_word unit.generation) (32 ∷ held_word names unit.held) (joined_by_spaces (registration_words unit 0 names)) (10 ∷ []))

-- Ends.

pub ending_lines_from : (names : List (List ℕ)) (counts : List ℕ) (es : List End) (i : ℕ) (e : End) → i < length es → e ≡ get_or es i e
    → ending_lines i names counts (map ending_of (drop i es)) ≡ ending_line (name_of names i) (ending_of e) (slice_index counts i) ++ ending_lines (i + 1) names counts (map ending_of (drop (i + 1) es))
ending_lines_from names counts es i e h is = rw (drop_here es i e h is) refl

pub ending_lines_end : (names : List (List ℕ)) (counts : List ℕ) (es : List End) (i : ℕ) → length es ≤ i → ending_lines i names counts (map ending_of (drop i es)) ≡ []
ending_lines_end names counts es i h = rw (drop_of_length-le es {i = i} h) refl

-- The whole, in four parts.

-- the first line, with its end
abbrev pub head : ℕ → List ℕ
head version = first_line version ++ codes "\n"

module _ (version : ℕ) (old new : Option (List ℕ)) where
  pub first_front : (held rest : List ℕ) → held ≡ [] → FallsShort old new (held ++ head version) → FallsShort old new (head version ++ rest)
  first_front held rest e f = held_front old old new (head version ++ rest) held (head version) rest (held_first old (head version ++ rest) held e) f

  pub first_put : (held left rest : List ℕ) → held ≡ [] → Wrote old new (held ++ head version) left → Wrote old new (head version ++ rest) (left ++ rest)
  first_put held left rest e w = held_more old old new (head version ++ rest) held (head version) rest left (held_first old (head version ++ rest) held e) w

-- Names.

pub names_of_scenario : (p : Parts) → names_of p.nexuses.items ≡ names_in (scenario_of p)
unfolding scenario_of
names_of_scenario p = sym (names_of_parts p.nexuses.items)

version_of_scenario : (p : Parts) → p.version ≡ (scenario_of p).version
unfolding scenario_of
version_of_scenario p = refl

-- the version of parts that were read out
pub version_read : (p q : Parts) → q ≡ p → q.version ≡ (scenario_of p).version
version_read p q same = ap (λ (o : Parts). o.version) same ∙ version_of_scenario p

-- the trace of a scenario, whose version, names and registry were read out
pub trace_of_parts : {E : Type 0} (old new : Option (List ℕ)) (p q : Parts) (nexuses : List NexusPart) (entries : List Item) (u v : State) (ends : List End) (counts : List ℕ) (r : Result (Unit {0}) E)
    → q ≡ p → nexuses ≡ q.nexuses.items → u ≡ v → Puts old new (trace_text q.version (names_of nexuses) entries u (map ending_of ends) counts) r
    → Puts old new (trace_text (scenario_of p).version (names_in (scenario_of p)) entries v (map ending_of ends) counts) r
trace_of_parts old new p q nexuses entries u v ends counts r same items unit puts =
    let names = ap names_of (items ∙ ap (λ (o : Parts). o.nexuses.items) same) ∙ names_of_scenario p in
    subst (λ w. Puts old new (trace_text (scenario_of p).version (names_in (scenario_of p)) entries w (map ending_of ends) counts) r) unit
    (subst (λ ns. Puts old new (trace_text (scenario_of p).version ns entries u (map ending_of ends) counts) r) names
    (subst (λ n. Puts old new (trace_text n (names_of nexuses) entries u (map ending_of ends) counts) r) (version_read p q same) puts))

-- the same of the lines below the first one
pub body_of_parts : {E : Type 0} (old new : Option (List ℕ)) (p q : Parts) (nexuses : List NexusPart) (entries : List Item) (u v : State) (ends : List End) (counts : List ℕ) (r : Result (Unit {0}) E)
    → q ≡ p → nexuses ≡ q.nexuses.items → u ≡ v → Puts old new (trace_body (names_of nexuses) entries u (map ending_of ends) counts) r
    → Puts old new (trace_body (names_in (scenario_of p)) entries v (map ending_of ends) counts) r
body_of_parts old new p q nexuses entries u v ends counts r same items unit puts =
    let names = ap names_of (items ∙ ap (λ (o : Parts). o.nexuses.items) same) ∙ names_of_scenario p in
    subst (λ w. Puts old new (trace_body (names_in (scenario_of p)) entries w (map ending_of ends) counts) r) unit
    (subst (λ ns. Puts old new (trace_body ns entries u (map ending_of ends) counts) r) names puts)
