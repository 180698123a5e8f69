-- What is read of the line in front, of which the end may not be at hand.
use Rattle.pr_trace.proofs.Common.{◌≡◌, ℕ, ◌+◌, ◌-◌, ◌<◌, ◌≤◌, true, false, List, [], ◌∷◌, ◌++◌, length, take, drop, IfSome, if◌then◌else◌, nat_lt, nat_le, ◌==◌, Some, None, Ok, Err, codes, decimal, Option, Result, bytes_eq, sym, refl, ap, ◌∙◌, subst, inl, inr, append_assoc, append-nil, arith, length-append, length-take, prepend_known, Keeps, cases_lt, nat_tests, bytes_eq-Decides, Item, and_then, later_lines, items_of, trace_in, lines, item_on, is_later, first_line, most_items, Leads, MOST_LATER_LINES, MOST_LINE_BYTES, lt-ltb}
use Rattle.std.proofs.lemmas.Bool.{lt-leb}
use Rattle.std.proofs.lemmas.List.{take-take}
use Rattle.pr_trace.specs.declared.trace_error.TraceError.{TraceError}
use Rattle.pr_trace.specs.declared.trace_error.TraceError.TheVariants.{Syntax, TooLong, ReadFault, Memory}
use Rattle.pr_trace.specs.declared.versions.TheConstants.{MOST_ITEMS_1, MOST_ITEMS_2}
use Rattle.pr_trace.specs.TraceReadings.{Faults}
use Rattle.pr_trace.specs.inside.LinesAhead.{Between, FindsLine, FirstRead, IsFront, ItemsRead, StandsInFront}
use Rattle.pr_trace.proofs.lemmas.TraceReadings.SolidWords.{digits_word}

-- ---- faults

pub faults_same : {A : Type 0} (e : TraceError) (r : Result A TraceError) → r ≡ Err e → Faults e r
faults_same ReadFault r h = tt
faults_same Memory r h = tt
faults_same _ r h = h

-- ---- what the front of a line shows

-- what is read of a line depends on its front alone, where it is longer than a line may be
abbrev pub ByFront : {X : Type 0} → (List ℕ → X) → Type 0
ByFront P = (l m : List ℕ) → MOST_LINE_BYTES < length l → MOST_LINE_BYTES < length m → take 5 l ≡ take 5 m → P l ≡ P m

module _ (held more : List ℕ) (n : ℕ) (front : IsFront held more n) (within : n ≤ length held) where
  five : MOST_LINE_BYTES < n → take 5 front.line ≡ take 5 (take n held)
  five h = sym (take-take 5 n front.line (omega arith)) ∙ ap (take 5) (sym front.shown)

  long_line : MOST_LINE_BYTES < n → MOST_LINE_BYTES < length front.line
  long_line h = omega (arith, ap length front.shown, length-take n held, length-take n front.line)

  long_shown : MOST_LINE_BYTES < n → MOST_LINE_BYTES < length (take n held)
  long_shown h = omega (arith, length-take n held)

  pub by_front : {X : Type 0} (P : List ℕ → X) → ByFront P → P front.line ≡ P (take n held)
  by_front P same = elim (cases_lt MOST_LINE_BYTES n) [
    | inl h ↦ same front.line (take n held) (long_line h) (long_shown h) (five h)
    | inr h ↦ ap P (front.whole h).0
  ]

at_most : (n : ℕ) → n ≡ MOST_LATER_LINES → nat_le MOST_LATER_LINES n ≡ true
at_most n h = grind (arith, nat_tests)

below : (n : ℕ) → n ≤ MOST_LATER_LINES → (n ≡ MOST_LATER_LINES → ⊥) → nat_le MOST_LATER_LINES n ≡ false
below n h k = lt-leb MOST_LATER_LINES n (omega arith)

-- ---- the first line

unequal : (l word : List ℕ) → length word < length l → bytes_eq l word ≡ false
unequal l word h = elim (bytes_eq l word) as (λ b. bytes_eq l word ≡ b → bytes_eq l word ≡ false) [
  | true ↦ λ e. absurd (omega (arith, ap length ((bytes_eq-Decides l word).0 e)))
  | false ↦ λ e. e
] refl

first_short : (version : ℕ) → length (first_line version) ≤ 76
unfolding first_line
first_short version = omega (arith, length-append (codes "fence-trace ") (decimal version), (digits_word 10 version).short)

first_by_front : (version : ℕ) → ByFront (λ l. bytes_eq l (first_line version))
first_by_front version l m h k same =
    let few = first_short version in
    unequal l (first_line version) (omega arith) ∙ sym (unequal m (first_line version) (omega arith))

-- ---- what is left

pub lines_none : lines [] ≡ []
unfolding lines
lines_none = refl

-- what holds of what is left, of which the front is at hand
between_by : (P : List ℕ → List ℕ → Type 0) (start mid : Option (List ℕ)) (held : List ℕ) (known : Option (List ℕ)) (found : Option ℕ) (R : Type 0)
    → (start ≡ None → R) → ((old more : List ℕ) → start ≡ Some old → known ≡ Some more → P old (held ++ more) → StandsInFront held more found → R)
    → Between P start mid → Keeps mid (prepend_known held known) → IfSome known (λ more. StandsInFront held more found) → R
between_by P None mid held known found R none step h k f = none refl
between_by P (Some old) None held known found R none step h k f = absurd h
between_by P (Some old) (Some new) held None found R none step h k f = absurd k
between_by P (Some old) (Some new) held (Some more) found R none step h k f = step old more refl refl (subst (P old) (sym k) h) f

module _ {P : List ℕ → List ℕ → Type 0} {start mid : Option (List ℕ)} {held : List ℕ} {known : Option (List ℕ)} {found : Option ℕ} where
  -- more holds of what is left then
  leads_on : (Q : List ℕ → List ℕ → Type 0) (next : List ℕ) → ((old more : List ℕ) → P old (held ++ more) → StandsInFront held more found → Q old (next ++ more))
      → Leads P start mid → FindsLine mid held known found → Leads Q start (prepend_known next known)
  leads_on Q next step h f = record {
    holds = between_by P start mid held known found (Between Q start (prepend_known next known))
        (λ e. subst (λ o. Between Q o (prepend_known next known)) (sym e) tt)
        (λ old more e d here front. subst (λ o. Between Q o (prepend_known next known)) (sym e) (subst (λ k. Between Q (Some old) (prepend_known next k)) (sym d) (step old more here front)))
        h.holds f.kept f.front;
  }

  -- this holds of what was left
  leads_back : (Q : List ℕ → Type 0) → ((old more : List ℕ) → P old (held ++ more) → StandsInFront held more found → Q old)
      → Leads P start mid → FindsLine mid held known found → IfSome start Q
  leads_back Q step h f =
      between_by P start mid held known found (IfSome start Q) (λ e. subst (λ o. IfSome o Q) (sym e) tt)
      (λ old more e d here front. subst (λ o. IfSome o Q) (sym e) (step old more here front)) h.holds f.kept f.front

  leads_fault : {A : Type 0} (of : List ℕ → Result A TraceError) (e : TraceError) → ((old more : List ℕ) → P old (held ++ more) → StandsInFront held more found → of old ≡ Err e)
      → Leads P start mid → FindsLine mid held known found → IfSome start (λ text. Faults e (of text))
  leads_fault of e step h f = leads_back (λ text. Faults e (of text)) (λ old more here front. faults_same e (of old) (step old more here front)) h f

-- ---- later lines

later_by_front : ByFront is_later
unfolding is_later
later_by_front l m h k same = rw (← take-take 4 5 l (omega arith), ← take-take 4 5 m (omega arith), same) refl

-- what is said of the later lines that are left, behind so many others
abbrev pub LaterLeft : ℕ → ℕ → List ℕ → List ℕ → Type 0
LaterLeft entries others old new = later_lines entries 0 (lines old) ≡ later_lines entries others (lines new)

abbrev laters : ℕ → List ℕ → Result (Unit {0}) TraceError
laters entries text = later_lines entries 0 (lines text)

module _ (entries others : ℕ) {start mid : Option (List ℕ)} {held : List ℕ} {known : Option (List ℕ)} where
  pub later_done : Leads (LaterLeft entries others) start mid → FindsLine mid held known None → IfSome start (λ text. later_lines entries 0 (lines text) ≡ Ok tt)
  later_done h f =
      leads_back (λ text. laters entries text ≡ Ok tt)
      (λ old more here none. here ∙ (ap (λ l. later_lines entries others (lines l)) none ∙ ap (later_lines entries others) lines_none)) h f

-- ---- the first line

leads_same : (a : Option (List ℕ)) → Leads (λ old new. old ≡ new) a a
leads_same None = record { holds = tt }
leads_same (Some text) = record { holds = refl }

-- there is no line at all
pub first_missing : (version : ℕ) (names : List (List ℕ)) {start : Option (List ℕ)} {held : List ℕ} {known : Option (List ℕ)} → FindsLine start held known None
    → IfSome start (λ text. Faults (Syntax 1) (trace_in version names (lines text)))
first_missing version names {start} f =
    leads_fault (λ text. trace_in version names (lines text)) (Syntax 1) (λ old more here none. ap (λ l. trace_in version names (lines l)) (here ∙ none) ∙ ap (trace_in version names) lines_none) (leads_same start) f

trace_other : (version : ℕ) (names : List (List ℕ)) (l : List ℕ) (ls : List (List ℕ)) → bytes_eq l (first_line version) ≡ false → trace_in version names (l ∷ ls) ≡ Err (Syntax 1)
trace_other version names l ls h = rw h refl

trace_right : (version : ℕ) (names : List (List ℕ)) (l : List ℕ) (ls : List (List ℕ)) → bytes_eq l (first_line version) ≡ true → trace_in version names (l ∷ ls) ≡ items_of version names 0 ls
trace_right version names l ls h = rw h refl

module _ (version : ℕ) (names : List (List ℕ)) {start : Option (List ℕ)} {held : List ℕ} {known : Option (List ℕ)} {n : ℕ} (found : FindsLine start held known (Some n)) where
  first_same : (more : List ℕ) (f : IsFront held more n) → bytes_eq f.line (first_line version) ≡ bytes_eq (take n held) (first_line version)
  first_same more f = by_front held more n f found.within (λ l. bytes_eq l (first_line version)) (first_by_front version)

  -- another line is there
  pub first_other : bytes_eq (take n held) (first_line version) ≡ false → IfSome start (λ text. Faults (Syntax 1) (trace_in version names (lines text)))
  first_other h =
      leads_fault (λ text. trace_in version names (lines text)) (Syntax 1)
      (λ old more here f. ap (λ l. trace_in version names (lines l)) here ∙ (ap (trace_in version names) f.cut ∙ trace_other version names f.line f.others (first_same more f ∙ h)))
      (leads_same start) found

  module _ (h : bytes_eq (take n held) (first_line version) ≡ true) where
    pub first_few : n ≤ MOST_LINE_BYTES
    first_few =
        let few = first_short version in
        let same = (bytes_eq-Decides (take n held) (first_line version)).0 h in
        omega (arith, ap length same, length-take n held, found.within)

    first_then : (more : List ℕ) (f : IsFront held more n) → trace_in version names (lines (held ++ more)) ≡ items_of version names 0 (lines (drop (n + 1) held ++ more))
    first_then more f =
        ap (trace_in version names) f.cut
        ∙ (trace_right version names f.line f.others (first_same more f ∙ h) ∙ ap (items_of version names 0) (sym (f.whole first_few).1))

    -- the line is right
    pub first_right : {next : List ℕ} → next ≡ drop (n + 1) held → Leads (FirstRead version names) start (prepend_known next known)
    first_right {next} is =
        leads_on (FirstRead version names) next
        (λ old more here f.
        ap (λ l. trace_in version names (lines l)) here ∙ (first_then more f ∙ ap (λ l. items_of version names 0 (lines (l ++ more))) (sym is)))
        (leads_same start) found

-- ---- entries

entry_by_front : (version : ℕ) (names : List (List ℕ)) (index : ℕ) → ByFront (item_on version names index)
unfolding item_on
entry_by_front version names index l m h k same = rw (lt-ltb MOST_LINE_BYTES (length l) h, lt-ltb MOST_LINE_BYTES (length m) k) refl

-- what is said of the entries that are left, behind these
abbrev pub EntriesLeft : ℕ → List (List ℕ) → List Item → List ℕ → List ℕ → Type 0
EntriesLeft version names es old new = items_of version names 0 (lines old) ≡ and_then (items_of version names (length es) (lines new)) (λ more. Ok (es ++ more))

-- these entries stand in front
abbrev onto : List Item → Result (List Item) TraceError → Result (List Item) TraceError
onto es r = and_then r (λ more. Ok (es ++ more))

onto_later : (es : List Item) (r : Result (Unit {0}) TraceError) → onto es (and_then r (λ _. Ok [])) ≡ and_then r (λ _. Ok es)
onto_later es (Ok done) = ap (λ l. Ok l) (append-nil es)
onto_later es (Err e) = refl

onto_entry : (es : List Item) (e : Item) (r : Result (List Item) TraceError) → onto es (and_then r (λ more. Ok (e ∷ more))) ≡ onto (es ++ e ∷ []) r
onto_entry es e (Ok more) = ap (λ l. Ok l) (sym (append_assoc es (e ∷ []) more))
onto_entry es e (Err f) = refl

module _ (version : ℕ) (names : List (List ℕ)) (others : ℕ) (l : List ℕ) (ls : List (List ℕ)) where
  pub entries_later : is_later l ≡ true → items_of version names others (l ∷ ls) ≡ and_then (later_lines others 0 (l ∷ ls)) (λ _. Ok [])
  entries_later h = rw h refl

  entries_bad : (e : TraceError) → is_later l ≡ false → item_on version names (others + 1) l ≡ Err e → items_of version names others (l ∷ ls) ≡ Err e
  entries_bad e h k = rw (h, k) refl

  entries_good : (e : Item) → is_later l ≡ false → item_on version names (others + 1) l ≡ Ok e → items_of version names others (l ∷ ls) ≡ and_then (items_of version names (others + 1) ls) (λ es. Ok (e ∷ es))
  entries_good e h k = rw (h, k) refl

no_entry : (version : ℕ) (names : List (List ℕ)) (index : ℕ) (l : List ℕ) (e : Item) → MOST_LINE_BYTES < length l → item_on version names index l ≡ Ok e → ⊥
unfolding item_on
no_entry version names index l e h k = elim (nat_lt (most_items version) index) as (λ b. nat_lt (most_items version) index ≡ b → ⊥) [
  | true ↦ λ over. let bad : Err TooLong ≡ Ok e = sym (rw over refl) ∙ k in cc
  | false ↦ λ within. let bad : Err (Syntax (index + 1)) ≡ Ok e = sym (rw (within, lt-ltb MOST_LINE_BYTES (length l) h) refl) ∙ k in cc
] refl

-- an entry's line is not too long
pub entry_short : (version : ℕ) (names : List (List ℕ)) (index : ℕ) (l : List ℕ) (e : Item) → item_on version names index l ≡ Ok e → length l ≤ MOST_LINE_BYTES
entry_short version names index l e k = elim (cases_lt MOST_LINE_BYTES (length l)) [
  | inl h ↦ absurd (no_entry version names index l e h k)
  | inr h ↦ h
]

module _ (version : ℕ) (names : List (List ℕ)) (es : List Item) {start mid : Option (List ℕ)} {held : List ℕ} {known : Option (List ℕ)} (behind : Leads (EntriesLeft version names es) start mid) where
  -- nothing is left
  pub entries_end : FindsLine mid held known None → Leads (ItemsRead version names es) start (prepend_known held known)
  entries_end f =
      leads_on (ItemsRead version names es) held
      (λ old more here none.
      let is : lines (held ++ more) ≡ [] = ap lines none ∙ lines_none in
      here ∙ (rw (is, append-nil es) refl))
      behind f

  module _ {n : ℕ} (found : FindsLine mid held known (Some n)) where
    later_same : (more : List ℕ) (f : IsFront held more n) → is_later f.line ≡ is_later (take n held)
    later_same more f = by_front held more n f found.within is_later later_by_front

    -- a later line is left
    pub entries_stop : is_later (take n held) ≡ true → Leads (ItemsRead version names es) start (prepend_known held known)
    entries_stop h =
        leads_on (ItemsRead version names es) held
        (λ old more here f.
        here ∙ (ap (λ ls. onto es (items_of version names (length es) ls)) f.cut ∙ (ap (onto es) (entries_later version names (length es) f.line f.others (later_same more f ∙ h))
        ∙ (onto_later es (later_lines (length es) 0 (f.line ∷ f.others)) ∙ ap (λ ls. and_then (later_lines (length es) 0 ls) (λ _. Ok es)) (sym f.cut)))))
        behind found

    -- a line has a fault
    pub entries_fault : (e : TraceError) → is_later (take n held) ≡ false → item_on version names (length es + 1) (take n held) ≡ Err e → IfSome start (λ text. Faults e (items_of version names 0 (lines text)))
    entries_fault e h k =
        leads_fault (λ text. items_of version names 0 (lines text)) e
        (λ old more here f.
        let same = by_front held more n f found.within (item_on version names (length es + 1)) (entry_by_front version names (length es + 1)) in
        here ∙ (ap (λ ls. onto es (items_of version names (length es) ls)) f.cut ∙ ap (onto es) (entries_bad version names (length es) f.line f.others e (later_same more f ∙ h) (same ∙ k))))
        behind found

    module _ (e : Item) (h : is_later (take n held) ≡ false) (k : item_on version names (length es + 1) (take n held) ≡ Ok e) where
      short : n ≤ MOST_LINE_BYTES
      short = omega (arith, entry_short version names (length es + 1) (take n held) e k, length-take n held, found.within)

      one_more : (more : List ℕ) (f : IsFront held more n) → onto es (items_of version names (length es) (lines (held ++ more))) ≡ onto (es ++ e ∷ []) (items_of version names (length (es ++ e ∷ [])) (lines (drop (n + 1) held ++ more)))
      one_more more f =
          let whole = f.whole short in
          ap (λ ls. onto es (items_of version names (length es) ls)) (f.cut ∙ ap (λ l. l ∷ f.others) whole.0)
          ∙ (ap (onto es) (entries_good version names (length es) (take n held) f.others e h k)
          ∙ (onto_entry es e (items_of version names (length es + 1) f.others)
          ∙ (ap (λ m. onto (es ++ e ∷ []) (items_of version names m f.others)) (sym (length-append es (e ∷ [])))
          ∙ ap (λ ls. onto (es ++ e ∷ []) (items_of version names (length (es ++ e ∷ [])) ls)) (sym whole.1))))

      -- one entry more
      pub entries_more : {next : List ℕ} {all : List Item} → next ≡ drop (n + 1) held → all ≡ es ++ e ∷ [] → Leads (EntriesLeft version names all) start (prepend_known next known)
      entries_more {next} {all} is those =
          leads_on (EntriesLeft version names all) next
          (λ old more here f.
          here ∙ (one_more more f ∙ (ap (λ l. onto (es ++ e ∷ []) (items_of version names (length (es ++ e ∷ [])) (lines (l ++ more)))) (sym is)
          ∙ ap (λ xs. onto xs (items_of version names (length xs) (lines (next ++ more)))) (sym those))))
          behind found

-- ---- how many

pub entry_few : (version : ℕ) (names : List (List ℕ)) (index : ℕ) (l : List ℕ) (e : Item) → item_on version names index l ≡ Ok e → index ≤ most_items version
unfolding item_on
entry_few version names index l e k = elim (cases_lt (most_items version) index) [
  | inl h ↦ let bad : Err TooLong ≡ Ok e = sym (rw (lt-ltb (most_items version) index h) refl) ∙ k in cc
  | inr h ↦ h
]

pub one_longer : (es all : List Item) (e : Item) → all ≡ es ++ e ∷ [] → length all ≡ length es + 1
one_longer es all e h = ap length h ∙ length-append es (e ∷ [])

pub entries_fewer : (n m most : ℕ) → n + 1 ≤ most → m ≡ n + 1 → most - m < most - n
entries_fewer n m most h k = omega arith

pub entries_bounded : (version n : ℕ) → n ≤ most_items version → n ≤ MOST_ITEMS_2
entries_bounded version n h = elim (version == 1) as (λ b. n ≤ (if b then MOST_ITEMS_1 else MOST_ITEMS_2) → n ≤ MOST_ITEMS_2) [
  | true ↦ λ k. omega (arith, k)
  | false ↦ λ k. k
] h
