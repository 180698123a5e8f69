-- The line in front of what is left, of which only some is at hand.
use Rattle.pr_trace.proofs.Common.{◌≡◌, ℕ, suc, ◌+◌, ◌<◌, ◌≤◌, Bool, true, false, List, [], ◌∷◌, ◌++◌, length, get_or, take, drop, IfSome, if◌then◌else◌, nat_lt, ◌==◌, Some, None, All, Option, position, sym, refl, ap, ◌∙◌, subst, append_assoc, append-nil, arith, length-append, length-take, ne_eqb, prepend_known, Keeps, slice_split, nat_tests, length-slice_split, lines, MOST_LINE_BYTES}
use Rattle.std.proofs.Common.{get_or-take, take-append-drop}
use Rattle.std.specs.Option.{option_or}
use Rattle.std.specs.List.{onto_first}
use Rattle.std.specs.Io.KnownBytes.{IsAtEnd}
use Rattle.std.proofs.lemmas.List.{take_all, take_at, drop_all, drop_more}
use Rattle.std.proofs.lemmas.List.Quantifiers.{position-Some}
use Rattle.std.proofs.lemmas.List.Splits.{slice_split_at, slice_split-cons_no}
use Rattle.pr_trace.specs.TraceReadings.{lines_of_parts}
use Rattle.pr_trace.specs.inside.LinesAhead.{FindsLine, IsFront, StandsInFront, line_end}
use Rattle.pr_trace.proofs.lemmas.TraceReadings.Cuts.{none_passes, missing_at}

abbrev is_end : ℕ → Bool
is_end b = b == 10

pub lines_more : (part : List ℕ) (parts : List (List ℕ)) → 0 < length parts → lines_of_parts (part ∷ parts) ≡ part ∷ lines_of_parts parts
lines_more part [] h = absurd (omega arith)
lines_more part (next ∷ parts) h = refl

parts_some : (text : List ℕ) → 0 < length (slice_split is_end text)
parts_some text = omega (arith, length-slice_split is_end text)

-- ---- the line ends at hand

is_feed : (b : ℕ) → is_end b ≡ true → b ≡ 10
is_feed b h = grind (arith, nat_tests)

cut_at : (held : List ℕ) (n : ℕ) → position is_end held ≡ Some n → held ≡ take n held ++ 10 ∷ drop (n + 1) held
cut_at held n found =
    let at = position-Some is_end held n 0 found in
    sym (take-append-drop n held) ∙ ap (λ l. take n held ++ l) (drop_more held n 0 at.0 ∙ ap (λ b. b ∷ drop (n + 1) held) (is_feed (get_or held n 0) at.1))

none_before : (held : List ℕ) (n : ℕ) → position is_end held ≡ Some n → All (λ b. is_end b ≡ false) (take n held)
none_before held n found k d below =
    let at = position-Some is_end held n d found in
    let here : k < n = omega (arith, length-take n held) in
    rw get_or-take (at.2 k here)

front_ends : (held more : List ℕ) (n : ℕ) → position is_end held ≡ Some n → lines (held ++ more) ≡ take n held ∷ lines (drop (n + 1) held ++ more)
unfolding lines
front_ends held more n found =
    let whole : held ++ more ≡ take n held ++ (10 ∷ (drop (n + 1) held ++ more)) =
    ap (λ l. l ++ more) (cut_at held n found) ∙ append_assoc (take n held) (10 ∷ drop (n + 1) held) more in
    ap (λ l. lines_of_parts (slice_split is_end l)) whole
    ∙ (ap lines_of_parts (slice_split_at is_end (take n held) 10 (drop (n + 1) held ++ more) (none_before held n found) refl)
    ∙ lines_more (take n held) (slice_split is_end (drop (n + 1) held ++ more)) (parts_some (drop (n + 1) held ++ more)))

-- ---- the line does not end at hand

-- what is at hand is put before the first part
abbrev put_before : List ℕ → List (List ℕ) → List (List ℕ)
put_before held [] = held ∷ []
put_before held (part ∷ parts) = (held ++ part) ∷ parts

put_one : (b : ℕ) (held : List ℕ) (parts : List (List ℕ)) → onto_first b (put_before held parts) ≡ put_before (b ∷ held) parts
put_one b held [] = refl
put_one b held (part ∷ parts) = refl

put_none : (parts : List (List ℕ)) → 0 < length parts → parts ≡ put_before [] parts
put_none [] h = absurd (omega arith)
put_none (part ∷ parts) h = refl

-- no byte of a list passes, by recursion
abbrev NoEnd : List ℕ → Type 0
NoEnd [] = Unit {0}
NoEnd (b ∷ bs) = (is_end b ≡ false) × NoEnd bs

no_end : (held : List ℕ) → All (λ b. is_end b ≡ false) held → NoEnd held
no_end [] h = tt
no_end (b ∷ bs) h = (h 0 0 (omega arith), no_end bs (λ k d below. h (suc k) d (omega arith)))

parts_before : (held more : List ℕ) → NoEnd held → slice_split is_end (held ++ more) ≡ put_before held (slice_split is_end more)
parts_before [] more h = put_none (slice_split is_end more) (parts_some more)
parts_before (b ∷ bs) more h =
    slice_split-cons_no is_end b (bs ++ more) h.0 ∙ (ap (onto_first b) (parts_before bs more h.1) ∙ put_one b bs (slice_split is_end more))

-- the line in front is what is at hand and more
pub record Longer (held more : List ℕ) : Type 0 where
  pub rest : List ℕ
  pub others : List (List ℕ)
  pub cut : lines (held ++ more) ≡ (held ++ rest) ∷ others

some_line : (part : List ℕ) (parts : List (List ℕ)) → 0 < length part → (others : List (List ℕ)) × (lines_of_parts (part ∷ parts) ≡ part ∷ others)
some_line part [] h = ([], rw (ne_eqb (length part) 0 (λ e. omega arith)) refl)
some_line part (next ∷ parts) h = (lines_of_parts (next ∷ parts), refl)

longer_by : (held more : List ℕ) (parts : List (List ℕ)) → 0 < length held → lines (held ++ more) ≡ lines_of_parts (put_before held parts) → Longer held more
longer_by held more [] h e =
    let found = some_line held [] h in
    record { rest = []; others = found.0; cut = e ∙ (found.1 ∙ ap (λ l. l ∷ found.0) (sym (append-nil held))) }
longer_by held more (part ∷ parts) h e =
    let found = some_line (held ++ part) parts (omega (arith, length-append held part)) in
    record { rest = part; others = found.0; cut = e ∙ found.1 }

longer : (held more : List ℕ) → position is_end held ≡ None → 0 < length held → Longer held more
unfolding lines
longer held more missing h =
    longer_by held more (slice_split is_end more) h
    (ap lines_of_parts (parts_before held more (no_end held (none_passes is_end held (missing_at _ _ missing)))))

-- ---- together

front_found : (held more : List ℕ) (n : ℕ) → position is_end held ≡ Some n → IsFront held more n
front_found held more n found = record {
  line = take n held;
  others = lines (drop (n + 1) held ++ more);
  cut = front_ends held more n found;
  shown = sym (take_all n (take n held) (omega (arith, length-take n held)));
  whole = λ short. (refl, refl);
}

front_long : (held more : List ℕ) → position is_end held ≡ None → MOST_LINE_BYTES < length held → IsFront held more (length held)
front_long held more missing h =
    let l = longer held more missing (omega arith) in
    record {
      line = held ++ l.rest;
      others = l.others;
      cut = l.cut;
      shown = take_all (length held) held (omega arith) ∙ sym (take_at held l.rest (length held) refl);
      whole = λ short. absurd (omega arith);
    }

grown : (m n : ℕ) → (if nat_lt MOST_LINE_BYTES m then Some m else None) ≡ Some n → (m ≡ n) × (MOST_LINE_BYTES < m)
grown m n e = grind (arith, nat_tests)

end_by : (held more : List ℕ) (n : ℕ) (o : Option ℕ) → position is_end held ≡ o → option_or o (if nat_lt MOST_LINE_BYTES (length held) then Some (length held) else None) ≡ Some n → IsFront held more n
end_by held more n (Some i) found e = let same : i ≡ n = cc in subst (λ k. IsFront held more k) same (front_found held more i found)
end_by held more n None missing e =
    let at = grown (length held) n e in
    subst (λ k. IsFront held more k) at.0 (front_long held more missing at.1)

front_at_hand : (held : List ℕ) (known : Option (List ℕ)) (n : ℕ) → line_end held ≡ Some n → IfSome known (λ more. StandsInFront held more (Some n))
front_at_hand held None n e = tt
front_at_hand held (Some more) n e = end_by held more n (position is_end held) refl e

no_end_at_hand : (held : List ℕ) (o : Option ℕ) → position is_end held ≡ o → option_or o (if nat_lt MOST_LINE_BYTES (length held) then Some (length held) else None) ≡ None → position is_end held ≡ None
no_end_at_hand held (Some i) found e = cc
no_end_at_hand held None missing e = missing

last_line : (held : List ℕ) → position is_end held ≡ None → 0 < length held → lines (held ++ []) ≡ held ∷ []
unfolding lines
last_line held missing h =
    ap lines_of_parts (parts_before held [] (no_end held (none_passes is_end held (missing_at _ _ missing))))
    ∙ (rw (append-nil held, ne_eqb (length held) 0 (λ e. omega arith)) refl)

front_last : (held : List ℕ) → position is_end held ≡ None → 0 < length held → IsFront held [] (length held)
unfolding lines
front_last held missing h = record {
  line = held;
  others = [];
  cut = last_line held missing h;
  shown = refl;
  whole = λ short. (sym (take_all (length held) held (omega arith)), ap (λ l. lines (l ++ [])) (drop_all (length held + 1) held (omega arith)));
}

front_at_end : (old held : List ℕ) (known : Option (List ℕ)) → line_end old ≡ None → held ≡ old → IsAtEnd known → 0 < length held
    → IfSome known (λ more. StandsInFront held more (Some (length held)))
front_at_end old held None e same end h = tt
front_at_end old held (Some more) e same end h =
    let missing : position is_end held ≡ None = ap (position is_end) same ∙ no_end_at_hand old (position is_end old) refl e in
    subst (λ m. IsFront held m (length held)) (sym end) (front_last held missing h)

within : (held : List ℕ) (n : ℕ) (o : Option ℕ) → position is_end held ≡ o → option_or o (if nat_lt MOST_LINE_BYTES (length held) then Some (length held) else None) ≡ Some n → n ≤ length held
within held n (Some i) found e =
    let same : i ≡ n = cc in
    let at = (position-Some is_end held i 0 found).0 in omega arith
within held n None missing e = let at = (grown (length held) n e).0 in omega arith

-- the line's end, or more than a line may have, is at hand
pub finds_at_hand : {start known : Option (List ℕ)} {held : List ℕ} (n : ℕ) → Keeps start (prepend_known held known) → line_end held ≡ Some n → FindsLine start held known (Some n)
finds_at_hand {start} {known} {held} n kept e = record { kept = kept; within = within held n (position is_end held) refl e; front = front_at_hand held known n e }

-- nothing comes after what is at hand
pub finds_at_end : {start known : Option (List ℕ)} {old held : List ℕ} → Keeps start (prepend_known held known) → line_end old ≡ None → held ≡ old → IsAtEnd known → 0 < length held
    → FindsLine start held known (Some (length held))
finds_at_end {start} {known} {old} {held} kept e same end h = record { kept = kept; within = omega arith; front = front_at_end old held known e same end h }
