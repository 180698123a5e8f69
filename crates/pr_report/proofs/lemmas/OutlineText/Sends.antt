-- Outlines go out one send after another.
use Rattle.pr_report.proofs.Common.{◌≡◌, ℕ, ◌+◌, ◌<◌, ◌≤◌, Bool, List, [], ◌∷◌, ◌++◌, map, length, take, drop, Some, codes, Option, Result, sym, refl, ap, ◌∙◌, subst, append-nil, range_with_len, scenario_of, Parts, key_at, view_of, row_of, free_or_key, sends_text, registration_line, send_text, joined_by_spaces, names_in, names_of, name_of, Wrote, Puts}
use Rattle.std.specs.Bool.{OnFalse, OnTrue}
use Rattle.std.specs.Result.{is_ok}
use Rattle.std.proofs.lemmas.List.{take_at}
use Rattle.std.proofs.Common.{get_or, Ok, Err, drop_of_length-le}
use Rattle.pr_roles.specs.declared.parts.Nexus.{Nexus as NexusPart}
use Rattle.pr_sets.specs.declared.view_set.ViewSet.{Ghosts as ViewSet}
use Rattle.pr_views.specs.declared.view.ViewOf.{ViewOf}
use Rattle.pr_views.specs.Views.{View}
use Rattle.pr_views.specs.declared.table.Row.{Row as KeptRow}
use Rattle.pr_views.specs.Tables.{Table}
use Rattle.pr_report.specs.OutlineText.{free_or_keys, outlines_text}
use Rattle.pr_report.proofs.lemmas.WordsWritten.Possibilities.{line_pieces, shown}
use Rattle.pr_trace.proofs.lemmas.TraceText.Lines.{drop_here, names_of_scenario}

-- the line of a send, and what its view is for this host
abbrev pub line_and_view : {S : Type 0} {sets : ViewSet S} → ℕ → ℕ × ViewOf S sets → ℕ × View
line_and_view host e = (e.0, view_of host e.1)

-- ---- the line of a host's or guest's registrations

-- the words of those that are possible
abbrev pub keys_of : View → ℕ → List ℕ
keys_of v g = shown (λ r. free_or_key (key_at v.scope.keys r)) (v.registrations g) (range_with_len 0 (length v.scope.keys + 1))

-- the pieces in which it goes out
pub registration_pieces : (names : List (List ℕ)) (v : View) (g : ℕ) (name : List ℕ) → name ≡ name_of names g
    → registration_line names v g ≡ codes " " ++ (joined_by_spaces (codes "registration" ∷ name ∷ []) ++ (keys_of v g ++ 10 ∷ []))
unfolding registration_line
registration_pieces names v g name called =
    line_pieces (codes " ") (codes "registration" ∷ name_of names g ∷ []) (free_or_keys v.scope.keys (v.registrations g))
    ∙ ap (λ n. codes " " ++ (joined_by_spaces (codes "registration" ∷ n ∷ []) ++ (keys_of v g ++ 10 ∷ []))) (sym called)

-- ---- sends

sends_here : {S : Type 0} {sets : ViewSet S} (names : List (List ℕ)) (host : ℕ) (vs : List (ℕ × ViewOf S sets)) (rs : List KeptRow) (i : ℕ) (v : ℕ × ViewOf S sets) (r : KeptRow)
    → i < length vs → v ≡ get_or vs i v → i < length rs → r ≡ get_or rs i r
    → sends_text names (map (line_and_view host) (drop i vs)) (map row_of (drop i rs))
    ≡ send_text names v.0 (line_and_view host v).1 (row_of r) ++ sends_text names (map (line_and_view host) (drop (i + 1) vs)) (map row_of (drop (i + 1) rs))
sends_here names host vs rs i v r h is k has =
    ap (λ l. sends_text names (map (line_and_view host) l) (map row_of (drop i rs))) (drop_here vs i v h is)
    ∙ ap (λ l. sends_text names (map (line_and_view host) (v ∷ drop (i + 1) vs)) (map row_of l)) (drop_here rs i r k has)

-- the same, where the rows were read out
module _ {S : Type 0} {sets : ViewSet S} (names : List (List ℕ)) (host : ℕ) (vs : List (ℕ × ViewOf S sets)) (rs read : List KeptRow) (i : ℕ) (v : ℕ × ViewOf S sets) (r : KeptRow)
    (same : read ≡ rs) (each : length rs ≡ length vs) (there : i < length read) (is : v ≡ get_or vs i v) (has : r ≡ get_or read i r) where
  row_there : i < length rs
  row_there = subst (λ l. i < length l) same there

  pub next_send : sends_text names (map (line_and_view host) (drop i vs)) (map row_of (drop i rs))
      ≡ send_text names v.0 (line_and_view host v).1 (row_of r) ++ sends_text names (map (line_and_view host) (drop (i + 1) vs)) (map row_of (drop (i + 1) rs))
  next_send = sends_here names host vs rs i v r (subst (λ n. i < n) each row_there) is row_there (has ∙ ap (λ l. get_or l i r) same)

no_sends : (names : List (List ℕ)) (views : List (ℕ × View)) → sends_text names views [] ≡ []
no_sends names [] = refl
no_sends names (view ∷ views) = refl

pub sends_end : {S : Type 0} {sets : ViewSet S} (old new : Option (List ℕ)) (text held : List ℕ) (names : List (List ℕ)) (host : ℕ) (vs : List (ℕ × ViewOf S sets)) (rs : List KeptRow) (i : ℕ) → length rs ≤ i
    → Wrote old new text (held ++ sends_text names (map (line_and_view host) (drop i vs)) (map row_of (drop i rs))) → Wrote old new text held
sends_end old new text held names host vs rs i h w =
    subst (λ l. Wrote old new text l)
    (ap (λ l. held ++ sends_text names (map (line_and_view host) (drop i vs)) (map row_of l)) (drop_of_length-le rs {i = i} h)
    ∙ (ap (λ l. held ++ l) (no_sends names (map (line_and_view host) (drop i vs))) ∙ append-nil held)) w

-- ---- a page

-- a text that found no room leaves the page as it was, once that is cut again
pub page_kept : {E : Type 0} (old new cut text : List ℕ) (n : ℕ) (r : Result (Unit {0}) E) (b : Bool) → Puts (Some old) (Some new) text r → b ≡ is_ok r → n ≡ length old → cut ≡ take n new
    → OnFalse b (cut ≡ old)
page_kept old new cut text n (Ok done) b p e is at = subst (λ x. OnFalse x (cut ≡ old)) (sym e) tt
page_kept old new cut text n (Err fault) b p e is at =
    subst (λ x. OnFalse x (cut ≡ old)) (sym e)
    (at ∙ (ap (λ k. take k new) is ∙ (ap (λ l. take (length old) l) p.wrote.appended ∙ take_at old p.wrote.front (length old) refl)))

pub page_grown : {E : Type 0} (old new : List ℕ) (text : ℕ → List ℕ) (r : Result (Unit {0}) E) (b : Bool) → ((own : ℕ) → Puts (Some old) (Some new) (text own) r) → b ≡ is_ok r
    → OnTrue b ((own : ℕ) → new ≡ old ++ text own)
page_grown old new text (Ok done) b p e = subst (λ x. OnTrue x ((own : ℕ) → new ≡ old ++ text own)) (sym e) p
page_grown old new text (Err fault) b p e = subst (λ x. OnTrue x ((own : ℕ) → new ≡ old ++ text own)) (sym e) tt

-- ---- the whole

-- the text of a scenario's outlines, whose names were read out
pub outlines_of_parts : {E : Type 0} (old new : Option (List ℕ)) (p q : Parts) (nexuses : List NexusPart) (tables : List Table) (r : Result (Unit {0}) E)
    → q ≡ p → nexuses ≡ q.nexuses.items → Puts old new (outlines_text (names_of nexuses) tables) r
    → Puts old new (outlines_text (names_in (scenario_of p)) tables) r
outlines_of_parts old new p q nexuses tables r same items puts =
    subst (λ names. Puts old new (outlines_text names tables) r) (ap names_of (items ∙ ap (λ o. o.nexuses.items) same) ∙ names_of_scenario p) puts
