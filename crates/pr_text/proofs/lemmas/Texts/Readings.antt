-- What a text answers, from what its lines declare.
use Rattle.pr_text.proofs.Common.{◌≡◌, ℕ, ◌^◌, ◌<◌, ◌≤◌, true, false, List, map, length, is_some, IfOk, IfErr, nat_lt, Some, None, Ok, Err, Option, Result, sym, refl, ap, ◌∙◌, arith, lines, nat_tests, Held, Fits, Scenario, first_under, Declared, nothing, and_then, Fails, nexus_written, nexus_declared, IsDeclaredBy, IsWrittenAs, all_placed, start_of, starts_somewhere, end_placed, answer_of, ReadError, missing_fault}
use Rattle.std.proofs.lemmas.Simd.{map-map}
use Rattle.pr_roles.specs.Starts.{CanStart}
use Rattle.pr_roles.specs.FirstStarts.{starts}
use Rattle.pr_roles.proofs.lemmas.Starts.AllowedStarts.{start_found, first_allowed}
use Rattle.pr_text.specs.declared.fault.ReadError.TheVariants.{TooLarge, EmptyStart}
use Rattle.pr_text.specs.Texts.{answer_of_lines, reservations_of}
use Rattle.pr_text.specs.ScenarioRoundTrip.{IsWhole}
use Rattle.pr_text.specs.inside.Steps.{AreRead}
use Rattle.pr_text.specs.declared.text.TheConstants.{MOST_BYTES}
use Rattle.pr_text.specs.declared.diagnosis.Diagnosis.{Diagnosis}
use Rattle.pr_text.proofs.lemmas.Endings.Faults.{ended_in_turn}
use Rattle.pr_text.proofs.lemmas.Steps.Failures.{fails_same, fails_first}

-- ---- the whole text

is_small : (n : ℕ) → n ≤ MOST_BYTES → nat_lt MOST_BYTES n ≡ false
is_small n h = grind (arith, nat_tests)

is_large : (n : ℕ) → MOST_BYTES < n → nat_lt MOST_BYTES n ≡ true
is_large n h = grind (arith, nat_tests)

pub too_large : (text : List ℕ) → MOST_BYTES < length text → answer_of text ≡ Err TooLarge
unfolding answer_of
too_large text h = rw (is_large (length text) h) refl

answer_small : (text : List ℕ) → length text ≤ MOST_BYTES → answer_of text ≡ answer_of_lines (lines text)
unfolding answer_of
answer_small text h = rw (is_small (length text) h) refl

answer_first : (text : List ℕ) → length text ≤ MOST_BYTES → answer_of text ≡ and_then (all_placed 0 (lines text) nothing) (end_placed (length (lines text)))
unfolding answer_of_lines
answer_first text h = answer_small text h

answer_read : (text : List ℕ) (n : ℕ) (d : Declared) → length text ≤ MOST_BYTES → AreRead text n d → answer_of text ≡ end_placed n d
answer_read text n d h read =
    answer_first text h ∙ (ap (λ r. and_then r (end_placed (length (lines text)))) read.placed ∙ ap (λ m. end_placed m d) (sym read.counted))

pub fails_early : (text : List ℕ) (e : ReadError) → length text ≤ MOST_BYTES → Fails e (all_placed 0 (lines text) nothing) → Fails e (answer_of text)
fails_early text e h fails = rw (answer_first text h) (fails_first e (all_placed 0 (lines text) nothing) (end_placed (length (lines text))) fails)

pub told_late : {A : Type 0} (text : List ℕ) (n : ℕ) (d : Declared) (r : Result A Diagnosis) → length text ≤ MOST_BYTES → AreRead text n d
    → IfErr r (λ e. Fails e.error (end_placed n d)) → IfErr r (λ e. Fails e.error (answer_of text))
told_late text n d (Ok a) h read fails = tt
told_late text n d (Err e) h read fails = rw (answer_read text n d h read) fails

pub written : (text : List ℕ) (n : ℕ) (d : Declared) (s : Scenario) → length text ≤ MOST_BYTES → AreRead text n d → IsWhole n d s → IsWrittenAs text s
written text n d s h read whole = record { declared = d; faultless = answer_read text n d h read ∙ whole.faultless; kept = whole.kept }

pub written_ok : {A E : Type 0} (view : A → Scenario) (text : List ℕ) (n : ℕ) (d : Declared) (r : Result A E) → length text ≤ MOST_BYTES → AreRead text n d
    → IfOk r (λ a. IsWhole n d (view a)) → IfOk r (λ a. IsWrittenAs text (view a))
written_ok view text n d (Ok a) h read whole = written text n d (view a) h read whole
written_ok view text n d (Err e) h read whole = tt

-- ---- the start

starts_declared : (d : Declared) (s : Scenario) → IsDeclaredBy d s → starts s ≡ map start_of d.nexuses
starts_declared d s kept =
    sym (map-map (λ w. w.start) nexus_written s.nexuses)
    ∙ (ap (map (λ w. w.start)) kept.nexuses ∙ map-map (λ w. w.start) nexus_declared d.nexuses)

pub start_same : (d : Declared) (s : Scenario) → IsDeclaredBy d s → first_under (starts s) s.reservations ≡ first_under (map start_of d.nexuses) (reservations_of d)
start_same d s kept = ap (λ xs. first_under xs s.reservations) (starts_declared d s kept) ∙ ap (first_under (map start_of d.nexuses)) kept.reservations

start_there : (d : Declared) (s : Scenario) → IsDeclaredBy d s → CanStart s → starts_somewhere d ≡ true
start_there d s kept can = ap (λ o. is_some o) (sym (start_same d s kept)) ∙ start_found s can

pub whole : (n : ℕ) (d : Declared) (s : Scenario) → missing_fault n d ≡ None → IsDeclaredBy d s → CanStart s → IsWhole n d s
whole n d s faultless kept can = record { faultless = ended_in_turn n d ∙ rw (faultless, start_there d s kept can) refl; kept = kept }

found_none : (s : Scenario) → Fits s → s.generation < 2 ^ 32 → (CanStart s → ⊥) → (o : Option (Option Held × List (Option ℕ)))
    → first_under (starts s) s.reservations ≡ o → is_some o ≡ false
found_none s fits generation cannot None is = refl
found_none s fits generation cannot (Some first) is =
    absurd (cannot (record { unit = _; allowed = (first_allowed s first.0 first.1 fits generation is).1 }))

pub empty : (n : ℕ) (d : Declared) (s : Scenario) → missing_fault n d ≡ None → IsDeclaredBy d s → Fits s → s.generation < 2 ^ 32 → (CanStart s → ⊥) → end_placed n d ≡ Err EmptyStart
empty n d s faultless kept fits generation cannot =
    let nowhere : starts_somewhere d ≡ false =
    ap (λ o. is_some o) (sym (start_same d s kept)) ∙ found_none s fits generation cannot (first_under (starts s) s.reservations) refl in
    ended_in_turn n d ∙ rw (faultless, nowhere) refl

pub fails_end : (n : ℕ) (d : Declared) (e : ReadError) → missing_fault n d ≡ Some e → Fails e (end_placed n d)
fails_end n d e faulty = rw (ended_in_turn n d) (rw faulty (fails_same Declared e))
