-- What is written fits, and the first fault decides.
use Rattle.pr_text.proofs.Common.{◌≡◌, ℕ, ◌+◌, Bool, true, false, cond, List, [], ◌∷◌, ◌++◌, length, is_some, Some, None, Ok, Err, Option, Result, sym, refl, ap, ◌∙◌, subst, lines, Fits, Scenario, Declared, nothing, and_then, unless, IsDeclaredBy, all_placed, starts_somewhere, end_placed, answer_of, ReadError, missing_fault, IsDated, IsSound}
use Rattle.std.specs.Prelude.{nat_lt, not, ◌&&◌}
use Rattle.std.specs.List.{slice_get}
use Rattle.std.specs.Option.{option_map_or}
use Rattle.pr_roles.specs.Laws.{NobodyShares}
use Rattle.pr_roles.specs.Starts.{CanStart}
use Rattle.pr_text.specs.Declarations.{Declaration}
use Rattle.pr_text.specs.Reading.{is_shared_path}
use Rattle.pr_roles.proofs.lemmas.Starts.Reservations.{starts_are_found}
use Rattle.pr_text.specs.declared.fault.ReadError.TheVariants.{EmptyStart}
use Rattle.pr_text.specs.Texts.{line_placed, answer_of_lines}
use Rattle.pr_text.specs.inside.Endings.{start_result}
use Rattle.pr_text.proofs.lemmas.Endings.Faults.{ended_in_turn}
use Rattle.pr_text.specs.Laws.{WhatIsWrittenFits, FirstFaultDecides, EarlierTextsShareNoPath}
use Rattle.pr_text.proofs.lemmas.Texts.Readings.{start_same}
use Rattle.pr_text.proofs.lemmas.Sound.FittingParts.{declared_fits}
use Rattle.pr_text.proofs.lemmas.Sound.Texts.{passed, read_sound}

-- ---- the first fault

behind : (r : Result Declared ReadError) (f g : Declared → Result Declared ReadError) (e : ReadError)
    → ((d : Declared) → f d ≡ Err e → g d ≡ Err e) → and_then r f ≡ Err e → and_then r g ≡ Err e
behind (Ok d) f g e later h = later d h
behind (Err x) f g e later h = h

decided : (ls more : List (List ℕ)) (n : ℕ) (d : Declared) (e : ReadError) → all_placed n ls d ≡ Err e → all_placed n (ls ++ more) d ≡ Err e
decided [] more n d e h = cc
decided (l ∷ ls) more n d e h =
    behind (line_placed (n + 1) l d) (λ x. all_placed (n + 1) ls x) (λ x. all_placed (n + 1) (ls ++ more) x) e (λ x p. decided ls more (n + 1) x e p) h

pub first_fault_decides : FirstFaultDecides
unfolding answer_of_lines
first_fault_decides ls more e h = ap (λ r. and_then r (end_placed (length (ls ++ more)))) (decided ls more 0 nothing e h)

-- ---- what is written

-- the lines declare this, and it ends well
record IsFinished (r : Result Declared ReadError) (n : ℕ) (e : Declared) : Type 0 where
  declared : Declared
  placed : r ≡ Ok declared
  ends : end_placed n declared ≡ Ok e

finished_by : (r : Result Declared ReadError) (n : ℕ) (e : Declared) → and_then r (end_placed n) ≡ Ok e → IsFinished r n e
finished_by (Ok d) n e h = record { declared = d; placed = refl; ends = h }
finished_by (Err x) n e h = cc

answer_finished : (text : List ℕ) (d : Declared) → answer_of text ≡ Ok d → IsFinished (all_placed 0 (lines text) nothing) (length (lines text)) d
unfolding answer_of answer_of_lines
answer_finished text d h = finished_by _ _ _ (passed _ _ _ _ h)

record EndsWell (o : Option ReadError) (d e : Declared) : Type 0 where
  faultless : o ≡ None
  starting : starts_somewhere d ≡ true
  same : d ≡ e

started_by : (b : Bool) (d e : Declared) → cond b (Ok d) (Err EmptyStart) ≡ Ok e → (b ≡ true) × (d ≡ e)
started_by true d e h = (refl, cc)
started_by false d e h = cc

ends_by : (o : Option ReadError) (d e : Declared) → and_then (unless o d) start_result ≡ Ok e → EndsWell o d e
ends_by None d e h =
    let s = started_by (starts_somewhere d) d e h in
    record { faultless = refl; starting = s.0; same = s.1 }
ends_by (Some x) d e h = cc

ends_well : (n : ℕ) (d e : Declared) → end_placed n d ≡ Ok e → EndsWell (missing_fault n d) d e
ends_well n d e h = ends_by (missing_fault n d) d e (sym (ended_in_turn n d) ∙ h)

can_start : (d : Declared) (s : Scenario) → IsDeclaredBy d s → Fits s → starts_somewhere d ≡ true → CanStart s
can_start d s kept fits h = (starts_are_found s fits).0 (ap (λ o. is_some o) (start_same d s kept) ∙ h)

pub what_is_written_fits : WhatIsWrittenFits
what_is_written_fits text s is =
    let f = answer_finished text is.declared is.faultless in
    let well = ends_well (length (lines text)) f.declared is.declared f.ends in
    let sound : IsSound (length (lines text)) f.declared × IsDated f.declared = read_sound text (length (lines text)) f.declared (record { placed = f.placed; counted = refl }) in
    let kept : IsDeclaredBy f.declared s = subst (λ d. IsDeclaredBy d s) (sym well.same) is.kept in
    let fits = declared_fits (length (lines text)) f.declared s sound.0 sound.1 well.faultless kept in
    (fits, can_start f.declared s kept fits well.starting)

-- ---- before version 3

unshared : (version : ℕ) (o : Option Declaration) → nat_lt 2 version ≡ false → option_map_or (is_shared_path version) o false ≡ false
unshared version None old = refl
unshared version (Some x) old = ap (λ b. b && (not x.is_guest && not x.alone)) old

earlier_alone : (d : Declared) (s : Scenario) → IsDeclaredBy d s → nat_lt 2 s.version ≡ false → NobodyShares s × (s.early ≡ false)
earlier_alone d s kept old =
    let before : nat_lt 2 d.version ≡ false = ap (nat_lt 2) (sym kept.version) ∙ old in
    ((λ h. kept.paths h ∙ unshared d.version (slice_get d.nexuses h) before), kept.order ∙ ap (λ b. b && not d.in_order) before)

pub earlier_texts_share_no_path : EarlierTextsShareNoPath
earlier_texts_share_no_path text s is old = earlier_alone is.declared s is.kept old
