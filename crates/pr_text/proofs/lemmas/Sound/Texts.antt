-- What lines declare is sound.
use Rattle.pr_text.proofs.Common.{◌≡◌, ℕ, ◌+◌, Bool, true, false, cond, not, List, [], ◌∷◌, length, IfSome, nat_lt, Some, None, Ok, Err, Option, Result, sym, refl, subst, arith, option_map_or, lines, ScenarioLine, is_item, Declared, nothing, Context, in_script, in_plan, declared_keys, and_then, item_placed, all_placed, ReadError, IsDated, IsSound, IsPlace}
use Rattle.pr_text.specs.declared.fault.ReadError.TheVariants.{NotAscii, LineTooLong}
use Rattle.pr_text.specs.declared.fault.ReadError.TheVariants as fault
use Rattle.pr_lines.specs.TextLines.{is_text, words}
use Rattle.pr_lines.specs.ScenarioLines.{item_of}
use Rattle.pr_text.specs.Texts.{line_placed, words_placed}
use Rattle.pr_text.specs.inside.Steps.{AreRead}
use Rattle.pr_lines.proofs.lemmas.ScenarioLines.Terms.{item_sound}
use Rattle.pr_text.specs.declared.text.TheConstants.{MOST_LINE_BYTES}
use Rattle.pr_text.proofs.lemmas.Sound.Scripts.{later_begun}
use Rattle.pr_text.proofs.lemmas.Sound.Places.{placed_sound}
use Rattle.pr_text.proofs.lemmas.Standing.Versions.{placed_dated}

-- keeps the limits, and is what the version has
abbrev Sound : ℕ → Declared → Type 0
Sound n d = IsSound n d × IsDated d

-- ---- one line

later_place : (keys : List ℕ) (n : ℕ) (p : Context) → IsPlace keys n p → IsPlace keys (n + 1) p
later_place keys n (in_script o) h = later_begun keys n o h
later_place keys n (in_plan g commands) h = h
later_place keys n _ h = tt

later : (n : ℕ) (d : Declared) → IsSound n d → IsSound (n + 1) d
later n d h = record {
  keys = h.keys;
  reservations = h.reservations;
  apart = h.apart;
  each = h.each;
  place = later_place (declared_keys d) n d.place h.place;
}

pub passed : {A : Type 0} (b : Bool) (e : ReadError) (r : Result A ReadError) (a : A) → cond b (Err e) r ≡ Ok a → r ≡ Ok a
passed true e r a h = cc
passed false e r a h = h

said_sound : (n : ℕ) (o : Option ScenarioLine) (d e : Declared) → Sound n d → IfSome o (λ i. is_item i ≡ true) → option_map_or (λ item. item_placed (n + 1) item d) o (Err (fault.Syntax (n + 1))) ≡ Ok e → Sound (n + 1) e
said_sound n None d e h i r = cc
said_sound n (Some item) d e h i r = (placed_sound n item d e h.0 i r, placed_dated (n + 1) item d e h.1 i r)

worded_sound : (n : ℕ) (ws : List (List ℕ)) (d e : Declared) → Sound n d → words_placed (n + 1) ws d ≡ Ok e → Sound (n + 1) e
worded_sound n [] d e h r = let same : d ≡ e = cc in subst (Sound (n + 1)) same (later n d h.0, h.1)
worded_sound n (w ∷ ws) d e h r = said_sound n (item_of w ws) d e h (item_sound w ws) r

line_sound : (n : ℕ) (line : List ℕ) (d e : Declared) → Sound n d → line_placed (n + 1) line d ≡ Ok e → Sound (n + 1) e
unfolding line_placed
line_sound n line d e h r =
    let ascii = passed (not (is_text line)) (NotAscii (n + 1)) (cond (nat_lt MOST_LINE_BYTES (length line)) (Err (LineTooLong (n + 1))) (words_placed (n + 1) (words line) d)) e r in
    let short = passed (nat_lt MOST_LINE_BYTES (length line)) (LineTooLong (n + 1)) (words_placed (n + 1) (words line) d) e ascii in
    worded_sound n (words line) d e h short

-- ---- all lines

rest_sound : (n : ℕ) (ls : List (List ℕ)) (d e : Declared) (r : Result Declared ReadError) → ((m : ℕ) (f : Declared) → Sound m f → all_placed m ls f ≡ Ok e → Sound (m + length ls) e)
    → ((f : Declared) → r ≡ Ok f → Sound (n + 1) f) → and_then r (λ f. all_placed (n + 1) ls f) ≡ Ok e → Sound (n + 1 + length ls) e
rest_sound n ls d e (Ok f) later line h = later (n + 1) f (line f refl) h
rest_sound n ls d e (Err x) later line h = cc

all_sound : (ls : List (List ℕ)) (n : ℕ) (d e : Declared) → Sound n d → all_placed n ls d ≡ Ok e → Sound (n + length ls) e
all_sound [] n d e h r = let same : d ≡ e = cc in subst (λ m. Sound m e) (omega arith) (subst (Sound n) same h)
all_sound (l ∷ ls) n d e h r =
    let done = rest_sound n ls d e (line_placed (n + 1) l d) (λ m f s p. all_sound ls m f e s p) (λ f p. line_sound n l d f h p) r in
    subst (λ m. Sound m e) (omega arith) done

nothing_sound : IsSound 0 nothing
nothing_sound = record {
  keys = record { each = λ k x below. absurd (omega arith); once = refl };
  reservations = refl;
  apart = refl;
  each = tt;
  place = tt;
}

nothing_dated : IsDated nothing
nothing_dated = record { version = refl; resets = refl; few = refl; each = refl; place = (refl, refl) }

pub read_sound : (text : List ℕ) (n : ℕ) (d : Declared) → AreRead text n d → IsSound n d × IsDated d
read_sound text n d read =
    subst (λ m. Sound m d) (sym read.counted) (subst (λ m. Sound m d) (omega arith) (all_sound (lines text) 0 nothing d (nothing_sound, nothing_dated) read.placed))
