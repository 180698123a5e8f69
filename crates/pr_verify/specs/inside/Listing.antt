-- The places of a script, as the code lists them.
use Rattle.std.specs.Prelude.{◌≡◌, ℕ, ◌≤◌, ◌++◌, true, IsTrue, List, length, map, Vec}
use Rattle.std.specs.Global.{Global}
use Rattle.std.specs.List.{All}
use Rattle.pr_cdb.specs.Ranges.{Fits}
use Rattle.pr_script.specs.declared.limits.TheConstants.{MOST_ARMS}
use Rattle.pr_script.specs.Grammar.{is_written, test_fits}
use Rattle.pr_verify.specs.declared.places.Spot.{Spot}
use Rattle.pr_script.specs.Scripts.{Stmts}
use Rattle.pr_verify.specs.Places.{Place, places_of}

-- for each arm the lines that may follow it
abbrev pub lines_in : List (Vec ℕ Global) → List (List ℕ)
lines_in next = map (λ lines. lines.items) next

abbrev pub place_of : Spot → Place
place_of p = record { line = p.line; command = p.command; tests = p.tests.items; next = lines_in p.next.items }

-- these are the sends of the script
abbrev pub AreSendsOf : Stmts → List Spot → Type 0
AreSendsOf script spots = map place_of spots ≡ places_of script

-- the later list has the sends of the earlier one, and then these
abbrev pub HasMore : List Spot → List Spot → List Place → Type 0
HasMore old new places = map place_of new ≡ map place_of old ++ places

-- for each send there is something at its line
abbrev pub HasEachLine : {V : Type 0} → List (ℕ × V) → List Spot → Type 0
HasEachLine views spots = map (λ e. e.0) views ≡ map (λ p. p.line) spots

-- the fields of what they send are in the ranges of their types
unfoldable pub AreInRange : List Spot → Type 0
AreInRange spots = All (λ s. Fits s.command) spots

-- It can stand in a text with these keys: its command and the tests of its arms can be written, there are at most 16 of
-- them, and each has its lines.
pub record IsPlaceWritten (keys : List ℕ) (p : Place) : Type 0 where
  pub command : IsTrue (is_written keys p.command)
  pub tests : All (λ t. test_fits keys p.command t ≡ true) p.tests
  pub few : length p.tests ≤ MOST_ARMS
  pub next : length p.next ≡ length p.tests

-- so can each of the sends
abbrev pub AreWritten : List ℕ → List Spot → Type 0
AreWritten keys spots = All (λ p. IsPlaceWritten keys (place_of p)) spots
