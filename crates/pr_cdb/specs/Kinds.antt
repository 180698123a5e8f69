-- Agrees with SPC-4, 'Persistent reservations type'; docs/MODEL.md, 'The reservation and its types'.
-- The types of a persistent reservation, and the numbers that stand for them
-- (SPC-4, 'Persistent reservations type').
use Rattle.std.specs.Prelude.{ℕ, Option, Some, None, ◌==◌, if◌then◌else◌}
use Rattle.pr_cdb.specs.declared.command.Kind.{Kind}
use Rattle.pr_cdb.specs.declared.command.Kind.TheVariants.{WriteExclusive, ExclusiveAccess, WriteExclusiveRegistrantsOnly, ExclusiveAccessRegistrantsOnly, WriteExclusiveAllRegistrants, ExclusiveAccessAllRegistrants}

abbrev pub type_code : Kind → ℕ
type_code WriteExclusive = 1
type_code ExclusiveAccess = 3
type_code WriteExclusiveRegistrantsOnly = 5
type_code ExclusiveAccessRegistrantsOnly = 6
type_code WriteExclusiveAllRegistrants = 7
type_code ExclusiveAccessAllRegistrants = 8

-- the type for which a number stands: 2, 4 and the rest stand for none
unfoldable pub kind_of_code : ℕ → Option Kind
kind_of_code n =
    if n == 1 then Some WriteExclusive else (
    if n == 3 then Some ExclusiveAccess else (
    if n == 5 then Some WriteExclusiveRegistrantsOnly else (
    if n == 6 then Some ExclusiveAccessRegistrantsOnly else (
    if n == 7 then Some WriteExclusiveAllRegistrants else (
    if n == 8 then Some ExclusiveAccessAllRegistrants else None)))))
