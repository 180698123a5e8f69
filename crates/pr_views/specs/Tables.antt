-- Agrees with docs/VERDICTS.md, 'Why: `fence outline`'.
-- Outlines and tables: what is known at each send of a script.
use Rattle.std.specs.Prelude.{ℕ, Bool, List, map}
use Rattle.pr_cdb.specs.declared.command.Command.{Command}
use Rattle.pr_script.specs.declared.script.Test.{Test}
use Rattle.pr_script.specs.declared.landing.Class.{Class}
use Rattle.pr_sets.specs.declared.view_set.ViewSet.{Ghosts as ViewSet}
use Rattle.pr_views.specs.declared.outline.OutlineBy.{OutlineBy}
use Rattle.pr_views.specs.declared.table.Row.{Row as KeptRow}
use Rattle.pr_views.specs.declared.table.Table.{Table as KeptTable}
use Rattle.pr_views.specs.declared.view.ViewOf.{ViewOf}
use Rattle.pr_views.specs.Rooms.{view_of}
use Rattle.pr_views.specs.Views.{View}

-- the views of a host, each by the line of its send
pub record Outline : Type 0 where
  pub host : ℕ
  pub views : List (ℕ × View)

-- A send: its command, the tests of its arms, whether the role permits the command wherever it ends GOOD, the arms that some
-- reply takes, and how replies end that no arm takes.
pub record Row : Type 0 where
  pub command : Command
  pub tests : List Test
  pub permitted : Bool
  pub arms : List ℕ
  pub unarmed : List Class

-- an outline, and a row for each of its sends
pub record Table : Type 0 where
  pub outline : Outline
  pub rows : List Row

-- ---- those that values of the program are

-- views, each by its line, as this host has them
abbrev pub views_of : {S : Type 0} {sets : ViewSet S} → ℕ → List (ℕ × ViewOf S sets) → List (ℕ × View)
views_of host views = map (λ e. (e.0, view_of host e.1)) views

abbrev pub outline_of : {S : Type 0} {sets : ViewSet S} → OutlineBy (ViewOf S sets) → Outline
outline_of o = record { host = o.host; views = views_of o.host o.views.items }

abbrev pub row_of : KeptRow → Row
row_of r = record { command = r.command; tests = r.tests.items; permitted = r.permitted; arms = r.arms.items; unarmed = r.unarmed.items }

abbrev pub table_of : KeptTable → Table
table_of t = record { outline = outline_of t.outline; rows = map row_of t.rows.items }
