-- What a builder holds, as what is declared so far.
use Rattle.std.specs.Prelude.{map, option_map}
use Rattle.pr_script.specs.Trees.{script_of}
use Rattle.pr_roles.specs.declared.parts.Task.{Task}
use Rattle.pr_roles.specs.declared.parts.Task.TheVariants as part
use Rattle.pr_text.specs.declared.draft.Draft.{Draft}
use Rattle.pr_text.specs.declared.builder.Context.{Context as ContextValue}
use Rattle.pr_text.specs.declared.builder.Context.TheVariants as place
use Rattle.pr_text.specs.declared.builder.Builder.{Builder}
use Rattle.pr_text.specs.ScriptLines.{body_lines}
use Rattle.pr_text.specs.Declarations.{WrittenTask, scripted, planned, Declaration, Context, before_all, outside, in_script, in_plan, Declared}
use Rattle.pr_text.specs.inside.OpenScripts.{open_seen}

abbrev pub task_seen : Task → WrittenTask
task_seen (part.Scripted script budget) = scripted (body_lines (script_of script)) budget
task_seen (part.Planned commands) = planned commands.items

abbrev pub draft_seen : Draft → Declaration
draft_seen x = record {
  name = x.name.bytes;
  line = x.line;
  is_guest = x.is_guest;
  start = option_map (λ v. v.items) x.start;
  pending = x.pending;
  busy = x.busy;
  full = x.full;
  alone = x.alone;
  role = x.role.items;
  task = option_map task_seen x.task;
}

abbrev pub place_seen : ContextValue → Context
place_seen place.BeforeAll = before_all
place_seen place.Outside = outside
place_seen (place.InScript o) = in_script (open_seen o)
place_seen (place.InPlan h begun commands) = in_plan h commands.items

abbrev pub declared_by : Builder → Declared
declared_by b = record {
  version = b.version;
  keys = option_map (λ v. v.items) b.keys;
  reservations = option_map (λ v. v.items) b.reservations;
  generation = b.generation;
  resets = b.resets;
  in_order = b.in_order;
  nexuses = map draft_seen b.nexuses.items;
  place = place_seen b.place;
}
