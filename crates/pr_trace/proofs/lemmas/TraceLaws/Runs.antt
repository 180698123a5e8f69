-- The trace of a run is read back.
use Rattle.pr_trace.proofs.Common.{◌≡◌, ℕ, zero, suc, ◌<◌, ◌≤◌, true, false, List, [], ◌∷◌, ◌++◌, map, length, drop, codes, nat_le, ◌==◌, Some, None, Ok, Err, Option, sym, refl, ap, ◌∙◌, subst, inl, inr, arith, nat_tests, Item, names_in, MOST_CDB_LENGTH, MOST_NEXUSES, PARAMETER_LIST_LENGTH, not, option_map_or, and_parts, Command, Reply, AreBytes, is_name, Fits, most_declared, Scenario, Nexus, IsItem, trace_of}
use Rattle.std.specs.Prelude.{◌^◌, ◌⊎◌, ◌≢◌, ◌&&◌, ◌||◌, Bool, IsTrue, is_some, slice_set}
use Rattle.std.specs.List.{All, slice_get}
use Rattle.std.proofs.lemmas.Bool.{false≢true, or_cases}
use Rattle.std.proofs.lemmas.Bool.Decides.{eqb_tells}
use Rattle.std.proofs.lemmas.Option.{none-some, same_Some}
use Rattle.pr_cdb.specs.declared.command.Command.TheVariants.{TestUnitReady, RequestSense, Read, Write, ReadKeys, ReadReservation, ReportCapabilities, Register, Preempt, PreemptAbort}
use Rattle.pr_cdb.specs.declared.wire.Wire.{Wire}
use Rattle.pr_cdb.specs.declared.wire.Request.{Request}
use Rattle.pr_cdb.specs.declared.wire.Request.TheVariants.{Plain}
use Rattle.pr_cdb.specs.declared.wire.Bad.TheVariants.{Short}
use Rattle.pr_cdb.specs.Ranges.{FitsWhereRead}
use Rattle.pr_cdb.specs.Requests.{request_of}
unfoldable use Rattle.pr_cdb.specs.Spelling.{spelling}
use Rattle.pr_cdb.proofs.lemmas.FieldRanges.{reads_fit}
use Rattle.pr_registry.specs.Registrations.{IsKey, IsWellFormed as IsWellFormedRegistry}
use Rattle.pr_unit.specs.Laws.{IsQuiet, request_looks}
use Rattle.pr_unit.specs.Steps.{Step}
use Rattle.pr_unit.specs.UnitStates.{UnitState, IsWellFormed, is_pending}
use Rattle.pr_unit.specs.Attentions.{is_attention}
use Rattle.pr_unit.proofs.lemmas.Attentions.Resets.{well_formed-reset}
use Rattle.pr_unit.proofs.lemmas.Steps.QuietSteps.{quiet_steps, quiet_well_formed}
use Rattle.pr_unit.proofs.lemmas.Steps.WellFormedSteps.{hosts-step, well_formed-reported, well_formed-step}
use Rattle.pr_script.specs.Grammar.{is_declared, is_written, is_written_key}
use Rattle.pr_script.specs.Scripts.{Configuration, sends, repeats, breaks, stops as stops_with, statement, mark, ready, standing_of_items}
use Rattle.pr_roles.specs.declared.how.How.{How}
use Rattle.pr_roles.specs.declared.how.How.TheVariants as how
use Rattle.pr_roles.specs.declared.item.Item.TheVariants.{Sent, Reset}
use Rattle.pr_roles.specs.Answers.{Answers, may_come}
use Rattle.pr_roles.specs.Scenarios.{Task, task}
use Rattle.pr_roles.specs.Starts.{IsAllowedStart}
use Rattle.pr_roles.specs.Worlds.{World, Event, Host, Guest, UnitReset, Fetched, Happens, Run, Control, Going, Trapped, Free, control, control_of, control_after, after, standing_of, entry_of, world_from, is_guest_task}
use Rattle.pr_roles.proofs.lemmas.FirstStarts.Existence.{declared_key}
use Rattle.pr_roles.proofs.lemmas.Laws.FirstVersion.{first_version_is_plain}
use Rattle.pr_roles.proofs.lemmas.Starts.AllowedStarts.{counted, each_nexus}
use Rattle.pr_roles.proofs.lemmas.Worlds.Controls.{there}
use Rattle.pr_roles.proofs.lemmas.Worlds.Resets.{first_version_has_no_reset}
use Rattle.pr_audit.specs.Ends.{Ending, stops, waits, traps, leaves, ending, ending_by, endings, counts_in}
use Rattle.pr_trace.specs.TraceLaws.{IsEnding, TracesOfRunsAreRead}
use Rattle.pr_trace.proofs.lemmas.TraceReadings.ScenarioNames.{names_count}
use Rattle.pr_trace.proofs.lemmas.TraceLaws.Entries.{AreItems}
use Rattle.pr_trace.proofs.lemmas.TraceLaws.Replies.{IsReply, SenseWhereRead, reads_senses, refused_is, report_is, step_is}
use Rattle.pr_trace.proofs.lemmas.TraceLaws.Scripts.{ControlWritten, ControlsWritten, RestWritten, after_written, all_begun, one_written, ready_written, set_written}
use Rattle.pr_roles.proofs.lemmas.Worlds.SpelledBytes.{are_bytes, are_short}
use Rattle.pr_trace.proofs.lemmas.TraceLaws.Traces.{AreEndings, text_back}

-- ---- what a scenario that fits has

few_nexuses : (s : Scenario) → Fits s → length s.nexuses ≤ most_declared s.version
few_nexuses s fits =
    let parts = and_parts (not (length s.nexuses == 0)) _ fits.nexuses in
    let few = (and_parts (nat_le (length s.nexuses) (most_declared s.version)) _ parts.1).0 in
    grind (arith, nat_tests, few)

-- its version is the first, or a later one
dated : (s : Scenario) → Fits s → (s.version ≡ 1) ⊎ (2 ≤ s.version)
dated s fits = at (or_cases (s.version == 1) (s.version == 2 || s.version == 3) fits.version)
  where
    later : ((s.version == 2) ≡ true) ⊎ ((s.version == 3) ≡ true) → 2 ≤ s.version
    later (inl two) = grind (arith, nat_tests, two)
    later (inr three) = grind (arith, nat_tests, three)

    at : ((s.version == 1) ≡ true) ⊎ ((s.version == 2 || s.version == 3) ≡ true) → (s.version ≡ 1) ⊎ (2 ≤ s.version)
    at (inl one) = inl (grind (arith, nat_tests, one))
    at (inr other) = inr (later (or_cases (s.version == 2) (s.version == 3) other))

first : (s : Scenario) → Fits s → 1 ≤ s.version
first s fits = at (dated s fits)
  where
    at : (s.version ≡ 1) ⊎ (2 ≤ s.version) → 1 ≤ s.version
    at (inl one) = omega (arith, one)
    at (inr later) = omega (arith, later)

-- where the unit refuses a command, or is reset, it is a later one
second : (s : Scenario) → Fits s → (s.version ≡ 1 → ⊥) → 2 ≤ s.version
second s fits other = at (dated s fits)
  where
    at : (s.version ≡ 1) ⊎ (2 ≤ s.version) → 2 ≤ s.version
    at (inl one) = absurd (other one)
    at (inr later) = later

refuses : (s : Scenario) (history : List Item) (h : ℕ) (k : How) → Fits s → IsTrue (may_come s history h k) → (k ≡ how.Plain → ⊥) → 2 ≤ s.version
refuses s history h k fits may apart = second s fits (λ one. apart (first_version_is_plain s fits one history h k may))

-- ---- the unit

written_key : (keys : List ℕ) (k : ℕ) → All IsKey keys → is_written_key keys k ≡ true → k < 2 ^ 64
written_key keys k each is = at (or_cases (k == 0) (is_declared keys k) is)
  where
    at : ((k == 0) ≡ true) ⊎ (is_declared keys k ≡ true) → k < 2 ^ 64
    at (inl none) = grind (arith, nat_tests, none)
    at (inr declared) = (declared_key keys k each declared).1

preempt_keys : (keys : List ℕ) (j k : ℕ) (b : Bool) → All IsKey keys → (is_written_key keys j && (is_written_key keys k && b)) ≡ true → (j < 2 ^ 64) × (k < 2 ^ 64)
preempt_keys keys j k b each is =
    let parts = and_parts (is_written_key keys j) _ is in
    (written_key keys j each parts.0, written_key keys k each (and_parts (is_written_key keys k) b parts.1).0)

-- a command that a text can write only looks, or has its fields in range
looks_or_fits : (keys : List ℕ) (c : Command) → All IsKey keys → is_written keys c ≡ true → (request_looks (Plain c) ≡ true) ⊎ FitsWhereRead (Ok (Plain c))
looks_or_fits keys TestUnitReady each is = inl refl
looks_or_fits keys RequestSense each is = inl refl
looks_or_fits keys (Read lba blocks) each is = inl refl
looks_or_fits keys (Write lba blocks) each is = inl refl
looks_or_fits keys (ReadKeys alloc) each is = inl refl
looks_or_fits keys (ReadReservation alloc) each is = inl refl
looks_or_fits keys (ReportCapabilities alloc) each is = inl refl
looks_or_fits keys (Register rk sark) each is = let parts = and_parts (is_written_key keys rk) _ is in inr (written_key keys rk each parts.0, written_key keys sark each parts.1)
looks_or_fits keys (Preempt rk sark kind) each is = inr (preempt_keys keys rk sark (is_some kind) each is)
looks_or_fits keys (PreemptAbort rk sark kind) each is = inr (preempt_keys keys rk sark (is_some kind) each is)
looks_or_fits keys _ each is = inr (written_key keys _ each is)

-- so it leaves the unit well formed
command_formed : (keys : List ℕ) (u : UnitState) (h : ℕ) (c : Command) (r : Reply) (v : UnitState) → All IsKey keys → IsWellFormed u → h < u.registry.hosts → is_written keys c ≡ true → Step u h (Plain c) r v
    → IsWellFormed v
command_formed keys u h c r v each formed here is step = at (looks_or_fits keys c each is)
  where
    at : (request_looks (Plain c) ≡ true) ⊎ FitsWhereRead (Ok (Plain c)) → IsWellFormed v
    at (inl looks) = quiet_well_formed u v h formed (quiet_steps u h (Plain c) r v step (inr looks))
    at (inr fits) = well_formed-step u h (Plain c) r v formed here fits step

-- ---- what is kept

-- A run goes on from here to what a trace can be written of.
record IsUnderway (s : Scenario) (w : World) : Type 0 where
  pub formed : IsWellFormed w.unit
  pub hosts : w.unit.registry.hosts ≡ length s.nexuses
  pub controls : length w.controls ≡ length s.nexuses
  pub written : ControlsWritten s.keys w.controls
  pub items : AreItems s.version (names_in s) w.history

length-begun : (ns : List Nexus) → length (map (λ n. control_of n.task) ns) ≡ length ns
length-begun [] = refl
length-begun (n ∷ ns) = ap suc (length-begun ns)

at_start : (s : Scenario) (u : UnitState) → Fits s → IsAllowedStart s u → IsUnderway s (world_from s u)
at_start s u fits allowed = record {
  formed = allowed.formed;
  hosts = allowed.hosts;
  controls = length-begun s.nexuses;
  written = all_begun s.keys s.nexuses (each_nexus s fits);
  items = tt;
}

-- ---- after an event

one_more : (version : ℕ) (names : List (List ℕ)) (is : List Item) (i : Item) → AreItems version names is → IsItem version (length names) i → AreItems version names (is ++ i ∷ [])
one_more version names [] i all it = (it, tt)
one_more version names (j ∷ is) i all it = (all.0, one_more version names is i all.1 it)

length-set : (ks : List Control) (h : ℕ) (k : Control) → length (slice_set ks h k) ≡ length ks
length-set [] h k = refl
length-set (j ∷ ks) zero k = refl
length-set (j ∷ ks) (suc h) k = ap suc (length-set ks h k)

-- one that is ready to send is there
ready_there : (ks : List Control) (h line : ℕ) (c : Command) → standing_of (option_map_or (λ k. k) (slice_get ks h) Free) ≡ Some (ready line c) → h < length ks
ready_there [] h line c is = absurd (none-some (ready line c) is)
ready_there (k ∷ ks) zero line c is = omega arith
ready_there (k ∷ ks) (suc h) line c is = omega (arith, ready_there ks h line c is)

guest_there : (s : Scenario) (g : ℕ) → is_guest_task (task s g) ≡ true → g < length s.nexuses
guest_there s g is = at (task s g) refl is
  where
    at : (t : Option Task) → task s g ≡ t → is_guest_task t ≡ true → g < length s.nexuses
    at None none is = absurd (false≢true is)
    at (Some t) some is = there s g t some

-- the answer to a request can be written, and what it leaves is well formed where a step leaves that
module _ (s : Scenario) (fits : Fits s) (w : World) (underway : IsUnderway s w) where
  hosts_fit : w.unit.registry.hosts ≤ most_declared s.version
  hosts_fit = omega (arith, underway.hosts, few_nexuses s fits)

  answer_is : (h : ℕ) (k : How) (q : Request) (r : Reply) (v : UnitState) → IsTrue (may_come s w.history h k) → SenseWhereRead (Ok q) → Answers k w.unit h q r v → IsReply s.version r
  answer_is h how.Plain q r v may read is = step_is s.version (first s fits) w.unit h q r v underway.formed hosts_fit read is
  answer_is h how.Early q r v may read is =
      let reports = is.reports in
      subst (IsReply s.version) (sym reports.reply) (report_is s.version (first s fits) q reports.code (underway.formed.pending h reports.code reports.pending).1)
  answer_is h k q r v may read is =
      subst (IsReply s.version) (sym is.0) (refused_is s.version (first s fits) _ tt (refuses s w.history h k fits may (λ same. let bad : k ≡ how.Plain = same in cc)))

  unit_is : (h : ℕ) (k : How) (q : Request) (r : Reply) (v : UnitState) → (Step w.unit h q r v → IsWellFormed v) → Answers k w.unit h q r v → IsWellFormed v × (v.registry.hosts ≡ length s.nexuses)
  unit_is h how.Plain q r v step is = (step is, hosts-step w.unit h q r v is ∙ underway.hosts)
  unit_is h how.Early q r v step is = (
    subst IsWellFormed (sym is.reports.after) (well_formed-reported w.unit h is.reports.code underway.formed),
    ap (λ (x : UnitState). x.registry.hosts) is.reports.after ∙ underway.hosts,
  )
  unit_is h _ q r v step is = (subst IsWellFormed (sym is.1) underway.formed, ap (λ (x : UnitState). x.registry.hosts) is.1 ∙ underway.hosts)

  -- after a command of h
  goes_on : (h line : ℕ) (wire : Wire) (r : Reply) (v : UnitState) → h < length s.nexuses → AreBytes wire.cdb.items × AreBytes wire.params.items
      → (0 < length wire.cdb.items) × (length wire.cdb.items ≤ MOST_CDB_LENGTH) → length wire.params.items ≤ PARAMETER_LIST_LENGTH → IsReply s.version r
      → IsWellFormed v × (v.registry.hosts ≡ length s.nexuses) → IsUnderway s (after w h line wire r v)
  goes_on h line wire r v here bytes some few reply unit = record {
    formed = unit.0;
    hosts = unit.1;
    controls = length-set w.controls h (control_after line (control w h) r) ∙ underway.controls;
    written = set_written s.keys w.controls h (control_after line (control w h) r) underway.written
        (after_written s.keys line (control w h) r (one_written s.keys w.controls h underway.written));
    items = one_more s.version (names_in s) w.history (Sent (entry_of h wire r)) underway.items (record {
      sender = omega (arith, names_count s);
      bytes = (bytes.0, bytes.1, reply.bytes.small);
      command = some;
      lengths = (few, reply.bytes.short);
      status = reply.status;
      sense = reply.sense;
    });
  }

-- a command has an operation code
spelled : (c : Command) → 0 < length (spelling c).cdb.items
unfolding spelling
spelled TestUnitReady = omega arith
spelled _ = omega arith

-- what is read has one too
read_some : (cdb params : List ℕ) (q : Request) → request_of cdb params ≡ Ok q → 0 < length cdb
unfolding request_of
read_some [] params q is = let bad : Err Short ≡ Ok q = is in cc
read_some (b ∷ bs) params q is = omega arith

happens : (s : Scenario) → Fits s → (w : World) (e : Event) (v : World) → Happens s w e v → IsUnderway s w → IsUnderway s v
happens s fits w (Host h k) v sent underway =
    let c = sent.command in
    let written = ready_written s.keys (control w h) sent.line c (one_written s.keys w.controls h underway.written) sent.ready in
    let here : h < length s.nexuses = omega (arith, ready_there w.controls h sent.line c sent.ready, underway.controls) in
    let reply = answer_is s fits w underway h k (Plain c) sent.reply sent.unit sent.room tt sent.answer in
    let unit = unit_is s fits w underway h k (Plain c) sent.reply sent.unit (λ step. command_formed s.keys w.unit h c sent.reply sent.unit fits.keys.each underway.formed (omega (arith, here, underway.hosts)) written step) sent.answer in
    let short = are_short c in
    subst (IsUnderway s) (sym sent.world) (goes_on s fits w underway h sent.line (spelling c) sent.reply sent.unit here (are_bytes c) (spelled c, short.0) short.1 reply unit)
happens s fits w (Guest g wire k) v sent underway =
    let q = sent.request in
    let cdb = wire.cdb.items in
    let params = wire.params.items in
    let here = guest_there s g sent.guest in
    let read = subst SenseWhereRead sent.read (reads_senses cdb params) in
    let fields = subst FitsWhereRead sent.read (reads_fit cdb params sent.bytes.0 sent.bytes.1) in
    let reply = answer_is s fits w underway g k q sent.reply sent.unit sent.room read sent.answer in
    let unit = unit_is s fits w underway g k q sent.reply sent.unit (λ step. well_formed-step w.unit g q sent.reply sent.unit underway.formed (omega (arith, here, underway.hosts)) fields step) sent.answer in
    subst (IsUnderway s) (sym sent.world) (goes_on s fits w underway g 0 wire sent.reply sent.unit here sent.bytes (read_some cdb params q sent.read, sent.lengths.0) sent.lengths.1 reply unit)
happens s fits w UnitReset v resets underway = subst (IsUnderway s) (sym resets.world) (record {
  formed = well_formed-reset w.unit underway.formed;
  hosts = underway.hosts;
  controls = underway.controls;
  written = underway.written;
  items = one_more s.version (names_in s) w.history Reset underway.items
      (later (second s fits (λ one. false≢true (sym (first_version_has_no_reset s fits one w.history) ∙ resets.room))));
})
  where
    later : 2 ≤ s.version → nat_le 2 s.version ≡ true
    later two = grind (arith, nat_tests, two)
happens s fits w (Fetched h code) v fetched underway = subst (IsUnderway s) (sym fetched.world) (record {
  formed = well_formed-reported w.unit h code underway.formed;
  hosts = underway.hosts;
  controls = underway.controls;
  written = underway.written;
  items = underway.items;
})

run_underway : (s : Scenario) → Fits s → (w : World) (es : List Event) (v : World) → Run s w es v → IsUnderway s w → IsUnderway s v
run_underway s fits w [] v run underway = subst (IsUnderway s) (sym run) underway
run_underway s fits w (e ∷ es) v run underway = run_underway s fits run.0 es v run.2 (happens s fits w e run.0 run.1 underway)

-- ---- how the nexuses end

-- a script stops with a word that stands in it
rest_ends : (keys : List ℕ) (l : Configuration) (e : Ending) → RestWritten keys l → Some e ≡ ending_by (standing_of_items l) → IsEnding e
unfolding is_name
rest_ends keys [] e rest is = subst IsEnding (sym (same_Some e (stops (codes "end")) is)) refl
rest_ends keys (mark ∷ l) e rest is = absurd (none-some e (sym is))
rest_ends keys ((statement (sends n c a)) ∷ l) e rest is = subst IsEnding (sym (same_Some e (waits n) is)) tt
rest_ends keys ((statement (repeats n b)) ∷ l) e rest is = absurd (none-some e (sym is))
rest_ends keys ((statement breaks) ∷ l) e rest is = absurd (none-some e (sym is))
rest_ends keys ((statement (stops_with word)) ∷ l) e rest is = subst IsEnding (sym (same_Some e (stops word) is)) rest.0

one_ends : (keys : List ℕ) (k : Control) (plan : List Command) (e : Ending) → ControlWritten keys k → Some e ≡ ending k plan → IsEnding e
one_ends keys (Going l) plan e written is = rest_ends keys l e written is
one_ends keys (Trapped line) plan e written is = subst IsEnding (sym (same_Some e (traps line) is)) tt
one_ends keys Free plan e written is = subst IsEnding (sym (same_Some e (leaves (length plan)) is)) tt

all_end : (keys : List ℕ) (ks : List Control) (plans : List (List Command)) (ends : List Ending) → ControlsWritten keys ks → map (λ e. Some e) ends ≡ endings ks plans → AreEndings ends × (length ends ≤ length ks)
all_end keys ks plans [] written is = (tt, omega arith)
all_end keys [] plans (e ∷ es) written is = let bad : Some e ∷ map (λ x. Some x) es ≡ [] = is in cc
all_end keys (k ∷ ks) [] (e ∷ es) written is = let bad : Some e ∷ map (λ x. Some x) es ≡ [] = is in cc
all_end keys (k ∷ ks) (plan ∷ plans) (e ∷ es) written is =
    let first_is : Some (Some e) ≡ Some (ending k plan) = ap (λ xs. slice_get xs 0) is in
    let others = all_end keys ks plans es written.1 (ap (λ xs. drop 1 xs) is) in
    ((one_ends keys k plan e written.0 (same_Some (Some e) (ending k plan) first_is), others.0), omega (arith, others.1))

-- ---- its trace

pub runs_are_read : TracesOfRunsAreRead
runs_are_read s u es y text fits allowed run few trace =
    let w = y.world in
    let underway = run_underway s fits (world_from s u) es w run (at_start s u fits allowed) in
    let ends = all_end s.keys w.controls y.plans trace.ends underway.written trace.standing in
    let short : length trace.ends ≤ MOST_NEXUSES = omega (arith, ends.1, underway.controls, (counted s fits).1) in
    ap (trace_of s.version (names_in s)) trace.text_is ∙ text_back s w.history w.unit.registry trace.ends (counts_in y) fits underway.formed.registry underway.items few short ends.0
