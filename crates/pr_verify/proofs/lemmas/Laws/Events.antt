-- What every event keeps: of what a script has still to do, its invariant is true, by the history and the unit.
use Rattle.pr_verify.proofs.Common.{◌≡◌, ℕ, ◌<◌, ◌≤◌, true, false, ◌≢◌, ◌⊎◌, List, [], ◌∷◌, ◌++◌, length, IsTrue, ◌==◌, Some, None, Option, sym, refl, ap, ◌∙◌, subst, inl, inr, arith, false≢true, eqb_tells, none-some, Command, Reply, Plain, UnitState, Stmts, Configuration, Task, Scripted, role, task, Scenario, IsAllowedStart, World, control, Host, world_from, How, OnScripted}
use Rattle.pr_cdb.specs.declared.wire.Wire.{Wire}
use Rattle.pr_cdb.specs.Ranges.{FitsWhereRead}
use Rattle.pr_cdb.specs.Spelling.{spelling}
use Rattle.pr_cdb.proofs.lemmas.FieldRanges.{reads_fit}
use Rattle.pr_script.specs.Scripts.{ready, first_configuration}
use Rattle.pr_roles.specs.declared.item.Item.{Item}
use Rattle.pr_roles.specs.declared.item.Item.TheVariants.{Sent}
use Rattle.pr_roles.specs.Scenarios.{Planned}
use Rattle.pr_roles.specs.Worlds.{Going, Free, Event, Guest, UnitReset, Fetched, HostSends, GuestSends, IsReset, IsFetched, Happens, Run, after_reset, after_fetch, control_after, going_or_trapped, is_guest_task, commands_by, standing_of, entry_of, may_reset, after}
use Rattle.pr_roles.specs.Permits.{is_permitted}
use Rattle.pr_roles.specs.Safety.{KeepsRole}
use Rattle.pr_unit.specs.Replies.{is_good}
use Rattle.pr_unit.specs.UnitStates.{is_pending}
use Rattle.pr_roles.proofs.lemmas.Worlds.Controls.{there, at_start as begins, nobody_at_start, control_other, control_own}
use Rattle.pr_roles.proofs.lemmas.Worlds.Counts.{sent_other, sent_own, sent_reset}
use Rattle.pr_verify.proofs.lemmas.Laws.HostInvariants.{IsTurn, IsTaken, IsInvariant, HaveInvariants}
use Rattle.pr_verify.proofs.lemmas.Outlines.UnnoticedCommands.{IsNoticed, noticed}

-- ---- what is kept

pub record IsOnCourse (s : Scenario) (h : ℕ) (script : Stmts) (budget : ℕ) (Holds : Configuration → List Item → UnitState → Type 0) (w : World) : Type 0 where
  pub invariant : IsInvariant s h script budget Holds
  pub rest : Configuration
  pub going : control w h ≡ Going rest
  pub holds : Holds rest w.history w.unit
  pub within : commands_by w.history h ≤ budget

abbrev pub IsKeptBy : Option Task → Scenario → (ℕ → Configuration → List Item → UnitState → Type 0) → World → ℕ → Type 0
IsKeptBy (Some (Scripted script budget)) s Holds w h = IsOnCourse s h script budget (Holds h) w
IsKeptBy _ s Holds w h = control w h ≡ Free

abbrev pub IsKept : Scenario → (ℕ → Configuration → List Item → UnitState → Type 0) → World → Type 0
IsKept s Holds w = (h : ℕ) → IsKeptBy (task s h) s Holds w h

-- ---- at the beginning

has_invariant : (s : Scenario) (Holds : ℕ → Configuration → List Item → UnitState → Type 0) (h : ℕ) (script : Stmts) (budget : ℕ) → HaveInvariants s Holds → task s h ≡ Some (Scripted script budget)
    → IsInvariant s h script budget (Holds h)
has_invariant s Holds h script budget have is = subst (λ t. OnScripted t (λ (b : Stmts) (n : ℕ). IsInvariant s h b n (Holds h))) is (have h (there s h (Scripted script budget) is))

none_sent : (h n : ℕ) → commands_by [] h ≤ n
none_sent h n = omega arith

on_course_at_start : (s : Scenario) (u : UnitState) (h : ℕ) (script : Stmts) (budget : ℕ) (Holds : Configuration → List Item → UnitState → Type 0) → IsInvariant s h script budget Holds → IsAllowedStart s u
    → task s h ≡ Some (Scripted script budget) → IsOnCourse s h script budget Holds (world_from s u)
on_course_at_start s u h script budget Holds inv allowed is = record {
  invariant = inv;
  rest = first_configuration script;
  going = begins s u h (Scripted script budget) is;
  holds = inv.start u allowed;
  within = none_sent h budget;
}

pub kept_at_start : (s : Scenario) (Holds : ℕ → Configuration → List Item → UnitState → Type 0) (u : UnitState) → HaveInvariants s Holds → IsAllowedStart s u → IsKept s Holds (world_from s u)
kept_at_start s Holds u have allowed h = at (task s h) refl
  where
    at : (t : Option Task) → task s h ≡ t → IsKeptBy t s Holds (world_from s u) h
    at None is = nobody_at_start s u h is
    at (Some (Scripted script budget)) is = on_course_at_start s u h script budget (Holds h) (has_invariant s Holds h script budget have is) allowed is
    at (Some (Planned commands)) is = begins s u h (Planned commands) is

-- ---- after a command

others_kept : (s : Scenario) (Holds : ℕ → Configuration → List Item → UnitState → Type 0) (g : ℕ) (w : World) (line : ℕ) (wire : Wire) (r : Reply) (u : UnitState) (h : ℕ) → g < length s.nexuses
    → IsNoticed (role s g) g w.unit u → h ≢ g → (t : Option Task) → IsKeptBy t s Holds w h → IsKeptBy t s Holds (after w g line wire r u) h
others_kept s Holds g w line wire r u h there unit other (Some (Scripted script budget)) course = record {
  invariant = course.invariant;
  rest = course.rest;
  going = control_other w g line wire r u h other ∙ course.going;
  holds = holds_after unit;
  within = subst (λ n. n ≤ budget) (sym (sent_other w.history (entry_of g wire r) h other)) course.within;
}
  where
    holds_after : IsNoticed (role s g) g w.unit u → Holds h course.rest (w.history ++ Sent (entry_of g wire r) ∷ []) u
    holds_after (inl by_others) = course.invariant.others course.rest w.history w.unit (entry_of g wire r) u course.holds (λ same. other (sym same)) there by_others
    holds_after (inr told) =
        course.invariant.others course.rest w.history u (entry_of g wire r) u
        (subst (Holds h course.rest w.history) (sym told.after) (course.invariant.fetched course.rest w.history w.unit g told.code course.holds told.pending)) (λ same. other (sym same)) there (inl refl)
others_kept s Holds g w line wire r u h there unit other _ free = control_other w g line wire r u h other ∙ free

all_kept : (s : Scenario) (Holds : ℕ → Configuration → List Item → UnitState → Type 0) (g : ℕ) (w : World) (line : ℕ) (wire : Wire) (r : Reply) (u : UnitState) → g < length s.nexuses
    → IsNoticed (role s g) g w.unit u → IsKept s Holds w → IsKeptBy (task s g) s Holds (after w g line wire r u) g → IsKept s Holds (after w g line wire r u)
all_kept s Holds g w line wire r u there unit kept own h = at (eqb_tells h g)
  where
    at : (((h == g) ≡ true) × (h ≡ g)) ⊎ (((h == g) ≡ false) × (h ≢ g)) → IsKeptBy (task s h) s Holds (after w g line wire r u) h
    at (inl same) = subst (λ x. IsKeptBy (task s x) s Holds (after w g line wire r u) x) (sym same.1) own
    at (inr other) = others_kept s Holds g w line wire r u h there unit other.1 (task s h) (kept h)

-- ---- a host's event

turn : (s : Scenario) (w : World) (h : ℕ) (k : How) (v : World) (happens : HostSends s w h k v) (script : Stmts) (budget : ℕ) (Holds : Configuration → List Item → UnitState → Type 0) (x : IsOnCourse s h script budget Holds w)
    → IsTurn s h Holds x.rest w.history w.unit happens.command happens.reply happens.unit
turn s w h k v happens script budget Holds x = record {
  holds = x.holds;
  line = happens.line;
  ready = ap standing_of (sym x.going) ∙ happens.ready;
  how = k;
  room = happens.room;
  answer = happens.answer;
}

own_kept : (s : Scenario) (w : World) (h : ℕ) (script : Stmts) (budget : ℕ) (Holds : Configuration → List Item → UnitState → Type 0) (x : IsOnCourse s h script budget Holds w) (line : ℕ) (c : Command) (r : Reply) (u : UnitState)
    → IsTaken s h budget Holds x.rest w.history w.unit c r u → IsOnCourse s h script budget Holds (after w h line (spelling c) r u)
own_kept s w h script budget Holds x line c r u taken = record {
  invariant = x.invariant;
  rest = taken.rest;
  going = control_own w h line (spelling c) r u ∙ ap (λ k. control_after line k r) x.going ∙ ap (going_or_trapped line) taken.arm;
  holds = taken.holds;
  within = subst (λ n. n ≤ budget) (sym (sent_own w.history (entry_of h (spelling c) r) h refl)) taken.within;
}

host_kept : (s : Scenario) (Holds : ℕ → Configuration → List Item → UnitState → Type 0) (w : World) (h : ℕ) (k : How) (v : World) → HostSends s w h k v → IsKept s Holds w → IsKept s Holds v
unfolding turn
host_kept s Holds w h k v happens kept = at (task s h) refl (kept h)
  where
    idle : control w h ≡ Free → IsKept s Holds v
    idle free = absurd (none-some (ready happens.line happens.command) (ap standing_of (sym free) ∙ happens.ready))

    at : (t : Option Task) → task s h ≡ t → IsKeptBy t s Holds w h → IsKept s Holds v
    at (Some (Scripted script budget)) is x =
        let c = happens.command in
        let r = happens.reply in
        let u = happens.unit in
        let turn_here = turn s w h k v happens script budget (Holds h) x in
        let taken = x.invariant.own x.rest w.history w.unit c r u turn_here in
        let fits = x.invariant.fields x.rest w.history w.unit happens.line c x.holds turn_here.ready in
        let left = after w h happens.line (spelling c) r u in
        let course = own_kept s w h script budget (Holds h) x happens.line c r u taken in
        let mine = subst (λ t. IsKeptBy t s Holds left h) (sym is) course in
        let unit = noticed (role s h) k h w.unit (Plain c) r u fits happens.answer taken.role in
        subst (IsKept s Holds) (sym happens.world) (all_kept s Holds h w happens.line (spelling c) r u (there s h (Scripted script budget) is) unit kept mine)
    at _ is free = idle free

-- and its role permits what it sends, if that ends GOOD
pub role_kept : (s : Scenario) (Holds : ℕ → Configuration → List Item → UnitState → Type 0) (w : World) (h : ℕ) → IsKept s Holds w → KeepsRole s w h
unfolding turn
role_kept s Holds w h kept k v happens = at (task s h) (kept h)
  where
    at : (t : Option Task) → IsKeptBy t s Holds w h → is_good happens.reply ≡ true → IsTrue (is_permitted (role s h) w.unit.registry h (Plain happens.command))
    at (Some (Scripted script budget)) x = (x.invariant.own x.rest w.history w.unit happens.command happens.reply happens.unit (turn s w h k v happens script budget (Holds h) x)).role
    at _ free = absurd (none-some (ready happens.line happens.command) (ap standing_of (sym free) ∙ happens.ready))

-- ---- a guest's event

guest_kept : (s : Scenario) (Holds : ℕ → Configuration → List Item → UnitState → Type 0) (w : World) (g : ℕ) (wire : Wire) (k : How) (v : World) (happens : GuestSends s w g wire k v) → IsKept s Holds w → IsKept s Holds v
guest_kept s Holds w g wire k v happens kept = at (task s g) refl happens.guest (kept g)
  where
    at : (t : Option Task) → task s g ≡ t → IsTrue (is_guest_task t) → IsKeptBy t s Holds w g → IsKept s Holds v
    at (Some (Planned commands)) is guest free =
        let q = happens.request in
        let r = happens.reply in
        let u = happens.unit in
        let fits = subst FitsWhereRead happens.read (reads_fit wire.cdb.items wire.params.items happens.bytes.0 happens.bytes.1) in
        let left = after w g 0 wire r u in
        let mine = subst (λ t. IsKeptBy t s Holds left g) (sym is) (control_own w g 0 wire r u ∙ ap (λ k. control_after 0 k r) free) in
        let all = all_kept s Holds g w 0 wire r u (there s g (Planned commands) is) (noticed (role s g) k g w.unit q r u fits happens.answer happens.permitted) kept mine in
        subst (IsKept s Holds) (sym happens.world) all
    at _ is guest _ = absurd (false≢true guest)

-- ---- a reset

reset_keeps : (s : Scenario) (Holds : ℕ → Configuration → List Item → UnitState → Type 0) (w : World) (h : ℕ) → IsTrue (may_reset s w.history) → (t : Option Task) → IsKeptBy t s Holds w h → IsKeptBy t s Holds (after_reset w) h
reset_keeps s Holds w h room (Some (Scripted script budget)) course = record {
  invariant = course.invariant;
  rest = course.rest;
  going = course.going;
  holds = course.invariant.resets course.rest w.history w.unit course.holds room;
  within = subst (λ n. n ≤ budget) (sym (sent_reset w.history h)) course.within;
}
reset_keeps s Holds w h room _ free = free

reset_kept : (s : Scenario) (Holds : ℕ → Configuration → List Item → UnitState → Type 0) (w v : World) → IsReset s w v → IsKept s Holds w → IsKept s Holds v
reset_kept s Holds w v happens kept = subst (IsKept s Holds) (sym happens.world) (λ h. reset_keeps s Holds w h happens.room (task s h) (kept h))

-- ---- a fetch

fetch_keeps : (s : Scenario) (Holds : ℕ → Configuration → List Item → UnitState → Type 0) (w : World) (h g code : ℕ) → IsTrue (is_pending w.unit g code) → (t : Option Task) → IsKeptBy t s Holds w h → IsKeptBy t s Holds (after_fetch w g code) h
fetch_keeps s Holds w h g code pending (Some (Scripted script budget)) course = record {
  invariant = course.invariant;
  rest = course.rest;
  going = course.going;
  holds = course.invariant.fetched course.rest w.history w.unit g code course.holds pending;
  within = course.within;
}
fetch_keeps s Holds w h g code pending _ free = free

fetch_kept : (s : Scenario) (Holds : ℕ → Configuration → List Item → UnitState → Type 0) (w : World) (g code : ℕ) (v : World) → IsFetched s w g code v → IsKept s Holds w → IsKept s Holds v
fetch_kept s Holds w g code v happens kept = subst (IsKept s Holds) (sym happens.world) (λ h. fetch_keeps s Holds w h g code happens.pending (task s h) (kept h))

-- ---- runs

event_kept : (s : Scenario) (Holds : ℕ → Configuration → List Item → UnitState → Type 0) (w : World) (e : Event) (v : World) → Happens s w e v → IsKept s Holds w → IsKept s Holds v
event_kept s Holds w (Host h k) v happens kept = host_kept s Holds w h k v happens kept
event_kept s Holds w (Guest g wire k) v happens kept = guest_kept s Holds w g wire k v happens kept
event_kept s Holds w UnitReset v happens kept = reset_kept s Holds w v happens kept
event_kept s Holds w (Fetched g code) v happens kept = fetch_kept s Holds w g code v happens kept

pub run_kept : (s : Scenario) (Holds : ℕ → Configuration → List Item → UnitState → Type 0) (w : World) (es : List Event) (v : World) → Run s w es v → IsKept s Holds w → IsKept s Holds v
run_kept s Holds w [] v run kept = subst (IsKept s Holds) (sym run) kept
run_kept s Holds w (e ∷ es) v run kept = run_kept s Holds run.0 es v run.2 (event_kept s Holds w e run.0 run.1 kept)
