-- What a nexus is, where its turn does one thing or another.
use Rattle.pr_world.proofs.Common.{◌≡◌, ℕ, zero, suc, ◌<◌, Bool, true, false, List, [], ◌∷◌, length, if◌then◌else◌, slice_get, slice_set, Some, None, Option, sym, refl, ap, ◌∙◌, subst, arith, option_map_or, false≢true, Command, UnitState, Stmts, Standing, ready, stopped, how_now, Task, Scripted, Planned, role, task, Scenario, Schedule, plan, next_of, is_passed_over, TurnAs, Turn, Control, Going, Trapped, Free, standing_of, control, How, Item, Clause, is_free, is_planned, Participation, schedule_by, StandsFor, does}
use Rattle.std.proofs.Common.{◌⊎◌, inl, inr, codes}
use Rattle.std.proofs.lemmas.Option.{none-some, same_Some}
use Rattle.pr_roles.specs.declared.how.How.TheVariants as how
use Rattle.pr_roles.specs.Schedules.{is_held_back, passes_over}
use Rattle.pr_roles.specs.Schedules as turn
use Rattle.pr_roles.proofs.lemmas.Schedules.NextCommands.{next_is, passes_by, nothing_next}
use Rattle.pr_world.specs.StepAnswers.{IsStopped, IsStoppedBy, PassesOver}
use Rattle.pr_world.specs.inside.Turns.{Doing, sends, stops, is_trapped, is_done, passes, host_does, does_as}
use Rattle.pr_world.proofs.lemmas.Participations.Others.{control_at, has_task}
use Rattle.pr_world.proofs.lemmas.Turns.Schedules.{length-tasks}

-- ---- its task

-- h has a task, and just a guest sends what it likes
pub record HasItsTask (s : Scenario) (x : Schedule) (h : ℕ) : Type 0 where
  pub its_task : Task
  pub is : task s h ≡ Some its_task
  pub fits : is_planned its_task ≡ is_free (control x.world h)

found_participation : (xs : List Participation) (h : ℕ) → h < length xs → (x : Participation) × (slice_get xs h ≡ Some x)
found_participation [] h there = absurd (omega arith)
found_participation (x ∷ xs) zero there = (x, refl)
found_participation (x ∷ xs) (suc h) there = found_participation xs h (omega arith)

pub has_its_task : (s : Scenario) (u : UnitState) (xs : List Participation) (es : List Item) (h : ℕ) → StandsFor s u xs → h < length s.nexuses → HasItsTask s (schedule_by u xs es) h
has_its_task s u xs es h stands there =
    let found = found_participation xs h (rw (length-tasks s u xs stands) there) in
    let has = has_task s u xs h found.0 stands found.1 in
    record {
      its_task = has.nexus.task;
      is = ap (λ o. option_map_or (λ n. Some n.task) o None) has.is;
      fits = has.planned ∙ ap is_free (sym (control_at u xs es h found.0 found.1));
    }

-- ---- what it is

-- the script of a host stands so
pub record HostStands (s : Scenario) (x : Schedule) (h : ℕ) (standing : Standing) : Type 0 where
  pub script : Stmts
  pub budget : ℕ
  pub is : task s h ≡ Some (Scripted script budget)
  pub stands : standing_of (control x.world h) ≡ Some standing

-- so much of its plan is left to a guest
pub record GuestHas (s : Scenario) (x : Schedule) (h : ℕ) (left : List Command) : Type 0 where
  pub commands : List Command
  pub is : task s h ≡ Some (Planned commands)
  pub has : plan x h ≡ left

pub record HostIsReady (s : Scenario) (x : Schedule) (h : ℕ) : Type 0 where
  pub line : ℕ
  pub command : Command
  pub host : HostStands s x h (ready line command)

-- the next command of a guest is passed over, if it is answered so, or it is not
pub record GuestIsReady (so : How) (s : Scenario) (x : Schedule) (h : ℕ) (held_back : Bool) : Type 0 where
  pub command : Command
  pub left : List Command
  pub guest : GuestHas s x h (command ∷ left)
  pub held : is_passed_over so (role s h) x.world.unit h command ≡ held_back

abbrev pub Means : How → Doing → Scenario → Schedule → ℕ → Type 0
Means so sends s x h = HostIsReady s x h ⊎ GuestIsReady so s x h false
Means so (stops word) s x h = HostStands s x h (stopped word)
Means so is_trapped s x h = Unit {0}
Means so is_done s x h = GuestHas s x h []
Means so passes s x h = GuestIsReady so s x h true

means_by : (so : How) (s : Scenario) (x : Schedule) (h : ℕ) (t : Task) (k : Control) (planned : List Command) → task s h ≡ Some t → control x.world h ≡ k → plan x h ≡ planned
    → is_planned t ≡ is_free k → Means so (does_as so k (role s h) x.world.unit h planned) s x h
means_by so s x h (Scripted script budget) (Going l) planned is goes left fits = host (standing_of (Going l)) refl
  where
    host : (o : Option Standing) → standing_of (Going l) ≡ o → Means so (host_does o) s x h
    host None at = tt
    host (Some (ready line c)) at = inl (record {
      line = line;
      command = c;
      host = record { script = script; budget = budget; is = is; stands = ap standing_of goes ∙ at };
    })
    host (Some (stopped word)) at = record { script = script; budget = budget; is = is; stands = ap standing_of goes ∙ at }
means_by so s x h (Scripted script budget) (Trapped line) planned is goes left fits = tt
means_by so s x h (Scripted script budget) Free planned is goes left fits = let bad : false ≡ true = fits in cc
means_by so s x h (Planned commands) Free [] is goes left fits = record { commands = commands; is = is; has = left }
means_by so s x h (Planned commands) Free (c ∷ cs) is goes left fits = by (is_passed_over so (role s h) x.world.unit h c) refl
  where
    guest : (b : Bool) → is_passed_over so (role s h) x.world.unit h c ≡ b → GuestIsReady so s x h b
    guest b held = record { command = c; left = cs; guest = record { commands = commands; is = is; has = left }; held = held }

    by : (b : Bool) → is_passed_over so (role s h) x.world.unit h c ≡ b → Means so (if b then passes else sends) s x h
    by true held = guest true held
    by false held = inr (guest false held)
means_by so s x h (Planned commands) _ planned is goes left fits = let bad : true ≡ false = fits in cc

pub means : (wanted : How) (s : Scenario) (x : Schedule) (h : ℕ) (d : Doing) → HasItsTask s x h → d ≡ does s x h wanted → Means (how_now s x.world.history h wanted) d s x h
means wanted s x h d has is = subst (λ d. Means (how_now s x.world.history h wanted) d s x h) (sym is) (means_by (how_now s x.world.history h wanted) s x h has.its_task (control x.world h) (plan x h) has.is refl refl has.fits)

-- ---- what its turn comes to

pub stopped_is : (s : Scenario) (x : Schedule) (h : ℕ) (word : List ℕ) → HostStands s x h (stopped word) → IsStopped s x h word
stopped_is s x h word host = subst (λ t. IsStoppedBy t x h word) (sym host.is) host.stands

pub done_is : (s : Scenario) (x : Schedule) (h : ℕ) → GuestHas s x h [] → IsStopped s x h (codes "end")
done_is s x h guest = subst (λ t. IsStoppedBy t x h (codes "end")) (sym guest.is) (guest.has, refl)

pub stopped_rests : (wanted : How) (s : Scenario) (x y : Schedule) (h : ℕ) (word : List ℕ) → HostStands s x h (stopped word) → Turn s x h wanted y → y ≡ x
stopped_rests wanted s x y h word host turn = nothing_next s x h (how_now s x.world.history h wanted) y (next_is s x h _ _ _ host.is host.stands refl) turn

pub done_rests : (wanted : How) (s : Scenario) (x y : Schedule) (h : ℕ) → GuestHas s x h [] → Turn s x h wanted y → y ≡ x
done_rests wanted s x y h guest turn = nothing_next s x h (how_now s x.world.history h wanted) y (next_is s x h _ _ _ guest.is refl guest.has) turn

-- just what the unit would answer is passed over
held_back : (so : How) (clauses : List Clause) (u : UnitState) (h : ℕ) (c : Command) → is_passed_over so clauses u h c ≡ true → is_held_back clauses u h c ≡ true
held_back how.Plain clauses u h c is = is
held_back how.Early clauses u h c is = is
held_back _ clauses u h c is = absurd (false≢true is)

passed_by : (so : How) (s : Scenario) (x y : Schedule) (h : ℕ) → GuestIsReady so s x h true → TurnAs s x h so y → PassesOver s x h y
passed_by so s x y h guest turned = at turned
  where
    comes : next_of s x h ≡ Some (0, guest.command, guest.left)
    comes = next_is s x h _ _ _ guest.guest.is refl guest.guest.has

    over : passes_over s x h so guest.command ≡ true
    over = passes_by s x h so guest.command _ guest.guest.is ∙ guest.held

    at : TurnAs s x h so y → PassesOver s x h y
    at (turn.rests none same) = absurd (none-some _ (sym none ∙ comes))
    at (turn.sends line c left is free sent plans) =
        let one : (0, guest.command, guest.left) ≡ (line, c, left) = same_Some _ _ (sym comes ∙ is) in
        absurd (false≢true (sym free ∙ (sym (ap (λ n. passes_over s x h so n.1) one) ∙ over)))
    at (turn.passes line c left is held after) =
        let one : (0, guest.command, guest.left) ≡ (line, c, left) = same_Some _ _ (sym comes ∙ is) in
        record {
          command = guest.command;
          left = guest.left;
          next = guest.guest.has;
          held = held_back so (role s h) x.world.unit h guest.command guest.held;
          after = after ∙ sym (ap (λ n. record { world = x.world; plans = slice_set x.plans h n.2 }) one);
        }

pub passed_over : (wanted : How) (s : Scenario) (x y : Schedule) (h : ℕ) → GuestIsReady (how_now s x.world.history h wanted) s x h true → Turn s x h wanted y → PassesOver s x h y
passed_over wanted s x y h guest turned = passed_by (how_now s x.world.history h wanted) s x y h guest turned
