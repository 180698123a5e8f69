-- What one nexus does makes the turn of the schedule.
use Rattle.pr_world.proofs.Common.{◌≡◌, ℕ, ◌<◌, Bool, true, false, List, [], ◌∷◌, ◌++◌, map, length, get_or, IsTrue, slice_get, slice_set, Some, None, Option, option_map, sym, refl, ap, ◌∙◌, subst, append-nil, option_map_or, get_or-map, map-set_same, length-map, map-set, slice_get-map, slice_get-get_or, Command, Reply, UnitState, Stmts, Standing, ready, stopped, how_now, Task, Scripted, Planned, role, task, Scenario, scenario_of, plan, next_of, is_passed_over, TurnAs, Turn, Control, Going, Trapped, Free, standing_of, control_after, control, is_trapped, Entry, How, Item, Sent, Parts, Clause, is_free, is_planned, ending, Participant, Participation, participation_of, schedule_by, HappensBy, StandsFor, does}
use Rattle.pr_roles.specs.declared.parts.Nexus.{Nexus as NexusPart}
use Rattle.pr_roles.specs.Schedules as turn
use Rattle.pr_roles.proofs.lemmas.Schedules.NextCommands.{schedule_same, plans_same, next_is, passes_by}
use Rattle.pr_audit.proofs.lemmas.Auditing.Judgements.{free_taken}
use Rattle.pr_audit.proofs.lemmas.Auditing.Parts.{role_at}
use Rattle.pr_world.specs.inside.Participations.{items_of, participation}
use Rattle.pr_audit.specs.Ends.{Ending}
use Rattle.pr_world.proofs.lemmas.Participations.Others.{at_participation, control_at, has_task, plan_at, rests, sends, with_participation, world_by}
use Rattle.pr_world.proofs.lemmas.Turns.Events.{happens_at_participation}
use Rattle.pr_world.specs.declared.act.Act.{Act}
use Rattle.pr_world.specs.declared.act.Act.TheVariants as act
use Rattle.pr_world.specs.inside.Turns.{Acts, ActsAs, Rests, GuestActs, HostActs, SendsOr, Doing, sends as sending, doing_of, entry_in, does_as}

-- ---- nothing is sent

nothing_sent : (so : How) (s : Scenario) (u v : UnitState) (xs : List Participation) (es : List Item) (h : ℕ) (x y : Participation) → get_or xs h x ≡ x → next_of s (schedule_by u xs es) h ≡ None → Rests u x y v
    → TurnAs s (schedule_by u xs es) h so (schedule_by v (with_participation xs h y) (es ++ []))
nothing_sent so s u v xs es h x y at none acts =
    turn.rests none (schedule_same _ _ (rests u v xs es h x y at (ap (λ s. s.control) acts.0) acts.1) (map-set_same (λ s. s.plan) xs h y x (ap (λ s. s.plan) (acts.0 ∙ sym at))))

-- ---- hosts

host_turn : (so : How) (s : Scenario) (script : Stmts) (budget : ℕ) (o : Option Standing) (u v : UnitState) (xs : List Participation) (es : List Item) (h : ℕ) (e : Option Entry) (x y : Participation) → task s h ≡ Some (Scripted script budget)
    → slice_get xs h ≡ Some x → get_or xs h x ≡ x → standing_of x.control ≡ o → HostActs so o h x u e y v → TurnAs s (schedule_by u xs es) h so (schedule_by v (with_participation xs h y) (es ++ items_of e))
host_turn so s script budget (Some (ready line c)) u v xs es h (Some e) x y is here at stands acts =
    turn.sends line c (plan (schedule_by u xs es) h) (next_is s (schedule_by u xs es) h _ _ _ is (ap standing_of (control_at u xs es h x here) ∙ stands) refl) (passes_by s (schedule_by u xs es) h so c _ is)
    (sends so u v xs es h line c e x y here acts.0 (ap (λ s. s.control) acts.1))
    (map-set_same (λ s. s.plan) xs h y x (ap (λ s. s.plan) acts.1 ∙ ap (λ s. s.plan) (sym at)) ∙ sym (plans_same (map (λ s. s.plan) xs) h))
host_turn so s script budget (Some (stopped w)) u v xs es h None x y is here at stands acts =
    nothing_sent so s u v xs es h x y at (next_is s (schedule_by u xs es) h _ _ _ is (ap standing_of (control_at u xs es h x here) ∙ stands) refl) acts
host_turn so s script budget None u v xs es h None x y is here at stands acts =
    nothing_sent so s u v xs es h x y at (next_is s (schedule_by u xs es) h _ _ _ is (ap standing_of (control_at u xs es h x here) ∙ stands) refl) acts
host_turn so s script budget _ u v xs es h _ x y is here at stands acts = absurd acts

-- ---- guests

guest_turn : (so : How) (s : Scenario) (commands planned : List Command) (u v : UnitState) (xs : List Participation) (es : List Item) (h : ℕ) (e : Option Entry) (y : Participation) → task s h ≡ Some (Planned commands)
    → slice_get xs h ≡ Some (participation Free planned) → get_or xs h (participation Free planned) ≡ participation Free planned → GuestActs so (role s h) h planned u e y v
    → TurnAs s (schedule_by u xs es) h so (schedule_by v (with_participation xs h y) (es ++ items_of e))
guest_turn so s commands [] u v xs es h (Some e) y is here at acts = absurd acts
guest_turn so s commands [] u v xs es h None y is here at acts =
    nothing_sent so s u v xs es h (participation Free []) y at (next_is s (schedule_by u xs es) h _ _ _ is refl (plan_at u xs es h (participation Free []) here)) acts
guest_turn so s commands (c ∷ cs) u v xs es h e y is here at acts = by (is_passed_over so (role s h) u h c) e refl acts.0
  where
    comes : next_of s (schedule_by u xs es) h ≡ Some (0, c, cs)
    comes = next_is s (schedule_by u xs es) h _ _ _ is refl (plan_at u xs es h (participation Free (c ∷ cs)) here)

    plans : map (λ s. s.plan) (with_participation xs h y) ≡ slice_set (map (λ s. s.plan) xs) h cs
    plans = map-set (λ s. s.plan) xs h y ∙ ap (λ s. slice_set (map (λ s. s.plan) xs) h s.plan) acts.1

    by : (b : Bool) (e : Option Entry) → is_passed_over so (role s h) u h c ≡ b → SendsOr so b h u c e v → TurnAs s (schedule_by u xs es) h so (schedule_by v (with_participation xs h y) (es ++ items_of e))
    by true None held same =
        turn.passes 0 c cs comes (passes_by s (schedule_by u xs es) h so c _ is ∙ held)
        (schedule_same (record { world = world_by u xs es; plans = slice_set (map (λ s. s.plan) xs) h cs }) _ (rests u v xs es h (participation Free (c ∷ cs)) y at (ap (λ s. s.control) acts.1) same) plans)
    by false (Some e) free sent =
        turn.sends 0 c cs comes (passes_by s (schedule_by u xs es) h so c _ is ∙ free) (sends so u v xs es h 0 c e (participation Free (c ∷ cs)) y here sent (ap (λ s. s.control) acts.1)) plans
    by _ _ held bad = absurd bad

-- ---- the turn

turn_by : (so : How) (t : Task) (k : Control) (s : Scenario) (u v : UnitState) (xs : List Participation) (es : List Item) (h : ℕ) (e : Option Entry) (p : List Command) (y : Participation) → task s h ≡ Some t
    → slice_get xs h ≡ Some (participation k p) → get_or xs h (participation k p) ≡ participation k p → is_planned t ≡ is_free k → ActsAs so k (role s h) h (participation k p) u e y v
    → TurnAs s (schedule_by u xs es) h so (schedule_by v (with_participation xs h y) (es ++ items_of e))
turn_by so (Scripted script budget) Free s u v xs es h e p y is here at fits acts = let bad : false ≡ true = fits in cc
turn_by so (Scripted script budget) (Going l) s u v xs es h e p y is here at fits acts = host_turn so s script budget (standing_of (Going l)) u v xs es h e (participation (Going l) p) y is here at refl acts
turn_by so (Scripted script budget) (Trapped line) s u v xs es h e p y is here at fits acts = host_turn so s script budget None u v xs es h e (participation (Trapped line) p) y is here at refl acts
turn_by so (Planned commands) Free s u v xs es h e p y is here at fits acts = guest_turn so s commands p u v xs es h e y is here at acts
turn_by so (Planned commands) _ s u v xs es h e p y is here at fits acts = let bad : true ≡ false = fits in cc

pub turn_of_seats : (wanted : How) (s : Scenario) (u v : UnitState) (xs : List Participation) (es : List Item) (h : ℕ) (e : Option Entry) (x y : Participation) → StandsFor s u xs → h < length xs
    → get_or xs h x ≡ x → Acts (how_now s es h wanted) (role s h) h x u e y v → Turn s (schedule_by u xs es) h wanted (schedule_by v (with_participation xs h y) (es ++ items_of e))
turn_of_seats wanted s u v xs es h e x y stands there at acts =
    let here = at_participation xs h x there at in
    let has = has_task s u xs h x stands here in
    turn_by (how_now s es h wanted) has.nexus.task x.control s u v xs es h e x.plan y (ap (λ o. option_map_or (λ n. Some n.task) o None) has.is) here at has.planned acts

-- ---- who is a guest stays one

free_host : (so : How) (o : Option Standing) (h : ℕ) (x : Participation) (u : UnitState) (e : Option Entry) (y : Participation) (v : UnitState) → ((line : ℕ) (r : Reply) → is_free (control_after line x.control r) ≡ is_free x.control)
    → HostActs so o h x u e y v → is_free y.control ≡ is_free x.control
free_host so (Some (ready line c)) h x u (Some e) y v same acts = ap (λ s. is_free s.control) acts.1 ∙ same line e.reply
free_host so (Some (stopped w)) h x u None y v same acts = ap (λ s. is_free s.control) acts.0
free_host so None h x u None y v same acts = ap (λ s. is_free s.control) acts.0
free_host so _ h x u _ y v same acts = absurd acts

free_guest : (so : How) (clauses : List Clause) (h : ℕ) (planned : List Command) (u : UnitState) (e : Option Entry) (y : Participation) (v : UnitState) → GuestActs so clauses h planned u e y v → is_free y.control ≡ true
free_guest so clauses h [] u (Some e) y v acts = absurd acts
free_guest so clauses h [] u None y v acts = ap (λ s. is_free s.control) acts.0
free_guest so clauses h (c ∷ cs) u e y v acts = ap (λ s. is_free s.control) acts.1

free_kept : (so : How) (clauses : List Clause) (h : ℕ) (k : Control) (p : List Command) (u : UnitState) (e : Option Entry) (y : Participation) (v : UnitState) → ActsAs so k clauses h (participation k p) u e y v → is_free y.control ≡ is_free k
free_kept so clauses h (Going l) p u e y v acts = free_host so (standing_of (Going l)) h (participation (Going l) p) u e y v (λ line r. free_taken line l r) acts
free_kept so clauses h (Trapped at) p u e y v acts = free_host so None h (participation (Trapped at) p) u e y v (λ line r. refl) acts
free_kept so clauses h Free p u e y v acts = free_guest so clauses h p u e y v acts

-- ---- participants

-- after the turn of one among these participants
pub record IsTurned (s : Scenario) (u : UnitState) (ps : List Participant) (es : List Item) (h : ℕ) (wanted : How) (e : Option Entry) (v : UnitState) (qs : List Participant) (fs : List Item) : Type 0 where
  pub turn : Turn s (schedule_by u (map participation_of ps) es) h wanted (schedule_by v (map participation_of qs) fs)
  pub happens : HappensBy s h e (world_by u (map participation_of ps) es) (world_by v (map participation_of qs) fs)
  pub stands : StandsFor s v (map participation_of qs)

pub length-tasks : (s : Scenario) (u : UnitState) (xs : List Participation) → StandsFor s u xs → length xs ≡ length s.nexuses
length-tasks s u xs stands = sym (length-map xs (λ x. is_free x.control)) ∙ (ap length stands.tasks ∙ length-map s.nexuses (λ n. is_planned n.task))

pub length-participants : (s : Scenario) (u : UnitState) (ps : List Participant) → StandsFor s u (map participation_of ps) → length ps ≡ length s.nexuses
length-participants s u ps stands = sym (length-map ps participation_of) ∙ length-tasks s u (map participation_of ps) stands

turned : (wanted : How) (s : Scenario) (u v : UnitState) (ps : List Participant) (es : List Item) (h : ℕ) (e : Option Entry) (p q : Participant) → StandsFor s u (map participation_of ps) → h < length s.nexuses
    → get_or ps h p ≡ p → Acts (how_now s es h wanted) (role s h) h (participation_of p) u e (participation_of q) v → v.registry.hosts ≡ u.registry.hosts
    → IsTurned s u ps es h wanted e v (slice_set ps h q) (es ++ items_of e)
turned wanted s u v ps es h e p q stands there at acts hosts =
    let xs = map participation_of ps in
    let among : h < length xs = rw (length-tasks s u xs stands) there in
    let seated : get_or xs h (participation_of p) ≡ participation_of p = get_or-map participation_of ps h p ∙ ap participation_of at in
    let participations : map participation_of (slice_set ps h q) ≡ slice_set xs h (participation_of q) = map-set participation_of ps h q in
    let free = free_kept (how_now s es h wanted) (role s h) h (participation_of p).control (participation_of p).plan u e (participation_of q) v acts in
    record {
      turn = subst (λ ys. Turn s (schedule_by u xs es) h wanted (schedule_by v ys (es ++ items_of e))) (sym participations)
          (turn_of_seats wanted s u v xs es h e (participation_of p) (participation_of q) stands among seated acts);
      happens = subst (λ ys. HappensBy s h e (world_by u xs es) (world_by v ys (es ++ items_of e))) (sym participations) (happens_at_participation wanted s u v xs es h e (participation_of p) (participation_of q) stands among seated acts);
      stands = record {
        hosts = hosts ∙ stands.hosts;
        tasks = ap (map (λ x. is_free x.control)) participations
            ∙ (map-set_same (λ x. is_free x.control) xs h (participation_of q) (participation_of p) (free ∙ ap (λ x. is_free x.control) (sym seated)) ∙ stands.tasks);
      };
    }

pub turn_made : (so wanted : How) (p q : Parts) (u v : UnitState) (ps : List Participant) (es fs : List Item) (h i : ℕ) (e : Option Entry) (n : NexusPart) (x y : Participant)
    → StandsFor (scenario_of p) u (map participation_of ps) → h < length (scenario_of p).nexuses → q ≡ p → i ≡ h → n ≡ get_or q.nexuses.items i n → x ≡ get_or ps i x
    → so ≡ how_now (scenario_of p) es h wanted → Acts so n.role.clauses.items h (participation_of x) u e (participation_of y) v → v.registry.hosts ≡ u.registry.hosts → fs ≡ es ++ items_of e
    → IsTurned (scenario_of p) u ps es h wanted e v (slice_set ps i y) fs
turn_made so wanted p q u v ps es fs h i e n x y stands there same at nexus participation told acts hosts added =
    let named = nexus ∙ (ap (λ r. get_or r.nexuses.items i n) same ∙ ap (λ j. get_or p.nexuses.items j n) at) in
    let acting = subst (λ clauses. Acts (how_now (scenario_of p) es h wanted) clauses h (participation_of x) u e (participation_of y) v) (role_at p h n there named)
    (subst (λ k. Acts k n.role.clauses.items h (participation_of x) u e (participation_of y) v) told acts) in
    subst (λ j. IsTurned (scenario_of p) u ps es h wanted e v (slice_set ps j y) fs) (sym at)
    (subst (λ gs. IsTurned (scenario_of p) u ps es h wanted e v (slice_set ps h y) gs) (sym added)
    (turned wanted (scenario_of p) u v ps es h e x y stands there (sym (participation ∙ ap (λ j. get_or ps j x) at)) acting hosts))

pub nothing_added : (es : List Item) (e : Option Entry) → None ≡ e → es ≡ es ++ items_of e
nothing_added es e none = sym (append-nil es) ∙ ap (λ o. es ++ items_of o) none

pub entry_added : (es fs : List Item) (x : Entry) (e : Option Entry) → fs ≡ es ++ Sent x ∷ [] → Some x ≡ e → fs ≡ es ++ items_of e
entry_added es fs x e added is = added ∙ ap (λ o. es ++ items_of o) is

-- a turn that sends an entry is one that sends
pub sends_entry : (a : Act) (e : Entry) → Some e ≡ entry_in a → doing_of a ≡ sending
sends_entry (act.Sent x) e is = refl
sends_entry _ e is = let bad : Some e ≡ None = is in cc

-- what h would do is found at its participation, before its turn
pub doing_at : (so wanted : How) (p q : Parts) (u : UnitState) (ps : List Participant) (es : List Item) (h i : ℕ) (d : Doing) (n : NexusPart) (x : Participant)
    → StandsFor (scenario_of p) u (map participation_of ps) → h < length (scenario_of p).nexuses → q ≡ p → i ≡ h → n ≡ get_or q.nexuses.items i n → x ≡ get_or ps i x
    → so ≡ how_now (scenario_of p) es h wanted → d ≡ does_as so (participation_of x).control n.role.clauses.items u h (participation_of x).plan
    → d ≡ does (scenario_of p) (schedule_by u (map participation_of ps) es) h wanted
doing_at so wanted p q u ps es h i d n x stands there same at nexus participation told does_so =
    let s = scenario_of p in
    let xs = map participation_of ps in
    let among : h < length xs = rw (length-tasks s u xs stands) there in
    let seated : get_or xs h (participation_of x) ≡ participation_of x = get_or-map participation_of ps h x ∙ ap participation_of (sym (participation ∙ ap (λ j. get_or ps j x) at)) in
    let found = at_participation xs h (participation_of x) among seated in
    let named = nexus ∙ (ap (λ r. get_or r.nexuses.items i n) same ∙ ap (λ j. get_or p.nexuses.items j n) at) in
    subst (λ k. d ≡ does_as k (participation_of x).control (role s h) u h (participation_of x).plan) told
    (subst (λ clauses. d ≡ does_as so (participation_of x).control clauses u h (participation_of x).plan) (role_at p h n there named) does_so)
    ∙ sym (λ i. does_as (how_now s es h wanted) (control_at u xs es h (participation_of x) found i) (role s h) u h (plan_at u xs es h (participation_of x) found i))

-- ---- who is in a participation, as the schedule has it

pub seat_here : (ps : List Participant) (h i : ℕ) (x : Participant) → h < length ps → i ≡ h → x ≡ get_or ps i x → slice_get (map participation_of ps) h ≡ Some (participation_of x)
seat_here ps h i x there at participation =
    slice_get-map participation_of ps h ∙ ap (option_map participation_of) (slice_get-get_or ps h x there ∙ ap Some (sym (participation ∙ ap (λ j. get_or ps j x) at)))

-- one that is trapped there is trapped in the schedule
pub trapped_here : (s : Scenario) (u : UnitState) (ps : List Participant) (es : List Item) (h i : ℕ) (x : Participant) → StandsFor s u (map participation_of ps) → h < length s.nexuses → i ≡ h
    → x ≡ get_or ps i x → IsTrue (is_trapped (participation_of x).control) → IsTrue (is_trapped (control (world_by u (map participation_of ps) es) h))
trapped_here s u ps es h i x stands there at participation trapped =
    let found = seat_here ps h i x (rw (length-participants s u ps stands) there) at participation in
    subst (λ k. IsTrue (is_trapped k)) (sym (control_at u (map participation_of ps) es h (participation_of x) found)) trapped

-- its end is that of what the schedule has
pub end_here : (u : UnitState) (ps : List Participant) (es : List Item) (h i : ℕ) (x : Participant) (e : Option Ending) → h < length ps → i ≡ h → x ≡ get_or ps i x
    → ending (participation_of x).control (participation_of x).plan ≡ e → ending (control (world_by u (map participation_of ps) es) h) (plan (schedule_by u (map participation_of ps) es) h) ≡ e
end_here u ps es h i x e there at participation is =
    let xs = map participation_of ps in
    let found = seat_here ps h i x there at participation in
    (λ j. ending (control_at u xs es h (participation_of x) found j) (plan_at u xs es h (participation_of x) found j)) ∙ is
