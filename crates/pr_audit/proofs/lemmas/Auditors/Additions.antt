-- The items that some event adds to a world are just those that may come next.
use Rattle.pr_audit.proofs.Common.{◌≡◌, ℕ, ◌<◌, ◌≤◌, Bool, true, false, List, [], ◌∷◌, ◌++◌, map, length, get_or, IsTrue, slice_get, slice_set, Some, None, Option, option_map, sym, refl, ap, ◌∙◌, subst, arith, option_map_or, map-set_same, false≢true, length-map, slice_get-map, slice_get-get_or, spelling, Command, Reply, Request, Plain, UnitState, ready, Answers, AnswersOn, may_come, Task, Scripted, Planned, Nexus, role, Scenario, Control, Clause, Going, Trapped, Free, standing_of, control_after, World, control, entry_of, Event, Host, Guest, UnitReset, Fetched, is_guest_task, Happens, Entry, How, Item, Sent, Reset, Adds, AddsAfterFetches, IsWorldOf, IsTried, is_free, ActFor, is_planned, IsJudged}
use Rattle.std.proofs.lemmas.List.{append_cancel_left, set-get_or}
use Rattle.std.proofs.lemmas.Option.{slice_get_past}
use Rattle.pr_cdb.specs.declared.wire.Wire.{Wire}
use Rattle.pr_roles.specs.declared.how.How.TheVariants as how
use Rattle.pr_roles.specs.Worlds.{GuestSends, is_guest, after as world_after}
use Rattle.pr_roles.proofs.lemmas.Worlds.Fetches.{fetches_reach_all}
use Rattle.pr_unit.specs.Laws.{IsQuiet}
use Rattle.pr_unit.specs.Replies.{is_good}
use Rattle.pr_unit.specs.SharedPaths.{IsBelow}
use Rattle.pr_unit.specs.inside.SharedStates.{IsAtMost}
use Rattle.pr_unit.specs.UnitStates.{IsWellFormed, reset}
use Rattle.pr_unit.proofs.lemmas.Steps.QuietSteps.{same-quiet}
use Rattle.pr_unit.proofs.lemmas.Steps.SharedSteps.{at_most_below, below_through, early_from_more, reset_below, step_from_more}
use Rattle.pr_registry.specs.Registrations.{State}
use Rattle.pr_roles.specs.Permits.{is_permitted}
use Rattle.pr_roles.specs.Worlds.{IsReset, after_reset, may_reset}
use Rattle.pr_audit.specs.inside.Auditing.{AddsBy, IsBy, IsTriedBy, MayCome, LeadsTo, LeadsToMost}
use Rattle.pr_audit.proofs.lemmas.Auditing.Histories.{one_longer}
use Rattle.pr_audit.proofs.lemmas.Auditing.Ways.{may_way}
use Rattle.pr_audit.proofs.lemmas.Auditing.Judgements.{may_lead, may_most, free_judged, hosts_judged}

-- the world after this entry, of one that acts so then
abbrev pub with_entry : World → Entry → Control → UnitState → World
with_entry w e after v = record {
  unit = v;
  controls = slice_set w.controls e.host after;
  history = w.history ++ Sent e ∷ [];
}

-- ---- what may come is added by an event

adds_by : (so : How) (s : Scenario) (w : World) (e : Entry) (k after : Control) (v : UnitState) → control w e.host ≡ k → (is_free k ≡ true → is_guest s e.host ≡ true)
    → IsTrue (may_come s w.history e.host so) → MayCome (λ q x. Answers so w.unit e.host q e.reply x) k (role s e.host) w.unit.registry e after v → Adds s w (Sent e) (with_entry w e after v)
adds_by so s w e (Going l) after v is guest room may =
    let takes = may.takes ∙ ap (λ k. control_after may.line k e.reply) (sym is) in
    record {
      event = Host e.host so;
      happens = record {
        room = room;
        line = may.line;
        command = may.command;
        ready = ap standing_of is ∙ may.ready;
        reply = e.reply;
        unit = v;
        answer = may.answer;
        world = λ i. record {
          unit = v;
          controls = slice_set w.controls e.host (takes i);
          history = w.history ++ Sent (entry_of e.host (may.wire i) e.reply) ∷ [];
        };
      };
      added = refl;
    }
adds_by so s w e (Trapped line) after v is guest room may = absurd may
adds_by so s w e Free after v is guest room may =
    let takes : after ≡ control_after 0 (control w e.host) e.reply = may.1 ∙ ap (λ k. control_after 0 k e.reply) (sym is) in
    record {
      event = Guest e.host e.wire so;
      happens = record {
        room = room;
        guest = guest refl;
        bytes = may.0.bytes;
        lengths = may.0.lengths;
        request = may.0.request;
        read = may.0.read;
        reply = e.reply;
        unit = v;
        answer = may.0.answer;
        permitted = may.0.permitted;
        world = λ i. record {
          unit = v;
          controls = slice_set w.controls e.host (takes i);
          history = w.history ++ Sent e ∷ [];
        };
      };
      added = refl;
    }

-- ---- what an event adds may come

-- the entry may come, answered so, and leads to this world; who sends what it likes is a guest
pub record Comes (k : How) (s : Scenario) (w : World) (e : Entry) (x : World) : Type 0 where
  pub room : IsTrue (may_come s w.history e.host k)
  pub after : Control
  pub unit : UnitState
  pub may : MayCome (λ q v. Answers k w.unit e.host q e.reply v) (control w e.host) (role s e.host) w.unit.registry e after unit
  pub guest : is_free (control w e.host) ≡ true → is_guest s e.host ≡ true
  pub world : x ≡ with_entry w e after unit

host_comes : (so : How) (s : Scenario) (w : World) (h line : ℕ) (c : Command) (r : Reply) (v : UnitState) (k : Control) → control w h ≡ k → standing_of k ≡ Some (ready line c)
    → IsTrue (may_come s w.history h so) → Answers so w.unit h (Plain c) r v → Comes so s w (entry_of h (spelling c) r) (world_after w h line (spelling c) r v)
host_comes so s w h line c r v (Going l) is stands room answer = record {
  room = room;
  after = control_after line (control w h) r;
  unit = v;
  may = subst (λ k. MayCome (λ q x. Answers so w.unit h q r x) k (role s h) w.unit.registry (entry_of h (spelling c) r) (control_after line k r) v) (sym is)
      (record { line = line; command = c; ready = stands; wire = refl; answer = answer; takes = refl });
  guest = λ free. let bad : false ≡ true = sym (ap is_free is) ∙ free in cc;
  world = refl;
}
host_comes so s w h line c r v _ is stands room answer = let bad : None ≡ Some (ready line c) = stands in cc

guest_comes : (so : How) (s : Scenario) (w : World) (g : ℕ) (wire : Wire) (x : World) → control w g ≡ Free → (sends : GuestSends s w g wire so x)
    → Comes so s w (entry_of g wire sends.reply) (world_after w g 0 wire sends.reply sends.unit)
guest_comes so s w g wire x is sends =
    let e = entry_of g wire sends.reply in
    record {
      room = sends.room;
      after = control_after 0 (control w g) sends.reply;
      unit = sends.unit;
      may = subst (λ k. MayCome (λ q x. Answers so w.unit g q sends.reply x) k (role s g) w.unit.registry e (control_after 0 k sends.reply) sends.unit) (sym is)
          (record { bytes = sends.bytes; lengths = sends.lengths; request = sends.request; read = sends.read; answer = sends.answer; permitted = sends.permitted }, refl);
      guest = λ free. sends.guest;
      world = refl;
    }

-- the entry that was added is the one that the event added
pub same_item : (es fs : List Item) (i j : Item) → fs ≡ es ++ i ∷ [] → fs ≡ es ++ j ∷ [] → i ≡ j
same_item es fs i j one two = let same : i ∷ [] ≡ j ∷ [] = append_cancel_left es (i ∷ []) (j ∷ []) (sym one ∙ two) in cc

pub same_entry : (es fs : List Item) (d e : Entry) → fs ≡ es ++ Sent d ∷ [] → fs ≡ es ++ Sent e ∷ [] → d ≡ e
same_entry es fs d e one two = let same : Sent d ≡ Sent e = same_item es fs (Sent d) (Sent e) one two in cc

comes_as : (k : How) (s : Scenario) (w : World) (d e : Entry) (x y : World) → d ≡ e → y ≡ x → Comes k s w d y → Comes k s w e x
comes_as k s w d e x y one two comes = subst (λ z. Comes k s w e z) two (subst (λ f. Comes k s w f y) one comes)

comes_by : (k : How) (s : Scenario) (w : World) (e : Entry) (x : World) (event : Event) → IsBy k event → ((g : ℕ) → is_guest s g ≡ true → control w g ≡ Free) → Happens s w event x → x.history ≡ w.history ++ Sent e ∷ []
    → Comes k s w e x
comes_by k s w e x (Host h so) by free sends added =
    let same = same_entry w.history x.history (entry_of h (spelling sends.command) sends.reply) e (ap (λ z. z.history) sends.world) added in
    subst (λ j. Comes j s w e x) by
    (comes_as so s w _ e x _ same (sym sends.world) (host_comes so s w h sends.line sends.command sends.reply sends.unit (control w h) refl sends.ready sends.room sends.answer))
comes_by k s w e x (Guest g wire so) by free sends added =
    let same = same_entry w.history x.history (entry_of g wire sends.reply) e (ap (λ z. z.history) sends.world) added in
    subst (λ j. Comes j s w e x) by (comes_as so s w _ e x _ same (sym sends.world) (guest_comes so s w g wire x (free g sends.guest) sends))
comes_by k s w e x UnitReset by free resets added = absurd by
comes_by k s w e x (Fetched h code) by free fetched added = absurd by

-- what adds an entry does so in some way
in_some_way : (s : Scenario) (w : World) (e : Entry) (x : World) (event : Event) → Happens s w event x → x.history ≡ w.history ++ Sent e ∷ [] → (k : How) × IsBy k event
in_some_way s w e x (Host h so) sends added = (so, refl)
in_some_way s w e x (Guest g wire so) sends added = (so, refl)
in_some_way s w e x UnitReset resets added =
    let same = same_item w.history x.history Reset (Sent e) (ap (λ z. z.history) resets.world) added in cc
in_some_way s w e x (Fetched h code) fetched added = absurd (one_longer w.history (Sent e) (sym (ap (λ z. z.history) fetched.world) ∙ added))

pub added_by : (s : Scenario) (w : World) (e : Entry) (x : World) → Adds s w (Sent e) x → (k : How) × AddsBy k s w e x
added_by s w e x adds =
    let way = in_some_way s w e x adds.event adds.happens adds.added in
    (way.0, record { event = adds.event; by = way.1; happens = adds.happens; added = adds.added })

-- what adds a reset is one
pub resets_by : (s : Scenario) (w x : World) → Adds s w Reset x → IsReset s w x
resets_by s w x adds = by adds.event adds.happens adds.added
  where
    by : (event : Event) → Happens s w event x → x.history ≡ w.history ++ Reset ∷ [] → IsReset s w x
    by UnitReset resets added = resets
    by (Host h so) sends added = let same = same_item w.history x.history (Sent (entry_of h (spelling sends.command) sends.reply)) Reset (ap (λ z. z.history) sends.world) added in cc
    by (Guest g wire so) sends added = let same = same_item w.history x.history (Sent (entry_of g wire sends.reply)) Reset (ap (λ z. z.history) sends.world) added in cc
    by (Fetched h code) fetched added = absurd (one_longer w.history Reset (sym (ap (λ z. z.history) fetched.world) ∙ added))

-- ---- just the guests send what they like

free_control : (k : Control) → is_free k ≡ true → k ≡ Free
free_control Free is = refl
free_control _ is = let bad : false ≡ true = is in cc

planned_guest : (t : Task) → is_guest_task (Some t) ≡ is_planned t
planned_guest (Scripted script budget) = refl
planned_guest (Planned commands) = refl

free_by : (o : Option Control) (p : Option Nexus) → option_map is_free o ≡ option_map (λ n. is_planned n.task) p → is_guest_task (option_map_or (λ n. Some n.task) p None) ≡ true
    → option_map_or (λ c. c) o Free ≡ Free
free_by None p same guest = refl
free_by (Some k) None same guest = let bad : false ≡ true = guest in cc
free_by (Some k) (Some n) same guest =
    let both : Some (is_free k) ≡ Some (is_planned n.task) = same in
    let one : is_free k ≡ is_planned n.task = cc in
    free_control k (one ∙ (sym (planned_guest n.task) ∙ guest))

guest_by : (o : Option Control) (p : Option Nexus) (n : Nexus) → option_map is_free o ≡ option_map (λ n. is_planned n.task) p → p ≡ Some n → is_free (option_map_or (λ c. c) o Free) ≡ true
    → is_guest_task (option_map_or (λ n. Some n.task) p None) ≡ true
guest_by o None n same there free = let bad : None ≡ Some n = there in cc
guest_by None (Some m) n same there free = let bad : None ≡ Some (is_planned m.task) = same in cc
guest_by (Some k) (Some m) n same there free =
    let both : Some (is_free k) ≡ Some (is_planned m.task) = same in
    let one : is_free k ≡ is_planned m.task = cc in
    planned_guest m.task ∙ (sym one ∙ free)

tasks_at : (s : Scenario) (w : World) (h : ℕ) → ActFor s w → option_map is_free (slice_get w.controls h) ≡ option_map (λ n. is_planned n.task) (slice_get s.nexuses h)
tasks_at s w h acts = sym (slice_get-map is_free w.controls h) ∙ (ap (λ l. slice_get l h) acts.tasks ∙ slice_get-map (λ n. is_planned n.task) s.nexuses h)

pub guests_free : (s : Scenario) (w : World) → ActFor s w → (g : ℕ) → is_guest s g ≡ true → control w g ≡ Free
guests_free s w acts g guest = free_by (slice_get w.controls g) (slice_get s.nexuses g) (tasks_at s w g acts) guest

free_guests : (s : Scenario) (w : World) (h : ℕ) → ActFor s w → h < length s.nexuses → is_free (control w h) ≡ true → is_guest s h ≡ true
free_guests s w h acts there free = by s.nexuses there (tasks_at s w h acts)
  where
    by : (ns : List Nexus) → h < length ns → option_map is_free (slice_get w.controls h) ≡ option_map (λ n. is_planned n.task) (slice_get ns h)
        → is_guest_task (option_map_or (λ n. Some n.task) (slice_get ns h) None) ≡ true
    by [] there same = absurd (omega arith)
    by (n ∷ ns) there same = guest_by (slice_get w.controls h) (slice_get (n ∷ ns) h) (get_or (n ∷ ns) h n) same (slice_get-get_or (n ∷ ns) h n there) free

-- ---- worlds in which less is pending

pub acts_below : (s : Scenario) (w x : World) → IsWorldOf s w x → ActFor s w → ActFor s x
acts_below s w x of acts = record {
  hosts = ap (λ (r : State). r.hosts) of.below.registry ∙ acts.hosts;
  tasks = ap (map is_free) of.controls ∙ acts.tasks;
}

-- a request that is answered so where less is pending is answered so after fetches, which leaves no less
record IsFromMore (s : Scenario) (so : How) (u : UnitState) (h : ℕ) (q : Request) (r : Reply) (v : UnitState) : Type 0 where
  pub state : UnitState
  pub answer : AnswersOn (s.shared h) so u h q r state
  pub below : IsBelow s.shared state v

on_path : (b : Bool) (so : How) (u from : UnitState) (h : ℕ) (q : Request) (r : Reply) (v : UnitState) → IsAtMost b u h from → Answers so from h q r v → AnswersOn b so u h q r v
on_path true so u from h q r v less answer = record { from = from; less = less; answer = answer }
on_path false so u from h q r v same answer = subst (λ x. Answers so x h q r v) same answer

same_most : (b : Bool) (u : UnitState) (h : ℕ) → IsAtMost b u h u
same_most true u h = same-quiet u h
same_most false u h = refl

answers_from_more : (s : Scenario) (so : How) (u x : UnitState) (h : ℕ) (q : Request) (r : Reply) (v : UnitState) → IsBelow s.shared u x → Answers so x h q r v → IsFromMore s so u h q r v
answers_from_more s how.Plain u x h q r v below step =
    let more = step_from_more s.shared u x h below q r v step in
    record { state = more.after; answer = on_path (s.shared h) how.Plain u more.from h q r more.after more.less more.answer; below = more.below }
answers_from_more s how.Early u x h q r v below early =
    let more = early_from_more s.shared u x h below q r v early in
    record { state = more.after; answer = on_path (s.shared h) how.Early u more.from h q r more.after more.less more.answer; below = more.below }
answers_from_more s how.Busy u x h q r v below refused = record {
  state = u;
  answer = on_path (s.shared h) how.Busy u u h q r u (same_most (s.shared h) u h) (refused.0, refl);
  below = subst (IsBelow s.shared u) (sym refused.1) below;
}
answers_from_more s how.Full u x h q r v below refused = record {
  state = u;
  answer = on_path (s.shared h) how.Full u u h q r u (same_most (s.shared h) u h) (refused.0, refl);
  below = subst (IsBelow s.shared u) (sym refused.1) below;
}

-- the same of an entry
record MayComeFromMore (s : Scenario) (so : How) (k : Control) (clauses : List Clause) (u : UnitState) (e : Entry) (after : Control) (v : UnitState) : Type 0 where
  pub state : UnitState
  pub may : MayCome (LeadsTo (s.shared e.host) so u e) k clauses u.registry e after state
  pub below : IsBelow s.shared state v

may_from_more : (s : Scenario) (so : How) (k : Control) (clauses : List Clause) (u x : UnitState) (e : Entry) (after : Control) (v : UnitState) → IsBelow s.shared u x
    → MayCome (λ q y. Answers so x e.host q e.reply y) k clauses x.registry e after v → MayComeFromMore s so k clauses u e after v
may_from_more s so (Going l) clauses u x e after v below may =
    let more = answers_from_more s so u x e.host (Plain may.command) e.reply v below may.answer in
    record { state = more.state; may = record { line = may.line; command = may.command; ready = may.ready; wire = may.wire; answer = more.answer; takes = may.takes }; below = more.below }
may_from_more s so (Trapped line) clauses u x e after v below may = absurd may
may_from_more s so Free clauses u x e after v below may =
    let more = answers_from_more s so u x e.host may.0.request e.reply v below may.0.answer in
    record {
      state = more.state;
      may = (
        record {
          bytes = may.0.bytes;
          lengths = may.0.lengths;
          request = may.0.request;
          read = may.0.read;
          answer = more.answer;
          permitted = subst (λ (r : State). is_good e.reply ≡ true → IsTrue (is_permitted clauses r e.host may.0.request)) below.registry may.0.permitted;
        },
        may.1,
      );
      below = more.below;
    }

-- ---- what may come is added after fetches

module _ (so : How) (s : Scenario) (w : World) (e : Entry) (k after : Control) (v : UnitState) (formed : IsWellFormed w.unit) (is : control w e.host ≡ k)
    (there : e.host < length s.nexuses) (guest : is_free k ≡ true → is_guest s e.host ≡ true) (room : IsTrue (may_come s w.history e.host so)) where
  -- of one that is answered from this state
  from_there : (from : UnitState) → IsTrue (s.shared e.host) → IsQuiet w.unit e.host from → MayCome (λ q x. Answers so from e.host q e.reply x) k (role s e.host) from.registry e after v
      → AddsAfterFetches s w (Sent e) (with_entry w e after v)
  from_there from shares less may =
      let fetched = fetches_reach_all s w e.host from there shares formed less in
      record {
        events = fetched.0;
        from = from;
        fetches = fetched.1;
        registry = less.registry;
        adds = adds_by so s (record w { unit = from }) e k after v is guest room may;
      }

  shared_adds : IsTrue (s.shared e.host) → (k' : Control) → k ≡ k' → MayCome (LeadsToMost true so w.unit e) k' (role s e.host) w.unit.registry e after v → AddsAfterFetches s w (Sent e) (with_entry w e after v)
  shared_adds shares (Going l) same may =
      let answer = may.answer.answer in
      from_there answer.from shares answer.less (subst (λ c. MayCome (λ q x. Answers so answer.from e.host q e.reply x) c (role s e.host) answer.from.registry e after v) (sym same)
      (record { line = may.line; command = may.command; ready = may.ready; wire = may.wire; answer = answer.answer; takes = may.takes }))
  shared_adds shares (Trapped line) same may = absurd may
  shared_adds shares Free same may =
      let answer = may.0.answer.answer in
      from_there answer.from shares answer.less (subst (λ c. MayCome (λ q x. Answers so answer.from e.host q e.reply x) c (role s e.host) answer.from.registry e after v) (sym same) (
        record {
          bytes = may.0.bytes;
          lengths = may.0.lengths;
          request = may.0.request;
          read = may.0.read;
          answer = answer.answer;
          permitted = subst (λ (r : State). is_good e.reply ≡ true → IsTrue (is_permitted (role s e.host) r e.host may.0.request)) (sym answer.less.registry) may.0.permitted;
        },
        may.1,
      ))

  pub judged_adds : (shared : Bool) → s.shared e.host ≡ shared → MayCome (LeadsToMost shared so w.unit e) k (role s e.host) w.unit.registry e after v → AddsAfterFetches s w (Sent e) (with_entry w e after v)
  judged_adds true shares may = shared_adds shares k refl may
  judged_adds false alone may = record {
    events = [];
    from = w.unit;
    fetches = refl;
    registry = refl;
    adds = adds_by so s w e k after v is guest room (may_lead k (role s e.host) w.unit.registry w.unit.registry e after v v (LeadsToMost false so w.unit e) (λ q x. Answers so w.unit e.host q e.reply x) refl (λ q most. most.answer) may);
  }

-- ---- an entry that was judged

pub comes : (k : How) (s : Scenario) (w : World) (e : Entry) (x : World) → ActFor s w → AddsBy k s w e x → Comes k s w e x
comes k s w e x acts adds = comes_by k s w e x adds.event adds.by (guests_free s w acts) adds.happens adds.added

-- in a world in which less is pending
comes_below : (so : How) (s : Scenario) (w x : World) (e : Entry) (k : Control) (y : World) → ActFor s w → control w e.host ≡ k → IsWorldOf s w x → (c : Comes so s x e y)
    → MayComeFromMore s so k (role s e.host) w.unit e c.after c.unit
comes_below so s w x e k y acts is of c =
    may_from_more s so k (role s e.host) w.unit x.unit e c.after c.unit of.below
    (subst (λ m. MayCome (λ q v. Answers so x.unit e.host q e.reply v) m (role s e.host) x.unit.registry e c.after c.unit) (ap (λ ks. option_map_or (λ m. m) (slice_get ks e.host) Free) of.controls ∙ is) c.may)

-- one that was judged to come in some way leads on to no more than was judged, and in no other way
judged_leads : (so : How) (s : Scenario) (w : World) (e : Entry) (k after : Control) (v : UnitState) → ActFor s w → control w e.host ≡ k
    → IsJudged (s.shared e.host) so k (role s e.host) w.unit e true after v → (x y : World) → IsWorldOf s w x → Adds s x (Sent e) y → IsWorldOf s (with_entry w e after v) y
judged_leads so s w e k after v acts is may x y of adds =
    let by = added_by s x e y adds in
    let c = comes by.0 s x e y (acts_below s w x of acts) by.1 in
    let more = comes_below by.0 s w x e k y acts is of c in
    let way = may_way (s.shared e.host) so by.0 w.unit e k (role s e.host) after c.after v more.state may more.may in
    let so_may = subst (λ j. MayCome (LeadsTo (s.shared e.host) j w.unit e) k (role s e.host) w.unit.registry e c.after more.state) (sym way) more.may in
    let most = may_most (s.shared e.host) so w.unit e k (role s e.host) after c.after v more.state may so_may in
    subst (IsWorldOf s (with_entry w e after v)) (sym c.world) (record {
      below = below_through s.shared v more.state c.unit (at_most_below s.shared v e.host more.state most.1) more.below;
      controls = λ i. slice_set (of.controls i) e.host (most.0 i);
      history = ap (λ es. es ++ Sent e ∷ []) of.history;
    })

pub judged_tried : (so : How) (s : Scenario) (w : World) (e : Entry) (k after : Control) (b : Bool) (v : UnitState) → IsWellFormed w.unit → ActFor s w → e.host < length s.nexuses → control w e.host ≡ k
    → get_or w.controls e.host k ≡ k → IsTrue (may_come s w.history e.host so) → IsJudged (s.shared e.host) so k (role s e.host) w.unit e b after v → IsTriedBy so s w e b (with_entry w e after v)
judged_tried so s w e k after true v formed acts there is found room may =
    (judged_adds so s w e k after v formed is there (λ free. free_guests s w e.host acts there (ap is_free is ∙ free)) room (s.shared e.host) refl may, judged_leads so s w e k after v acts is may)
judged_tried so s w e k after false v formed acts there is found room not = (
  not.1,
  ap (slice_set w.controls e.host) (not.0 ∙ sym found) ∙ set-get_or w.controls e.host k,
  λ x y of adds.
      let c = comes so s x e y (acts_below s w x of acts) adds in
      let more = comes_below so s w x e k y acts is of c in
      not.2 c.after more.state more.may,
)

-- nobody sends under a number past the last
pub none_past : (s : Scenario) (w : World) (e : Entry) (x : World) → ActFor s w → length s.nexuses ≤ e.host → Adds s w (Sent e) x → ⊥
none_past s w e x acts past adds =
    let by = added_by s w e x adds in
    let c = comes by.0 s w e x acts by.1 in
    let length : length w.controls ≡ length s.nexuses = sym (length-map w.controls is_free) ∙ (ap length acts.tasks ∙ length-map s.nexuses (λ n. is_planned n.task)) in
    let free : control w e.host ≡ Free = ap (λ o. option_map_or (λ c. c) o Free) (slice_get_past w.controls e.host (rw length past)) in
    let nobody : is_guest s e.host ≡ false = ap (λ o. is_guest_task (option_map_or (λ n. Some n.task) o None)) (slice_get_past s.nexuses e.host past) in
    let bad : false ≡ true = sym nobody ∙ c.guest (ap is_free free) in
    cc

-- whatever the answer, there is still one for each that the scenario declares
pub judged_acts : (so : How) (s : Scenario) (w : World) (e : Entry) (k after : Control) (b : Bool) (v : UnitState) (es : List Item) → ActFor s w → get_or w.controls e.host k ≡ k
    → IsJudged (s.shared e.host) so k (role s e.host) w.unit e b after v → ActFor s (record { unit = v; controls = slice_set w.controls e.host after; history = es })
judged_acts so s w e k after b v es acts is judged = record {
  hosts = hosts_judged (s.shared e.host) so (role s e.host) w.unit e k b after v judged ∙ acts.hosts;
  tasks = map-set_same is_free w.controls e.host after k (free_judged (s.shared e.host) so (role s e.host) w.unit e k b after v judged ∙ ap is_free (sym is)) ∙ acts.tasks;
}

-- ---- a reset

pub reset_tried : (s : Scenario) (w : World) (b : Bool) (v : UnitState) → b ≡ may_reset s w.history → b ≡ true → v ≡ reset w.unit → IsTried s w Reset b (record { unit = v; controls = w.controls; history = w.history ++ Reset ∷ [] })
reset_tried s w false v may is after = absurd (false≢true is)
reset_tried s w true v may is after = subst (λ u. IsTried s w Reset true (record { unit = u; controls = w.controls; history = w.history ++ Reset ∷ [] })) (sym after) (
  record { events = []; from = w.unit; fetches = refl; registry = refl; adds = record { event = UnitReset; happens = record { room = sym may; world = refl }; added = refl } },
  λ x y of adds. only_reset x y of (resets_by s x y adds),
)
  where
    only_reset : (x y : World) → IsWorldOf s w x → IsReset s x y → IsWorldOf s (after_reset w) y
    only_reset x y of is = subst (IsWorldOf s (after_reset w)) (sym is.world) (record {
      below = reset_below s.shared w.unit x.unit of.below;
      controls = of.controls;
      history = ap (λ es. es ++ Reset ∷ []) of.history;
    })
