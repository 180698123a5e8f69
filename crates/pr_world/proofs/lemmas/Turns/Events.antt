-- The event that a turn is, if it sends.
use Rattle.pr_world.proofs.Common.{◌≡◌, ℕ, ◌<◌, Bool, true, false, List, [], ◌∷◌, ◌++◌, length, get_or, if◌then◌else◌, IsTrue, Some, None, Option, sym, refl, ap, ◌∙◌, subst, option_map_or, false≢true, spelling, Command, Reply, Request, Plain, UnitState, Standing, ready, stopped, Answers, may_come, how_now, Task, Scripted, Planned, role, Scenario, is_passed_over, Control, Going, Trapped, Free, standing_of, control_after, Host, Guest, is_guest_task, Entry, How, Item, Clause, is_free, is_planned, Participation, HappensBy, StandsFor}
use Rattle.std.proofs.Common.{◌&&◌, not}
use Rattle.pr_cdb.specs.Requests.{plain_request, request_of_wire}
use Rattle.pr_cdb.specs.declared.command.Command.TheVariants.{RequestSense}
use Rattle.pr_cdb.specs.ReplyData.{sense_bytes}
use Rattle.pr_registry.specs.Registrations.{State}
use Rattle.pr_unit.specs.Attentions.{attention_sense}
use Rattle.pr_unit.specs.Conduct.{command_conflicts}
use Rattle.pr_unit.specs.EarlyReports.{EarlyStep, is_early}
use Rattle.pr_unit.specs.Steps.{ReportsEarly}
use Rattle.pr_unit.specs.Replies.{good, check, is_good, is_request_sense}
use Rattle.pr_unit.specs.TakenSteps.{TakenStep}
use Rattle.pr_unit.proofs.lemmas.TakenSteps.Determinism.{good_by_decision}
use Rattle.pr_roles.specs.declared.how.How.TheVariants as how
use Rattle.pr_roles.specs.Permits.{is_permitted}
use Rattle.pr_roles.specs.Worlds.{is_guest}
use Rattle.pr_roles.specs.Schedules.{TakenAnswer, is_held_back}
use Rattle.pr_world.specs.inside.Participations.{items_of, participation}
use Rattle.pr_world.specs.inside.Turns.{Acts, ActsAs, GuestActs, HostActs, SendsOr}
use Rattle.pr_roles.proofs.lemmas.Worlds.SpelledBytes.{are_bytes, are_short}
use Rattle.pr_world.proofs.lemmas.Participations.Others.{at_participation, control_at, has_task, rests, with_participation, world_after, world_by}

-- ---- answers

-- the way in which this unit answers where it is asked for this one: where it can't report early, it answers as always
abbrev pub given : How → UnitState → ℕ → Request → How
given how.Plain u h q = how.Plain
given how.Early u h q = if is_early u h q then how.Early else how.Plain
given how.Busy u h q = how.Busy
given how.Full u h q = how.Full

-- what this unit answers, it may answer
pub answer_taken : (so : How) (u : UnitState) (h : ℕ) (q : Request) (r : Reply) (v : UnitState) → TakenAnswer so u h q r v → Answers (given so u h q) u h q r v
answer_taken how.Plain u h q r v taken = taken.step
answer_taken how.Early u h q r v taken = at (is_early u h q) taken
  where
    at : (b : Bool) → EarlyStep b u h q r v → Answers (if b then how.Early else how.Plain) u h q r v
    at true early = early.0
    at false step = step.step
answer_taken how.Busy u h q r v taken = taken
answer_taken how.Full u h q r v taken = taken

-- and where the one may come, so may the other
pub given_comes : (so : How) (s : Scenario) (es : List Item) (u : UnitState) (h : ℕ) (q : Request) → IsTrue (may_come s es h so) → IsTrue (may_come s es h (given so u h q))
given_comes how.Plain s es u h q room = room
given_comes how.Early s es u h q room = at (is_early u h q)
  where
    at : (b : Bool) → IsTrue (may_come s es h (if b then how.Early else how.Plain))
    at true = room
    at false = refl
given_comes how.Busy s es u h q room = room
given_comes how.Full s es u h q room = room

-- ---- hosts

hosts_happen : (so : How) (s : Scenario) (o : Option Standing) (u v : UnitState) (xs : List Participation) (es : List Item) (h : ℕ) (e : Option Entry) (x y : Participation) → h < length xs → get_or xs h x ≡ x
    → o ≡ standing_of x.control → IsTrue (may_come s es h so) → HostActs so o h x u e y v → HappensBy s h e (world_by u xs es) (world_by v (with_participation xs h y) (es ++ items_of e))
hosts_happen so s (Some (ready at c)) u v xs es h (Some e) x y there seated is room acts =
    let here = at_participation xs h x there seated in
    record {
      event = Host h (given so u h (Plain c));
      happens = record {
        room = given_comes so s es u h (Plain c) room;
        line = at;
        command = c;
        ready = ap standing_of (control_at u xs es h x here) ∙ sym is;
        reply = e.reply;
        unit = v;
        answer = answer_taken so u h (Plain c) e.reply v acts.0.taken;
        world = world_after so u v xs es h at c e x y here acts.0 (ap (λ t. t.control) acts.1);
      };
      sender = ap (λ f. f.host) acts.0.entry;
      added = refl;
    }
hosts_happen so s (Some (stopped w)) u v xs es h None x y there seated is room acts =
    (rests u v xs es h x y seated (ap (λ t. t.control) acts.0) acts.1)
hosts_happen so s None u v xs es h None x y there seated is room acts =
    (rests u v xs es h x y seated (ap (λ t. t.control) acts.0) acts.1)
hosts_happen so s _ u v xs es h _ x y there seated is room acts = absurd acts

-- ---- guests

permitted_if_good : (good permitted : Bool) → (good && not permitted) ≡ false → good ≡ true → permitted ≡ true
permitted_if_good true true held is = refl
permitted_if_good true false held is = let bad : true ≡ false = held in cc
permitted_if_good false permitted held is = let bad : false ≡ true = is in cc

taken_good : (clauses : List Clause) (u : UnitState) (h : ℕ) (c : Command) (r : Reply) (v : UnitState) → is_held_back clauses u h c ≡ false → TakenStep u h (Plain c) r v → is_good r ≡ true
    → IsTrue (is_permitted clauses u.registry h (Plain c))
taken_good clauses u h c r v held taken good = permitted_if_good _ _ held (sym (good_by_decision u h (Plain c) r v taken.step) ∙ good)

-- REQUEST SENSE never conflicts, and so no early report ends GOOD
kept_has_sense : (u : State) (h : ℕ) (c : Command) → command_conflicts u h c ≡ true → is_request_sense (Plain c) ≡ false
kept_has_sense u h RequestSense kept = absurd (false≢true kept)
kept_has_sense u h _ kept = refl

early_is_not_good : (u : UnitState) (h : ℕ) (c : Command) (r : Reply) (v : UnitState) → ReportsEarly u h (Plain c) r v → is_good r ≡ false
early_is_not_good u h c r v early =
    ap is_good early.reports.reply
    ∙ ap (λ b. is_good (if b then good (sense_bytes (attention_sense early.reports.code)) else check (attention_sense early.reports.code))) (kept_has_sense u.registry h c early.kept)

-- what is not passed over ends GOOD only where that is permitted
may_end_good : (so : How) (clauses : List Clause) (u : UnitState) (h : ℕ) (c : Command) (r : Reply) (v : UnitState) → is_passed_over so clauses u h c ≡ false → TakenAnswer so u h (Plain c) r v → is_good r ≡ true
    → IsTrue (is_permitted clauses u.registry h (Plain c))
may_end_good how.Plain clauses u h c r v held taken good = taken_good clauses u h c r v held taken good
may_end_good how.Early clauses u h c r v held taken good = at (is_early u h (Plain c)) taken
  where
    at : (b : Bool) → EarlyStep b u h (Plain c) r v → IsTrue (is_permitted clauses u.registry h (Plain c))
    at true early = absurd (false≢true (sym (early_is_not_good u h c r v early.0) ∙ good))
    at false step = taken_good clauses u h c r v held step good
may_end_good _ clauses u h c r v held refused good = absurd (false≢true (ap is_good (sym refused.0) ∙ good))

guest_sends : (so : How) (s : Scenario) (b : Bool) (u v : UnitState) (xs : List Participation) (es : List Item) (h : ℕ) (c : Command) (e : Option Entry) (x y : Participation) → h < length xs → get_or xs h x ≡ x
    → is_guest s h ≡ true → x.control ≡ Free → y.control ≡ Free → IsTrue (may_come s es h so) → is_passed_over so (role s h) u h c ≡ b → SendsOr so b h u c e v
    → HappensBy s h e (world_by u xs es) (world_by v (with_participation xs h y) (es ++ items_of e))
guest_sends so s true u v xs es h c None x y there seated guest free still room held acts =
    (rests u v xs es h x y seated (still ∙ sym free) acts)
guest_sends so s false u v xs es h c (Some e) x y there seated guest free still room held acts =
    let wire : e.wire ≡ spelling c = ap (λ f. f.wire) acts.entry in
    record {
      event = Guest h (spelling c) (given so u h (Plain c));
      happens = record {
        room = given_comes so s es u h (Plain c) room;
        guest = guest;
        bytes = are_bytes c;
        lengths = are_short c;
        request = Plain c;
        read = subst (λ w. request_of_wire w ≡ plain_request c) wire acts.read;
        reply = e.reply;
        unit = v;
        answer = answer_taken so u h (Plain c) e.reply v acts.taken;
        permitted = may_end_good so (role s h) u h c e.reply v held acts.taken;
        world = world_after so u v xs es h 0 c e x y (at_participation xs h x there seated) acts (still ∙ ap (λ k. control_after 0 k e.reply) (sym free));
      };
      sender = ap (λ f. f.host) acts.entry;
      added = refl;
    }
guest_sends so s _ u v xs es h c _ x y there seated guest free still room held acts = absurd acts

guests_happen : (so : How) (s : Scenario) (planned : List Command) (u v : UnitState) (xs : List Participation) (es : List Item) (h : ℕ) (e : Option Entry) (x y : Participation) → h < length xs → get_or xs h x ≡ x
    → is_guest s h ≡ true → x.control ≡ Free → IsTrue (may_come s es h so) → GuestActs so (role s h) h planned u e y v → HappensBy s h e (world_by u xs es) (world_by v (with_participation xs h y) (es ++ items_of e))
guests_happen so s [] u v xs es h (Some e) x y there seated guest free room acts = absurd acts
guests_happen so s [] u v xs es h None x y there seated guest free room acts =
    (rests u v xs es h x y seated (ap (λ t. t.control) acts.0 ∙ sym free) acts.1)
guests_happen so s (c ∷ cs) u v xs es h e x y there seated guest free room acts =
    guest_sends so s (is_passed_over so (role s h) u h c) u v xs es h c e x y there seated guest free (ap (λ t. t.control) acts.1) room refl acts.0

-- ---- each turn

acts_happen : (so : How) (s : Scenario) (k : Control) (p : List Command) (u v : UnitState) (xs : List Participation) (es : List Item) (h : ℕ) (e : Option Entry) (y : Participation) → h < length xs
    → get_or xs h (participation k p) ≡ participation k p → (is_free k ≡ true → is_guest s h ≡ true) → IsTrue (may_come s es h so) → ActsAs so k (role s h) h (participation k p) u e y v
    → HappensBy s h e (world_by u xs es) (world_by v (with_participation xs h y) (es ++ items_of e))
acts_happen so s (Going l) p u v xs es h e y there seated guest room acts = hosts_happen so s (standing_of (Going l)) u v xs es h e (participation (Going l) p) y there seated refl room acts
acts_happen so s (Trapped at) p u v xs es h e y there seated guest room acts = hosts_happen so s None u v xs es h e (participation (Trapped at) p) y there seated refl room acts
acts_happen so s Free p u v xs es h e y there seated guest room acts = guests_happen so s p u v xs es h e (participation Free p) y there seated (guest refl) refl room acts

guest_task : (t : Task) → is_planned t ≡ true → is_guest_task (Some t) ≡ true
guest_task (Scripted script budget) is = is
guest_task (Planned commands) is = refl

-- what is asked for, or what comes in its place, may come
pub comes_now : (s : Scenario) (es : List Item) (h : ℕ) (wanted : How) → IsTrue (may_come s es h (how_now s es h wanted))
comes_now s es h wanted = at (may_come s es h wanted) refl
  where
    at : (b : Bool) → may_come s es h wanted ≡ b → IsTrue (may_come s es h (if b then wanted else how.Plain))
    at true is = is
    at false is = refl

pub happens_at_participation : (wanted : How) (s : Scenario) (u v : UnitState) (xs : List Participation) (es : List Item) (h : ℕ) (e : Option Entry) (x y : Participation) → StandsFor s u xs → h < length xs
    → get_or xs h x ≡ x → Acts (how_now s es h wanted) (role s h) h x u e y v → HappensBy s h e (world_by u xs es) (world_by v (with_participation xs h y) (es ++ items_of e))
happens_at_participation wanted s u v xs es h e x y stands there seated acts =
    let has = has_task s u xs h x stands (at_participation xs h x there seated) in
    let guest = λ (free : is_free x.control ≡ true). ap (λ o. is_guest_task (option_map_or (λ n. Some n.task) o None)) has.is ∙ guest_task has.nexus.task (has.planned ∙ free) in
    acts_happen (how_now s es h wanted) s x.control x.plan u v xs es h e y there seated guest (comes_now s es h wanted) acts
