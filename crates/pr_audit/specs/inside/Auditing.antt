-- The items that may come next in an audit.
use Rattle.std.specs.Prelude.{◌≡◌, ℕ, ◌≤◌, Bool, true, false, IsTrue, List, [], ◌∷◌, ◌++◌, Some, Ok, length, map}
use Rattle.pr_cdb.specs.declared.codes.TheConstants.{MOST_CDB_LENGTH, PARAMETER_LIST_LENGTH}
use Rattle.pr_cdb.specs.declared.command.Command.{Command}
use Rattle.pr_cdb.specs.declared.wire.Request.{Request}
use Rattle.pr_cdb.specs.declared.wire.Request.TheVariants.{Plain}
use Rattle.pr_cdb.specs.Requests.{request_of_wire, AreBytes}
use Rattle.pr_cdb.specs.Spelling.{spelling}
use Rattle.pr_registry.specs.Registrations.{State}
use Rattle.pr_unit.specs.UnitStates.{UnitState}
use Rattle.pr_unit.specs.Replies.{is_good}
use Rattle.pr_script.specs.declared.limits.TheConstants.{MOST_OPEN}
use Rattle.pr_script.specs.Depths.{depth_of_all}
use Rattle.pr_script.specs.Scripts.{ready}
use Rattle.pr_roles.specs.declared.limits.TheConstants.{MOST_PLANNED}
use Rattle.pr_roles.specs.declared.parts.Parts.{Parts}
use Rattle.pr_roles.specs.declared.role.Clause.{Clause}
use Rattle.pr_roles.specs.declared.role.Role.{Role}
use Rattle.pr_roles.specs.declared.entry.Entry.{Entry}
use Rattle.pr_roles.specs.declared.item.Item.{Item}
use Rattle.pr_roles.specs.declared.how.How.{How}
use Rattle.pr_roles.specs.SharedAnswers.{AnswersOn}
use Rattle.pr_roles.specs.inside.SharedStates.{AnswersMost}
use Rattle.pr_roles.specs.DeclaredRefusals.{is_served}
use Rattle.pr_roles.specs.declared.item.Item.TheVariants.{Sent}
use Rattle.pr_roles.specs.Permits.{is_permitted}
use Rattle.pr_roles.specs.Scenarios.{Scenario, Task, Scripted, Planned, scenario_of}
use Rattle.pr_roles.specs.Worlds.{World, Event, Host, Guest, UnitReset, Fetched, Happens, Run, Control, Going, Trapped, Free, control_of, standing_of, control_after, world_from}
use Rattle.pr_audit.specs.declared.sender.Sender.{Sender}
use Rattle.pr_audit.specs.declared.auditor.Auditor.{Auditor}
use Rattle.pr_audit.specs.Auditors.{IsTried, IsWorldOf, control_by, world_at}

-- True: what its bytes ask for may be answered so, on a shared path or another, and then most is pending in this state. False: it
-- may not, and nothing changes.
abbrev pub IsAnswered : Bool → How → UnitState → Entry → Bool → UnitState → Type 0
IsAnswered shared k u e true v = (q : Request) → request_of_wire e.wire ≡ Ok q → AnswersMost shared k u e.host q e.reply v
IsAnswered shared k u e false v = (v ≡ u) × ((q : Request) (w : UnitState) → request_of_wire e.wire ≡ Ok q → AnswersOn shared k u e.host q e.reply w → ⊥)

-- ---- one nexus

-- the script and the plan are no longer than those that a text can have
abbrev pub IsShort : Task → Type 0
IsShort (Scripted script budget) = depth_of_all script ≤ MOST_OPEN
IsShort (Planned commands) = length commands ≤ MOST_PLANNED

-- the states to which a request may lead
abbrev pub Outcomes : Type 1
Outcomes = Request → UnitState → Type 0

-- the script's next command is spelled so, it may be answered so, and the script takes the reply
pub record ScriptSends (Leads : Outcomes) (c : Control) (e : Entry) (after : Control) (v : UnitState) : Type 0 where
  pub line : ℕ
  pub command : Command
  pub ready : standing_of c ≡ Some (ready line command)
  pub wire : e.wire ≡ spelling command
  pub answer : Leads (Plain command) v
  pub takes : after ≡ control_after line c e.reply

-- the bytes are a request, it may be answered so, and where that is GOOD the role permits it
pub record GuestSendsSo (Leads : Outcomes) (clauses : List Clause) (u : State) (e : Entry) (v : UnitState) : Type 0 where
  pub bytes : AreBytes e.wire.cdb.items × AreBytes e.wire.params.items
  pub lengths : (length e.wire.cdb.items ≤ MOST_CDB_LENGTH) × (length e.wire.params.items ≤ PARAMETER_LIST_LENGTH)
  pub request : Request
  pub read : request_of_wire e.wire ≡ Ok request
  pub answer : Leads request v
  pub permitted : is_good e.reply ≡ true → IsTrue (is_permitted clauses u e.host request)

-- The entry may come next, of one that acts so under this role. Then it acts otherwise, and the unit is in another state.
abbrev pub MayCome : Outcomes → Control → List Clause → State → Entry → Control → UnitState → Type 0
MayCome Leads (Going l) clauses u e after v = ScriptSends Leads (Going l) e after v
MayCome Leads (Trapped line) clauses u e after v = ⊥
MayCome Leads Free clauses u e after v = GuestSendsSo Leads clauses u e v × (after ≡ Free)

-- to which states the reply may lead, and to which of them where most is pending
abbrev pub LeadsTo : Bool → How → UnitState → Entry → Outcomes
LeadsTo shared k u e q v = AnswersOn shared k u e.host q e.reply v

abbrev pub LeadsToMost : Bool → How → UnitState → Entry → Outcomes
LeadsToMost shared k u e q v = AnswersMost shared k u e.host q e.reply v

-- True: it may come next, and this comes of it. False: it may not, whatever would come of it, and nothing changes.
abbrev pub IsJudged : Bool → How → Control → List Clause → UnitState → Entry → Bool → Control → UnitState → Type 0
IsJudged shared k c clauses u e true after v = MayCome (LeadsToMost shared k u e) c clauses u.registry e after v
IsJudged shared k c clauses u e false after v =
    (after ≡ c) × (v ≡ u) × ((other : Control) (w : UnitState) → MayCome (LeadsTo shared k u e) c clauses u.registry e other w → ⊥)

-- the same of a sender with this role, which becomes the other
abbrev pub JudgesEntry : Bool → How → Role → Entry → Bool → Sender → UnitState → Sender → UnitState → Type 0
JudgesEntry shared k role e answer x u y v = IsJudged shared k (control_by x) role.clauses.items u e answer (control_by y) v

-- the same of a guest
abbrev pub IsGuestJudged : Bool → How → List Clause → UnitState → Entry → Bool → UnitState → Type 0
IsGuestJudged shared k clauses u e true v = GuestSendsSo (LeadsToMost shared k u e) clauses u.registry e v
IsGuestJudged shared k clauses u e false v = (v ≡ u) × ((w : UnitState) → GuestSendsSo (LeadsTo shared k u e) clauses u.registry e w → ⊥)

-- ---- all of them

-- each nexus of the scenario at its beginning
abbrev pub AreFirstSenders : Parts → List Sender → Type 0
AreFirstSenders p senders = map control_by senders ≡ map (λ n. control_of n.task) (scenario_of p).nexuses

-- some run from this start has this history, and leads to this world
pub record Reaches (s : Scenario) (u : UnitState) (history : List Item) (w : World) : Type 0 where
  pub events : List Event
  pub run : Run s (world_from s u) events w
  pub items : w.history ≡ history

-- ---- one way in which a command may be answered

-- in the event a command is answered so
abbrev pub IsBy : How → Event → Type 0
IsBy k (Host h so) = so ≡ k
IsBy k (Guest g wire so) = so ≡ k
IsBy k UnitReset = ⊥
IsBy k (Fetched h code) = ⊥

-- such an event adds the entry
pub record AddsBy (k : How) (s : Scenario) (w : World) (e : Entry) (v : World) : Type 0 where
  pub event : Event
  pub by : IsBy k event
  pub happens : Happens s w event v
  pub added : v.history ≡ w.history ++ Sent e ∷ []

-- True: the entry is tried, and some event adds it. False: no event in which it is answered so adds it to any of the worlds, and
-- nothing changes.
abbrev pub IsTriedBy : How → Scenario → World → Entry → Bool → World → Type 0
IsTriedBy k s w e true v = IsTried s w (Sent e) true v
IsTriedBy k s w e false v = (v.unit ≡ w.unit) × (v.controls ≡ w.controls) × ((x y : World) → IsWorldOf s w x → AddsBy k s x e y → ⊥)

-- The same of both ways in which the unit answers.
abbrev pub IsTriedServed : Scenario → World → Entry → Bool → World → Type 0
IsTriedServed s w e true v = IsTried s w (Sent e) true v
IsTriedServed s w e false v = (k : How) → IsTrue (is_served k) → (x y : World) → IsWorldOf s w x → AddsBy k s x e y → ⊥

-- the same from one auditor to another, after this history
abbrev pub TriesBy : How → Parts → List Item → Entry → Bool → Auditor → Auditor → Type 0
TriesBy k p before e answer a b = IsTriedBy k (scenario_of p) (world_at a before) e answer (world_at b (before ++ Sent e ∷ []))

abbrev pub TriesServed : Parts → List Item → Entry → Bool → Auditor → Auditor → Type 0
TriesServed p before e answer a b = IsTriedServed (scenario_of p) (world_at a before) e answer (world_at b (before ++ Sent e ∷ []))
