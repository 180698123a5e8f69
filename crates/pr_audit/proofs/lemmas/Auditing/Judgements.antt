-- What may come next of one nexus.
use Rattle.pr_audit.proofs.Common.{◌≡◌, ℕ, Bool, true, false, List, Some, None, Option, Ok, sym, refl, ap, ◌∙◌, subst, false≢true, spelling, standing_of, Command, Reply, Request, Plain, UnitState, ready, Answers, AnswersMost, AnswersOn, Control, Going, Trapped, Free, control_after, Entry, How, Clause, control_by, is_free, IsJudged}
use Rattle.std.specs.Prelude.{◌↔◌, ◌≤◌, IsTrue, Result, Err, length}
use Rattle.std.proofs.lemmas.Option.{same_Some}
use Rattle.pr_script.specs.Scripts.{Configuration}
use Rattle.pr_script.specs.Takes.{take}
use Rattle.pr_roles.specs.Permits.{is_permitted}
use Rattle.pr_roles.specs.Worlds.{going_or_trapped}
use Rattle.pr_unit.specs.Replies.{is_good}
use Rattle.pr_unit.proofs.lemmas.Steps.WellFormedSteps.{hosts-step}
use Rattle.pr_registry.specs.Registrations.{State}
use Rattle.pr_cdb.specs.declared.reply.Status.{Status}
use Rattle.pr_cdb.specs.declared.reply.Status.TheVariants as status
use Rattle.pr_cdb.specs.declared.wire.Bad.{Bad}
use Rattle.pr_cdb.specs.declared.codes.TheConstants.{MOST_CDB_LENGTH, PARAMETER_LIST_LENGTH}
use Rattle.pr_cdb.specs.Requests.{AreBytes, request_of_wire}
use Rattle.pr_unit.specs.Follows.{Follows}
use Rattle.pr_unit.specs.Laws.{IsQuiet}
use Rattle.pr_unit.specs.Replies.{refused_with}
use Rattle.pr_unit.specs.SharedPaths.{Answering, FollowsShared}
use Rattle.pr_unit.specs.EarlyReports.{FollowsEarly}
use Rattle.pr_unit.specs.inside.SharedStates.{IsAtMost}
use Rattle.pr_unit.proofs.lemmas.Steps.FixedStates.{step_fixed, reported_fixed}
use Rattle.pr_unit.proofs.lemmas.Steps.QuietSteps.{same-quiet}
use Rattle.pr_roles.specs.DeclaredRefusals.{status_of}
use Rattle.pr_roles.specs.declared.how.How.TheVariants as how
use Rattle.pr_audit.specs.declared.sender.Sender.{Sender}
use Rattle.pr_audit.specs.declared.sender.Sender.TheVariants as sender
use Rattle.pr_audit.specs.inside.Auditing.{IsAnswered, ScriptSends, GuestSendsSo, MayCome, LeadsTo, LeadsToMost, IsGuestJudged}

-- ---- who is a guest stays one

pub free_taken : (line : ℕ) (l : Configuration) (r : Reply) → is_free (control_after line (Going l) r) ≡ false
free_taken line l r = at (take l r)
  where
    at : (o : Option Configuration) → is_free (going_or_trapped line o) ≡ false
    at None = refl
    at (Some m) = refl

-- ---- how a request was answered

-- where it may not be answered so nothing changes
same_shared : (answers : Request → Answering) (u : UnitState) (h : ℕ) (o : Result Request Bad) (v : UnitState) → FollowsShared answers u h o false v → v ≡ u
same_shared answers u h (Ok q) v none = none.0
same_shared answers u h (Err bad) v none = none

same_alone : (u : UnitState) (h : ℕ) (o : Result Request Bad) (r : Reply) (v : UnitState) → Follows u h o r false v → v ≡ u
same_alone u h (Ok q) r v none = none.0
same_alone u h (Err bad) r v none = none

same_early : (u : UnitState) (h : ℕ) (o : Result Request Bad) (r : Reply) (v : UnitState) → FollowsEarly u h o r false v → v ≡ u
same_early u h (Ok q) r v none = none.0
same_early u h (Err bad) r v none = none

on_shared : (k : How) (u : UnitState) (e : Entry) (b : Bool) (v : UnitState) → FollowsShared (λ q x y. Answers k x e.host q e.reply y) u e.host (request_of_wire e.wire) b v → IsAnswered true k u e b v
on_shared k u e true v follows = λ q read.
    let most = subst (λ o. FollowsShared (λ p x y. Answers k x e.host p e.reply y) u e.host o true v) read follows in
    record { answer = most.is; most = most.most }
on_shared k u e false v follows = (
  same_shared (λ q x y. Answers k x e.host q e.reply y) u e.host (request_of_wire e.wire) v follows,
  λ q w read x. (subst (λ o. FollowsShared (λ p x y. Answers k x e.host p e.reply y) u e.host o false v) read follows).1 w x,
)

plain_alone : (u : UnitState) (e : Entry) (b : Bool) (v : UnitState) → Follows u e.host (request_of_wire e.wire) e.reply b v → IsAnswered false how.Plain u e b v
plain_alone u e true v follows = λ q read.
    let step = subst (λ o. Follows u e.host o e.reply true v) read follows in
    record { answer = step; most = λ w other. step_fixed u e.host q e.reply w v other step }
plain_alone u e false v follows = (
  same_alone u e.host (request_of_wire e.wire) e.reply v follows,
  λ q w read step. (subst (λ o. Follows u e.host o e.reply false v) read follows).1 w step,
)

early_alone : (u : UnitState) (e : Entry) (b : Bool) (v : UnitState) → FollowsEarly u e.host (request_of_wire e.wire) e.reply b v → IsAnswered false how.Early u e b v
early_alone u e true v follows = λ q read.
    let early = subst (λ o. FollowsEarly u e.host o e.reply true v) read follows in
    record { answer = early; most = λ w other. reported_fixed u e.host q e.reply w v other.reports early.reports }
early_alone u e false v follows = (
  same_early u e.host (request_of_wire e.wire) e.reply v follows,
  λ q w read early. (subst (λ o. FollowsEarly u e.host o e.reply false v) read follows).1 w early,
)

-- by the unit, on one path or the other
module _ (shared : Bool) (k : How) (u : UnitState) (e : Entry) (b : Bool) (v : UnitState) where
  answered_as : (path : Bool) (so : How) → shared ≡ path → k ≡ so → IsAnswered path so u e b v → IsAnswered shared k u e b v
  answered_as path so one two is = subst (λ p. IsAnswered p k u e b v) (sym one) (subst (λ j. IsAnswered path j u e b v) (sym two) is)

  pub answered_shared : (so : How) → shared ≡ true → k ≡ so → FollowsShared (λ q x y. Answers so x e.host q e.reply y) u e.host (request_of_wire e.wire) b v → IsAnswered shared k u e b v
  answered_shared so one two follows = answered_as true so one two (on_shared so u e b v follows)

  pub answered_alone : shared ≡ false → k ≡ how.Plain → Follows u e.host (request_of_wire e.wire) e.reply b v → IsAnswered shared k u e b v
  answered_alone one two follows = answered_as false how.Plain one two (plain_alone u e b v follows)

  pub answered_early : shared ≡ false → k ≡ how.Early → FollowsEarly u e.host (request_of_wire e.wire) e.reply b v → IsAnswered shared k u e b v
  answered_early one two follows = answered_as false how.Early one two (early_alone u e b v follows)

-- a refusal
refused_on : (shared : Bool) (u : UnitState) (h : ℕ) (q : Request) (r : Reply) (k : How) (t : Status) → status_of k ≡ Some t → r ≡ refused_with t → AnswersMost shared k u h q r u
refused_on shared u h q r how.Plain t is same = absurd (cc)
refused_on shared u h q r how.Early t is same = absurd (cc)
refused_on true u h q r how.Busy t is same = record {
  answer = record { from = u; less = same-quiet u h; answer = (same ∙ ap refused_with (sym (same_Some status.Busy t is)), refl) };
  most = λ w x. subst (IsQuiet u h) (sym x.answer.1) x.less;
}
refused_on true u h q r how.Full t is same = record {
  answer = record { from = u; less = same-quiet u h; answer = (same ∙ ap refused_with (sym (same_Some status.TaskFull t is)), refl) };
  most = λ w x. subst (IsQuiet u h) (sym x.answer.1) x.less;
}
refused_on false u h q r how.Busy t is same = record { answer = (same ∙ ap refused_with (sym (same_Some status.Busy t is)), refl); most = λ w x. x.1 }
refused_on false u h q r how.Full t is same = record { answer = (same ∙ ap refused_with (sym (same_Some status.TaskFull t is)), refl); most = λ w x. x.1 }

not_refused : (shared : Bool) (u : UnitState) (h : ℕ) (q : Request) (r : Reply) (k : How) (t : Status) (w : UnitState) → status_of k ≡ Some t → (r ≡ refused_with t → ⊥) → AnswersOn shared k u h q r w → ⊥
not_refused shared u h q r how.Plain t w is differs answer = absurd (cc)
not_refused shared u h q r how.Early t w is differs answer = absurd (cc)
not_refused true u h q r how.Busy t w is differs x = differs (x.answer.0 ∙ ap refused_with (same_Some status.Busy t is))
not_refused true u h q r how.Full t w is differs x = differs (x.answer.0 ∙ ap refused_with (same_Some status.TaskFull t is))
not_refused false u h q r how.Busy t w is differs x = differs (x.0 ∙ ap refused_with (same_Some status.Busy t is))
not_refused false u h q r how.Full t w is differs x = differs (x.0 ∙ ap refused_with (same_Some status.TaskFull t is))

pub answered_refused : (shared : Bool) (k : How) (t : Status) → status_of k ≡ Some t → (u : UnitState) (e : Entry) (b : Bool) → IsTrue b ↔ (e.reply ≡ refused_with t) → IsAnswered shared k u e b u
answered_refused shared k t is u e true same = λ q read. refused_on shared u e.host q e.reply k t is (same.0 refl)
answered_refused shared k t is u e false same = (refl, λ q w read x. not_refused shared u e.host q e.reply k t w is (λ it. false≢true (same.1 it)) x)

-- the command for which a script is ready
pub script_judged : (shared : Bool) (k : How) (x : Sender) (l : Configuration) (clauses : List Clause) (u : UnitState) (e : Entry) (line : ℕ) (c : Command) (after : Control) (v : UnitState) → x ≡ sender.Host l
    → standing_of (Going l) ≡ Some (ready line c) → e.wire ≡ spelling c → request_of_wire e.wire ≡ Ok (Plain c) → IsAnswered shared k u e true v → after ≡ control_after line (Going l) e.reply
    → IsJudged shared k (control_by x) clauses u e true after v
script_judged shared k x l clauses u e line c after v is stands wire read answered takes =
    subst (λ y. IsJudged shared k (control_by y) clauses u e true after v) (sym is)
    (record { line = line; command = c; ready = stands; wire = wire; answer = answered (Plain c) read; takes = takes })

-- ---- the guest among the senders

guest_judged_free : (shared : Bool) (so : How) (clauses : List Clause) (u : UnitState) (e : Entry) (b : Bool) (v : UnitState) → IsGuestJudged shared so clauses u e b v → IsJudged shared so Free clauses u e b Free v
guest_judged_free shared so clauses u e true v judged = (judged, refl)
guest_judged_free shared so clauses u e false v judged = (refl, judged.0, λ other w may. judged.1 w may.0)

pub guest_judged : (shared : Bool) (so : How) (x : Sender) (clauses : List Clause) (u : UnitState) (e : Entry) (b : Bool) (v : UnitState) → x ≡ sender.Guest → IsGuestJudged shared so clauses u e b v
    → IsJudged shared so (control_by x) clauses u e b (control_by x) v
guest_judged shared so x clauses u e b v is judged =
    subst (λ y. IsJudged shared so (control_by y) clauses u e b (control_by y) v) (sym is) (guest_judged_free shared so clauses u e b v judged)

-- what a guest sends
pub guest_sent : (shared : Bool) (k : How) (clauses : List Clause) (u : UnitState) (e : Entry) (q : Request) (b : Bool) (v : UnitState) → AreBytes e.wire.cdb.items × AreBytes e.wire.params.items
    → (length e.wire.cdb.items ≤ MOST_CDB_LENGTH) × (length e.wire.params.items ≤ PARAMETER_LIST_LENGTH) → request_of_wire e.wire ≡ Ok q
    → (is_good e.reply ≡ true → IsTrue (is_permitted clauses u.registry e.host q)) → IsAnswered shared k u e b v → IsGuestJudged shared k clauses u e b v
guest_sent shared k clauses u e q true v bytes lengths read permitted answered = record { bytes = bytes; lengths = lengths; request = q; read = read; answer = answered q read; permitted = permitted }
guest_sent shared k clauses u e q false v bytes lengths read permitted none = (none.0, λ w x. none.1 x.request w x.read x.answer)

-- ---- most is pending in what comes of an entry

module _ (shared : Bool) (so : How) (u : UnitState) (e : Entry) where
  script_most : (k after other : Control) (v w : UnitState) → ScriptSends (LeadsToMost shared so u e) k e after v → ScriptSends (LeadsTo shared so u e) k e other w → (other ≡ after) × IsAtMost shared v e.host w
  script_most k after other v w one two =
      let same : Some (ready two.line two.command) ≡ Some (ready one.line one.command) = sym two.ready ∙ one.ready in
      let line : two.line ≡ one.line = cc in
      let command : two.command ≡ one.command = cc in (
        two.takes ∙ (ap (λ n. control_after n k e.reply) line ∙ sym one.takes),
        one.answer.most w (subst (λ c. AnswersOn shared so u e.host (Plain c) e.reply w) command two.answer),
      )

  guest_most : (clauses : List Clause) (v w : UnitState) → GuestSendsSo (LeadsToMost shared so u e) clauses u.registry e v → GuestSendsSo (LeadsTo shared so u e) clauses u.registry e w → IsAtMost shared v e.host w
  guest_most clauses v w one two =
      let same : Ok two.request ≡ Ok one.request = sym two.read ∙ one.read in
      let request : two.request ≡ one.request = cc in
      one.answer.most w (subst (λ q. AnswersOn shared so u e.host q e.reply w) request two.answer)

  pub may_most : (k : Control) (clauses : List Clause) (after other : Control) (v w : UnitState) → MayCome (LeadsToMost shared so u e) k clauses u.registry e after v
      → MayCome (LeadsTo shared so u e) k clauses u.registry e other w → (other ≡ after) × IsAtMost shared v e.host w
  may_most (Going l) clauses after other v w one two = script_most (Going l) after other v w one two
  may_most (Trapped line) clauses after other v w one two = absurd one
  may_most Free clauses after other v w one two = (two.1 ∙ sym one.1, guest_most clauses v w one.0 two.0)

-- an entry that leads to some states leads to others, where its request does
pub may_lead : (k : Control) (clauses : List Clause) (u t : State) (e : Entry) (after : Control) (v w : UnitState) (One Other : Request → UnitState → Type 0) → t ≡ u → ((q : Request) → One q v → Other q w)
    → MayCome One k clauses u e after v → MayCome Other k clauses t e after w
may_lead (Going l) clauses u t e after v w One Other same leads may =
    record { line = may.line; command = may.command; ready = may.ready; wire = may.wire; answer = leads (Plain may.command) may.answer; takes = may.takes }
may_lead (Trapped line) clauses u t e after v w One Other same leads may = absurd may
may_lead Free clauses u t e after v w One Other same leads may = (
  record {
    bytes = may.0.bytes;
    lengths = may.0.lengths;
    request = may.0.request;
    read = may.0.read;
    answer = leads may.0.request may.0.answer;
    permitted = subst (λ (x : State). is_good e.reply ≡ true → IsTrue (is_permitted clauses x e.host may.0.request)) (sym same) may.0.permitted;
  },
  may.1,
)

-- ---- who is a guest stays one, and no host goes

pub hosts-answer : (so : How) (u : UnitState) (h : ℕ) (q : Request) (r : Reply) (v : UnitState) → Answers so u h q r v → v.registry.hosts ≡ u.registry.hosts
hosts-answer how.Plain u h q r v step = hosts-step u h q r v step
hosts-answer how.Early u h q r v early = ap (λ (x : UnitState). x.registry.hosts) early.reports.after
hosts-answer how.Busy u h q r v refused = ap (λ (x : UnitState). x.registry.hosts) refused.1
hosts-answer how.Full u h q r v refused = ap (λ (x : UnitState). x.registry.hosts) refused.1

hosts-on : (shared : Bool) (so : How) (u : UnitState) (h : ℕ) (q : Request) (r : Reply) (v : UnitState) → AnswersOn shared so u h q r v → v.registry.hosts ≡ u.registry.hosts
hosts-on false so u h q r v answer = hosts-answer so u h q r v answer
hosts-on true so u h q r v answer = hosts-answer so answer.from h q r v answer.answer ∙ ap (λ (x : State). x.hosts) answer.less.registry

module _ (shared : Bool) (so : How) (clauses : List Clause) (u : UnitState) (e : Entry) where
  pub free_judged : (k : Control) (b : Bool) (after : Control) (v : UnitState) → IsJudged shared so k clauses u e b after v → is_free after ≡ is_free k
  free_judged k false after v judged = ap is_free judged.0
  free_judged (Going l) true after v judged = ap is_free judged.takes ∙ free_taken judged.line l e.reply
  free_judged (Trapped line) true after v judged = absurd judged
  free_judged Free true after v judged = ap is_free judged.1

  pub hosts_judged : (k : Control) (b : Bool) (after : Control) (v : UnitState) → IsJudged shared so k clauses u e b after v → v.registry.hosts ≡ u.registry.hosts
  hosts_judged k false after v judged = ap (λ (x : UnitState). x.registry.hosts) judged.1
  hosts_judged (Going l) true after v judged = hosts-on shared so u e.host (Plain judged.command) e.reply v judged.answer.answer
  hosts_judged (Trapped line) true after v judged = absurd judged
  hosts_judged Free true after v judged = hosts-on shared so u e.host judged.0.request e.reply v judged.0.answer.answer
