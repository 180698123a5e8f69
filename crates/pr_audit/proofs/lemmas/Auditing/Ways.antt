-- The reply tells in which way a command was answered.
use Rattle.pr_audit.proofs.Common.{◌≡◌, ℕ, Bool, true, false, if◌then◌else◌, Some, sym, ap, ◌∙◌, refl, subst, false≢true, Reply, Request, Plain, ready, UnitState, Answers, AnswersOn, how_of, How, Entry, Control, Going, Trapped, Free, Clause, Ok, List}
use Rattle.std.proofs.Common.{◌||◌, inl, inr, ◌⊎◌}
use Rattle.pr_cdb.specs.declared.reply.Status.{Status}
use Rattle.pr_cdb.specs.declared.reply.Status.TheVariants as status
use Rattle.pr_cdb.specs.ReplyData.{sense_bytes}
use Rattle.pr_cdb.specs.Statuses.{is_busy_status, is_full_status}
use Rattle.pr_unit.specs.Attentions.{attention_sense}
use Rattle.pr_unit.specs.Replies.{good, check, is_request_sense}
use Rattle.pr_unit.proofs.lemmas.Steps.EarlySteps.{in_one_order}
use Rattle.pr_unit.proofs.lemmas.Steps.Statuses.{steps_are_never_busy}
use Rattle.pr_roles.specs.DeclaredRefusals.{is_served}
use Rattle.pr_roles.specs.declared.how.How.TheVariants as how
use Rattle.pr_audit.specs.inside.Auditing.{MayCome, ScriptSends, GuestSendsSo, LeadsTo, LeadsToMost}

-- ---- by the status

-- as the status says that it was answered: it doesn't show in which order
abbrev pub shown : How → How
shown how.Plain = how.Plain
shown how.Early = how.Plain
shown how.Busy = how.Busy
shown how.Full = how.Full

by_unit : (t : Status) → (is_busy_status t || is_full_status t) ≡ false → how.Plain ≡ how_of t
by_unit status.Good served = refl
by_unit status.CheckCondition served = refl
by_unit status.Conflict served = refl
by_unit _ served = absurd (false≢true (sym served))

by_report : (b : Bool) (code : ℕ) → how.Plain ≡ how_of (if b then good (sense_bytes (attention_sense code)) else check (attention_sense code)).status
by_report true code = refl
by_report false code = refl

pub told_how : (so : How) (u : UnitState) (h : ℕ) (q : Request) (r : Reply) (v : UnitState) → Answers so u h q r v → shown so ≡ how_of r.status
told_how how.Plain u h q r v step = let never = steps_are_never_busy u h q r v step in by_unit r.status (λ i. never.0 i || never.1 i)
told_how how.Early u h q r v early = by_report (is_request_sense q) early.reports.code ∙ ap (λ (x : Reply). how_of x.status) (sym early.reports.reply)
told_how how.Busy u h q r v refused = ap (λ (x : Reply). how_of x.status) (sym refused.0)
told_how how.Full u h q r v refused = ap (λ (x : Reply). how_of x.status) (sym refused.0)

-- it never says that the report was early
pub plain_of : (t : Status) (k : How) → (k ≡ how.Plain) ⊎ (k ≡ how.Early) → k ≡ how_of t → how.Plain ≡ how_of t
plain_of t k (inl plain) same = sym plain ∙ same
plain_of t k (inr early) same = absurd (never t (sym early ∙ same))
  where
    never : (t : Status) → how.Early ≡ how_of t → ⊥
    never status.Good is = cc
    never status.CheckCondition is = cc
    never status.Conflict is = cc
    never status.Busy is = cc
    never status.TaskFull is = cc

pub refused_of : (k : How) → (k ≡ how.Busy) ⊎ (k ≡ how.Full) → is_served k ≡ false
refused_of k (inl is) = ap is_served is
refused_of k (inr is) = ap is_served is

-- so a refusal is told by it, and that the unit answered
pub shown_served : (k : How) → shown k ≡ how.Plain → is_served k ≡ true
shown_served how.Plain is = refl
shown_served how.Early is = refl
shown_served how.Busy is = absurd (cc)
shown_served how.Full is = absurd (cc)

pub shown_refused : (k so : How) → is_served so ≡ false → shown k ≡ so → k ≡ so
shown_refused how.Plain so refused is = absurd (false≢true (sym refused ∙ ap is_served (sym is)))
shown_refused how.Early so refused is = absurd (false≢true (sym refused ∙ ap is_served (sym is)))
shown_refused how.Busy so refused is = is
shown_refused how.Full so refused is = is

pub told_may : (so : How) (k : Control) (clauses : List Clause) (u : UnitState) (e : Entry) (after : Control) (v : UnitState) → MayCome (λ q x. Answers so u e.host q e.reply x) k clauses u.registry e after v
    → shown so ≡ how_of e.reply.status
told_may so (Going l) clauses u e after v may = told_how so u e.host (Plain may.command) e.reply v may.answer
told_may so (Trapped line) clauses u e after v may = absurd may
told_may so Free clauses u e after v may = told_how so u e.host may.0.request e.reply v may.0.answer

-- ---- by the whole reply

module _ (u x : UnitState) (same : x.registry ≡ u.registry) (h : ℕ) (q : Request) (r : Reply) (v w : UnitState) where
  alike : (k j : How) → shown k ≡ shown j → Answers k u h q r v → Answers j x h q r w → k ≡ j
  alike how.Plain how.Plain both one two = refl
  alike how.Plain how.Early both one two = absurd (in_one_order x u h q r w v (sym same) two one)
  alike how.Early how.Plain both one two = absurd (in_one_order u x h q r v w same one two)
  alike how.Early how.Early both one two = refl
  alike how.Busy how.Busy both one two = refl
  alike how.Full how.Full both one two = refl
  alike how.Plain how.Busy both one two = absurd (cc)
  alike how.Plain how.Full both one two = absurd (cc)
  alike how.Early how.Busy both one two = absurd (cc)
  alike how.Early how.Full both one two = absurd (cc)
  alike how.Busy how.Plain both one two = absurd (cc)
  alike how.Busy how.Early both one two = absurd (cc)
  alike how.Busy how.Full both one two = absurd (cc)
  alike how.Full how.Plain both one two = absurd (cc)
  alike how.Full how.Early both one two = absurd (cc)
  alike how.Full how.Busy both one two = absurd (cc)

  one_way : (k j : How) → Answers k u h q r v → Answers j x h q r w → k ≡ j
  one_way k j one two = alike k j (told_how k u h q r v one ∙ sym (told_how j x h q r w two)) one two

one_way_on : (shared : Bool) (k j : How) (u : UnitState) (h : ℕ) (q : Request) (r : Reply) (v w : UnitState) → AnswersOn shared k u h q r v → AnswersOn shared j u h q r w → k ≡ j
one_way_on true k j u h q r v w one two = one_way one.from two.from (two.less.registry ∙ sym one.less.registry) h q r v w k j one.answer two.answer
one_way_on false k j u h q r v w one two = one_way u u refl h q r v w k j one two

-- and so is an entry's
module _ (shared : Bool) (k j : How) (u : UnitState) (e : Entry) where
  script_way : (c after other : Control) (v w : UnitState) → ScriptSends (LeadsToMost shared k u e) c e after v → ScriptSends (LeadsTo shared j u e) c e other w → k ≡ j
  script_way c after other v w one two =
      let same : Some (ready two.line two.command) ≡ Some (ready one.line one.command) = sym two.ready ∙ one.ready in
      let command : two.command ≡ one.command = cc in
      one_way_on shared k j u e.host (Plain one.command) e.reply v w one.answer.answer (subst (λ d. AnswersOn shared j u e.host (Plain d) e.reply w) command two.answer)

  guest_way : (clauses : List Clause) (v w : UnitState) → GuestSendsSo (LeadsToMost shared k u e) clauses u.registry e v → GuestSendsSo (LeadsTo shared j u e) clauses u.registry e w → k ≡ j
  guest_way clauses v w one two =
      let same : Ok two.request ≡ Ok one.request = sym two.read ∙ one.read in
      let request : two.request ≡ one.request = cc in
      one_way_on shared k j u e.host one.request e.reply v w one.answer.answer (subst (λ q. AnswersOn shared j u e.host q e.reply w) request two.answer)

  pub may_way : (c : Control) (clauses : List Clause) (after other : Control) (v w : UnitState) → MayCome (LeadsToMost shared k u e) c clauses u.registry e after v
      → MayCome (LeadsTo shared j u e) c clauses u.registry e other w → k ≡ j
  may_way (Going l) clauses after other v w one two = script_way (Going l) after other v w one two
  may_way (Trapped line) clauses after other v w one two = absurd one
  may_way Free clauses after other v w one two = guest_way clauses v w one.0 two.0
