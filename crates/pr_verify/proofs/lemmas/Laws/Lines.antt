-- What is said of each line of a script, by a view or by anything else, is an invariant of its host, where it is true of what sound
-- and fitting outlines ask. Outlines are the case of one view a line.
use Rattle.pr_verify.proofs.Common.{option_map_or, ltb-true, ◌≡◌, ℕ, ◌+◌, ◌<◌, ◌≤◌, true, ◌≢◌, ◌⊎◌, List, [], ◌∷◌, length, IsTrue, nat_lt, ◌==◌, Some, None, Contains, Option, sym, refl, ap, ◌∙◌, subst, inl, inr, arith, false≢true, Command, Reply, Plain, Step, UnitState, cost_of_all, Stmts, Configuration, Answers, Answered, refusals_of, command_permitted, role, Scenario, IsAllowedStart, How, IsDone, Becomes, by_another, by_reset, HasOutline, SendsFit, Place, places_of, first_lines, follows}
use Rattle.std.specs.Prelude.{IsSome, not}
use Rattle.std.proofs.lemmas.Bool.{or_cases}
use Rattle.std.proofs.lemmas.Bool.Decides.{nat_tests}
use Rattle.pr_cdb.specs.Ranges.{Fits}
use Rattle.pr_cdb.specs.Spelling.{spelling}
use Rattle.pr_unit.specs.UnitStates.{is_pending, after_report, reset}
use Rattle.pr_unit.specs.Replies.{is_good}
use Rattle.pr_roles.specs.declared.how.How.TheVariants as how
use Rattle.pr_roles.specs.declared.item.Item.{Item}
use Rattle.pr_roles.specs.Answers.{most_of, refusals_by, most_refusals, may_come}
use Rattle.pr_roles.specs.DeclaredRefusals.{is_among}
use Rattle.pr_roles.specs.Scenarios.{Nexus, nexus}
use Rattle.pr_roles.specs.Worlds.{commands_by, entry_of, resets_in}
use Rattle.pr_script.specs.Takes.{take}
use Rattle.pr_script.specs.Costs.{commands}
use Rattle.pr_script.proofs.lemmas.Costs.Budgets.{cost_bounds_sends, IsWithinCost, within_cost_taken}
use Rattle.pr_roles.proofs.lemmas.Worlds.Counts.{sent_other, sent_own, sent_reset}
use Rattle.pr_verify.proofs.lemmas.Laws.HostInvariants.{IsTurn, IsTaken, IsInvariant}
use Rattle.pr_verify.proofs.lemmas.Laws.EarlyAnswers.{early_bad}
use Rattle.pr_verify.proofs.lemmas.Laws.Eased.{IsShownEased, start_shown, own_shown, others_shown, fetched_shown, arms_eased, role_eased}
use Rattle.pr_verify.proofs.lemmas.Places.Successors.{Leads, leads_begun}
use Rattle.pr_verify.proofs.lemmas.Places.Replies.{LeadsOn, IsReadyAt, ready_at}

-- ---- what is asked of what is said of lines

pub record IsSoundBy (s : Scenario) (h : ℕ) (script : Stmts) (Shown : ℕ → UnitState → Type 0) : Type 0 where
  pub start : (line : ℕ) (u : UnitState) → IsAllowedStart s u → Contains (first_lines script) line → Shown line u
  pub own : (p : Place) (line : ℕ) (u : UnitState) (r : Reply) (v : UnitState) (next : List ℕ) → Contains (places_of script) p → Shown p.line u → Answered (refusals_of s h) u h (Plain p.command) r v
      → follows p r ≡ Some next → Contains next line → Shown line v
  pub others : (line : ℕ) (u v : UnitState) → Shown line u → Becomes s h u v → Shown line v
  pub fetched : (line : ℕ) (u : UnitState) (g code : ℕ) → Shown line u → IsTrue (is_pending u g code) → Shown line (after_report u g code)

pub record IsFittingBy (s : Scenario) (h : ℕ) (script : Stmts) (budget : ℕ) (Shown : ℕ → UnitState → Type 0) : Type 0 where
  pub arms : (p : Place) (u : UnitState) (r : Reply) (v : UnitState) → Contains (places_of script) p → Shown p.line u → Answered (refusals_of s h) u h (Plain p.command) r v → IsSome (follows p r)
  pub role : (p : Place) (u : UnitState) (r : Reply) (v : UnitState) → Contains (places_of script) p → Shown p.line u → Step u h (Plain p.command) r v → is_good r ≡ true
      → IsTrue (command_permitted (role s h) u.registry h p.command)
  pub cost : cost_of_all script ≤ budget

-- what is still to do leads to lines, and of each of them this is true
pub record HoldsAtLines (script : Stmts) (h : ℕ) (Shown : ℕ → UnitState → Type 0) (l : Configuration) (history : List Item) (u : UnitState) : Type 0 where
  pub lines : List ℕ
  pub leads : Leads (places_of script) lines l
  pub shown : (line : ℕ) → Contains lines line → Shown line u
  pub spent : IsWithinCost (commands_by history h) l (cost_of_all script)

-- ---- the host's own command

pub some_left : (n m : ℕ) → nat_lt n m ≡ true → not (m == 0) ≡ true
some_left n m less = grind (arith, nat_tests)

-- what may come is declared
pub may_be : (s : Scenario) (es : List Item) (h : ℕ) (k : How) → IsTrue (may_come s es h k) → IsTrue (is_among (refusals_of s h) k)
may_be s es h how.Plain room = refl
may_be s es h how.Early room = at (or_cases s.early (nat_lt (refusals_by es h how.Early) (most_refusals s h how.Early)) room)
  where
    none_declared : (o : Option Nexus) → option_map_or (most_of how.Early) o 0 ≡ 0
    none_declared None = refl
    none_declared (Some n) = refl

    at : (s.early ≡ true) ⊎ (nat_lt (refusals_by es h how.Early) (most_refusals s h how.Early) ≡ true) → s.early ≡ true
    at (inl early) = early
    at (inr less) = absurd (omega (arith, none_declared (nexus s h), ltb-true (refusals_by es h how.Early) (most_refusals s h how.Early) less))
may_be s es h how.Busy room = some_left (refusals_by es h how.Busy) (most_refusals s h how.Busy) room
may_be s es h how.Full room = some_left (refusals_by es h how.Full) (most_refusals s h how.Full) room

module _ (s : Scenario) (h : ℕ) (script : Stmts) (budget : ℕ) (Shown : ℕ → UnitState → Type 0) (sound : IsSoundBy s h script Shown) (fitting : IsFittingBy s h script budget Shown) where
  record IsOwnStep (p : Place) (u : UnitState) (r : Reply) (v : UnitState) : Type 0 where
    listed : Contains (places_of script) p
    shown : Shown p.line u
    how : How
    declared : IsTrue (is_among (refusals_of s h) how)
    answer : Answers how u h (Plain p.command) r v

  answered : (p : Place) (u : UnitState) (r : Reply) (v : UnitState) → IsOwnStep p u r v → Answered (refusals_of s h) u h (Plain p.command) r v
  answered p u r v own = record { how = own.how; declared = own.declared; answer = own.answer }

  own_step : (l : Configuration) (history : List Item) (u : UnitState) (c : Command) (r : Reply) (v : UnitState) (t : IsTurn s h (HoldsAtLines script h Shown) l history u c r v)
      (at : IsReadyAt (places_of script) t.holds.lines l t.line c) → IsOwnStep at.place u r v
  own_step l history u c r v t at = record {
    listed = at.listed;
    shown = subst (λ m. Shown m u) (sym at.line) (t.holds.shown t.line at.there);
    how = t.how;
    declared = may_be s history h t.how t.room;
    answer = subst (λ d. Answers t.how u h (Plain d) r v) (sym at.command) t.answer;
  }

  takes_reply : (p : Place) (u : UnitState) (r : Reply) (v : UnitState) → IsOwnStep p u r v → (next : List ℕ) × (follows p r ≡ Some next)
  takes_reply p u r v own = at (follows p r) (fitting.arms p u r v own.listed own.shown (answered p u r v own))
    where
      at : (f : Option (List ℕ)) → IsSome f → (next : List ℕ) × (f ≡ Some next)
      at None some = absurd (false≢true some)
      at (Some next) some = (next, refl)

  permitted_here : (p : Place) (u : UnitState) (c : Command) (r : Reply) (v : UnitState) → IsOwnStep p u r v → p.command ≡ c → is_good r ≡ true → IsTrue (command_permitted (role s h) u.registry h c)
  permitted_here p u c r v own is good = at own.how own.answer
    where
      at : (k : How) → Answers k u h (Plain p.command) r v → IsTrue (command_permitted (role s h) u.registry h c)
      at how.Plain step = subst (λ d. IsTrue (command_permitted (role s h) u.registry h d)) is (fitting.role p u r v own.listed own.shown step good)
      at how.Early early = absurd (false≢true (sym (early_bad u h p.command r v early) ∙ good))
      at how.Busy refused = absurd (false≢true (ap is_good (sym refused.0) ∙ good))
      at how.Full refused = absurd (false≢true (ap is_good (sym refused.0) ∙ good))

  -- one command more is within the budget
  within_budget : (n : ℕ) (l : Configuration) (r : Reply) (at : IsWithinCost n l (cost_of_all script)) → commands l ≡ 1 → n + 1 ≤ budget
  within_budget n l r spent one =
      let sent = spent (r ∷ []) in
      let cost = fitting.cost in
      omega (arith, sent, one, cost)

  own_taken : (l : Configuration) (history : List Item) (u : UnitState) (c : Command) (r : Reply) (v : UnitState) (t : IsTurn s h (HoldsAtLines script h Shown) l history u c r v)
      (at : IsReadyAt (places_of script) t.holds.lines l t.line c) → IsOwnStep at.place u r v → IsTaken s h budget (HoldsAtLines script h Shown) l history u c r v
  own_taken l history u c r v t at own = goes_on (take l r) refl (at.goes_on r arm.0 arm.1)
    where
      arm : (next : List ℕ) × (follows at.place r ≡ Some next)
      arm = takes_reply at.place u r v own

      goes_on : (o : Option Configuration) → take l r ≡ o → LeadsOn (places_of script) arm.0 o → IsTaken s h budget (HoldsAtLines script h Shown) l history u c r v
      goes_on None taken leads = absurd leads
      goes_on (Some m) taken leads = record {
        rest = m;
        arm = taken;
        within = within_budget (commands_by history h) l r t.holds.spent at.one;
        role = permitted_here at.place u c r v own at.command;
        holds = record {
          lines = arm.0;
          leads = leads;
          shown = λ line there. sound.own at.place line u r v arm.0 at.listed own.shown (answered at.place u r v own) arm.1 there;
          spent = subst (λ k. IsWithinCost k m (cost_of_all script)) (sym (sent_own history (entry_of h (spelling c) r) h refl))
              (within_cost_taken (commands_by history h) l m r (cost_of_all script) at.one taken t.holds.spent);
        };
      }

  -- ---- the others

  still_shown : (line : ℕ) (g : ℕ) (u v : UnitState) → g ≢ h → g < length s.nexuses → (v ≡ u) ⊎ IsDone (role s g) g u v → Shown line u → Shown line v
  still_shown line g u v other there (inl same) shown = subst (Shown line) (sym same) shown
  still_shown line g u v other there (inr done) shown = sound.others line u v shown (by_another g there other done)

  pub lines_are_invariant : SendsFit script → IsInvariant s h script budget (HoldsAtLines script h Shown)
  lines_are_invariant fields = record {
    start = λ u allowed. record {
      lines = first_lines script;
      leads = leads_begun script;
      shown = λ line first. sound.start line u allowed first;
      spent = λ rs. omega (arith, cost_bounds_sends script rs);
    };
    fields = λ l history u line c x is.
        let at = ready_at (places_of script) x.lines l line c x.leads is in
        subst Fits at.command (fields at.place at.listed);
    own = λ l history u c r v t.
        let at = ready_at (places_of script) t.holds.lines l t.line c t.holds.leads t.ready in
        own_taken l history u c r v t at (own_step l history u c r v t at);
    others = λ l history u e v x other there unit. record {
      lines = x.lines;
      leads = x.leads;
      shown = λ line here. still_shown line e.host u v other there unit (x.shown line here);
      spent = subst (λ n. IsWithinCost n l (cost_of_all script)) (sym (sent_other history e h (λ same. other (sym same)))) x.spent;
    };
    resets = λ l history u x room. record {
      lines = x.lines;
      leads = x.leads;
      shown = λ line here. sound.others line u (reset u) (x.shown line here) (by_reset (some_left (resets_in history) s.resets room) refl);
      spent = subst (λ n. IsWithinCost n l (cost_of_all script)) (sym (sent_reset history h)) x.spent;
    };
    fetched = λ l history u g code x pending. record {
      lines = x.lines;
      leads = x.leads;
      shown = λ line here. sound.fetched line u g code (x.shown line here) pending;
      spent = x.spent;
    };
  }

-- ---- one view a line: the outlines of the verdict

-- What an outline shows however much of what is pending for its host is gone is an invariant: so attentions may vanish.
pub outline_is_invariant : (s : Scenario) (h : ℕ) (script : Stmts) (budget : ℕ) → SendsFit script → (o : HasOutline s h script budget) → IsInvariant s h script budget (HoldsAtLines script h (IsShownEased s h script budget o))
outline_is_invariant s h script budget fields o =
    subst (λ g. IsInvariant s g script budget (HoldsAtLines script g (IsShownEased s h script budget o))) o.host (lines_are_invariant s o.outline.host script budget (IsShownEased s h script budget o) sound fitting fields)
  where
    sound : IsSoundBy s o.outline.host script (IsShownEased s h script budget o)
    sound = record { start = start_shown s h script budget o; own = own_shown s h script budget o; others = others_shown s h script budget o; fetched = fetched_shown s h script budget o }

    fitting : IsFittingBy s o.outline.host script budget (IsShownEased s h script budget o)
    fitting = record { arms = arms_eased s h script budget o; role = role_eased s h script budget o; cost = o.fitting.cost }
