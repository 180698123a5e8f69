-- That outlines make a scenario safe is a case of what invariants do.
use Rattle.pr_verify.proofs.Common.{ℕ, ◌<◌, List, Some, Option, length, UnitState, Configuration, Stmts, IsSafe, Task, Scripted, task, Scenario, HasOutline, OnScripted, HaveOutlines, SendsFit}
use Rattle.pr_roles.specs.declared.item.Item.{Item}
use Rattle.pr_roles.specs.Scenarios.{on_shared_paths}
use Rattle.pr_verify.specs.Laws.{OutlinesMakeSafe}
use Rattle.pr_verify.specs.Outlines.{AllSendsFit}
use Rattle.pr_verify.proofs.lemmas.Laws.HostInvariants.{IsInvariant}
use Rattle.pr_verify.proofs.lemmas.Laws.Safety.{invariants_make_safe}
use Rattle.pr_verify.proofs.lemmas.Laws.Eased.{IsShownEased}
use Rattle.pr_verify.proofs.lemmas.Laws.Lines.{HoldsAtLines, outline_is_invariant}
use Rattle.pr_verify.proofs.lemmas.Laws.SharedPaths.{outlines_shared}

-- one of several invariants is one
some_invariant : (s : Scenario) (h : ℕ) (script : Stmts) (budget : ℕ) (A : Type 0) (a : A) (H : A → Configuration → List Item → UnitState → Type 0) → ((x : A) → IsInvariant s h script budget (H x))
    → IsInvariant s h script budget (λ l history u. (x : A) × H x l history u)
some_invariant s h script budget A a H each = record {
  start = λ u allowed. (a, (each a).start u allowed);
  fields = λ l history u line c x is. (each x.0).fields l history u line c x.1 is;
  own = λ l history u c r v t.
      let inv = each t.holds.0 in
      let taken = inv.own l history u c r v (record { holds = t.holds.1; line = t.line; ready = t.ready; how = t.how; room = t.room; answer = t.answer }) in
      record { rest = taken.rest; arm = taken.arm; within = taken.within; role = taken.role; holds = (t.holds.0, taken.holds) };
  others = λ l history u e v x other there unit. (x.0, (each x.0).others l history u e v x.1 other there unit);
  resets = λ l history u x room. (x.0, (each x.0).resets l history u x.1 room);
  fetched = λ l history u g code x pending. (x.0, (each x.0).fetched l history u g code x.1 pending);
}

module _ (s : Scenario) where
  HoldsBy : (t : Option Task) (h : ℕ) → OnScripted t (HasOutline s h) → Configuration → List Item → UnitState → Type 0
  HoldsBy (Some (Scripted script budget)) h o = HoldsAtLines script h (IsShownEased s h script budget o)
  HoldsBy _ h o = λ l history u. ⊥

  carried : (h : ℕ) (t : Option Task) (o : h < length s.nexuses → OnScripted t (HasOutline s h)) → OnScripted t (λ script budget. SendsFit script) → h < length s.nexuses
      → OnScripted t (λ script budget. IsInvariant s h script budget (λ l history u. (x : h < length s.nexuses) × HoldsBy t h (o x) l history u))
  unfolding HoldsBy
  carried h (Some (Scripted script budget)) o fit there =
      some_invariant s h script budget (h < length s.nexuses) there (λ x. HoldsAtLines script h (IsShownEased s h script budget (o x))) (λ x. outline_is_invariant s h script budget fit (o x))
  carried h _ o fit there = tt

-- so they do as the scenario has it
as_declared : (s : Scenario) → AllSendsFit s → HaveOutlines s → IsSafe s
as_declared s fields have =
    invariants_make_safe s (λ h l history u. (x : h < length s.nexuses) × HoldsBy s (task s h) h (have h x) l history u)
    (λ h there. carried s h (task s h) (have h) (fields h there) there)

pub outlines_make_safe : OutlinesMakeSafe
outlines_make_safe s fields have = as_declared (on_shared_paths s) fields (outlines_shared s have)
