-- What becomes of a state, by what a change says, registration by registration.
use Rattle.pr_regions.proofs.Common.{◌≡◌, ℕ, ◌≤◌, Bool, true, false, ◌≢◌, List, length, if◌then◌else◌, None, unwrap_or, sym, ap, ◌∙◌, arith, has, codes_of, State, key_of, UnitState, Scope, number_of, key_at, Transition, Audience, Hosts}
use Rattle.std.specs.FinSet as set
use Rattle.pr_registry.specs.declared.change.Change.{Change as Told}
use Rattle.pr_unit.specs.UnitStates.{pending_after, is_pending}
use Rattle.pr_unit.proofs.lemmas.Attentions.ToldAttentions.{is_pending_after, contains-told, contains-untold}
use Rattle.pr_regions.specs.Regions.{Changes}
use Rattle.pr_regions.proofs.lemmas.Regions.ToldAttentions.{contains-codes_told, told-lt}

-- this is its registration
pub record Is (keys : List ℕ) (u : State) (g r : ℕ) : Type 0 where
  pub known : r ≤ length keys
  pub key : key_of u g ≡ key_at keys r

-- those who are told are the others whose registration passes
pub record AreTold (keys : List ℕ) (u : State) (from : ℕ) (told : Hosts) (passes : ℕ → Bool) : Type 0 where
  pub others : (g r : ℕ) → g ≢ from → Is keys u g r → set.contains told g ≡ passes r
  pub sender : set.contains told from ≡ false

-- these are the audience
pub record AreAudience (keys : List ℕ) (u : State) (from : ℕ) (t_03 t_04 t_05 : Hosts) (tells : Audience) : Type 0 where
  pub told_03 : AreTold keys u from t_03 tells.told_03
  pub told_04 : AreTold keys u from t_04 tells.told_04
  pub told_05 : AreTold keys u from t_05 tells.told_05

-- whom the change tells
abbrev pub audience_of : Transition → Audience
audience_of c = record { told_03 = has c.told_03; told_04 = has c.told_04; told_05 = has c.told_05 }

-- the change tells what the registry becomes, and who is told
pub record Acts (keys : List ℕ) (hosts from : ℕ) (c : Transition) (u v : State) (t : Told) : Type 0 where
  pub sender : (r : ℕ) → Is keys u from r → Is keys v from (unwrap_or c.sender r)
  pub others : (g r : ℕ) → g ≢ from → Is keys u g r → key_of v g ≡ (if has c.removed r then None else key_of u g)
  pub reservation : c.reservation ≡ number_of hosts v.held
  pub told : AreAudience keys u from t.told_03 t.told_04 t.told_05 (audience_of c)

-- the state of a unit once its registry is v and these are told
abbrev pub then_in : UnitState → State → Told → UnitState
then_in u v t = record { registry = v; pending = pending_after u.pending t }

other_after : (s : Scope) (u v : State) (g r : ℕ) (b : Bool) → r ≤ length s.keys → key_of u g ≡ key_at s.keys r → key_of v g ≡ (if b then None else key_of u g)
    → ((if b then 0 else r) ≤ length s.keys) × (key_of v g ≡ key_at s.keys (if b then 0 else r))
other_after s u v g r true small key is = (omega arith, is)
other_after s u v g r false small key is = (small, is ∙ key)

pending_told : (u : UnitState) (v : State) (t : Told) (own q : ℕ) (a b c : Bool)
    → set.contains t.told_03 own ≡ a → set.contains t.told_04 own ≡ b → set.contains t.told_05 own ≡ c
    → ((code : ℕ) → is_pending u own code ≡ set.contains (codes_of q) code)
    → (code : ℕ) → is_pending (then_in u v t) own code ≡ is_pending_after (set.contains (codes_of q) code) a b c code
pending_told u v t own q a b c is_a is_b is_c pending code =
    contains-told u.pending t own code
    ∙ (λ i. is_pending_after (pending code i) (is_a i) (is_b i) (is_c i) code)

pub changes : (s : Scope) (from : ℕ) (c : Transition) (u : UnitState) (v : State) (t : Told) → Acts s.keys s.hosts from c u.registry v t → Changes s from c u (then_in u v t)
changes s from c u v t acts = record {
  sender = λ r so. let new = acts.sender r (record { known = so.1; key = so.2 }) in (so.0, new.known, new.key);
  others = λ g r other so.
      let new = other_after s u.registry v g r (has c.removed r) so.1 so.2 (acts.others g r other (record { known = so.1; key = so.2 })) in
      (so.0, new.0, new.1);
  reservation = acts.reservation;
  told = λ r q other so pending.
      let is : Is s.keys u.registry s.own r = record { known = so.1; key = so.2 } in (
        told-lt q (has c.told_03 r) (has c.told_04 r) (has c.told_05 r) pending.0,
        λ code. pending_told u v t s.own q (has c.told_03 r) (has c.told_04 r) (has c.told_05 r) (acts.told.told_03.others s.own r other is) (acts.told.told_04.others s.own r other is) (acts.told.told_05.others s.own r other is) pending.1 code
            ∙ sym (contains-codes_told q (has c.told_03 r) (has c.told_04 r) (has c.told_05 r) code),
      );
  untold = λ q same pending. (
    pending.0,
    λ code. contains-untold u.pending t s.own code (record {
      untold_03 = ap (set.contains t.told_03) same ∙ acts.told.told_03.sender;
      untold_04 = ap (set.contains t.told_04) same ∙ acts.told.told_04.sender;
      untold_05 = ap (set.contains t.told_05) same ∙ acts.told.told_05.sender;
    }) ∙ pending.1 code,
  );
}
