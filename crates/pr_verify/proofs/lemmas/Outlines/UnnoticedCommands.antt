-- A command that does not end GOOD leaves the state as it is, or reports an attention of its sender. So to the others each command
-- is one that ends GOOD, or none, or one attention of its sender is fetched.
use Rattle.pr_verify.proofs.Common.{◌≡◌, ℕ, Bool, true, false, ◌⊎◌, List, IsTrue, Some, None, Ok, Option, sym, refl, ◌∙◌, inl, inr, false≢true, Reply, Step, UnitState, Answers, How, IsDone}
use Rattle.pr_cdb.specs.declared.reply.Sense.{Sense}
use Rattle.pr_cdb.specs.declared.wire.Request.{Request}
use Rattle.pr_cdb.specs.Ranges.{FitsWhereRead}
use Rattle.pr_unit.specs.Attentions.{power_on}
use Rattle.pr_unit.specs.UnitStates.{is_pending, after_report, is_any_pending}
use Rattle.pr_unit.specs.Conduct.{conflicts, fault}
use Rattle.pr_unit.specs.Replies.{is_good}
use Rattle.pr_unit.proofs.lemmas.TakenSteps.Determinism.{good_by_decision}
use Rattle.pr_roles.specs.declared.role.Clause.{Clause}
use Rattle.pr_roles.specs.declared.how.How.TheVariants as how
use Rattle.pr_roles.specs.Permits.{is_permitted}

-- the sender is told of an attention, which is pending no more
pub record IsTold (g : ℕ) (u v : UnitState) : Type 0 where
  pub code : ℕ
  pub pending : IsTrue (is_pending u g code)
  pub after : v ≡ after_report u g code

-- what a command is to the others
abbrev pub IsNoticed : List Clause → ℕ → UnitState → UnitState → Type 0
IsNoticed role g u v = ((v ≡ u) ⊎ IsDone role g u v) ⊎ IsTold g u v

unnoticed : (role : List Clause) (g : ℕ) (u : UnitState) (q : Request) (r : Reply) (v : UnitState) → Step u g q r v → is_good r ≡ false → IsNoticed role g u v
unnoticed role g u q r v step bad = at (is_pending u g power_on) (conflicts u.registry g q) (is_any_pending u g) (fault u.registry g q) refl refl refl refl
  where
    at : (p c any : Bool) (f : Option Sense) → is_pending u g power_on ≡ p → conflicts u.registry g q ≡ c → is_any_pending u g ≡ any → fault u.registry g q ≡ f → IsNoticed role g u v
    at true c any f p_is c_is any_is f_is = let s = rw p_is at step in inr (record { code = power_on; pending = p_is; after = s.1 })
    at false true any f p_is c_is any_is f_is = let s = rw (p_is, c_is) at step in inl (inl s.1)
    at false false true f p_is c_is any_is f_is = let s = rw (any_is, c_is, p_is) at step in inr (record { code = s.code; pending = s.pending; after = s.after })
    at false false false (Some sense) p_is c_is any_is f_is = let s = rw (any_is, f_is, c_is, p_is) at step in inl (inl s.1)
    at false false false None p_is c_is any_is f_is =
        let good = rw (any_is, f_is, c_is, p_is) at (good_by_decision u g q r v step) in
        absurd (false≢true (sym bad ∙ good))

-- what an answer is to the others
pub noticed : (role : List Clause) (how : How) (g : ℕ) (u : UnitState) (q : Request) (r : Reply) (v : UnitState) → FitsWhereRead (Ok q) → Answers how u g q r v
    → (is_good r ≡ true → IsTrue (is_permitted role u.registry g q)) → IsNoticed role g u v
noticed role how.Plain g u q r v fits step permitted = at (is_good r) refl
  where
    at : (b : Bool) → is_good r ≡ b → IsNoticed role g u v
    at true good = inl (inr (record { request = q; fits = fits; reply = r; step = step; good = good; permitted = permitted good }))
    at false bad = unnoticed role g u q r v step bad
noticed role how.Early g u q r v fits early permitted = inr (record { code = early.reports.code; pending = early.reports.pending; after = early.reports.after })
noticed role how.Busy g u q r v fits is permitted = inl (inl is.1)
noticed role how.Full g u q r v fits is permitted = inl (inl is.1)
