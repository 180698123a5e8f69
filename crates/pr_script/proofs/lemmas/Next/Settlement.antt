-- What is still to do comes to rest.
use Rattle.pr_script.proofs.Common.{◌≡◌, ℕ, zero, suc, ◌+◌, ◌<◌, ◌≤◌, true, [], ◌∷◌, drop, is_some, sym, refl, ap, ◌∙◌, subst, inl, inr, arith, repeats, breaks, Stmts, none, more, statement, mark, Configuration, before, turn, past_mark, becomes, settled_form}
use Rattle.std.specs.Prelude.{◌⊎◌}
use Rattle.pr_script.specs.Scripts.{work_of_all, work, becomes_often, standing_of_items}
use Rattle.pr_script.specs.Laws.{Settles}

pub work-before : (b : Stmts) (l : Configuration) → work (before b l) ≡ work_of_all b + work l
work-before none l = omega arith
work-before (more s ss) l = omega (arith, work-before ss l)

work-drop : (l : Configuration) → work (drop 1 l) ≤ work l
work-drop [] = omega arith
work-drop (mark ∷ l) = omega arith
work-drop ((statement s) ∷ l) = omega arith

pub work-past_mark : (l : Configuration) → work (past_mark l) ≤ work l
work-past_mark [] = omega arith
work-past_mark ((statement s) ∷ l) = omega (arith, work-past_mark l)
work-past_mark (mark ∷ l) = omega (arith, work-drop l)

-- an unfolding leaves what rests, and else makes less of the work
pub rests : (l : Configuration) → (becomes l ≡ l) ⊎ (work (becomes l) < work l)
rests (mark ∷ l) = inr (omega arith)
rests ((statement (repeats zero b)) ∷ l) = inr (omega arith)
rests ((statement (repeats (suc n) b)) ∷ l) = inr (omega (arith, work-before b (mark ∷ statement (repeats n b) ∷ l)))
rests ((statement breaks) ∷ l) = inr (omega (arith, work-past_mark l))
rests _ = inl refl

-- what rests stays
at_rest : (n : ℕ) (l : Configuration) → becomes l ≡ l → becomes_often n l ≡ l
at_rest zero l e = refl
at_rest (suc n) l e = ap (becomes_often n) e ∙ at_rest n l e

-- as many unfoldings as there is work come to rest
settles_within : (n : ℕ) (l : Configuration) → work l ≤ n → becomes (becomes_often n l) ≡ becomes_often n l
settles_within zero l h = elim (rests l) [ inl e ↦ e | inr less ↦ absurd (omega arith) ]
settles_within (suc n) l h = elim (rests l) [
  | inl e ↦ subst (λ m. becomes m ≡ m) (sym (at_rest (suc n) l e)) e
  | inr less ↦ settles_within n (becomes l) (omega arith)
]

settled_rests : (l : Configuration) → becomes (settled_form l) ≡ settled_form l
unfolding settled_form
settled_rests l = settles_within (work l) l (omega arith)

-- more unfoldings change nothing
enough : (n m : ℕ) (l : Configuration) → work l ≤ n → work l ≤ m → becomes_often n l ≡ becomes_often m l
enough zero m l h k = elim (rests l) [ inl e ↦ sym (at_rest m l e) | inr less ↦ absurd (omega arith) ]
enough (suc n) zero l h k = elim (rests l) [ inl e ↦ at_rest (suc n) l e | inr less ↦ absurd (omega arith) ]
enough (suc n) (suc m) l h k = elim (rests l) [
  | inl e ↦ at_rest (suc n) l e ∙ sym (at_rest (suc m) l e)
  | inr less ↦ enough n m (becomes l) (omega arith) (omega arith)
]

-- an unfolding settles as what it was made of
pub settled-becomes : (l : Configuration) → settled_form (becomes l) ≡ settled_form l
unfolding settled_form
settled-becomes l = elim (rests l) [
  | inl e ↦ ap settled_form e
  | inr less ↦ enough (work (becomes l)) (work l) (becomes l) (omega arith) (omega arith)
      ∙ enough (suc (work l)) (work l) l (omega arith) (omega arith)
]

-- what rests is settled
pub settled-rest : (l : Configuration) → becomes l ≡ l → settled_form l ≡ l
unfolding settled_form
settled-rest l e = at_rest (work l) l e

kept_within : (P : Configuration → Type 0) → ((l : Configuration) → P l → P (becomes l)) → (n : ℕ) (l : Configuration) → P l → P (becomes_often n l)
kept_within P step zero l p = p
kept_within P step (suc n) l p = kept_within P step n (becomes l) (step l p)

-- what each unfolding keeps, settling keeps
pub kept : (P : Configuration → Type 0) → ((l : Configuration) → P l → P (becomes l)) → (l : Configuration) → P l → P (settled_form l)
unfolding settled_form
kept P step l p = kept_within P step (work l) l p

-- ---- what doesn't rest

pub work-turn : (n : ℕ) (b : Stmts) (l : Configuration) → work (turn n b l) < work (statement (repeats n b) ∷ l)
work-turn zero b l = omega arith
work-turn (suc n) b l = omega (arith, work-before b (mark ∷ statement (repeats n b) ∷ l))

moves : (l : Configuration) → becomes l ≡ l → work (becomes l) < work l → ⊥
moves l e less = absurd (omega (arith, ap work e))

pub no_repeat_rests : (l : Configuration) (n : ℕ) (b : Stmts) (m : Configuration) → becomes l ≡ l → l ≡ statement (repeats n b) ∷ m → ⊥
no_repeat_rests l n b m e is = moves (statement (repeats n b) ∷ m) (subst (λ k. becomes k ≡ k) is e) (work-turn n b m)

pub no_break_rests : (l : Configuration) (m : Configuration) → becomes l ≡ l → l ≡ statement breaks ∷ m → ⊥
no_break_rests l m e is = moves (statement breaks ∷ m) (subst (λ k. becomes k ≡ k) is e) (omega (arith, work-past_mark m))

pub no_mark_rests : (l : Configuration) (m : Configuration) → becomes l ≡ l → l ≡ mark ∷ m → ⊥
no_mark_rests l m e is = moves (mark ∷ m) (subst (λ k. becomes k ≡ k) is e) (omega arith)

-- what rests is ready or stopped
rest_stands : (l : Configuration) → becomes l ≡ l → is_some (standing_of_items l) ≡ true
rest_stands (mark ∷ m) e = absurd (no_mark_rests (mark ∷ m) m e refl)
rest_stands ((statement (repeats n b)) ∷ m) e = absurd (no_repeat_rests (statement (repeats n b) ∷ m) n b m e refl)
rest_stands ((statement breaks) ∷ m) e = absurd (no_break_rests (statement breaks ∷ m) m e refl)
rest_stands _ e = refl

pub settles : Settles
settles l = (settled_rests l, rest_stands (settled_form l) (settled_rests l))
