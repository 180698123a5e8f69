-- One more statement, or arm, of a list.
use Rattle.pr_script.proofs.Common.{◌≡◌, ℕ, ◌+◌, ◌<◌, max, List, [], ◌∷◌, ◌++◌, length, get_or, take, sym, refl, ap, ◌∙◌, arith, cost_of, cost_of_all, greatest, depth_of, depth_of_all, depth_of_arms, Stmt, Stmts, none, more, Arms, no_arm, arm, statement_of, statements_in, script_of, Arm, Statement, arms_in}
use Rattle.std.proofs.lemmas.List.{take_more}
use Rattle.pr_script.specs.declared.script.Test.{Test}

-- the first i items and the one that was read there
pub taken : {X : Type 0} (xs : List X) (i : ℕ) (x : X) → i < length xs → x ≡ get_or xs i x → take (i + 1) xs ≡ take i xs ++ x ∷ []
taken xs i x within is = take_more xs i x within ∙ ap (λ y. take i xs ++ y ∷ []) (sym is)

cost-append : (xs : List Statement) (x : Statement)
    → cost_of_all (statements_in (xs ++ x ∷ [])) ≡ cost_of_all (statements_in xs) + cost_of (statement_of x)
cost-append [] x = omega arith
cost-append (y ∷ ys) x = omega (arith, cost-append ys x)

pub cost_taken : (xs : List Statement) (i : ℕ) (x : Statement) → i < length xs → x ≡ get_or xs i x
    → cost_of_all (statements_in (take (i + 1) xs)) ≡ cost_of_all (statements_in (take i xs)) + cost_of (statement_of x)
cost_taken xs i x within is = ap (λ ys. cost_of_all (statements_in ys)) (taken xs i x within is) ∙ cost-append (take i xs) x

greatest-append : (xs : List Arm) (x : Arm)
    → greatest (arms_in (xs ++ x ∷ [])) ≡ max (greatest (arms_in xs)) (cost_of_all (script_of x.body))
greatest-append [] x = omega arith
greatest-append (y ∷ ys) x = omega (arith, greatest-append ys x)

pub greatest_taken : (xs : List Arm) (i : ℕ) (x : Arm) → i < length xs → x ≡ get_or xs i x
    → greatest (arms_in (take (i + 1) xs)) ≡ max (greatest (arms_in (take i xs))) (cost_of_all (script_of x.body))
greatest_taken xs i x within is = ap (λ ys. greatest (arms_in ys)) (taken xs i x within is) ∙ greatest-append (take i xs) x

depth-append : (xs : List Statement) (x : Statement)
    → depth_of_all (statements_in (xs ++ x ∷ [])) ≡ max (depth_of_all (statements_in xs)) (depth_of (statement_of x))
depth-append [] x = omega arith
depth-append (y ∷ ys) x = omega (arith, depth-append ys x)

pub depth_taken : (xs : List Statement) (i : ℕ) (x : Statement) → i < length xs → x ≡ get_or xs i x
    → depth_of_all (statements_in (take (i + 1) xs)) ≡ max (depth_of_all (statements_in (take i xs))) (depth_of (statement_of x))
depth_taken xs i x within is = ap (λ ys. depth_of_all (statements_in ys)) (taken xs i x within is) ∙ depth-append (take i xs) x

depth_of_arms-append : (xs : List Arm) (x : Arm)
    → depth_of_arms (arms_in (xs ++ x ∷ [])) ≡ max (depth_of_arms (arms_in xs)) (depth_of_all (script_of x.body))
depth_of_arms-append [] x = omega arith
depth_of_arms-append (y ∷ ys) x = omega (arith, depth_of_arms-append ys x)

pub depth_of_arms_taken : (xs : List Arm) (i : ℕ) (x : Arm) → i < length xs → x ≡ get_or xs i x
    → depth_of_arms (arms_in (take (i + 1) xs)) ≡ max (depth_of_arms (arms_in (take i xs))) (depth_of_all (script_of x.body))
depth_of_arms_taken xs i x within is = ap (λ ys. depth_of_arms (arms_in ys)) (taken xs i x within is) ∙ depth_of_arms-append (take i xs) x

with_last : Stmts → Stmt → Stmts
with_last none s = more s none
with_last (more t b) s = more t (with_last b s)

statements_in-append : (xs : List Statement) (x : Statement) → statements_in (xs ++ x ∷ []) ≡ with_last (statements_in xs) (statement_of x)
unfolding with_last
statements_in-append [] x = refl
statements_in-append (y ∷ ys) x = ap (more (statement_of y)) (statements_in-append ys x)

-- equal lists, and an equal statement more
pub statements_taken : (xs ys : List Statement) (i : ℕ) (x y : Statement) → i < length xs → x ≡ get_or xs i x
    → statements_in ys ≡ statements_in (take i xs) → statement_of y ≡ statement_of x
    → statements_in (ys ++ y ∷ []) ≡ statements_in (take (i + 1) xs)
statements_taken xs ys i x y within is so_far same =
    statements_in-append ys y ∙ ap (λ b. with_last b (statement_of y)) so_far ∙ ap (with_last (statements_in (take i xs))) same
    ∙ sym (ap statements_in (taken xs i x within is) ∙ statements_in-append (take i xs) x)

abbrev pub with_last_arm : Arms → Test → Stmts → Arms
with_last_arm no_arm test b = arm test b no_arm
with_last_arm (arm t c rest) test b = arm t c (with_last_arm rest test b)

pub arms_in-append : (xs : List Arm) (x : Arm) → arms_in (xs ++ x ∷ []) ≡ with_last_arm (arms_in xs) x.test (script_of x.body)
arms_in-append [] x = refl
arms_in-append (y ∷ ys) x = ap (arm y.test (script_of y.body)) (arms_in-append ys x)

pub arms_taken : (xs ys : List Arm) (i : ℕ) (x y : Arm) → i < length xs → x ≡ get_or xs i x
    → arms_in ys ≡ arms_in (take i xs) → y.test ≡ x.test → script_of y.body ≡ script_of x.body
    → arms_in (ys ++ y ∷ []) ≡ arms_in (take (i + 1) xs)
arms_taken xs ys i x y within is so_far same_test same_body =
    arms_in-append ys y ∙ ap (λ a. with_last_arm a y.test (script_of y.body)) so_far
    ∙ ap (λ t. with_last_arm (arms_in (take i xs)) t (script_of y.body)) same_test
    ∙ ap (with_last_arm (arms_in (take i xs)) x.test) same_body
    ∙ sym (ap arms_in (taken xs i x within is) ∙ arms_in-append (take i xs) x)
