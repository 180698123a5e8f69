-- One more statement, or arm, of those that are looked at one after another.
use Rattle.std.proofs.Common.{◌≡◌, ℕ, ◌+◌, ◌<◌, Bool, true, false, ◌&&◌, ◌||◌, List, [], ◌∷◌, ◌++◌, length, get_or, take, refl, sym, ap, ◌∙◌}
use Rattle.pr_script.specs.Trees.{script_of, statement_of, statements_in}
use Rattle.pr_script.specs.declared.script.Arm.{Arm}
use Rattle.pr_script.specs.declared.script.Statement.{Statement}
use Rattle.pr_script.specs.inside.ArmLists.{arms_in}
use Rattle.pr_script.proofs.lemmas.Trees.ListTails.{taken}
use Rattle.pr_explore.specs.Exits.{Exit}
use Rattle.pr_commands.specs.Sayings.{all_leave, all_pass, all_say, arms_leave, arms_pass, arms_say, leaves, passes, says}

-- ---- truth values

pub or-false : (b : Bool) → (b || false) ≡ b
or-false true = refl
or-false false = refl

pub and-true : (b : Bool) → (b && true) ≡ b
and-true true = refl
and-true false = refl

or_assoc : (a b c : Bool) → (a || (b || c)) ≡ ((a || b) || c)
or_assoc true b c = refl
or_assoc false b c = refl

and_assoc : (a b c : Bool) → (a && (b && c)) ≡ ((a && b) && c)
and_assoc true b c = refl
and_assoc false b c = refl

-- one that was true, and one that is looked at where that was not
pub or_true : {before old new : Bool} (one : Bool) → old ≡ before → old ≡ true → new ≡ old → new ≡ (before || one)
or_true one known is got = got ∙ is ∙ sym (ap (λ b. b || one) (sym known ∙ is))

pub or_other : {before old new : Bool} (one : Bool) → old ≡ before → old ≡ false → new ≡ one → new ≡ (before || one)
or_other one known is got = got ∙ sym (ap (λ b. b || one) (sym known ∙ is))

-- what goes on behind one and then behind more
left_so : (l p m q n : Bool) → (l || (p && (m || (q && n)))) ≡ ((l || (p && m)) || ((p && q) && n))
left_so true p m q n = refl
left_so false true m q n = refl
left_so false false m q n = refl

-- ---- what is said

say-append : (x : Exit) (ys : List Statement) (y : Statement) → all_say x (statements_in (ys ++ y ∷ [])) ≡ (all_say x (statements_in ys) || says x (statement_of y))
say-append x [] y = or-false (says x (statement_of y))
say-append x (z ∷ zs) y =
    ap (λ b. says x (statement_of z) || b) (say-append x zs y) ∙ or_assoc (says x (statement_of z)) (all_say x (statements_in zs)) (says x (statement_of y))

pub say_taken : (x : Exit) (ys : List Statement) (i : ℕ) (y : Statement) → i < length ys → y ≡ get_or ys i y
    → all_say x (statements_in (take (i + 1) ys)) ≡ (all_say x (statements_in (take i ys)) || says x (statement_of y))
say_taken x ys i y within is = ap (λ zs. all_say x (statements_in zs)) (taken ys i y within is) ∙ say-append x (take i ys) y

arms_say-append : (x : Exit) (ys : List Arm) (y : Arm) → arms_say x (arms_in (ys ++ y ∷ [])) ≡ (arms_say x (arms_in ys) || all_say x (script_of y.body))
arms_say-append x [] y = or-false (all_say x (script_of y.body))
arms_say-append x (z ∷ zs) y =
    ap (λ b. all_say x (script_of z.body) || b) (arms_say-append x zs y) ∙ or_assoc (all_say x (script_of z.body)) (arms_say x (arms_in zs)) (all_say x (script_of y.body))

pub arms_say_taken : (x : Exit) (ys : List Arm) (i : ℕ) (y : Arm) → i < length ys → y ≡ get_or ys i y
    → arms_say x (arms_in (take (i + 1) ys)) ≡ (arms_say x (arms_in (take i ys)) || all_say x (script_of y.body))
arms_say_taken x ys i y within is = ap (λ zs. arms_say x (arms_in zs)) (taken ys i y within is) ∙ arms_say-append x (take i ys) y

-- ---- where they go on

pass-append : (ys : List Statement) (y : Statement) → all_pass (statements_in (ys ++ y ∷ [])) ≡ (all_pass (statements_in ys) && passes (statement_of y))
pass-append [] y = and-true (passes (statement_of y))
pass-append (z ∷ zs) y =
    ap (λ b. passes (statement_of z) && b) (pass-append zs y) ∙ and_assoc (passes (statement_of z)) (all_pass (statements_in zs)) (passes (statement_of y))

pub pass_taken : (ys : List Statement) (i : ℕ) (y : Statement) → i < length ys → y ≡ get_or ys i y
    → all_pass (statements_in (take (i + 1) ys)) ≡ (all_pass (statements_in (take i ys)) && passes (statement_of y))
pass_taken ys i y within is = ap (λ zs. all_pass (statements_in zs)) (taken ys i y within is) ∙ pass-append (take i ys) y

leave_one : (l p : Bool) → (l || (p && false)) ≡ l
leave_one true p = refl
leave_one false true = refl
leave_one false false = refl

leave-append : (ys : List Statement) (y : Statement)
    → all_leave (statements_in (ys ++ y ∷ [])) ≡ (all_leave (statements_in ys) || (all_pass (statements_in ys) && leaves (statement_of y)))
leave-append [] y = leave_one (leaves (statement_of y)) (passes (statement_of y))
leave-append (z ∷ zs) y =
    ap (λ b. leaves (statement_of z) || (passes (statement_of z) && b)) (leave-append zs y)
    ∙ left_so (leaves (statement_of z)) (passes (statement_of z)) (all_leave (statements_in zs)) (all_pass (statements_in zs)) (leaves (statement_of y))

pub leave_taken : (ys : List Statement) (i : ℕ) (y : Statement) → i < length ys → y ≡ get_or ys i y
    → all_leave (statements_in (take (i + 1) ys)) ≡ (all_leave (statements_in (take i ys)) || (all_pass (statements_in (take i ys)) && leaves (statement_of y)))
leave_taken ys i y within is = ap (λ zs. all_leave (statements_in zs)) (taken ys i y within is) ∙ leave-append (take i ys) y

arms_pass-append : (ys : List Arm) (y : Arm) → arms_pass (arms_in (ys ++ y ∷ [])) ≡ (arms_pass (arms_in ys) || all_pass (script_of y.body))
arms_pass-append [] y = or-false (all_pass (script_of y.body))
arms_pass-append (z ∷ zs) y =
    ap (λ b. all_pass (script_of z.body) || b) (arms_pass-append zs y) ∙ or_assoc (all_pass (script_of z.body)) (arms_pass (arms_in zs)) (all_pass (script_of y.body))

pub arms_pass_taken : (ys : List Arm) (i : ℕ) (y : Arm) → i < length ys → y ≡ get_or ys i y
    → arms_pass (arms_in (take (i + 1) ys)) ≡ (arms_pass (arms_in (take i ys)) || all_pass (script_of y.body))
arms_pass_taken ys i y within is = ap (λ zs. arms_pass (arms_in zs)) (taken ys i y within is) ∙ arms_pass-append (take i ys) y

arms_leave-append : (ys : List Arm) (y : Arm) → arms_leave (arms_in (ys ++ y ∷ [])) ≡ (arms_leave (arms_in ys) || all_leave (script_of y.body))
arms_leave-append [] y = or-false (all_leave (script_of y.body))
arms_leave-append (z ∷ zs) y =
    ap (λ b. all_leave (script_of z.body) || b) (arms_leave-append zs y) ∙ or_assoc (all_leave (script_of z.body)) (arms_leave (arms_in zs)) (all_leave (script_of y.body))

pub arms_leave_taken : (ys : List Arm) (i : ℕ) (y : Arm) → i < length ys → y ≡ get_or ys i y
    → arms_leave (arms_in (take (i + 1) ys)) ≡ (arms_leave (arms_in (take i ys)) || all_leave (script_of y.body))
arms_leave_taken ys i y within is = ap (λ zs. arms_leave (arms_in zs)) (taken ys i y within is) ∙ arms_leave-append (take i ys) y
