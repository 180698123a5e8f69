-- When two lists of statements, or of arms, are the same.
use Rattle.pr_script.proofs.Common.{◌≡◌, ℕ, zero, suc, ◌+◌, ◌<◌, Bool, true, false, List, [], ◌∷◌, length, get_or, take, Some, None, Option, sym, refl, ap, ◌∙◌, arith, Command, Stmt, sends, repeats, Stmts, none, more, Arms, no_arm, arm, statement_of, statements_in, script_of, Arm, Statement, arms_in}
use Rattle.std.specs.Prelude.{IsTrue}
use Rattle.pr_script.specs.declared.script.Test.{Test}
use Rattle.pr_script.specs.inside.Program.{size}
use Rattle.pr_script.proofs.lemmas.Trees.ListTails.{statements_taken, arms_taken, taken}

pub refuted : {P : Type 0} → (P → ⊥) → (IsTrue false → P) × (P → IsTrue false)
refuted no_p = (λ f. absurd (cc f), λ p. absurd (no_p p))

pub not_both : {P : Type 0} {b : Bool} → b ≡ false → b ≡ true → P
not_both is_false is_true = absurd (cc (is_false, is_true))

-- ---- as many

size-statements_in : (xs : List Statement) → size (statements_in xs) ≡ length xs
size-statements_in [] = refl
size-statements_in (x ∷ xs) = omega (arith, size-statements_in xs)

pub same_length : (xs ys : List Statement) → statements_in xs ≡ statements_in ys → length xs ≡ length ys
same_length xs ys e = sym (size-statements_in xs) ∙ ap size e ∙ size-statements_in ys

arm_count : Arms → ℕ
arm_count no_arm = 0
arm_count (arm t b rest) = 1 + arm_count rest

arm_count-arms_in : (xs : List Arm) → arm_count (arms_in xs) ≡ length xs
unfolding arm_count
arm_count-arms_in [] = refl
arm_count-arms_in (x ∷ xs) = omega (arith, arm_count-arms_in xs)

pub same_arm_count : (xs ys : List Arm) → arms_in xs ≡ arms_in ys → length xs ≡ length ys
same_arm_count xs ys e = sym (arm_count-arms_in xs) ∙ ap arm_count e ∙ arm_count-arms_in ys

-- ---- one after another

nth : Stmts → ℕ → Option Stmt
nth none n = None
nth (more s b) zero = Some s
nth (more s b) (suc n) = nth b n

nth-statements_in : (xs : List Statement) (i : ℕ) (x : Statement) → i < length xs → x ≡ get_or xs i x → nth (statements_in xs) i ≡ Some (statement_of x)
unfolding nth
nth-statements_in [] i x within is = absurd (omega arith)
nth-statements_in (y ∷ ys) zero x within is = ap (λ z. Some (statement_of z)) (sym is)
nth-statements_in (y ∷ ys) (suc i) x within is = nth-statements_in ys i x (omega arith) is

pub same_statement : (xs ys : List Statement) (i : ℕ) (x y : Statement) → i < length xs → x ≡ get_or xs i x → y ≡ get_or ys i y
    → statements_in xs ≡ statements_in ys → statement_of x ≡ statement_of y
same_statement xs ys i x y within x_is y_is e =
    let within_ys : i < length ys = omega (arith, same_length xs ys e) in
    let there : Some (statement_of x) ≡ Some (statement_of y)
    = sym (nth-statements_in xs i x within x_is) ∙ ap (λ b. nth b i) e ∙ nth-statements_in ys i y within_ys y_is in cc

nth_arm : Arms → ℕ → Option (Test × Stmts)
nth_arm no_arm n = None
nth_arm (arm t b rest) zero = Some (t, b)
nth_arm (arm t b rest) (suc n) = nth_arm rest n

nth_arm-arms_in : (xs : List Arm) (i : ℕ) (x : Arm) → i < length xs → x ≡ get_or xs i x → nth_arm (arms_in xs) i ≡ Some (x.test, script_of x.body)
unfolding nth_arm
nth_arm-arms_in [] i x within is = absurd (omega arith)
nth_arm-arms_in (y ∷ ys) zero x within is = ap (λ (z : Arm). Some (z.test, script_of z.body)) (sym is)
nth_arm-arms_in (y ∷ ys) (suc i) x within is = nth_arm-arms_in ys i x (omega arith) is

pub same_arm : (xs ys : List Arm) (i : ℕ) (x y : Arm) → i < length xs → x ≡ get_or xs i x → y ≡ get_or ys i y
    → arms_in xs ≡ arms_in ys → (x.test ≡ y.test) × (script_of x.body ≡ script_of y.body)
same_arm xs ys i x y within x_is y_is e =
    let within_ys : i < length ys = omega (arith, same_arm_count xs ys e) in
    let there = sym (nth_arm-arms_in xs i x within x_is) ∙ ap (λ a. nth_arm a i) e ∙ nth_arm-arms_in ys i y within_ys y_is in
    same_parts (x.test, script_of x.body) (y.test, script_of y.body) there
  where
    same_parts : (p q : Test × Stmts) → Some p ≡ Some q → (p.0 ≡ q.0) × (p.1 ≡ q.1)
    same_parts p q same = let parts : p ≡ q = cc in (ap (λ (u : Test × Stmts). u.0) parts, ap (λ (u : Test × Stmts). u.1) parts)

-- ---- one more of each

pub same_so_far : (xs ys : List Statement) (i : ℕ) (x y : Statement) → i < length xs → length xs ≡ length ys → x ≡ get_or xs i x → y ≡ get_or ys i y
    → statements_in (take i xs) ≡ statements_in (take i ys) → statement_of x ≡ statement_of y
    → statements_in (take (i + 1) xs) ≡ statements_in (take (i + 1) ys)
same_so_far xs ys i x y within as_long x_is y_is so_far same =
    sym (statements_taken xs (take i ys) i x y within x_is (sym so_far) (sym same))
    ∙ ap statements_in (sym (taken ys i y (omega arith) y_is))

pub same_arms_so_far : (xs ys : List Arm) (i : ℕ) (x y : Arm) → i < length xs → length xs ≡ length ys → x ≡ get_or xs i x → y ≡ get_or ys i y
    → arms_in (take i xs) ≡ arms_in (take i ys) → x.test ≡ y.test → script_of x.body ≡ script_of y.body
    → arms_in (take (i + 1) xs) ≡ arms_in (take (i + 1) ys)
same_arms_so_far xs ys i x y within as_long x_is y_is so_far test body =
    sym (arms_taken xs (take i ys) i x y within x_is (sym so_far) (sym test) (sym body))
    ∙ ap arms_in (sym (taken ys i y (omega arith) y_is))

-- ---- statements of one kind

pub sends_alike : {s t : Stmt} {r : Bool} (n m : ℕ) (c d : Command) (a b : Arms) → s ≡ sends n c a → t ≡ sends m d b → n ≡ m → c ≡ d
    → (IsTrue r → a ≡ b) × (a ≡ b → IsTrue r) → (IsTrue r → s ≡ t) × (s ≡ t → IsTrue r)
sends_alike {s} {t} {r} n m c d a b s_is t_is lines commands arms = (
  λ h. let same = arms.0 h in cc,
  λ e. let whole : sends n c a ≡ sends m d b = cc in arms.1 (let same : a ≡ b = cc in same),
)

pub repeats_alike : {s t : Stmt} {r : Bool} (n m : ℕ) (a b : Stmts) → s ≡ repeats n a → t ≡ repeats m b → n ≡ m
    → (IsTrue r → a ≡ b) × (a ≡ b → IsTrue r) → (IsTrue r → s ≡ t) × (s ≡ t → IsTrue r)
repeats_alike {s} {t} {r} n m a b s_is t_is counts bodies = (
  λ h. let same = bodies.0 h in cc,
  λ e. let whole : repeats n a ≡ repeats m b = cc in bodies.1 (let same : a ≡ b = cc in same),
)
