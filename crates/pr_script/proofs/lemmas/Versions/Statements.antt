-- One more statement, or arm, of those that are looked at one after another.
use Rattle.pr_script.proofs.Common.{◌≡◌, ℕ, ◌+◌, ◌<◌, Bool, true, false, ◌&&◌, List, [], ◌∷◌, ◌++◌, length, get_or, take, drop, is_some, nat_lt, Some, None, Option, sym, refl, ap, ◌∙◌, arith, Command, statement_fits, statements_fit, arms_fit, count_in_arms, lines_of_all, lines_of_arms, statement_of, statements_in, script_of, are_arms_of, Arm, Statement, arms_in, last_of_climb}
use Rattle.std.specs.Prelude.{nat_le, cond}
use Rattle.std.proofs.lemmas.List.{take-append-drop, append_assoc, append-nil}
use Rattle.std.proofs.Math.Bool.{and_assoc, and-true}
use Rattle.pr_script.specs.Grammar.{test_fits, count_of_arms, count_of, count_of_all, lines_of, rise_above}
use Rattle.pr_script.specs.Versions.{since, is_statement_of, is_script_of}
use Rattle.pr_script.proofs.lemmas.Trees.ListTails.{taken}

-- ---- the grammar

fit-append : (keys : List ℕ) (r s : ℕ) (xs : List Statement) (x : Statement)
    → statements_fit keys r s (statements_in (xs ++ x ∷ [])) ≡ (statements_fit keys r s (statements_in xs) && statement_fits keys r s (statement_of x))
fit-append keys r s [] x = and-true (statement_fits keys r s (statement_of x))
fit-append keys r s (y ∷ ys) x =
    ap (λ b. statement_fits keys r s (statement_of y) && b) (fit-append keys r s ys x)
    ∙ sym (and_assoc (statement_fits keys r s (statement_of y)) (statements_fit keys r s (statements_in ys)) (statement_fits keys r s (statement_of x)))

pub fit_taken : (keys : List ℕ) (r s : ℕ) (xs : List Statement) (i : ℕ) (x : Statement) → i < length xs → x ≡ get_or xs i x
    → statements_fit keys r s (statements_in (take (i + 1) xs)) ≡ (statements_fit keys r s (statements_in (take i xs)) && statement_fits keys r s (statement_of x))
fit_taken keys r s xs i x within is =
    ap (λ ys. statements_fit keys r s (statements_in ys)) (taken xs i x within is) ∙ fit-append keys r s (take i xs) x

abbrev pub arm_of_fits : List ℕ → ℕ → ℕ → Command → Arm → Bool
arm_of_fits keys r s c a = test_fits keys c a.test && statements_fit keys r s (script_of a.body)

arms-append : (keys : List ℕ) (r s : ℕ) (c : Command) (xs : List Arm) (x : Arm)
    → arms_fit keys r s c (arms_in (xs ++ x ∷ [])) ≡ (arms_fit keys r s c (arms_in xs) && arm_of_fits keys r s c x)
arms-append keys r s c [] x = and-true (arm_of_fits keys r s c x)
arms-append keys r s c (y ∷ ys) x =
    ap (λ b. arm_of_fits keys r s c y && b) (arms-append keys r s c ys x)
    ∙ sym (and_assoc (arm_of_fits keys r s c y) (arms_fit keys r s c (arms_in ys)) (arm_of_fits keys r s c x))

pub arms_taken : (keys : List ℕ) (r s : ℕ) (c : Command) (xs : List Arm) (i : ℕ) (x : Arm) → i < length xs → x ≡ get_or xs i x
    → arms_fit keys r s c (arms_in (take (i + 1) xs)) ≡ (arms_fit keys r s c (arms_in (take i xs)) && arm_of_fits keys r s c x)
arms_taken keys r s c xs i x within is =
    ap (λ ys. arms_fit keys r s c (arms_in ys)) (taken xs i x within is) ∙ arms-append keys r s c (take i xs) x

pub arms_counted : (xs : List Arm) → count_of_arms (arms_in xs) ≡ length xs
arms_counted [] = refl
arms_counted (y ∷ ys) = omega (arith, arms_counted ys)

-- ---- the version

dated-append : (version : ℕ) (xs : List Statement) (x : Statement)
    → is_script_of version (statements_in (xs ++ x ∷ [])) ≡ (is_script_of version (statements_in xs) && is_statement_of version (statement_of x))
dated-append version [] x = and-true (is_statement_of version (statement_of x))
dated-append version (y ∷ ys) x =
    ap (λ b. is_statement_of version (statement_of y) && b) (dated-append version ys x)
    ∙ sym (and_assoc (is_statement_of version (statement_of y)) (is_script_of version (statements_in ys)) (is_statement_of version (statement_of x)))

pub dated_taken : (version : ℕ) (xs : List Statement) (i : ℕ) (x : Statement) → i < length xs → x ≡ get_or xs i x
    → is_script_of version (statements_in (take (i + 1) xs)) ≡ (is_script_of version (statements_in (take i xs)) && is_statement_of version (statement_of x))
dated_taken version xs i x within is =
    ap (λ ys. is_script_of version (statements_in ys)) (taken xs i x within is) ∙ dated-append version (take i xs) x

abbrev pub is_arm_of : ℕ → Arm → Bool
is_arm_of version a = nat_le (since a.test) version && is_script_of version (script_of a.body)

arms-dated-append : (version : ℕ) (xs : List Arm) (x : Arm)
    → are_arms_of version (arms_in (xs ++ x ∷ [])) ≡ (are_arms_of version (arms_in xs) && is_arm_of version x)
arms-dated-append version [] x = and-true (is_arm_of version x)
arms-dated-append version (y ∷ ys) x =
    ap (λ b. is_arm_of version y && b) (arms-dated-append version ys x)
    ∙ sym (and_assoc (is_arm_of version y) (are_arms_of version (arms_in ys)) (is_arm_of version x))

pub arms_dated_taken : (version : ℕ) (xs : List Arm) (i : ℕ) (x : Arm) → i < length xs → x ≡ get_or xs i x
    → are_arms_of version (arms_in (take (i + 1) xs)) ≡ (are_arms_of version (arms_in (take i xs)) && is_arm_of version x)
arms_dated_taken version xs i x within is =
    ap (λ ys. are_arms_of version (arms_in ys)) (taken xs i x within is) ∙ arms-dated-append version (take i xs) x

-- ---- the count

count-append : (xs : List Statement) (x : Statement)
    → count_of_all (statements_in (xs ++ x ∷ [])) ≡ count_of_all (statements_in xs) + count_of (statement_of x)
count-append [] x = omega arith
count-append (y ∷ ys) x = omega (arith, count-append ys x)

pub count_taken : (xs : List Statement) (i : ℕ) (x : Statement) → i < length xs → x ≡ get_or xs i x
    → count_of_all (statements_in (take (i + 1) xs)) ≡ count_of_all (statements_in (take i xs)) + count_of (statement_of x)
count_taken xs i x within is = ap (λ ys. count_of_all (statements_in ys)) (taken xs i x within is) ∙ count-append (take i xs) x

arms-count-append : (xs : List Arm) (x : Arm)
    → count_in_arms (arms_in (xs ++ x ∷ [])) ≡ count_in_arms (arms_in xs) + count_of_all (script_of x.body)
arms-count-append [] x = omega arith
arms-count-append (y ∷ ys) x = omega (arith, arms-count-append ys x)

pub arms_count_taken : (xs : List Arm) (i : ℕ) (x : Arm) → i < length xs → x ≡ get_or xs i x
    → count_in_arms (arms_in (take (i + 1) xs)) ≡ count_in_arms (arms_in (take i xs)) + count_of_all (script_of x.body)
arms_count_taken xs i x within is = ap (λ ys. count_in_arms (arms_in ys)) (taken xs i x within is) ∙ arms-count-append (take i xs) x

-- ---- the lines

-- those that come after what rises go on from its last, or fall where it falls
abbrev pub then : Option ℕ → List ℕ → Option ℕ
then None ys = None
then (Some m) ys = last_of_climb m ys

after-test : (b : Bool) (next : ℕ) (xs ys : List ℕ) → last_of_climb next (xs ++ ys) ≡ then (last_of_climb next xs) ys
    → cond b (last_of_climb next (xs ++ ys)) None ≡ then (cond b (last_of_climb next xs) None) ys
after-test true next xs ys same = same
after-test false next xs ys same = refl

pub climbed_on : (n : ℕ) (xs ys : List ℕ) → last_of_climb n (xs ++ ys) ≡ then (last_of_climb n xs) ys
climbed_on n [] ys = refl
climbed_on n (next ∷ xs) ys = after-test (nat_lt n next) next xs ys (climbed_on next xs ys)

risen-test : (b : Bool) (next : ℕ) (xs : List ℕ) → is_some (last_of_climb next xs) ≡ rise_above next xs
    → is_some (cond b (last_of_climb next xs) None) ≡ (b && rise_above next xs)
risen-test true next xs same = same
risen-test false next xs same = refl

pub risen : (n : ℕ) (xs : List ℕ) → is_some (last_of_climb n xs) ≡ rise_above n xs
risen n [] = refl
risen n (next ∷ xs) = risen-test (nat_lt n next) next xs (risen next xs)

pub climbed_above : (n next : ℕ) (xs : List ℕ) → nat_lt n next ≡ true → last_of_climb n (next ∷ xs) ≡ last_of_climb next xs
climbed_above n next xs above = ap (λ b. cond b (last_of_climb next xs) None) above

lines-append : (xs ys : List Statement)
    → lines_of_all (statements_in (xs ++ ys)) ≡ lines_of_all (statements_in xs) ++ lines_of_all (statements_in ys)
lines-append [] ys = refl
lines-append (x ∷ xs) ys =
    ap (λ l. lines_of (statement_of x) ++ l) (lines-append xs ys)
    ∙ sym (append_assoc (lines_of (statement_of x)) (lines_of_all (statements_in xs)) (lines_of_all (statements_in ys)))

arm-lines-append : (xs ys : List Arm) → lines_of_arms (arms_in (xs ++ ys)) ≡ lines_of_arms (arms_in xs) ++ lines_of_arms (arms_in ys)
arm-lines-append [] ys = refl
arm-lines-append (x ∷ xs) ys =
    ap (λ l. lines_of_all (script_of x.body) ++ l) (arm-lines-append xs ys)
    ∙ sym (append_assoc (lines_of_all (script_of x.body)) (lines_of_arms (arms_in xs)) (lines_of_arms (arms_in ys)))

pub lines_taken : (n : ℕ) (xs : List Statement) (i : ℕ) (x : Statement) → i < length xs → x ≡ get_or xs i x
    → last_of_climb n (lines_of_all (statements_in (take (i + 1) xs))) ≡ then (last_of_climb n (lines_of_all (statements_in (take i xs)))) (lines_of (statement_of x))
lines_taken n xs i x within is =
    ap (λ ys. last_of_climb n (lines_of_all (statements_in ys))) (taken xs i x within is)
    ∙ (ap (last_of_climb n) (lines-append (take i xs) (x ∷ []) ∙ ap (λ l. lines_of_all (statements_in (take i xs)) ++ l) (append-nil (lines_of (statement_of x))))
    ∙ climbed_on n (lines_of_all (statements_in (take i xs))) (lines_of (statement_of x)))

pub arm_lines_taken : (n : ℕ) (xs : List Arm) (i : ℕ) (x : Arm) → i < length xs → x ≡ get_or xs i x
    → last_of_climb n (lines_of_arms (arms_in (take (i + 1) xs))) ≡ then (last_of_climb n (lines_of_arms (arms_in (take i xs)))) (lines_of_all (script_of x.body))
arm_lines_taken n xs i x within is =
    ap (λ ys. last_of_climb n (lines_of_arms (arms_in ys))) (taken xs i x within is)
    ∙ (ap (last_of_climb n) (arm-lines-append (take i xs) (x ∷ []) ∙ ap (λ l. lines_of_arms (arms_in (take i xs)) ++ l) (append-nil (lines_of_all (script_of x.body))))
    ∙ climbed_on n (lines_of_arms (arms_in (take i xs))) (lines_of_all (script_of x.body)))

-- what fell among the first of them falls among all
pub lines_fallen : (n : ℕ) (xs : List Statement) (k : ℕ)
    → last_of_climb n (lines_of_all (statements_in (take k xs))) ≡ None → last_of_climb n (lines_of_all (statements_in xs)) ≡ None
lines_fallen n xs k fell =
    ap (λ ys. last_of_climb n (lines_of_all (statements_in ys))) (sym (take-append-drop k xs))
    ∙ (ap (last_of_climb n) (lines-append (take k xs) (drop k xs))
    ∙ (climbed_on n (lines_of_all (statements_in (take k xs))) (lines_of_all (statements_in (drop k xs)))
    ∙ ap (λ o. then o (lines_of_all (statements_in (drop k xs)))) fell))

pub arm_lines_fallen : (n : ℕ) (xs : List Arm) (k : ℕ)
    → last_of_climb n (lines_of_arms (arms_in (take k xs))) ≡ None → last_of_climb n (lines_of_arms (arms_in xs)) ≡ None
arm_lines_fallen n xs k fell =
    ap (λ ys. last_of_climb n (lines_of_arms (arms_in ys))) (sym (take-append-drop k xs))
    ∙ (ap (last_of_climb n) (arm-lines-append (take k xs) (drop k xs))
    ∙ (climbed_on n (lines_of_arms (arms_in (take k xs))) (lines_of_arms (arms_in (drop k xs)))
    ∙ ap (λ o. then o (lines_of_arms (arms_in (drop k xs)))) fell))

-- ---- what is found so far, and one more

pub and_one : {before old new : Bool} (one : Bool) → old ≡ before → old ≡ true → new ≡ one → new ≡ (before && one)
and_one one known is got = got ∙ ap (λ b. b && one) (sym is ∙ known)

pub and_none : {before old new : Bool} (one : Bool) → old ≡ before → old ≡ false → new ≡ old → new ≡ (before && one)
and_none one known is got = got ∙ is ∙ ap (λ b. b && one) (sym is ∙ known)
