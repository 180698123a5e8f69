-- The row of a place, by the outcomes of its command.
use Rattle.pr_verify.proofs.Common.{◌≡◌, ℕ, ◌+◌, ◌<◌, ◌≤◌, Bool, true, false, ◌⊎◌, ◌↔◌, List, [], ◌∷◌, ◌++◌, map, length, get_or, IsTrue, Some, All, Contains, Option, AllPairs, sym, refl, ap, ◌∙◌, subst, inl, inr, arith, AllZip, cases_lt, All-map, Contains-append_left, position-Some, map-map, Stmts, matches, refusals_of, Task, Scripted, task, Scenario, view_of, View, KeptView, AreOutcomes, Class, Landing, NoArm, Arm, Outline, IsListed, KeepsToRole, OnScripted, Place, places_of, class_number, outline_of, IsMadeFor, IsScripted, IsRow, KeptOutline, Spot, place_of, IsInRange}
use Rattle.std.proofs.Common.{cond}
use Rattle.std.specs.List.{filter, range_with_len}
use Rattle.std.proofs.lemmas.List.{map-id, map_push, append-nil}
use Rattle.std.proofs.lemmas.List.FromFn.{filter_of_map_range_with_len_more}
use Rattle.std.proofs.lemmas.List.Elements.{All-push, Contains-push, Contains-push_cases, Contains-get_or}
use Rattle.std.proofs.lemmas.List.Quantifiers.{all_pairs_push}
use Rattle.pr_script.specs.declared.script.Test.TheVariants as test
use Rattle.pr_script.specs.declared.landing.Class.TheVariants.{Sense}
use Rattle.pr_views.specs.Tables.{Row, Table, table_of}
use Rattle.pr_roles.specs.Tasks.{has_script}
use Rattle.pr_verify.specs.Tables.{TakesArm, IsTable, AreTables}
use Rattle.pr_views.specs.declared.table.Table.{Table as KeptTable}
use Rattle.pr_verify.proofs.lemmas.Reviewing.Findings.{place_lines}
use Rattle.pr_verify.proofs.lemmas.Reviewing.FittingPlaces.{IsHere, landing_listed, lands_so, lacks_arm, lacking_listed}

-- ---- lists that rise by a number

-- those with a smaller number of which it holds
abbrev pub AreBefore : {X : Type 0} → (X → ℕ) → (X → Type 0) → ℕ → List X → Type 0
AreBefore {X} number P from xs = (x : X) → Contains xs x ↔ ((number x < from) × P x)

module _ {X : Type 0} (number : X → ℕ) (P : X → Type 0) (from : ℕ) (xs : List X) (each : AreBefore number P from xs) where
  -- of none with this number
  pub before_same : ((x : X) → P x → number x ≡ from → ⊥) → AreBefore number P (from + 1) xs
  before_same none x = (
    λ there. let e = (each x).0 there in let less : number x < from + 1 = let m = e.0 in omega arith in (less, e.1),
    λ is. at is (cases_lt (number x) from),
  )
    where
      at : (number x < from + 1) × P x → (number x < from) ⊎ (from ≤ number x) → Contains xs x
      at is (inl less) = (each x).1 (less, is.1)
      at is (inr more) = let m = is.0 in absurd (none x is.1 (omega arith))

  -- of the next one
  module _ (next : X) (is : P next) (late : from ≤ number next) (first : (other : X) → P other → from ≤ number other → number next ≤ number other)
      (alone : (other : X) → P other → number other ≡ number next → other ≡ next) where
    pub before_more : AreBefore number P (number next + 1) (xs ++ next ∷ [])
    before_more x = (
      λ there. at (Contains-push_cases xs next x there),
      λ has. back has (cases_lt (number x) from),
    )
      where
        at : Contains xs x ⊎ (next ≡ x) → (number x < number next + 1) × P x
        at (inl there) = let e = (each x).0 there in let less : number x < number next + 1 = let m = e.0 in omega arith in (less, e.1)
        at (inr same) = let e = ap number same in let less : number x < number next + 1 = omega arith in (less, subst P same is)

        back : (number x < number next + 1) × P x → (number x < from) ⊎ (from ≤ number x) → Contains (xs ++ next ∷ []) x
        back has (inl less) = Contains-append_left xs (next ∷ []) x ((each x).1 (less, has.1))
        back has (inr more) =
            let low = first x has.1 more in
            let high = has.0 in
            let same : number x ≡ number next = omega arith in
            subst (Contains (xs ++ next ∷ [])) (sym (alone x has.1 same)) (Contains-push xs next)

    pub before_rise : AllPairs (λ c d. number c < number d) xs → AllPairs (λ c d. number c < number d) (xs ++ next ∷ [])
    before_rise up = all_pairs_push (λ c d. number c < number d) xs next up (λ j d small. let e = ((each (get_or xs j d)).0 (Contains-get_or xs j d small)).0 in omega arith)

-- ---- classes without an arm

-- those before whose number no class is left are all
pub all_before : (P : Class → Type 0) (from : ℕ) (cs : List Class) → AreBefore class_number P from cs → ((class : Class) → P class → from ≤ class_number class → ⊥) → (class : Class) → Contains cs class ↔ P class
all_before P from cs each none class = (λ there. ((each class).0 there).1, λ is. at is (cases_lt (class_number class) from))
  where
    at : P class → (class_number class < from) ⊎ (from ≤ class_number class) → Contains cs class
    at is (inl less) = (each class).1 (less, is)
    at is (inr more) = absurd (none class is more)

-- a class is known by its number
pub class_alone : (a b : Class) → IsInRange a → IsInRange b → class_number a ≡ class_number b → a ≡ b
class_alone (Sense s) (Sense t) one two same =
    let small = one s refl in
    let few = two t refl in
    let key : s.key ≡ t.key = omega (arith, small.0, small.1, small.2, few.0, few.1, few.2) in
    let asc : s.asc ≡ t.asc = omega (arith, small.0, small.1, small.2, few.0, few.1, few.2) in
    let ascq : s.ascq ≡ t.ascq = omega (arith, small.0, small.1, small.2, few.0, few.1, few.2) in
    λ i. Sense (record { key = key i; asc = asc i; ascq = ascq i })
class_alone a b one two same = grind arith

-- ---- the row

module _ (s : Scenario) (o : Outline) (p : Place) (v : View) (here : IsHere o p v) (own : ℕ) (xs : List (Landing × KeptView))
    (are : AreOutcomes v (refusals_of s o.host) p.command p.tests (map (λ x. (x.0, view_of own x.1)) xs)) where
  arm_listed : (n : ℕ) → TakesArm s o p n → Contains (map (λ x. x.0) xs) (Arm n)
  arm_listed n takes =
      landing_listed s o p v here own xs are (Arm n) (record { from = takes.from; shown = takes.shown; reply = takes.reply; after = takes.after; answer = takes.answer; landing = takes.taken })

  takes_arm : (n : ℕ) → Contains (map (λ x. x.0) xs) (Arm n) → TakesArm s o p n
  takes_arm n listed =
      let lands = lands_so s o p v here own xs are (Arm n) listed in
      record { from = lands.from; shown = lands.shown; reply = lands.reply; after = lands.after; answer = lands.answer; taken = lands.landing }

  small_arm : (n : ℕ) → TakesArm s o p n → n < length p.tests
  small_arm n takes = (position-Some (λ t. matches t takes.reply) p.tests n test.Good takes.taken).0

  pub row_is : (r : Row) → r.command ≡ p.command → r.tests ≡ p.tests → IsTrue r.permitted ↔ KeepsToRole s o p → AreBefore (λ n. n) (λ n. Contains (map (λ x. x.0) xs) (Arm n)) (length p.tests) r.arms → AllPairs (λ m n. m < n) r.arms → ((class : Class) → Contains r.unarmed class ↔ Contains (map (λ x. x.0) xs) (NoArm class))
      → AllPairs (λ c d. class_number c < class_number d) r.unarmed → IsRow s o p r
  row_is r command tests permitted arms arms_rise unarmed unarmed_rise = record {
    command = command;
    tests = tests;
    permitted = permitted;
    arms = λ n. (λ there. takes_arm n ((arms n).0 there).1, λ takes. (arms n).1 (small_arm n takes, arm_listed n takes));
    arms_rise = arms_rise;
    unarmed = λ class. (λ there. lacks_arm s o p v here own xs are class ((unarmed class).0 there), λ lacks. (unarmed class).1 (lacking_listed s o p v here own xs are class lacks));
    unarmed_rise = unarmed_rise;
  }

-- ---- rows, one after another

pub zip_map : {A B C D : Type 0} (R : C → D → Type 0) (f : A → C) (g : B → D) (xs : List A) (ys : List B) → AllZip (λ x y. R (f x) (g y)) xs ys → AllZip R (map f xs) (map g ys)
zip_map R f g [] [] all = tt
zip_map R f g (x ∷ xs) (y ∷ ys) all = (all.0, zip_map R f g xs ys all.1)
zip_map R f g _ _ all = absurd all

-- ---- tables, host by host

-- what holds of the script holds of this one
pub of_script : (t : Option Task) (script : Stmts) (P : Stmts → Type 0) → IsScripted t → OnScripted t (λ b n. script ≡ b) → OnScripted t (λ b n. P b) → P script
of_script (Some (Scripted b n)) script P scripted same all = subst P (sym same) all
of_script _ script P scripted same all = absurd scripted

-- the views of an outline that is listed stand at the lines of the sends
pub lines_listed : (o : KeptOutline) (script : Stmts) (spots : List Spot) → map place_of spots ≡ places_of script → IsListed script (outline_of o)
    → map (λ e. e.0) o.views.items ≡ map (λ p. p.line) spots
lines_listed o script spots places listed =
    sym (map-map (λ (e : ℕ × View). e.0) (λ (e : ℕ × KeptView). (e.0, view_of o.host e.1)) o.views.items) ∙ listed ∙ place_lines script spots places

-- one number more, if it passes
range_filtered : (p : ℕ → Bool) (n : ℕ) → filter p (range_with_len 0 (n + 1)) ≡ filter p (range_with_len 0 n) ++ cond (p n) (n ∷ []) []
range_filtered p n = simp map-id at (filter_of_map_range_with_len_more p (λ h. h) 0 n n (omega arith))

-- ---- one table more, or none

module _ (s : Scenario) where
  -- those of the nexuses before this one
  pub record AreBeforeHost (n : ℕ) (ts : List KeptTable) : Type 0 where
    pub hosts : map (λ t. t.outline.host) ts ≡ filter (λ h. has_script (task s h)) (range_with_len 0 n)
    pub each : All (λ t. OnScripted (task s t.outline.host) (λ script budget. IsTable s script (table_of t))) ts
    pub made : All (λ t. IsMadeFor s t.outline) ts

  pub one_table : (n : ℕ) (ts : List KeptTable) (t : KeptTable) → AreBeforeHost n ts → has_script (task s n) ≡ true → t.outline.host ≡ n → OnScripted (task s n) (λ script budget. IsTable s script (table_of t)) → IsMadeFor s t.outline
      → AreBeforeHost (n + 1) (ts ++ t ∷ [])
  one_table n ts t before is host table made = record {
    hosts = map_push (λ (u : KeptTable). u.outline.host) ts t ∙ (λ i. before.hosts i ++ host i ∷ []) ∙ sym (rw is at (range_filtered (λ h. has_script (task s h)) n));
    each = All-push (λ u. OnScripted (task s u.outline.host) (λ script budget. IsTable s script (table_of u))) ts t before.each
        (subst (λ h. OnScripted (task s h) (λ script budget. IsTable s script (table_of t))) (sym host) table);
    made = All-push (λ u. IsMadeFor s u.outline) ts t before.made made;
  }

  pub no_table : (n : ℕ) (ts : List KeptTable) → AreBeforeHost n ts → has_script (task s n) ≡ false → AreBeforeHost (n + 1) ts
  no_table n ts before is = record { hosts = before.hosts ∙ sym (rw (is, append-nil) at (range_filtered (λ h. has_script (task s h)) n)); each = before.each; made = before.made }

  pub are_tables : (ts : List KeptTable) → AreBeforeHost (length s.nexuses) ts → AreTables s (map table_of ts)
  are_tables ts before = record {
    hosts = map-map (λ (t : Table). t.outline.host) table_of ts ∙ before.hosts;
    each = All-map (λ (t : Table). OnScripted (task s t.outline.host) (λ script budget. IsTable s script t)) table_of ts before.each;
  }
