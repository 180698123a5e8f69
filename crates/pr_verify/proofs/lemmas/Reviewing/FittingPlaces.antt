-- Whether a place fits, by the outcomes of its command.
use Rattle.pr_verify.proofs.Common.{◌≡◌, ℕ, ◌<◌, ◌≤◌, true, false, ◌⊎◌, ◌↔◌, List, [], map, length, get_or, is_some, IsTrue, slice_get, Some, None, Contains, option_and_then, sym, refl, ap, ◌∙◌, subst, inl, inr, arith, cases_lt, position-Some, slice_get-get_or, get_or_from_slice_get, Reply, Plain, Step, UnitState, matches, Answered, refusals_of, command_permitted, role, Scenario, view_of, View, Shows, KeptView, IsLanding, Outcome, IsExpected, AreOutcomes, IsPermittedIn, IsRefusedIn, Class, Landing, NoArm, Arm, Outline, view_at, ShowsIn, IsShownAt, KeepsToRole, Place, follows, BreaksRole, class_number, lines_after}
use Rattle.std.proofs.lemmas.List.{get_or_past}
use Rattle.pr_script.specs.declared.script.Test.TheVariants as test
use Rattle.pr_regions.specs.Readings.{first_test}
use Rattle.pr_verify.specs.Outlines.{HasArms}
use Rattle.pr_verify.specs.Refusals.{LacksArm, LacksArmFirst}
use Rattle.pr_verify.proofs.lemmas.Rooms.MappedLists.{mapped, unmapped}
use Rattle.pr_domain.proofs.lemmas.Tallies.Origins.{one_landing}

-- ---- the lines after a landing

pub lands_follow : (p : Place) (l : Landing) (r : Reply) (line : ℕ) → IsLanding p.tests r l → Contains (lines_after p.next l) line → follows p r ≡ Some (lines_after p.next l)
lands_follow p (Arm n) r line first there = ap (option_and_then (slice_get p.next)) first ∙ at (cases_lt n (length p.next))
  where
    at : (n < length p.next) ⊎ (length p.next ≤ n) → slice_get p.next n ≡ Some (get_or p.next n [])
    at (inl small) = slice_get-get_or p.next n [] small
    at (inr past) = absurd (let none = (subst (λ ls. Contains ls line) (get_or_past p.next n [] past) there).1 in omega arith)
lands_follow p (NoArm class) r line ends there = absurd (let none = there.1 in omega arith)

pub followed : (p : Place) (l : Landing) (r : Reply) (next : List ℕ) → IsLanding p.tests r l → follows p r ≡ Some next → lines_after p.next l ≡ next
followed p (Arm n) r next first is = get_or_from_slice_get p.next n next [] (ap (option_and_then (slice_get p.next)) (sym first) ∙ is)
followed p (NoArm class) r next ends is = let bad : None ≡ Some next = ap (option_and_then (slice_get p.next)) (sym ends.0) ∙ is in cc

-- ---- the place of a view

-- the view at the line of the place is v, of the outline's host
pub record IsHere (o : Outline) (p : Place) (v : View) : Type 0 where
  pub at : view_at o.views p.line ≡ Some v
  pub own : v.scope.own ≡ o.host

module _ (s : Scenario) (o : Outline) (p : Place) (v : View) (here : IsHere o p v) where
  pub shown_here : (u : UnitState) → IsShownAt o p.line u → Shows v u
  shown_here u shown = subst (λ w. ShowsIn w u) here.at shown

  pub shown_there : (u : UnitState) → Shows v u → IsShownAt o p.line u
  shown_there u shown = subst (λ w. ShowsIn w u) (sym here.at) shown

  pub step_own : (u : UnitState) (r : Reply) (after : UnitState) → Step u o.host (Plain p.command) r after → Step u v.scope.own (Plain p.command) r after
  step_own u r after step = subst (λ h. Step u h (Plain p.command) r after) (sym here.own) step

  pub step_host : (u : UnitState) (r : Reply) (after : UnitState) → Step u v.scope.own (Plain p.command) r after → Step u o.host (Plain p.command) r after
  step_host u r after step = subst (λ h. Step u h (Plain p.command) r after) here.own step

  pub answer_own : (u : UnitState) (r : Reply) (after : UnitState) → Answered (refusals_of s o.host) u o.host (Plain p.command) r after → Answered (refusals_of s o.host) u v.scope.own (Plain p.command) r after
  answer_own u r after answer = subst (λ h. Answered (refusals_of s o.host) u h (Plain p.command) r after) (sym here.own) answer

  pub answer_host : (u : UnitState) (r : Reply) (after : UnitState) → Answered (refusals_of s o.host) u v.scope.own (Plain p.command) r after → Answered (refusals_of s o.host) u o.host (Plain p.command) r after
  answer_host u r after answer = subst (λ h. Answered (refusals_of s o.host) u h (Plain p.command) r after) here.own answer

  -- ---- the role

  pub keeps_role : IsPermittedIn v (role s o.host) p.command → KeepsToRole s o p
  keeps_role permitted u r after shown step good =
      subst (λ h. IsTrue (command_permitted (role s o.host) u.registry h p.command)) here.own (permitted u r after (shown_here u shown) (step_own u r after step) good)

  pub breaks_role : IsRefusedIn v (role s o.host) p.command → BreaksRole s o p
  breaks_role refused = record {
    from = refused.from;
    shown = shown_there refused.from refused.shown;
    reply = refused.reply;
    after = refused.after;
    step = step_host refused.from refused.reply refused.after refused.step;
    good = refused.good;
    refused = subst (λ h. command_permitted (role s o.host) refused.from.registry h p.command ≡ false) here.own refused.refused;
  }

  -- so it tells whether the role permits it
  pub kept_is : IsPermittedIn v (role s o.host) p.command → IsTrue true ↔ KeepsToRole s o p
  kept_is permitted = (λ is. keeps_role permitted, λ keeps. refl)

  pub broken_is : IsRefusedIn v (role s o.host) p.command → IsTrue false ↔ KeepsToRole s o p
  broken_is refused = (
    λ is. let bad : false ≡ true = is in cc,
    λ keeps.
        let breaks = breaks_role refused in
        let is = keeps breaks.from breaks.reply breaks.after breaks.shown breaks.step breaks.good in
        let bad : true ≡ false = sym is ∙ breaks.refused in cc,
  )

  -- ---- the arms

  -- from a state that is shown at the place, the command's reply lands so
  pub record LandsSo (l : Landing) : Type 0 where
    pub from : UnitState
    pub shown : IsShownAt o p.line from
    pub reply : Reply
    pub after : UnitState
    pub answer : Answered (refusals_of s o.host) from o.host (Plain p.command) reply after
    pub landing : IsLanding p.tests reply l

  module _ (own : ℕ) (xs : List (Landing × KeptView)) (are : AreOutcomes v (refusals_of s o.host) p.command p.tests (map (λ x. (x.0, view_of own x.1)) xs)) where
    -- so does an outcome
    pub landing_listed : (l : Landing) → LandsSo l → Contains (map (λ x. x.0) xs) l
    landing_listed l lands =
        let one : IsExpected (map (λ x. (x.0, view_of own x.1)) xs) p.tests lands.reply lands.after =
        are.cover lands.from lands.reply lands.after (shown_here lands.from lands.shown) (answer_own lands.from lands.reply lands.after lands.answer) in
        let found = unmapped (λ (x : Landing × KeptView). (x.0, view_of own x.1)) xs one.outcome one.listed in
        subst (Contains (map (λ x. x.0) xs)) (ap (λ (y : Outcome). y.0) found.2 ∙ one_landing p.tests lands.reply one.outcome.0 l one.landing lands.landing) (mapped (λ (x : Landing × KeptView). x.0) xs found.0 found.1)

    -- as an outcome lands, so does some reply
    pub lands_so : (l : Landing) → Contains (map (λ x. x.0) xs) l → LandsSo l
    lands_so l listed =
        let one = unmapped (λ (x : Landing × KeptView). x.0) xs l listed in
        let there = mapped (λ (x : Landing × KeptView). (x.0, view_of own x.1)) xs one.0 one.1 in
        let come = are.come (one.0.0, view_of own one.0.1) there in
        let lands = are.only (one.0.0, view_of own one.0.1) come.0 there come.1 in
        record {
          from = lands.from;
          shown = shown_there lands.from lands.shown;
          reply = lands.reply;
          after = lands.after;
          answer = answer_host lands.from lands.reply lands.after lands.answer;
          landing = subst (IsLanding p.tests lands.reply) one.2 lands.landing;
        }

    some_arm : (r : Reply) (n : ℕ) → length p.next ≡ length p.tests → first_test p.tests r ≡ Some n → is_some (follows p r) ≡ true
    some_arm r n same first =
        let small = (position-Some (λ t. matches t r) p.tests n test.Good first).0 in
        ap (λ m. is_some (option_and_then (slice_get p.next) m)) first ∙ ap is_some (slice_get-get_or p.next n [] (omega arith))

    pub has_arms : length p.next ≡ length p.tests → ((class : Class) → Contains (map (λ x. x.0) xs) (NoArm class) → ⊥) → HasArms s o p
    has_arms same none u r after shown answer = at one.outcome.0 one.landing
      where
        one : IsExpected (map (λ x. (x.0, view_of own x.1)) xs) p.tests r after
        one = are.cover u r after (shown_here u shown) (answer_own u r after answer)

        at : (l : Landing) → IsLanding p.tests r l → is_some (follows p r) ≡ true
        at (Arm n) first = some_arm r n same first
        at (NoArm class) ends = absurd (none class (landing_listed (NoArm class) (record { from = u; shown = shown; reply = r; after = after; answer = answer; landing = ends })))

    pub lacks_arm : (class : Class) → Contains (map (λ x. x.0) xs) (NoArm class) → LacksArm s o p class
    lacks_arm class listed =
        let lands = lands_so (NoArm class) listed in
        record { from = lands.from; shown = lands.shown; reply = lands.reply; after = lands.after; answer = lands.answer; none = lands.landing.0; ends = lands.landing.1 }

    pub lacking_listed : (class : Class) → LacksArm s o p class → Contains (map (λ x. x.0) xs) (NoArm class)
    lacking_listed class lacks =
        landing_listed (NoArm class) (record { from = lacks.from; shown = lacks.shown; reply = lacks.reply; after = lacks.after; answer = lacks.answer; landing = (lacks.none, lacks.ends) })

    pub lacks_arm_first : (class : Class) → Contains (map (λ x. x.0) xs) (NoArm class) → ((other : Class) → Contains (map (λ x. x.0) xs) (NoArm other) → class_number class ≤ class_number other) → LacksArmFirst s o p class
    lacks_arm_first class is first = record {
      lacks = lacks_arm class is;
      first = λ other less lacks. let more = first other (lacking_listed other lacks) in omega arith;
    }
