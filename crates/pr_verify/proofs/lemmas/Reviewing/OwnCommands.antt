-- What the views lack of the states to which a host's own command leads, by the outcomes of the command.
use Rattle.pr_verify.proofs.Common.{◌≡◌, ℕ, ◌<◌, List, map, length, Some, All, Any, Contains, Option, sym, refl, ap, ◌∙◌, subst, All-contains, Reply, Plain, UnitState, Answered, refusals_of, Scenario, Refusals, IsSo, view_of, AreAlike, View, Shows, Fits, KeptView, IsLanding, Outcome, IsExpected, AreOutcomes, Landing, Outline, view_at, scope_in, ComesTo, Place, outline_of, IsMadeFor, KeptOutline, IsMadeAs, HasAll, Lacks, IsFirstLacking, HasView, LacksView, lines_after, IsLeastAmong}
use Rattle.pr_verify.proofs.lemmas.Least.FirstLines.{least_as}
use Rattle.pr_verify.proofs.lemmas.Rooms.MappedLists.{mapped, unmapped}
use Rattle.pr_verify.proofs.lemmas.LeastOutlines.Possibilities.{IsExact, lacks_from_missing, shown_by_within}
use Rattle.pr_verify.proofs.lemmas.Reviewing.Starts.{kept_fits, AreScoped, scope_same, scope_alike, scoped}
use Rattle.pr_domain.proofs.lemmas.Tallies.Origins.{one_landing}
use Rattle.pr_verify.proofs.lemmas.Reviewing.FittingPlaces.{IsHere, shown_here, shown_there, answer_own, answer_host, lands_follow, followed}

-- the owner's command leads to this state from one that the view shows, and its reply lands so
record LeadsTo (d : Refusals) (v : View) (p : Place) (l : Landing) (after : UnitState) : Type 0 where
  from : UnitState
  shown : Shows v from
  reply : Reply
  answer : Answered d from v.scope.own (Plain p.command) reply after
  landing : IsLanding p.tests reply l

module _ (s : Scenario) (o : Outline) (p : Place) (v : View) (here : IsHere o p v) (scopes : AreScoped o v.scope)
    (own : ℕ) (xs : List (Landing × KeptView)) (are : AreOutcomes v (refusals_of s o.host) p.command p.tests (map (λ x. (x.0, view_of own x.1)) xs))
    (fits : (x : Landing × KeptView) → Contains xs x → Fits (view_of own x.1) × ((view_of own x.1).scope ≡ v.scope)) where
  -- the outcome's view is within that at the line, if it leads there; or it is not
  abbrev pub HasOf : Landing × KeptView → ℕ → Type 0
  HasOf x line = HasView o (lines_after p.next x.0) (view_of own x.1) line

  abbrev pub LacksOf : Landing × KeptView → ℕ → Type 0
  LacksOf x line = LacksView o (lines_after p.next x.0) (view_of own x.1) line

  found : (x : Landing × KeptView) → Contains xs x → Contains {X = Outcome} (map (λ y. (y.0, view_of own y.1)) xs) (x.0, view_of own x.1)
  found x there = mapped (λ y. (y.0, view_of own y.1)) xs x there

  exact : (x : Landing × KeptView) → Contains xs x → IsExact (LeadsTo (refusals_of s o.host) v p x.0) (view_of own x.1)
  exact x there = record {
    fits = (fits x there).0;
    cover = cover;
    only = λ i is. let lands = are.only (x.0, view_of own x.1) i (found x there) is in (
      lands.after,
      record { from = lands.from; shown = lands.shown; reply = lands.reply; answer = lands.answer; landing = lands.landing },
      subst (λ t. IsSo t lands.after i) (sym (fits x there).1) lands.is,
    );
    some = let come = are.come (x.0, view_of own x.1) (found x there) in
        let lands = are.only (x.0, view_of own x.1) come.0 (found x there) come.1 in
        (lands.after, record { from = lands.from; shown = lands.shown; reply = lands.reply; answer = lands.answer; landing = lands.landing });
  }
    where
      cover : (u : UnitState) → LeadsTo (refusals_of s o.host) v p x.0 u → Shows (view_of own x.1) u
      cover u leads =
          let one = are.cover leads.from leads.reply u leads.shown leads.answer in
          let same = one_landing p.tests leads.reply one.outcome.0 x.0 one.landing leads.landing in
          let listed = subst (λ l. Contains {X = Outcome} (map (λ y. (y.0, view_of own y.1)) xs) (l, one.outcome.1)) same one.listed in
          subst (λ w. Shows w u) (are.once x.0 one.outcome.1 (view_of own x.1) listed (found x there)) one.shown

  lacks_there : (x : Landing × KeptView) (line : ℕ) → Contains xs x → LacksOf x line → Lacks o (ComesTo s o p) line
  lacks_there x line there lacks =
      let one = lacks_from_missing (LeadsTo (refusals_of s o.host) v p x.0) (view_of own x.1) (view_at o.views line) (exact x there) (λ w at. scopes line w at ∙ sym (fits x there).1) lacks.missing in
      record {
        unit = one.0;
        asks = record {
          from = one.1.from;
          shown = shown_there s o p v here one.1.from one.1.shown;
          reply = one.1.reply;
          answer = answer_host s o p v here one.1.from one.1.reply one.0 one.1.answer;
          next = lines_after p.next x.0;
          follows = lands_follow p x.0 one.1.reply line one.1.landing lacks.listed;
          there = lacks.listed;
        };
        missing = one.2;
      }

  -- each state to which the command leads is one of an outcome
  all_shown : (line : ℕ) → All (λ x. HasOf x line) xs → HasAll o (ComesTo s o p) line
  all_shown line each u asks =
      let one : IsExpected (map (λ y. (y.0, view_of own y.1)) xs) p.tests asks.reply u =
      are.cover asks.from asks.reply u (shown_here s o p v here asks.from asks.shown) (answer_own s o p v here asks.from asks.reply u asks.answer) in
      let listed = unmapped (λ (y : Landing × KeptView). (y.0, view_of own y.1)) xs one.outcome one.listed in
      let x = listed.0 in
      let landing = subst (IsLanding p.tests asks.reply) (sym (ap (λ (y : Outcome). y.0) listed.2)) one.landing in
      let lines = followed p x.0 asks.reply asks.next landing asks.follows in
      let leads : LeadsTo (refusals_of s o.host) v p x.0 u = record {
        from = asks.from;
        shown = shown_here s o p v here asks.from asks.shown;
        reply = asks.reply;
        answer = answer_own s o p v here asks.from asks.reply u asks.answer;
        landing = landing;
      } in
      let within = All-contains (λ y. HasOf y line) xs x each listed.1 (subst (λ ls. Contains ls line) (sym lines) asks.there) in
      shown_by_within (LeadsTo (refusals_of s o.host) v p x.0) (view_of own x.1) (view_at o.views line) u (exact x listed.1) (λ w at. scopes line w at ∙ sym (fits x listed.1).1) leads within

  pub lacks_own : (first : Option ℕ) → IsLeastAmong xs HasOf LacksOf first → IsFirstLacking o (ComesTo s o p) first
  lacks_own first =
      least_as (λ line. All (λ x. HasOf x line) xs) (λ line. Any (λ x. LacksOf x line) xs) (HasAll o (ComesTo s o p)) (Lacks o (ComesTo s o p)) first
      all_shown (λ line one. lacks_there one.1 line (one.0, one.2, one.3) one.4)

-- what the views of the outline lack, by what a send comes to in the view at its line
pub lacks_by_send : (s : Scenario) (out : KeptOutline) (p : Place) (view : KeptView)
    (xs : List (Landing × KeptView)) (first : Option ℕ) → out.host < length s.nexuses → IsMadeFor s out → IsMadeAs s view
    → view_at (outline_of out).views p.line ≡ Some (view_of out.host view) → All (λ x. AreAlike view x.1) xs
    → AreOutcomes (view_of out.host view) (refusals_of s out.host) p.command p.tests (map (λ x. (x.0, view_of out.host x.1)) xs)
    → IsLeastAmong xs (λ x. HasView (outline_of out) (lines_after p.next x.0) (view_of out.host x.1)) (λ x. LacksView (outline_of out) (lines_after p.next x.0) (view_of out.host x.1)) first
    → IsFirstLacking (outline_of out) (ComesTo s (outline_of out) p) first
lacks_by_send s out p view xs first there made is here kind are least =
    lacks_own s o p v (record { at = here; own = refl }) (subst (AreScoped o) (sym scope) (scoped s out made)) out.host xs are known first least
  where
    o : Outline
    o = outline_of out

    v : View
    v = view_of out.host view

    scope : v.scope ≡ scope_in s out.host
    scope = scope_same s out.host view is.0 is.1

    known : (x : Landing × KeptView) → Contains xs x → Fits (view_of out.host x.1) × ((view_of out.host x.1).scope ≡ v.scope)
    known x listed =
        let of = All-contains (λ (y : Landing × KeptView). AreAlike view y.1) xs x kind listed in
        (kept_fits x.1 out.host (subst (λ n. out.host < n) (sym is.1 ∙ of.hosts) there), scope_alike out.host view x.1 of)
