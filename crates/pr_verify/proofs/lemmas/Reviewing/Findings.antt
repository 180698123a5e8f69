-- What was found of an outline's views and of a script's sends, put together.
use Rattle.pr_verify.proofs.Common.{◌≡◌, ℕ, ◌+◌, ◌<◌, ◌≤◌, true, ◌⊎◌, List, map, length, slice_index_or, Some, None, All, AllWithin, Any, Contains, Option, sym, ap, ◌∙◌, subst, inl, inr, arith, at_read, AllWithin-more, All-contains, map-map, cost_of_all, rise_above, script_fits, Stmts, Scenario, View, Outline, IsOfScenario, StartsAt, ComesTo, IsLeftAt, IsAsked, at_start, by_itself, by_others, IsListed, IsSound, KeepsToRole, IsFitting, Place, places_of, first_difference, BreaksRole, FitsAt, IsRefusal, Spot, Refusal, HasAll, Lacks, IsFirstLacking, least, IsLeastAmong, place_of, IsPlaceWritten}
use Rattle.std.specs.Option.{option_or}
use Rattle.std.proofs.lemmas.List.Elements.{Contains-get_or}
use Rattle.pr_roles.specs.declared.refusal.Refusal.TheVariants.{NoArm, OutOfRole}
use Rattle.pr_verify.specs.Refusals.{DiffersAt, LacksFirst, LacksArmFirst, IsUnfitAt}
use Rattle.pr_verify.specs.inside.Reviewing.{IsReason, IsMisfit, HasMisfit, IsFirstMisfit}
use Rattle.pr_verify.proofs.lemmas.Least.FirstLines.{least_as, least_either}
use Rattle.pr_verify.proofs.lemmas.Rooms.MappedLists.{mapped, unmapped}
use Rattle.pr_verify.proofs.lemmas.Outlines.Lookups.{entries}
use Rattle.pr_verify.proofs.lemmas.Refusals.Differences.{differing_none}
use Rattle.pr_verify.proofs.lemmas.Outlines.LineOrder.{holds_earlier}
use Rattle.pr_verify.proofs.lemmas.Listing.WrittenPlaces.{places_written}
use Rattle.pr_verify.proofs.lemmas.Listing.Lines.{places_rise}

-- ---- the lines of the views

module _ (script : Stmts) (spots : List Spot) (places : map place_of spots ≡ places_of script) where
  pub place_lines : map (λ (p : Place). p.line) (places_of script) ≡ map (λ (x : Spot). x.line) spots
  place_lines = ap (map (λ (p : Place). p.line)) (sym places) ∙ map-map (λ (p : Place). p.line) place_of spots

  pub spots_rise : (keys : List ℕ) → script_fits keys script ≡ true → rise_above 0 (map (λ (x : Spot). x.line) spots) ≡ true
  spots_rise keys fits = ap (rise_above 0) (sym place_lines) ∙ places_rise keys script fits

  pub spots_written : (keys : List ℕ) → script_fits keys script ≡ true → All (λ x. IsPlaceWritten keys (place_of x)) spots
  spots_written keys fits k d small =
      let x = slice_index_or spots k d in
      places_written keys script fits (place_of x) (subst (λ ps. Contains ps (place_of x)) places (mapped place_of spots x (Contains-get_or spots k d small)))

  module _ {A : Type 0} (f : A → View) (views : List (ℕ × A)) (host : ℕ) where
    -- the same lines
    pub is_listed : map (λ e. e.0) views ≡ map (λ (x : Spot). x.line) spots → IsListed script (record { host = host; views = entries f views })
    is_listed same = map-map (λ (e : ℕ × View). e.0) (λ e. (e.0, f e.1)) views ∙ same ∙ sym place_lines

    -- others
    pub differs_at : (line : ℕ) → first_difference (map (λ e. e.0) views) (map (λ (x : Spot). x.line) spots) ≡ Some line → DiffersAt script (record { host = host; views = entries f views }) line
    differs_at line is =
        (λ i. first_difference (map-map (λ (e : ℕ × View). e.0) (λ e. (e.0, f e.1)) views i) (place_lines i)) ∙ is

-- the lines of lists that were read
pub differing_read : {A : Type 0} (read views : List (ℕ × A)) (also spots : List Spot) (found : Option ℕ) → read ≡ views → also ≡ spots → found ≡ first_difference (map (λ e. e.0) read) (map (λ (x : Spot). x.line) also)
    → first_difference (map (λ e. e.0) views) (map (λ (x : Spot). x.line) spots) ≡ found
differing_read read views also spots found same alike is =
    (λ i. first_difference (map (λ e. e.0) (sym same i)) (map (λ (x : Spot). x.line) (sym alike i))) ∙ sym is

pub same_lines : {A : Type 0} (read views : List (ℕ × A)) (also spots : List Spot) (found : Option ℕ) → read ≡ views → also ≡ spots → found ≡ first_difference (map (λ e. e.0) read) (map (λ (x : Spot). x.line) also) → found ≡ None
    → map (λ e. e.0) views ≡ map (λ (x : Spot). x.line) spots
same_lines read views also spots found same alike is none =
    differing_none (map (λ e. e.0) views) (map (λ (x : Spot). x.line) spots) (differing_read read views also spots found same alike is ∙ none)

-- ---- what was found

module _ (s : Scenario) (script : Stmts) (o : Outline) (spots : List Spot) (places : map place_of spots ≡ places_of script) where
  -- a place of the script is one of the sends
  spot_at : (p : Place) → Contains (places_of script) p → (x : Spot) × Contains spots x × (place_of x ≡ p)
  spot_at p there = unmapped place_of spots p (subst (λ ps. Contains ps p) (sym places) there)

  place_at : (x : Spot) → Contains spots x → Contains (places_of script) (place_of x)
  place_at x there = subst (λ ps. Contains ps (place_of x)) places (mapped place_of spots x there)

  -- ---- what the views lack

  all_asked : (line : ℕ) → (HasAll o (StartsAt s script) line × All (λ x. HasAll o (ComesTo s o (place_of x)) line) spots) × HasAll o (IsLeftAt s o) line → HasAll o (IsAsked s script o) line
  all_asked line has u (at_start asks) = has.0.0 u asks
  all_asked line has u (by_itself p there asks) =
      let x = spot_at p there in
      All-contains (λ y. HasAll o (ComesTo s o (place_of y)) line) spots x.0 has.0.1 x.1 u (subst (λ q. ComesTo s o q line u) (sym x.2) asks)
  all_asked line has u (by_others asks) = has.1 u asks

  one_asked : (line : ℕ) → (Lacks o (StartsAt s script) line ⊎ Any (λ x. Lacks o (ComesTo s o (place_of x)) line) spots) ⊎ Lacks o (IsLeftAt s o) line → Lacks o (IsAsked s script o) line
  one_asked line (inl (inl lacks)) = record { unit = lacks.unit; asks = at_start lacks.asks; missing = lacks.missing }
  one_asked line (inl (inr one)) = record { unit = one.4.unit; asks = by_itself (place_of one.1) (place_at one.1 (one.0, one.2, one.3)) one.4.asks; missing = one.4.missing }
  one_asked line (inr lacks) = record { unit = lacks.unit; asks = by_others lacks.asks; missing = lacks.missing }

  pub lacking : (start own others : Option ℕ) → IsFirstLacking o (StartsAt s script) start
      → IsLeastAmong spots (λ x. HasAll o (ComesTo s o (place_of x))) (λ x. Lacks o (ComesTo s o (place_of x))) own → IsFirstLacking o (IsLeftAt s o) others
      → IsFirstLacking o (IsAsked s script o) (least (least start own) others)
  lacking start own others first second third =
      least_as _ _ (HasAll o (IsAsked s script o)) (Lacks o (IsAsked s script o)) (least (least start own) others) all_asked one_asked
      (least_either _ _ (HasAll o (IsLeftAt s o)) (Lacks o (IsLeftAt s o)) (least start own) others
      (least_either (HasAll o (StartsAt s script)) (Lacks o (StartsAt s script)) (λ line. All (λ x. HasAll o (ComesTo s o (place_of x)) line) spots)
      (λ line. Any (λ x. Lacks o (ComesTo s o (place_of x)) line) spots) start own first second) third)

  pub is_sound : IsListed script o → IsOfScenario s o → IsFirstLacking o (IsAsked s script o) None → IsSound s script o
  is_sound listed scenario all = record { listed = listed; scenario = scenario; shows = all }

  pub lacks_first : (line : ℕ) → IsListed script o → IsFirstLacking o (IsAsked s script o) (Some line) → LacksFirst s script o line
  lacks_first line listed first = record {
    listed = listed;
    lacks = record { unit = first.0.unit; asked = first.0.asks; missing = first.0.missing };
    first = λ earlier less lacks. lacks.missing (first.1 earlier less lacks.unit lacks.asked);
  }

  -- ---- what does not fit

  pub is_fitting : (budget : ℕ) → cost_of_all script ≤ budget → IsFirstMisfit s o spots None → IsFitting s script budget o
  is_fitting budget cost all = record {
    arms = λ p there. (fits p there).0;
    role = λ p there. (fits p there).1;
    cost = cost;
  }
    where
      fits : (p : Place) → Contains (places_of script) p → FitsAt s o p
      fits p there = let x = spot_at p there in subst (FitsAt s o) x.2 (All-contains (λ y. FitsAt s o (place_of y)) spots x.0 all x.1)

  pub is_refusal : (budget : ℕ) (refusal : Refusal) → cost_of_all script ≤ budget → IsSound s script o → IsFirstMisfit s o spots (Some refusal) → IsRefusal s script budget o refusal
  is_refusal budget refusal cost sound one = at refusal one.reason
    where
      unfit : (Unfit : Place → Type 0) (line : ℕ) → line ≡ one.spot.line → Unfit (place_of one.spot) → IsUnfitAt s script budget o Unfit line
      unfit Unfit line same is = record {
        within = cost;
        sound = sound;
        place = place_of one.spot;
        listed = place_at one.spot one.there;
        here = sym same;
        unfit = is;
        first = λ p there less.
            let x = spot_at p there in
            let also = ap (λ (q : Place). q.line) x.2 in
            subst (FitsAt s o) x.2 (one.first x.0 x.1 (omega (arith, same)));
      }

      at : (r : Refusal) → IsReason s o (place_of one.spot) r → IsRefusal s script budget o r
      at (NoArm host line class) reason = (reason.0, unfit (λ p. KeepsToRole s o p × LacksArmFirst s o p class) line reason.1 (reason.2, reason.3))
      at (OutOfRole host line) reason = (reason.0, unfit (BreaksRole s o) line reason.1 reason.2)
      at _ reason = absurd reason

-- ---- one send after another

-- the first n fit, or this is the first that does not
abbrev pub IsMisfitSoFar : Scenario → Outline → List Spot → ℕ → Option Refusal → Type 0
IsMisfitSoFar s o spots n None = AllWithin (λ p. FitsAt s o (place_of p)) spots 0 n
IsMisfitSoFar s o spots n (Some refusal) = HasMisfit s o spots refusal

module _ (s : Scenario) (o : Outline) (spots : List Spot) (n : ℕ) (x : Spot) (small : n < length spots) (read : x ≡ slice_index_or spots n x) where
  -- the first that does not fit, after those that do
  pub is_misfit : rise_above 0 (map (λ (p : Spot). p.line) spots) ≡ true → (refusal : Refusal) → AllWithin (λ p. FitsAt s o (place_of p)) spots 0 n → IsReason s o (place_of x) refusal → HasMisfit s o spots refusal
  is_misfit rise refusal fit reason = record {
    spot = x;
    there = (n, small, sym read);
    reason = reason;
    first = holds_earlier (λ (y : Spot). y.line) (λ y. FitsAt s o (place_of y)) spots n x rise read fit;
  }

  pub either_misfit : rise_above 0 (map (λ (p : Spot). p.line) spots) ≡ true → (first here : Option Refusal) → IsMisfitSoFar s o spots n first → IsMisfit s o (place_of x) here → IsMisfitSoFar s o spots (n + 1) (option_or first here)
  either_misfit rise (Some refusal) here one is = one
  either_misfit rise None None fit fits = AllWithin-more (λ p. FitsAt s o (place_of p)) spots 0 n fit (at_read spots (λ p. FitsAt s o (place_of p)) n x small read fits)
  either_misfit rise None (Some refusal) fit reason = is_misfit rise refusal fit reason

pub misfit_of_all : (s : Scenario) (o : Outline) (spots : List Spot) (n : ℕ) (first : Option Refusal) → length spots ≤ n → IsMisfitSoFar s o spots n first → IsFirstMisfit s o spots first
misfit_of_all s o spots n None whole fit = λ k d small. fit k d (omega arith) (omega arith)
misfit_of_all s o spots n (Some refusal) whole one = one
