-- What a sound outline shows however much of what is pending for its host is gone: that is sound too, and fits where the outline
-- fits.
use Rattle.pr_verify.proofs.Common.{◌≡◌, ℕ, ◌<◌, Bool, true, false, ◌&&◌, ◌≢◌, ◌⊎◌, ◌==◌, List, length, IsTrue, nat_lt, Some, None, Ok, Contains, Option, sym, refl, ap, ◌∙◌, subst, inl, inr, and_parts, eqb_tells, false≢true, Command, Reply, Plain, Step, UnitState, Stmts, Answers, Answered, refusals_of, command_permitted, role, Scenario, IsAllowedStart, How, Scope, View, IsDone, Becomes, by_another, by_reset, IsShownAt, view_at, ShowsIn, at_start, by_itself, by_others, HasOutline, Place, places_of, first_lines, follows}
use Rattle.std.specs.Prelude.{◌||◌, IsSome, not}
use Rattle.std.specs.FinSet as set
use Rattle.std.proofs.lemmas.Bool.{eq-eqb, eqb-true, ne_eqb}
use Rattle.std.proofs.Math.Bool.{and-true, or-false}
use Rattle.pr_cdb.specs.Ranges.{FitsWhereRead}
use Rattle.pr_cdb.specs.declared.wire.Request.{Request}
use Rattle.pr_cdb.specs.declared.wire.Request.TheVariants.{Faulty}
use Rattle.pr_registry.specs.Registrations.{key_of, State}
use Rattle.pr_unit.specs.Attentions.{power_on}
use Rattle.pr_unit.specs.Laws.{IsQuiet, TakesEffect, request_looks}
use Rattle.pr_unit.specs.Replies.{good, data_of, is_good}
use Rattle.pr_unit.specs.UnitStates.{IsWellFormed, is_pending, after_report, effect, reset}
use Rattle.pr_unit.specs.SharedPaths.{silenced}
use Rattle.pr_unit.proofs.lemmas.Attentions.Pairs.{pair_cmp-IsAntisymmetric}
use Rattle.pr_unit.proofs.lemmas.Attentions.Resets.{pending-reset}
use Rattle.pr_unit.proofs.lemmas.Steps.EasedSteps.{eased_steps}
use Rattle.pr_unit.proofs.lemmas.Steps.QuietSteps.{same-quiet, reported-quiet, less_of_less, less_pending, quiet_steps, quiet_well_formed}
use Rattle.pr_unit.proofs.lemmas.Steps.WellFormedSteps.{well_formed-reported}
use Rattle.pr_unit.proofs.lemmas.TakenSteps.GoodSteps.{good_effect, good_step}
use Rattle.pr_unit.proofs.lemmas.UnitStates.AlikeStates.{IsLike}
use Rattle.pr_unit.proofs.lemmas.UnitStates.ToldOnce.{told_once}
use Rattle.pr_roles.specs.declared.how.How.TheVariants as how
use Rattle.pr_roles.specs.Permits.{is_permitted}
use Rattle.pr_roles.specs.DeclaredRefusals.{is_among}
use Rattle.pr_roles.proofs.lemmas.Permits.ServiceActions.{Serves, looks_or_serves}
use Rattle.pr_views.specs.Possibilities.{number_of}
use Rattle.pr_interference.proofs.lemmas.Interference.PendingStates.{quiet_like, formed_silenced, like_silenced, none_silenced}
use Rattle.pr_interference.specs.Interference.{declares_resets}
use Rattle.pr_verify.proofs.lemmas.Laws.EarlyAnswers.{eased_early}

pub eased_start : (s : Scenario) (u w : UnitState) (h : ℕ) → IsAllowedStart s u → IsQuiet u h w → IsAllowedStart s w
eased_start s u w h allowed less = record {
  formed = quiet_well_formed u w h allowed.formed less;
  hosts = ap (λ (k : State). k.hosts) less.registry ∙ allowed.hosts;
  registrations = λ g n is. subst (λ (k : State). Contains n.start (key_of k g)) (sym less.registry) (allowed.registrations g n is);
  reservation = subst (λ (k : State). Contains s.reservations k.held) (sym less.registry) allowed.reservation;
  pending = λ g code n is there. allowed.pending g code n is (less_pending u w h less g code there);
}

-- an answer that leaves a state with less is one from a state with less
pub record IsAnsweredFromLess (s : Scenario) (h : ℕ) (u : UnitState) (c : Command) (r : Reply) (w : UnitState) : Type 0 where
  pub from : UnitState
  pub less : IsQuiet u h from
  pub answer : Answered (refusals_of s h) from h (Plain c) r w

pub eased_answer : (s : Scenario) (h : ℕ) (u : UnitState) (c : Command) (r : Reply) (v w : UnitState) → IsWellFormed u → Answered (refusals_of s h) u h (Plain c) r v → IsQuiet v h w → IsAnsweredFromLess s h u c r w
eased_answer s h u c r v w formed a less = at a.how a.declared a.answer
  where
    at : (k : How) → IsTrue (is_among (refusals_of s h) k) → Answers k u h (Plain c) r v → IsAnsweredFromLess s h u c r w
    at how.Plain declared step =
        let x = eased_steps u h (Plain c) r v w formed step less in
        record { from = x.from; less = x.less; answer = record { how = how.Plain; declared = declared; answer = x.answer } }
    at how.Early declared early =
        let x = eased_early u h (Plain c) r v w formed early less in
        record { from = x.from; less = x.less; answer = record { how = how.Early; declared = declared; answer = x.answer } }
    at how.Busy declared refused = record { from = w; less = subst (λ x. IsQuiet x h w) refused.1 less; answer = record { how = how.Busy; declared = declared; answer = (refused.0, refl) } }
    at how.Full declared refused = record { from = w; less = subst (λ x. IsQuiet x h w) refused.1 less; answer = record { how = how.Full; declared = declared; answer = (refused.0, refl) } }

-- ---- a state with less

-- of what is pending for h that is left which is pending in w
left_as : UnitState → ℕ → UnitState → UnitState
left_as u h w = record u { pending = set.retain u.pending (λ p. not (p.0 == h) || set.contains w.pending p) }

module _ (u w : UnitState) (h : ℕ) where
  pending-left : (g code : ℕ) → is_pending (left_as u h w) g code ≡ (is_pending u g code && (not (g == h) || is_pending w g code))
  unfolding left_as
  pending-left g code = set.contains-retain u.pending test (g, code) (λ q tie. ap test (sym (pair_cmp-IsAntisymmetric (g, code) q tie)))
    where
      test : ℕ × ℕ → Bool
      test p = not (p.0 == h) || set.contains w.pending p

  own-left : (code : ℕ) → is_pending (left_as u h w) h code ≡ (is_pending u h code && is_pending w h code)
  own-left code = pending-left h code ∙ ap (λ b. is_pending u h code && (not b || is_pending w h code)) (eq-eqb h h refl)

  quiet-left : IsQuiet u h (left_as u h w)
  unfolding left_as
  quiet-left = record {
    registry = refl;
    others = λ g code differs. pending-left g code ∙ ap (λ b. is_pending u g code && (not b || is_pending w g code)) (ne_eqb g h differs) ∙ and-true (is_pending u g code);
    own = λ code is. (and_parts (is_pending u h code) (is_pending w h code) (sym (own-left code) ∙ is)).0;
  }

  -- that is all that is pending in w, where that was pending
  same-left : ((code : ℕ) → is_pending w h code ≡ true → is_pending u h code ≡ true) → (code : ℕ) → is_pending w h code ≡ is_pending (left_as u h w) h code
  same-left less code = sym (own-left code ∙ both (is_pending u h code) (is_pending w h code) (less code))
    where
      both : (b c : Bool) → (c ≡ true → b ≡ true) → (b && c) ≡ c
      both true c less = refl
      both false true less = less refl
      both false false less = refl

-- ---- of an outline

module _ (s : Scenario) (h : ℕ) (script : Stmts) (budget : ℕ) (o : HasOutline s h script budget) where
  -- it shows the state however much of what is pending for its host is gone
  abbrev pub IsShownEased : ℕ → UnitState → Type 0
  IsShownEased line u = (w : UnitState) → IsQuiet u o.outline.host w → IsShownAt o.outline line w

  formed_in : (found : Option View) (u : UnitState) → ShowsIn found u → IsWellFormed u
  formed_in (Some v) u shows = shows.formed
  formed_in None u shows = absurd shows

  shown_now : (line : ℕ) (u : UnitState) → IsShownEased line u → IsShownAt o.outline line u
  shown_now line u eased = eased u (same-quiet u o.outline.host)

  -- whatever is gone, it is shown so: this is what an attention that vanishes asks
  pub gone_shown : (line : ℕ) (u w : UnitState) → IsShownEased line u → IsQuiet u o.outline.host w → IsShownEased line w
  gone_shown line u w eased less x more = eased x (less_of_less u w x o.outline.host less more)

  pub start_shown : (line : ℕ) (u : UnitState) → IsAllowedStart s u → Contains (first_lines script) line → IsShownEased line u
  start_shown line u allowed first w less = o.sound.shows line w (at_start (record { allowed = eased_start s u w o.outline.host allowed less; first = first }))

  pub own_shown : (p : Place) (line : ℕ) (u : UnitState) (r : Reply) (v : UnitState) (next : List ℕ) → Contains (places_of script) p → IsShownEased p.line u
      → Answered (refusals_of s o.outline.host) u o.outline.host (Plain p.command) r v → follows p r ≡ Some next → Contains next line → IsShownEased line v
  own_shown p line u r v next listed shown answer arm there w less =
      let formed = formed_in (view_at o.outline.views p.line) u (shown_now p.line u shown) in
      let x = eased_answer s o.outline.host u p.command r v w formed answer less in
      o.sound.shows line w (by_itself p listed (record { from = x.from; shown = shown x.from x.less; reply = r; answer = x.answer; next = next; follows = arm; there = there }))

  pub arms_eased : (p : Place) (u : UnitState) (r : Reply) (v : UnitState) → Contains (places_of script) p → IsShownEased p.line u → Answered (refusals_of s o.outline.host) u o.outline.host (Plain p.command) r v → IsSome (follows p r)
  arms_eased p u r v listed shown answer = o.fitting.arms p listed u r v (shown_now p.line u shown) answer

  pub role_eased : (p : Place) (u : UnitState) (r : Reply) (v : UnitState) → Contains (places_of script) p → IsShownEased p.line u → Step u o.outline.host (Plain p.command) r v → is_good r ≡ true
      → IsTrue (command_permitted (role s o.outline.host) u.registry o.outline.host p.command)
  role_eased p u r v listed shown step good = o.fitting.role p listed u r v (shown_now p.line u shown) step good

  -- ---- what others do

  -- its view shows the registrations and the reservation of one state with what is pending for its host in another
  shown_by_parts : (line : ℕ) (u x w : UnitState) → IsShownAt o.outline line u → IsShownAt o.outline line x → w.registry ≡ u.registry → ((code : ℕ) → is_pending w o.outline.host code ≡ is_pending x o.outline.host code)
      → IsWellFormed w → IsShownAt o.outline line w
  shown_by_parts line u x w shown_u shown_x registry pending formed = at (view_at o.outline.views line) refl shown_u shown_x
    where
      at : (found : Option View) → view_at o.outline.views line ≡ found → ShowsIn found u → ShowsIn found x → ShowsIn found w
      at None is a b = absurd a
      at (Some v) is a b = record {
        formed = formed;
        hosts = ap (λ (k : State). k.hosts) registry ∙ a.hosts;
        registrations = λ g there.
            let seen = a.registrations g there in
            (seen.0, (seen.1.0, (seen.1.1.0, seen.1.1.1, ap (λ (k : State). key_of k g) registry ∙ seen.1.1.2)));
        reservation = (a.reservation.0, (a.reservation.1.0, a.reservation.1.1 ∙ ap (λ (k : State). number_of v.scope.hosts k.held) (sym registry)));
        pending = (b.pending.0, (b.pending.1.0, (b.pending.1.1.0, λ code. own code ∙ b.pending.1.1.1 code)));
      }
        where
          own : (code : ℕ) → is_pending w v.scope.own code ≡ is_pending x v.scope.own code
          own = subst (λ h. (code : ℕ) → is_pending w h code ≡ is_pending x h code) (sym (ap (λ (c : Scope). c.own) (o.sound.scenario line v is))) pending

  -- nothing that its view asks for changes
  pub alike_shown : (line : ℕ) (u v : UnitState) → IsShownEased line u → IsLike o.outline.host u v → IsWellFormed v → IsShownEased line v
  unfolding left_as
  alike_shown line u v eased like formed w less =
      let own = o.outline.host in
      let left = eased (left_as u own w) (quiet-left u w own) in
      shown_by_parts line (left_as u own w) (left_as u own w) w left left (less.registry ∙ like.registry) (same-left u w own (λ code is. sym (like.pending code) ∙ less.own code is)) (quiet_well_formed v w own formed less)

  -- The host is told of this code at most, both where all that was pending before is left and where no more of it is than in w. The
  -- code may be gone in w: then all that is pending in w was pending before.
  told_shown : (line : ℕ) (u v to w : UnitState) (code : ℕ) (told : Bool) → IsShownEased line u → IsWellFormed v → IsQuiet v o.outline.host w → IsShownAt o.outline line to → to.registry ≡ v.registry
      → ((x : ℕ) → is_pending v o.outline.host x ≡ (is_pending u o.outline.host x || (told && x == code)))
      → ((x : ℕ) → is_pending to o.outline.host x ≡ (is_pending (left_as u o.outline.host w) o.outline.host x || (told && x == code))) → IsShownAt o.outline line w
  told_shown line u v to w code told eased formed less shown registry tells tells_left = at (told && is_pending w own code) refl
    where
      own : ℕ
      own = o.outline.host

      left : UnitState
      left = left_as u own w

      same_registry : w.registry ≡ to.registry
      same_registry = less.registry ∙ sym registry

      before : (x : ℕ) → is_pending w own x ≡ true → (is_pending u own x || (told && x == code)) ≡ true
      before x is = sym (tells x) ∙ less.own x is

      was : (told && is_pending w own code) ≡ false → (x : ℕ) → is_pending w own x ≡ true → is_pending u own x ≡ true
      was gone x is = by (told && x == code) refl (before x is)
        where
          by : (new : Bool) → (told && x == code) ≡ new → (is_pending u own x || new) ≡ true → is_pending u own x ≡ true
          by false not_new all = sym (or-false (is_pending u own x)) ∙ all
          by true new all =
              let parts = and_parts told (x == code) new in
              absurd (false≢true (sym gone ∙ (λ i. parts.0 i && (ap (is_pending w own) (sym (eqb-true x code parts.1)) ∙ is) i)))

      both : (a b e t : Bool) → t ≡ true → (e ≡ true → b ≡ true) → (b ≡ true → (a || (t && e)) ≡ true) → b ≡ ((a && b) || (t && e))
      both a b e false t_is here there = absurd (false≢true t_is)
      both true true true true t_is here there = refl
      both true true false true t_is here there = refl
      both true false true true t_is here there = here refl
      both true false false true t_is here there = refl
      both false b true true t_is here there = here refl
      both false true false true t_is here there = sym (there refl)
      both false false false true t_is here there = refl

      now : (told && is_pending w own code) ≡ true → (x : ℕ) → is_pending w own x ≡ is_pending to own x
      now here x =
          let parts = and_parts told (is_pending w own code) here in
          both (is_pending u own x) (is_pending w own x) (x == code) told parts.0 (λ e. ap (is_pending w own) (eqb-true x code e) ∙ parts.1) (before x)
          ∙ ap (λ b. b || (told && x == code)) (sym (own-left u w own x)) ∙ sym (tells_left x)

      at : (b : Bool) → (told && is_pending w own code) ≡ b → IsShownAt o.outline line w
      at true here = shown_by_parts line to to w shown shown same_registry (now here) (quiet_well_formed v w own formed less)
      at false gone = shown_by_parts line to left w shown (eased left (quiet-left u w own)) same_registry (same-left u w own (was gone)) (quiet_well_formed v w own formed less)

  -- what becomes of a state that is shown is shown
  becomes_shown : (line : ℕ) (u v : UnitState) → IsShownAt o.outline line u → Becomes s o.outline.host u v → IsShownAt o.outline line v
  becomes_shown line u v shown becomes = o.sound.shows line v (by_others (record { from = u; shown = shown; becomes = becomes }))

  formed_after : (line : ℕ) (u v : UnitState) → IsShownEased line u → Becomes s o.outline.host u v → IsWellFormed v
  formed_after line u v eased becomes = formed_in (view_at o.outline.views line) v (becomes_shown line u v (shown_now line u eased) becomes)

  reset_shown : (line : ℕ) (u v : UnitState) → IsShownEased line u → Becomes s o.outline.host u v → IsTrue (declares_resets s) → v ≡ reset u → IsShownEased line v
  unfolding left_as
  reset_shown line u v eased becomes declared is w less =
      let own = o.outline.host in
      let left = left_as u own w in
      told_shown line u v (reset left) w power_on (nat_lt own u.registry.hosts) eased (formed_after line u v eased becomes) less
      (becomes_shown line left (reset left) (eased left (quiet-left u w own)) (by_reset declared refl)) (sym (ap (λ (x : UnitState). x.registry) is))
      (λ x. ap (λ (y : UnitState). is_pending y own x) is ∙ pending-reset u own x) (λ x. pending-reset left own x)

  -- a service action of another tells it of one attention at most
  served_shown : (line g : ℕ) (c : Command) (u v : UnitState) → IsShownEased line u → IsWellFormed v → g < length s.nexuses → g ≢ o.outline.host → FitsWhereRead (Ok (Plain c)) → (r : Reply) → TakesEffect u g c r v
      → IsTrue (is_permitted (role s g) u.registry g (Plain c)) → IsShownEased line v
  unfolding left_as
  served_shown line g c u v eased formed there other fits r takes permitted w less =
      let own = o.outline.host in
      let left = left_as u own w in
      let from = silenced left g in
      let to = effect from g c in
      let tells = told_once u.registry g c own in
      let like = like_silenced own left g (λ same. other (sym same)) in
      let left_shown = eased left (quiet-left u w own) in
      let from_shown = shown_by_parts line left left from left_shown left_shown like.registry like.pending (formed_silenced left g (formed_in (view_at o.outline.views line) left left_shown)) in
      let done : IsDone (role s g) g from to = record {
        request = Plain c;
        fits = fits;
        reply = good (data_of from.registry c);
        step = good_step from g c (none_silenced left g) takes.free takes.whole;
        good = refl;
        permitted = permitted;
      } in
      told_shown line u v to w tells.code tells.told eased formed less (becomes_shown line from to from_shown (by_another g there other done)) (sym (ap (λ (x : UnitState). x.registry) takes.after))
      (λ x. ap (λ (y : UnitState). is_pending y own x) takes.after ∙ tells.pending u.pending x)
      (λ x. tells.pending from.pending x ∙ ap (λ b. b || (tells.told && x == tells.code)) (like.pending x))

  another_shown : (line g : ℕ) (u v : UnitState) → IsShownEased line u → g < length s.nexuses → g ≢ o.outline.host → IsDone (role s g) g u v → IsShownEased line v
  another_shown line g u v eased there other done = by_request done.request done.fits done.step done.permitted
    where
      formed : IsWellFormed v
      formed = formed_after line u v eased (by_another g there other done)

      by_request : (q : Request) → FitsWhereRead (Ok q) → Step u g q done.reply v → IsTrue (is_permitted (role s g) u.registry g q) → IsShownEased line v
      by_request (Faulty sense) fits step permitted = absurd (false≢true permitted)
      by_request (Plain c) fits step permitted = by_kind (looks_or_serves c)
        where
          by_kind : IsTrue (request_looks (Plain c)) ⊎ Serves c → IsShownEased line v
          by_kind (inl looks) = alike_shown line u v eased (quiet_like o.outline.host g u v (λ same. other (sym same)) (quiet_steps u g (Plain c) done.reply v step (inr looks))) formed
          by_kind (inr serves) = served_shown line g c u v eased formed there other fits done.reply (good_effect u g c done.reply v step done.good serves.acts) permitted

  pub others_shown : (line : ℕ) (u v : UnitState) → IsShownEased line u → Becomes s o.outline.host u v → IsShownEased line v
  others_shown line u v eased (by_another g there other done) = another_shown line g u v eased there other done
  others_shown line u v eased (by_reset declared is) = reset_shown line u v eased (by_reset declared is) declared is

  -- a fetch, by the host's own path or another's
  pub fetched_shown : (line : ℕ) (u : UnitState) (g code : ℕ) → IsShownEased line u → IsTrue (is_pending u g code) → IsShownEased line (after_report u g code)
  fetched_shown line u g code eased pending = at (eqb_tells o.outline.host g)
    where
      at : (((o.outline.host == g) ≡ true) × (o.outline.host ≡ g)) ⊎ (((o.outline.host == g) ≡ false) × (o.outline.host ≢ g)) → IsShownEased line (after_report u g code)
      at (inl same) = gone_shown line u (after_report u g code) eased (subst (λ x. IsQuiet u x (after_report u g code)) (sym same.1) (reported-quiet u g code))
      at (inr other) =
          alike_shown line u (after_report u g code) eased (quiet_like o.outline.host g u (after_report u g code) other.1 (reported-quiet u g code))
          (well_formed-reported u g code (formed_in (view_at o.outline.views line) u (shown_now line u eased)))
