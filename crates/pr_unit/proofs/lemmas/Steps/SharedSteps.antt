-- Of all the states from which a request may be answered so, where some of what is pending for its sender may be gone: the one in
-- which most is left.
use Rattle.pr_unit.proofs.Common.{◌≡◌, ℕ, ◌<◌, Bool, true, false, not, ◌&&◌, ◌||◌, ◌==◌, nat_lt, List, [], ◌∷◌, or-false, IsTrue, Some, None, Option, sym, refl, ap, ◌∙◌, subst, false≢true, and_parts, good, Command, Reply, Sense, Request, Plain, Faulty, power_on, Step, StepBy, last_decision, UnitState, is_pending, is_any_pending, IsWellFormed, effect, after_report, conflicts, fault, report, data_of, ◌⊎◌, inl, inr}
use Rattle.std.proofs.Common.{◌≢◌, Ok, ne_eqb}
use Rattle.std.specs.FinSet as set
use Rattle.std.specs.List.{list_any}
use Rattle.std.proofs.Math.Bool.{and-false, and-true}
use Rattle.std.proofs.lemmas.Bool.{eq-eqb}
use Rattle.std.proofs.lemmas.Bool.Decides.{eqb_tells}
use Rattle.pr_cdb.specs.declared.command.Command.TheVariants.{RequestSense}
use Rattle.pr_cdb.specs.declared.reply.Status.TheVariants.{Good, CheckCondition}
use Rattle.pr_cdb.specs.Ranges.{FitsWhereRead}
use Rattle.pr_registry.specs.Registrations.{State}
use Rattle.pr_unit.specs.Attentions.{attentions}
use Rattle.pr_unit.specs.Follows.{IsFollowed}
use Rattle.pr_unit.specs.Laws.{IsQuiet, request_looks}
use Rattle.pr_unit.specs.Replies.{conflict}
use Rattle.pr_unit.specs.SharedPaths.{Answering, IsBelow, IsFromLess, IsFollowedShared, NoMore}
use Rattle.pr_unit.specs.inside.SharedStates.{IsAtMost}
use Rattle.pr_unit.specs.Steps.{Reports, ReportsEarly}
use Rattle.pr_unit.specs.UnitStates.{change, reset}
use Rattle.pr_unit.specs.SharedPaths.{silenced}
use Rattle.pr_unit.specs.inside.Ways.{Tells, TellsAny, IsWayFor}
use Rattle.pr_unit.proofs.lemmas.Attentions.Pairs.{contains-remove-pair, contains-retain-pair, contains-union-pairs, same_pairs}
use Rattle.pr_unit.proofs.lemmas.Attentions.Resets.{pending-reset}
use Rattle.pr_unit.proofs.lemmas.Attentions.ToldAttentions.{told_no_more}
use Rattle.pr_unit.proofs.lemmas.Steps.EasedSteps.{one_of, quiet_all, same_state}
use Rattle.pr_unit.proofs.lemmas.Steps.FixedStates.{step_fixed}
use Rattle.pr_unit.proofs.lemmas.Steps.QuietSteps.{same-quiet, reported-quiet, reported-gone, effect-looking, quiet_well_formed, less_of_less}
use Rattle.pr_unit.proofs.lemmas.Steps.WellFormedSteps.{well_formed-step}

-- ---- less of what is pending for one host

-- of one that is pending, what a report of another leaves
pub kept : (u : UnitState) (h code x : ℕ) → x ≢ code → is_pending (after_report u h code) h x ≡ is_pending u h x
kept u h code x other =
    contains-remove-pair u.pending (h, code) (h, x) ∙ ap (λ b. not ((h == h) && b) && set.contains u.pending (h, x)) (ne_eqb x code other)
    ∙ ap (λ b. not b && set.contains u.pending (h, x)) (and-false (h == h))

-- where one is not pending, what a report of it leaves
pub less_without : (u v : UnitState) (h code : ℕ) → IsQuiet u h v → is_pending v h code ≡ false → IsQuiet (after_report u h code) h v
less_without u v h code less gone = record {
  registry = less.registry;
  others = λ g x differs. less.others g x differs ∙ sym ((reported-quiet u h code).others g x differs);
  own = λ x is. at x is (eqb_tells x code);
}
  where
    at : (x : ℕ) → is_pending v h x ≡ true → (((x == code) ≡ true) × (x ≡ code)) ⊎ (((x == code) ≡ false) × (x ≢ code)) → is_pending (after_report u h code) h x ≡ true
    at x is (inl same) = absurd (false≢true (sym gone ∙ ap (is_pending v h) (sym same.1) ∙ is))
    at x is (inr other) = kept u h code x other.1 ∙ less.own x is

-- a report of the same from less
pub less_reported : (u v : UnitState) (h code : ℕ) → IsQuiet u h v → IsQuiet (after_report u h code) h (after_report v h code)
less_reported u v h code less = less_without u (after_report v h code) h code (less_of_less u v (after_report v h code) h less (reported-quiet v h code)) (reported-gone v h code)

-- with nothing pending
pub none_silenced : (u : UnitState) (h code : ℕ) → is_pending (silenced u h) h code ≡ false
none_silenced u h code = contains-retain-pair u.pending (λ x. not (x == h)) (h, code) ∙ ap (λ b. set.contains u.pending (h, code) && not b) (eq-eqb h h refl) ∙ and-false (set.contains u.pending (h, code))

pub silenced-quiet : (u : UnitState) (h : ℕ) → IsQuiet u h (silenced u h)
silenced-quiet u h = record {
  registry = refl;
  others = λ g code differs. contains-retain-pair u.pending (λ x. not (x == h)) (g, code) ∙ ap (λ b. set.contains u.pending (g, code) && not b) (ne_eqb g h differs) ∙ and-true (set.contains u.pending (g, code));
  own = λ code is. absurd (false≢true (sym (none_silenced u h code) ∙ is));
}

-- there is one such state
pub only_silenced : (u v : UnitState) (h : ℕ) → IsQuiet u h v → ((code : ℕ) → is_pending v h code ≡ false) → v ≡ silenced u h
only_silenced u v h less none = same_state (silenced u h) v h (none_silenced u h) (record {
  registry = less.registry;
  others = λ g code differs. less.others g code differs ∙ sym ((silenced-quiet u h).others g code differs);
  own = λ code is. absurd (false≢true (sym (none code) ∙ is));
})

-- ---- a step by what decides

-- a fault leaves the state as it is, and a command that ends GOOD has its effect
abbrev pub EndsSilent : UnitState → ℕ → Request → Reply → UnitState → Type 0
EndsSilent u h q r v = (v ≡ u) ⊎ ((c : Command) × (q ≡ Plain c) × (r ≡ good (data_of u.registry c)) × (v ≡ effect u h c))

module _ (u : UnitState) (h : ℕ) (q : Request) (r : Reply) (v : UnitState) where
  pub record IsPowerOn : Type 0 where
    pub here : is_pending u h power_on ≡ true
    pub reply : r ≡ report q power_on
    pub after : v ≡ after_report u h power_on

  pub record IsConflict : Type 0 where
    pub calm : is_pending u h power_on ≡ false
    pub kept : conflicts u.registry h q ≡ true
    pub reply : r ≡ conflict
    pub after : v ≡ u

  pub record IsReport : Type 0 where
    pub calm : is_pending u h power_on ≡ false
    pub free : conflicts u.registry h q ≡ false
    pub any : is_any_pending u h ≡ true
    pub reports : Reports u h q r v

  pub record IsSilent : Type 0 where
    pub free : conflicts u.registry h q ≡ false
    pub calm : is_pending u h power_on ≡ false
    pub none : is_any_pending u h ≡ false
    pub step : StepBy (last_decision (fault u.registry h q)) u h q r v

  abbrev pub IsDecided : Type 0
  IsDecided = (IsPowerOn ⊎ IsConflict) ⊎ (IsReport ⊎ IsSilent)

ends_silent : (u : UnitState) (h : ℕ) (q : Request) (r : Reply) (v : UnitState) (f : Option Sense) → StepBy (last_decision f) u h q r v → EndsSilent u h q r v
ends_silent u h q r v (Some sense) s = inl s.1
ends_silent u h (Plain c) r v None s = inr (c, refl, s.0, s.1)
ends_silent u h (Faulty sense) r v None s = absurd s

pub decided : (u : UnitState) (h : ℕ) (q : Request) (r : Reply) (v : UnitState) → Step u h q r v → IsDecided u h q r v
decided u h q r v step = at (is_pending u h power_on) (conflicts u.registry h q) (is_any_pending u h) refl refl refl
  where
    at : (p c a : Bool) → is_pending u h power_on ≡ p → conflicts u.registry h q ≡ c → is_any_pending u h ≡ a → IsDecided u h q r v
    at true c a p_is c_is a_is = let s = rw p_is at step in inl (inl (record { here = p_is; reply = s.0; after = s.1 }))
    at false true a p_is c_is a_is = let s = rw (p_is, c_is) at step in inl (inr (record { calm = p_is; kept = c_is; reply = s.0; after = s.1 }))
    at false false true p_is c_is a_is = let s = rw (a_is, c_is, p_is) at step in inr (inl (record { calm = p_is; free = c_is; any = a_is; reports = s }))
    at false false false p_is c_is a_is = let s = rw (a_is, c_is, p_is) at step in inr (inr (record { free = c_is; calm = p_is; none = a_is; step = s }))

-- ---- the way

-- a command that ends GOOD with what looks like a report only looks
looks_like_report : (c : Command) (bytes : List ℕ) (code : ℕ) → good bytes ≡ report (Plain c) code → IsTrue (request_looks (Plain c))
looks_like_report RequestSense bytes code same = refl
looks_like_report _ bytes code same = let status : Good ≡ CheckCondition = ap (λ x. x.status) same in cc

-- so what a reply leaves that looks like a report is no other state
left_silent : (u : UnitState) (h : ℕ) (q : Request) (r : Reply) (v : UnitState) (code : ℕ) → r ≡ report q code → IsSilent u h q r v → v ≡ u
left_silent u h q r v code reply s = by (ends_silent u h q r v (fault u.registry h q) s.step)
  where
    by : EndsSilent u h q r v → v ≡ u
    by (inl same) = same
    by (inr made) =
        let c = made.0 in
        let same : good (data_of u.registry c) ≡ report (Plain c) code = sym made.2 ∙ reply ∙ ap (λ x. report x code) made.1 in
        made.3 ∙ effect-looking u h c (looks_like_report c (data_of u.registry c) code same)

-- from here the request may be answered so, which leaves no less pending
record IsMet (way : UnitState) (h : ℕ) (q : Request) (r : Reply) (w : UnitState) : Type 0 where
  pub state : UnitState
  pub step : Step way h q r state
  pub less : IsQuiet state h w

module _ (u : UnitState) (h : ℕ) (q : Request) (r : Reply) (w : UnitState) (formed : IsWellFormed u) (x : IsFromLess (λ x y. Step x h q r y) u h w) where
  abbrev way : UnitState
  way = after_report u h power_on

  -- nothing is pending for the host in the state from which it comes
  none_left : is_any_pending x.from h ≡ false → (code : ℕ) → is_pending x.from h code ≡ false
  none_left none = quiet_all x.from h (quiet_well_formed u x.from h formed x.less) none

  met_with : (at state v : UnitState) → Step at h q r state → w ≡ v → IsQuiet state h v → IsMet at h q r w
  met_with at state v step after less = record { state = state; step = step; less = subst (IsQuiet state h) (sym after) less }

  calm_less : is_pending x.from h power_on ≡ false → IsQuiet way h x.from
  calm_less calm = less_without u x.from h power_on x.less calm

  tells_power_on : Tells u h q r power_on → IsMet u h q r w
  tells_power_on told = by (decided x.from h q r w x.answer)
    where
      reports : Step u h q r way
      reports = let here = told.0 in rw here (told.1, refl)

      by : IsDecided x.from h q r w → IsMet u h q r w
      by (inl (inl p)) = met_with u way (after_report x.from h power_on) reports p.after (less_reported u x.from h power_on x.less)
      by (inl (inr c)) = met_with u way x.from reports c.after (calm_less c.calm)
      by (inr (inl t)) = met_with u way (after_report x.from h t.reports.code) reports t.reports.after
          (less_of_less way x.from (after_report x.from h t.reports.code) h (calm_less t.calm) (reported-quiet x.from h t.reports.code))
      by (inr (inr s)) = met_with u way x.from reports (left_silent x.from h q r w power_on told.1 s) (calm_less s.calm)

  -- another attention is reported once the power on is gone
  reports_other : (code : ℕ) → (Tells u h q r power_on → ⊥) → conflicts u.registry h q ≡ false → Tells u h q r code → Step way h q r (after_report way h code)
  reports_other code not free told =
      let calm = reported-gone u h power_on in
      let here : is_pending way h code ≡ true = kept u h power_on code other ∙ told.0 in
      let any = one_of (is_pending way h) code attentions (formed.pending h code told.0).1 here in
      rw (any, free, calm) (record { code = code; pending = here; reply = told.1; after = refl })
    where
      other : code ≢ power_on
      other same = not (subst (Tells u h q r) same told)

  without_power_on : (Tells u h q r power_on → ⊥) → (conflicts u.registry h q ≡ true) ⊎ TellsAny u h q r → IsMet way h q r w
  without_power_on not why = by (decided x.from h q r w x.answer)
    where
      before : (b : Bool) → conflicts x.from.registry h q ≡ b → conflicts u.registry h q ≡ b
      before b is = ap (λ g. conflicts g h q) (sym x.less.registry) ∙ is

      silent : IsSilent x.from h q r w → (conflicts u.registry h q ≡ true) ⊎ TellsAny u h q r → IsMet way h q r w
      silent s (inl kept) = absurd (false≢true (sym (before false s.free) ∙ kept))
      silent s (inr told) = met_with way (after_report way h told.0) x.from (reports_other told.0 not (before false s.free) told.1)
          (left_silent x.from h q r w told.0 told.1.1 s) (less_without way x.from h told.0 (calm_less s.calm) (none_left s.none told.0))

      by : IsDecided x.from h q r w → IsMet way h q r w
      by (inl (inl p)) = absurd (not (x.less.own power_on p.here, p.reply))
      by (inl (inr c)) =
          let kept = before true c.kept in
          let calm = reported-gone u h power_on in
          met_with way way x.from (rw (kept, calm) (c.reply, refl)) c.after (calm_less c.calm)
      by (inr (inl t)) =
          let code = t.reports.code in
          met_with way (after_report way h code) (after_report x.from h code) (reports_other code not (before false t.free) (x.less.own code t.reports.pending, t.reports.reply))
          t.reports.after (less_reported way x.from h code (calm_less t.calm))
      by (inr (inr s)) = silent s why

  with_nothing : conflicts u.registry h q ≡ false → (TellsAny u h q r → ⊥) → IsMet (silenced u h) h q r w
  with_nothing free none = by (decided x.from h q r w x.answer)
    where
      by : IsDecided x.from h q r w → IsMet (silenced u h) h q r w
      by (inl (inl p)) = absurd (none (power_on, (x.less.own power_on p.here, p.reply)))
      by (inl (inr c)) = absurd (false≢true (sym free ∙ ap (λ g. conflicts g h q) (sym x.less.registry) ∙ c.kept))
      by (inr (inl t)) = absurd (none (t.reports.code, (x.less.own t.reports.code t.reports.pending, t.reports.reply)))
      by (inr (inr s)) = record {
        state = w;
        step = subst (λ (y : UnitState). Step y h q r w) (only_silenced u x.from h x.less (none_left s.none)) x.answer;
        less = same-quiet w h;
      }

  met : (from : UnitState) → IsWayFor u h q r from → IsMet from h q r w
  met from (inl told) = subst (λ (y : UnitState). IsMet y h q r w) (sym told.1) (tells_power_on told.0)
  met from (inr (not, inl more)) = subst (λ (y : UnitState). IsMet y h q r w) (sym more.1) (without_power_on not more.0)
  met from (inr (not, inr all)) = subst (λ (y : UnitState). IsMet y h q r w) (sym all.2) (with_nothing all.0 all.1)

pub way-quiet : (u from : UnitState) (h : ℕ) (q : Request) (r : Reply) → IsWayFor u h q r from → IsQuiet u h from
way-quiet u from h q r (inl told) = subst (IsQuiet u h) (sym told.1) (same-quiet u h)
way-quiet u from h q r (inr (not, inl more)) = subst (IsQuiet u h) (sym more.1) (reported-quiet u h power_on)
way-quiet u from h q r (inr (not, inr all)) = subst (IsQuiet u h) (sym all.2) (silenced-quiet u h)

module _ (u way : UnitState) (h : ℕ) (q : Request) (r : Reply) (v : UnitState) (formed : IsWellFormed u) (is : IsWayFor u h q r way) where
  pub followed_shared : IsFollowed way h q r true v → IsFollowedShared (λ x y. Step x h q r y) u h true v
  followed_shared step = record {
    is = record { from = way; less = way-quiet u way h q r is; answer = step };
    most = λ w x. let m = met u h q r w formed x way is in subst (λ (y : UnitState). IsQuiet y h w) (step_fixed way h q r m.state v m.step step) m.less;
  }

  pub not_followed_shared : IsFollowed way h q r false v → IsFollowedShared (λ x y. Step x h q r y) u h false u
  not_followed_shared none = (refl, λ w x. let m = met u h q r w formed x way is in none.1 m.state m.step)

pub well_formed-followed_shared : (u : UnitState) (h : ℕ) (q : Request) (r : Reply) (follows : Bool) (v : UnitState) → IsWellFormed u → h < u.registry.hosts → FitsWhereRead (Ok q)
    → IsFollowedShared (λ x y. Step x h q r y) u h follows v → IsWellFormed v
well_formed-followed_shared u h q r true v w there fits leaves =
    well_formed-step leaves.is.from h q r v (quiet_well_formed u leaves.is.from h w leaves.is.less) (subst (λ (k : State). h < k.hosts) (sym leaves.is.less.registry) there) fits leaves.is.answer
well_formed-followed_shared u h q r false v w there fits same = subst IsWellFormed (sym same.0) w

-- ---- the same step where more is pending for others

-- what is pending for others in one state, and for the host in the other
pub joined : UnitState → ℕ → UnitState → UnitState
joined more h x = record { registry = x.registry; pending = set.union (set.retain more.pending (λ p. not (p.0 == h))) (set.retain x.pending (λ p. p.0 == h)) }

module _ (more : UnitState) (h : ℕ) (x : UnitState) where
  abbrev from : UnitState
  from = joined more h x

  joined-contains : (g code : ℕ) → is_pending from g code ≡ ((is_pending more g code && not (g == h)) || (is_pending x g code && g == h))
  unfolding joined
  joined-contains g code = contains-union-pairs (set.retain more.pending (λ p. not (p.0 == h))) (set.retain x.pending (λ p. p.0 == h)) (g, code)
      ∙ (λ i. contains-retain-pair more.pending (λ k. not (k == h)) (g, code) i || contains-retain-pair x.pending (λ k. k == h) (g, code) i)

  pub joined-own : (code : ℕ) → is_pending from h code ≡ is_pending x h code
  joined-own code = joined-contains h code ∙ ap (λ b. (is_pending more h code && not b) || (is_pending x h code && b)) (eq-eqb h h refl)
      ∙ (λ i. and-false (is_pending more h code) i || and-true (is_pending x h code) i)

  pub joined-others : (g code : ℕ) → g ≢ h → is_pending from g code ≡ is_pending more g code
  joined-others g code other = joined-contains g code ∙ ap (λ b. (is_pending more g code && not b) || (is_pending x g code && b)) (ne_eqb g h other)
      ∙ (λ i. and-true (is_pending more g code) i || and-false (is_pending x g code) i) ∙ or-false (is_pending more g code)

-- What comes of it: the same answer from that state, in which the same is pending for the host, and for others no less.
pub record IsFromMore (shared : ℕ → Bool) (more : UnitState) (h : ℕ) (answers : Answering) (v : UnitState) : Type 0 where
  pub from : UnitState
  pub less : IsAtMost (shared h) more h from
  pub after : UnitState
  pub answer : answers from after
  pub below : IsBelow shared after v

pub no_more_same : (b now before : Bool) → now ≡ before → NoMore b now before
no_more_same true now before same = λ is. sym same ∙ is
no_more_same false now before same = same

pub reported_no_more : (b : Bool) (v u : UnitState) (h c g code : ℕ) → NoMore b (is_pending v g code) (is_pending u g code) → NoMore b (is_pending (after_report v h c) g code) (is_pending (after_report u h c) g code)
reported_no_more false v u h c g code same = contains-remove-pair v.pending (h, c) (g, code) ∙ ap (λ b. not (g == h && code == c) && b) same ∙ sym (contains-remove-pair u.pending (h, c) (g, code))
reported_no_more true v u h c g code more = λ is.
    let parts = and_parts (not (g == h && code == c)) (is_pending v g code) (sym (contains-remove-pair v.pending (h, c) (g, code)) ∙ is) in
    contains-remove-pair u.pending (h, c) (g, code) ∙ (λ i. parts.0 i && more parts.1 i)

any_alike : (u v : UnitState) (h : ℕ) → ((code : ℕ) → is_pending v h code ≡ is_pending u h code) → (codes : List ℕ) → list_any (λ code. is_pending v h code) codes ≡ list_any (λ code. is_pending u h code) codes
any_alike u v h same [] = refl
any_alike u v h same (code ∷ codes) = λ i. same code i || any_alike u v h same codes i

module _ (shared : ℕ → Bool) (more x : UnitState) (h : ℕ) (below : IsBelow shared more x) where
  abbrev to : UnitState
  to = joined more h x

  still : (code : ℕ) → is_pending to h code ≡ is_pending x h code
  still code = joined-own more h x code

  no_more : (g code : ℕ) → NoMore (shared g) (is_pending x g code) (is_pending to g code)
  no_more g code = at (eqb_tells g h)
    where
      at : (((g == h) ≡ true) × (g ≡ h)) ⊎ (((g == h) ≡ false) × (g ≢ h)) → NoMore (shared g) (is_pending x g code) (is_pending to g code)
      at (inl own) = no_more_same (shared g) _ _ (ap (λ k. is_pending x k code) own.1 ∙ sym (still code) ∙ ap (λ k. is_pending to k code) (sym own.1))
      at (inr other) = subst (NoMore (shared g) (is_pending x g code)) (sym (joined-others more h x g code other.1)) (below.pending g code)

  at_most : (b : Bool) → shared h ≡ b → IsAtMost b more h to
  unfolding joined
  at_most true is = record {
    registry = below.registry;
    others = λ g code other. joined-others more h x g code other;
    own = λ code here. subst (λ b. NoMore b (is_pending x h code) (is_pending more h code)) is (below.pending h code) (sym (still code) ∙ here);
  }
  at_most false is = λ i. record { registry = below.registry i; pending = same i }
    where
      at : (g code : ℕ) → (((g == h) ≡ true) × (g ≡ h)) ⊎ (((g == h) ≡ false) × (g ≢ h)) → is_pending to g code ≡ is_pending more g code
      at g code (inl own) =
          ap (λ k. is_pending to k code) own.1 ∙ still code ∙ subst (λ b. NoMore b (is_pending x h code) (is_pending more h code)) is (below.pending h code) ∙ ap (λ k. is_pending more k code) (sym own.1)
      at g code (inr other) = joined-others more h x g code other.1

      same : to.pending ≡ more.pending
      same = same_pairs to.pending more.pending (λ p. at p.0 p.1 (eqb_tells p.0 h))

  pub step_from_more : (q : Request) (r : Reply) (v : UnitState) → Step x h q r v → IsFromMore shared more h (λ a b. Step a h q r b) v
  unfolding joined
  step_from_more q r v step = by (decided x h q r v step)
    where
      any : is_any_pending to h ≡ is_any_pending x h
      any = any_alike x to h still attentions

      comes : (after then : UnitState) → Step to h q r after → v ≡ then → after.registry ≡ then.registry → ((g code : ℕ) → NoMore (shared g) (is_pending then g code) (is_pending after g code)) → IsFromMore shared more h (λ a b. Step a h q r b) v
      comes after then step is registry pending = record {
        from = to;
        less = at_most (shared h) refl;
        after = after;
        answer = step;
        below = subst (IsBelow shared after) (sym is) (record { registry = sym registry; pending = pending });
      }

      silent : (q : Request) (f : Option Sense) → is_pending to h power_on ≡ false → conflicts x.registry h q ≡ false → is_any_pending to h ≡ false → fault x.registry h q ≡ f → StepBy (last_decision f) x h q r v
          → (after : UnitState) × Step to h q r after × IsBelow shared after v
      silent q (Some sense) calm free none is s = (to, (let f = is in rw (none, f, free, calm) (s.0, refl)), subst (IsBelow shared to) (sym s.1) (record { registry = refl; pending = no_more }))
      silent (Plain c) None calm free none is s = (
        effect to h c,
        (let f = is in rw (none, f, free, calm) (s.0, refl)),
        subst (IsBelow shared (effect to h c)) (sym s.1) (record { registry = refl; pending = λ g code. told_no_more (shared g) x.pending to.pending (change x.registry h c) g code (no_more g code) }),
      )
      silent (Faulty sense) None calm free none is s = absurd s

      by : IsDecided x h q r v → IsFromMore shared more h (λ a b. Step a h q r b) v
      by (inl (inl p)) =
          let here = still power_on ∙ p.here in
          comes (after_report to h power_on) (after_report x h power_on) (rw here (p.reply, refl)) p.after refl (λ g code. reported_no_more (shared g) x to h power_on g code (no_more g code))
      by (inl (inr c)) =
          let calm = still power_on ∙ c.calm in
          let kept = c.kept in
          comes to x (rw (kept, calm) (c.reply, refl)) c.after refl no_more
      by (inr (inl t)) =
          let code = t.reports.code in
          let calm = still power_on ∙ t.calm in
          let free = t.free in
          let some = any ∙ t.any in
          comes (after_report to h code) (after_report x h code) (rw (some, free, calm) (record { code = code; pending = still code ∙ t.reports.pending; reply = t.reports.reply; after = refl }))
          t.reports.after refl (λ g other. reported_no_more (shared g) x to h code g other (no_more g other))
      by (inr (inr s)) =
          let made = silent q (fault x.registry h q) (still power_on ∙ s.calm) s.free (any ∙ s.none) refl s.step in
          record { from = to; less = at_most (shared h) refl; after = made.0; answer = made.1; below = made.2 }

  pub early_from_more : (q : Request) (r : Reply) (v : UnitState) → ReportsEarly x h q r v → IsFromMore shared more h (λ a b. ReportsEarly a h q r b) v
  unfolding joined
  early_from_more q r v early =
      let code = early.reports.code in
      record {
        from = to;
        less = at_most (shared h) refl;
        after = after_report to h code;
        answer = record { calm = still power_on ∙ early.calm; kept = early.kept; reports = record { code = code; pending = still code ∙ early.reports.pending; reply = early.reports.reply; after = refl } };
        below = subst (IsBelow shared (after_report to h code)) (sym early.reports.after) (record { registry = refl; pending = λ g other. reported_no_more (shared g) x to h code g other (no_more g other) });
      }

-- ---- states with less pending

pub no_more_through : (b a c d : Bool) → NoMore b a c → NoMore b c d → NoMore b a d
no_more_through true a c d one two = λ is. two (one is)
no_more_through false a c d one two = one ∙ two

pub same_below : (shared : ℕ → Bool) (u : UnitState) → IsBelow shared u u
same_below shared u = record { registry = refl; pending = λ g code. no_more_same (shared g) _ _ refl }

pub below_through : (shared : ℕ → Bool) (u v w : UnitState) → IsBelow shared u v → IsBelow shared v w → IsBelow shared u w
below_through shared u v w one two = record {
  registry = two.registry ∙ one.registry;
  pending = λ g code. no_more_through (shared g) _ _ _ (two.pending g code) (one.pending g code);
}

pub at_most_below : (shared : ℕ → Bool) (u : UnitState) (h : ℕ) (v : UnitState) → IsAtMost (shared h) u h v → IsBelow shared u v
at_most_below shared u h v most = at (shared h) refl most
  where
    at : (b : Bool) → shared h ≡ b → IsAtMost b u h v → IsBelow shared u v
    at false is same = subst (IsBelow shared u) (sym same) (same_below shared u)
    at true is less = record { registry = less.registry; pending = λ g code. of g code (eqb_tells g h) }
      where
        of : (g code : ℕ) → (((g == h) ≡ true) × (g ≡ h)) ⊎ (((g == h) ≡ false) × (g ≢ h)) → NoMore (shared g) (is_pending v g code) (is_pending u g code)
        of g code (inl own) = subst (λ k. NoMore (shared k) (is_pending v k code) (is_pending u k code)) (sym own.1) (subst (λ b. NoMore b (is_pending v h code) (is_pending u h code)) (sym is) (less.own code))
        of g code (inr other) = no_more_same (shared g) _ _ (less.others g code other.1)

-- a reset tells both
pub reset_no_more : (b : Bool) (v u : UnitState) (g code : ℕ) → v.registry.hosts ≡ u.registry.hosts → NoMore b (is_pending v g code) (is_pending u g code) → NoMore b (is_pending (reset v) g code) (is_pending (reset u) g code)
reset_no_more b v u g code hosts less = told b less
  where
    alike : (b : Bool) → (b || (nat_lt g v.registry.hosts && code == power_on)) ≡ (b || (nat_lt g u.registry.hosts && code == power_on))
    alike b = ap (λ n. b || (nat_lt g n && code == power_on)) hosts

    more : (a c t : Bool) → (a ≡ true → c ≡ true) → (a || t) ≡ true → (c || t) ≡ true
    more true c t less is = ap (λ x. x || t) (less refl)
    more false true t less is = refl
    more false false t less is = is

    told : (b : Bool) → NoMore b (is_pending v g code) (is_pending u g code) → NoMore b (is_pending (reset v) g code) (is_pending (reset u) g code)
    told false same = pending-reset v g code ∙ ap (λ b. b || (nat_lt g v.registry.hosts && code == power_on)) same ∙ alike (is_pending u g code) ∙ sym (pending-reset u g code)
    told true less = λ is.
        pending-reset u g code
        ∙ more (is_pending v g code) (is_pending u g code) (nat_lt g u.registry.hosts && code == power_on) less (sym (alike (is_pending v g code)) ∙ sym (pending-reset v g code) ∙ is)

pub reset_below : (shared : ℕ → Bool) (u v : UnitState) → IsBelow shared u v → IsBelow shared (reset u) (reset v)
reset_below shared u v below = record { registry = below.registry; pending = λ g code. reset_no_more (shared g) v u g code (ap (λ (k : State). k.hosts) below.registry) (below.pending g code) }
