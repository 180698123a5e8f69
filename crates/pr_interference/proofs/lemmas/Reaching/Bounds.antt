-- The reach of each clause, and what is possible within it.
use Rattle.pr_interference.proofs.Common.{◌≡◌, ℕ, zero, suc, ◌<◌, ◌≤◌, Bool, true, false, not, ◌&&◌, ◌||◌, ◌≢◌, ◌⊎◌, List, length, if◌then◌else◌, ◌==◌, bit_or, Some, None, Option, sym, refl, ap, ◌∙◌, subst, inl, inr, arith, false≢true, and_parts, eqb_tells, nat_tests, has_wide, has, BitSet, MOST_NEXUSES, Kind, is_kind, is_told_of_loss, is_held_by_all, key_of, is_registered, kind_of, new_reservation, IsKey, Held, One, UnitState, is_action, names, holds, Action, Clause, has_at, view_in, Scope, number_of, Item, Registration, Reservation, Attentions, IsSo, IsPossible, Shows, Possibilities, one_registration, one_attentions, number_in, purpose_of_preempt, Place, Purpose, Allows, Adds, same_reservation, few_keys, Onlooker, Reach, purpose_for, PlaceLeads, IsWatched, IsOnlooking, ClauseLeads, ClauseLeaves, count_of_reservations, ATTENTION_SETS, MOST_KEYS, or_left}
use Rattle.pr_unit.specs.declared.demand.Demand.TheVariants.{Register, Unregister, Reserve, Release, Clear, PreemptAll, Preempt}
use Rattle.std.specs.List.{All as Each}
use Rattle.std.proofs.lemmas.Bool.{or_right}
use Rattle.std.proofs.lemmas.Option.{same_Some, slice_get_within, get_or_from_slice_get}
use Rattle.std.specs.Prelude.{get_or}
use Rattle.std.proofs.Common.{option_map}
use Rattle.pr_cdb.specs.declared.reply.Sense.{Sense}
use Rattle.pr_cdb.specs.declared.codes.TheConstants.{INVALID_FIELD_IN_PARAMETER_LIST}
use Rattle.pr_registry.specs.Registrations.{holds_alone}
use Rattle.pr_unit.specs.Conduct.{illegal}
use Rattle.pr_unit.specs.inside.Readiness.{IsReady}
use Rattle.pr_roles.specs.declared.role.Action.TheVariants as action
use Rattle.pr_roles.specs.declared.role.Condition.{Condition}
use Rattle.pr_roles.specs.declared.role.Condition.TheVariants as condition
use Rattle.pr_roles.specs.Keys.{key_at}
use Rattle.pr_views.specs.Views.{IsSeen}
use Rattle.pr_views.proofs.lemmas.Possibilities.Numbers.{once_of, same_registration}
use Rattle.pr_regions.proofs.lemmas.Showing.Numbers.{AreDistinct}
use Rattle.pr_regions.proofs.lemmas.Purposes.Conduct.{key_named, after_for, change_for, fault_for, keyed, IsNamed, asked}
use Rattle.pr_regions.proofs.lemmas.Regions.ChangedStates.{then_in}
use Rattle.pr_regions.specs.Conditions.{holds_as}
use Rattle.pr_regions.proofs.lemmas.Conditions.Senders.{holds_by}
use Rattle.pr_interference.specs.inside.Reaching.{IsTold, IsWithin, IsAtMost, IsReach, MayAllGo, IsMost, HasShown, HasEveryKey, HasEveryKeyBut}
use Rattle.pr_interference.proofs.lemmas.Interfering.Placements.{has_number}
use Rattle.pr_interference.proofs.lemmas.Interfering.RoleEffects.{adds_placed}
use Rattle.pr_interference.proofs.lemmas.Clauses.Spellings.{not_refused}
use Rattle.pr_interference.proofs.lemmas.Reaching.Effects.{register_within, unregister_within, reserve_within, release_within, clear_within, preempt_all_within, preempt_key_within}

-- ---- what a clause asks for, and what becomes of the state

record IsServed (s : Scope) (u w : UnitState) (from : ℕ) (p : Purpose) : Type 0 where
  named : IsNamed s.keys p
  ready : IsReady u.registry from (keyed s.keys p)
  whole : fault_for s.keys u.registry from p ≡ None
  after : w ≡ then_in u (after_for s.keys u.registry from p) (change_for s.keys u.registry from p)

module _ (s : Scope) (o : Onlooker) (place : Place) (clause : Clause) (reach : Reach) (is : IsWatched s o place) (fits : is_action s.keys clause.action ≡ true) where
  abbrev Leads : UnitState → UnitState → Type 0
  Leads = PlaceLeads (view_in s o.view) clause place.sender place.reservation

  few : length s.keys ≤ MOST_KEYS
  few = few_keys s.keys is.known.fits.scope.keys

  stands : (u w : UnitState) → Leads u w → u.registry.held ≡ place.held
  stands u w led = same_reservation s o.view place u is.known led.leads.shown led.leads.reserved

  served : (u w : UnitState) (a : Action) (p : Purpose) → Leads u w → clause.action ≡ a → purpose_for s.keys a u.registry.held ≡ Some p → IsServed s u w place.sender p
  served u w a p led acts asks =
      let same : led.purpose ≡ p = same_Some led.purpose p (sym led.meant ∙ ap (λ b. purpose_for s.keys b u.registry.held) acts ∙ asks) in
      let c = led.leads.command in
      let has = has_number s.keys clause.action u.registry.held led.purpose few fits led.meant in
      let known = asked s.keys u.registry place.sender led.purpose c has led.leads.asked (not_refused u.registry place.sender c led.leads.free.free) in
      subst (IsServed s u w place.sender) same (record {
        named = known.named;
        ready = known.ready;
        whole = sym known.faulty ∙ led.leads.free.whole;
        after = led.leads.after ∙ (λ i. then_in u (known.after i) (known.change i));
      })

  within : (u w : UnitState) (p : Purpose) → IsServed s u w place.sender p
      → IsWithin s place.sender reach u (then_in u (after_for s.keys u.registry place.sender p) (change_for s.keys u.registry place.sender p)) → IsWithin s place.sender reach u w
  within u w p is there = subst (IsWithin s place.sender reach u) (sym is.after) there

  -- ---- action by action

  pub register_reach : (key : ℕ) → clause.action ≡ action.Register key → has reach.given (number_in s.keys key) ≡ true → IsReach s o.view clause place.sender place.reservation reach
  register_reach key acts gives u w led =
      let j = number_in s.keys key in
      let known = served u w (action.Register key) (Register j) led acts refl in
      within u w (Register j) known (register_within s place.sender reach u few is.other j (key_named s.keys j) known.named.0 known.named.1 gives)

  pub unregister_reach : clause.action ≡ action.Unregister → has reach.given 0 ≡ true → ((holds_alone place.held place.sender || is_held_by_all place.held) ≡ true → has_wide reach.reservations 0 ≡ true)
      → ((holds_alone place.held place.sender && is_told_of_loss place.held) ≡ true → HasEveryKey reach.told_04) → IsReach s o.view clause place.sender place.reservation reach
  unregister_reach acts gives ends tells u w led =
      let held = stands u w led in
      within u w Unregister (served u w action.Unregister Unregister led acts refl)
      (unregister_within s place.sender reach u few is.other gives (λ e. ends (subst (λ v. (holds_alone v place.sender || is_held_by_all v) ≡ true) held e))
      (λ e. tells (subst (λ v. (holds_alone v place.sender && is_told_of_loss v) ≡ true) held e)))

  pub reserve_reach : (t : Kind) → clause.action ≡ action.Reserve t → (place.held ≡ None → has_wide reach.reservations (number_of place.hosts (Some (new_reservation t place.sender))) ≡ true)
      → IsReach s o.view clause place.sender place.reservation reach
  reserve_reach t acts takes u w led =
      within u w (Reserve t) (served u w (action.Reserve t) (Reserve t) led acts refl) (reserve_within s place.sender reach u few is.other t (λ none. here (takes (sym (stands u w led) ∙ none))))
    where
      here : has_wide reach.reservations (number_of place.hosts (Some (new_reservation t place.sender))) ≡ true → has_wide reach.reservations (number_of s.hosts (Some (new_reservation t place.sender))) ≡ true
      here = subst (λ n. has_wide reach.reservations (number_of n (Some (new_reservation t place.sender))) ≡ true) (sym is.known.hosts)

  pub release_reach : clause.action ≡ action.Release → ((holds_alone place.held place.sender || is_held_by_all place.held) ≡ true → has_wide reach.reservations 0 ≡ true)
      → (((holds_alone place.held place.sender || is_held_by_all place.held) && is_told_of_loss place.held) ≡ true → HasEveryKey reach.told_04) → IsReach s o.view clause place.sender place.reservation reach
  release_reach acts ends tells u w led = at u.registry.held refl
    where
      at : (v : Option Held) → u.registry.held ≡ v → IsWithin s place.sender reach u w
      at None none =
          let bad : None ≡ Some led.purpose = sym (λ i. purpose_for s.keys (acts i) (none i)) ∙ led.meant in
          cc
      at (Some v) some =
          let t = kind_of v in
          let held = stands u w led in
          within u w (Release t) (served u w action.Release (Release t) led acts (ap (option_map (λ x. Release (kind_of x))) some))
          (release_within s place.sender reach u few is.other t (λ e. ends (subst (λ x. (holds_alone x place.sender || is_held_by_all x) ≡ true) held e))
          (λ e. tells (subst (λ x. ((holds_alone x place.sender || is_held_by_all x) && is_told_of_loss x) ≡ true) held e)))

  pub clear_reach : clause.action ≡ action.Clear → has reach.given 0 ≡ true → HasEveryKey reach.removed → has_wide reach.reservations 0 ≡ true
      → HasEveryKey reach.told_03 → IsReach s o.view clause place.sender place.reservation reach
  clear_reach acts gives removes none tells u w led =
      within u w Clear (served u w action.Clear Clear led acts refl) (clear_within s place.sender reach u few is.other gives removes none tells)

  pub preempt_all_reach : (key : ℕ) (t : Kind) → clause.action ≡ action.Preempt key t → key ≡ 0 → (is_held_by_all place.held ≡ true → HasEveryKey reach.removed)
      → (is_held_by_all place.held ≡ true → has_wide reach.reservations (number_of place.hosts (Some (new_reservation t place.sender))) ≡ true)
      → (is_held_by_all place.held ≡ true → HasEveryKey reach.told_05) → IsReach s o.view clause place.sender place.reservation reach
  preempt_all_reach key t acts zero_is removes takes tells u w led =
      let known = served u w (action.Preempt 0 t) (PreemptAll t) led (acts ∙ ap (λ k. action.Preempt k t) zero_is) refl in
      let all = by_all (illegal INVALID_FIELD_IN_PARAMETER_LIST 0) (is_held_by_all u.registry.held) known.whole in
      let here : is_held_by_all place.held ≡ true = ap is_held_by_all (sym (stands u w led)) ∙ all in
      within u w (PreemptAll t) known
      (preempt_all_within s place.sender reach u few is.other t all (removes here) (subst (λ n. has_wide reach.reservations (number_of n (Some (new_reservation t place.sender))) ≡ true) (sym is.known.hosts) (takes here)) (tells here))
    where
      by_all : (sense : Sense) (b : Bool) → (if not b then Some sense else None) ≡ None → b ≡ true
      by_all sense true is = refl
      by_all sense false is = let bad : Some sense ≡ None = is in cc

  pub preempt_key_reach : (key : ℕ) (t : Kind) → clause.action ≡ action.Preempt key t → key ≢ 0
      → (has_at o.view.registrations place.sender (number_in s.keys key) ≡ true → has reach.given 0 ≡ true)
      → (is_held_by_all place.held ≡ true → has_at o.view.registrations place.sender (number_in s.keys key) ≡ true → MayAllGo o.view place.hosts place.sender (number_in s.keys key) → has_wide reach.reservations 0 ≡ true) → has reach.removed (number_in s.keys key) ≡ true
      → ((old : Kind) (g : ℕ) → place.held ≡ Some (One old g) → has_at o.view.registrations g (number_in s.keys key) ≡ true → has_wide reach.reservations (number_of place.hosts (Some (new_reservation t place.sender))) ≡ true)
      → ((old : Kind) (g : ℕ) → place.held ≡ Some (One old g) → has_at o.view.registrations g (number_in s.keys key) ≡ true → is_kind old t ≡ false
      → HasEveryKeyBut (number_in s.keys key) reach.told_04)
      → has reach.told_05 (number_in s.keys key) ≡ true → IsReach s o.view clause place.sender place.reservation reach
  preempt_key_reach key t acts some gives ends removes takes released removed u w led =
      let known = served u w (action.Preempt key t) (Preempt j t) led acts (ap (λ p. Some p) asks) in
      let named = known.named in
      within u w (Preempt j t) known
      (preempt_key_within s place.sender reach u few is.other j k seen.0 t once named.0 named.1 (nonzero s.keys j k is.known.fits.scope.keys.each named.1) seen.1.1 known.ready.0
      (λ same. gives (mine same)) (λ all same go. ends (ap is_held_by_all (sym held) ∙ all) (mine same) (may_go go)) removes
      (λ old g holds has. here (takes old g (sym held ∙ holds) (holder named.0 named.1 g has)))
      (λ old g holds has. released old g (sym held ∙ holds) (holder named.0 named.1 g has)) removed)
    where
      j : ℕ
      j = number_in s.keys key

      k : ℕ
      k = key_named s.keys j

      held : u.registry.held ≡ place.held
      held = stands u w led

      once : AreDistinct s.keys
      once = once_of s.keys is.known.fits.scope.keys

      asks : purpose_of_preempt s.keys key t ≡ Preempt j t
      asks = let other : (key == 0) ≡ false = grind (arith, nat_tests) in ap (λ b. if b then PreemptAll t else Preempt j t) other

      shown : Shows (view_in s o.view) u
      shown = led.leads.shown

      seen : (r : ℕ) × IsSeen (view_in s o.view) u (Registration place.sender r)
      seen = shown.registrations place.sender (subst (λ n. place.sender < n) (sym is.known.hosts) place.there)

      mine : seen.0 ≡ j → has_at o.view.registrations place.sender j ≡ true
      mine same = subst (λ r. has_at o.view.registrations place.sender r ≡ true) same seen.1.0.1

      -- what all others are they may be
      may_go : ((g n : ℕ) → g ≢ place.sender → IsSo s u (Registration g n) → (n ≡ 0) ⊎ (n ≡ j)) → MayAllGo o.view place.hosts place.sender j
      may_go go g below other =
          let it = shown.registrations g (subst (λ n. g < n) (sym is.known.hosts) below) in
          by it.0 it.1.0.1 (go g it.0 other it.1.1)
        where
          by : (n : ℕ) → has_at o.view.registrations g n ≡ true → (n ≡ 0) ⊎ (n ≡ j) → (has_at o.view.registrations g 0 || has_at o.view.registrations g j) ≡ true
          by n has (inl free) = or_left (has_at o.view.registrations g 0) (has_at o.view.registrations g j) (subst (λ m. has_at o.view.registrations g m ≡ true) free has)
          by n has (inr keyed) = or_right (has_at o.view.registrations g 0) (has_at o.view.registrations g j) (subst (λ m. has_at o.view.registrations g m ≡ true) keyed has)

      -- a holder with the key may have its number
      holder : j ≤ length s.keys → key_at s.keys j ≡ Some k → (g : ℕ) → key_of u.registry g ≡ Some k → has_at o.view.registrations g j ≡ true
      holder small named g has =
          let it = shown.registrations g (subst (λ n. g < n) shown.hosts (shown.formed.registry.keys g k has).0) in
          let same : it.0 ≡ j = same_registration s.keys it.0 j once it.1.1.1 small (sym it.1.1.2 ∙ has ∙ sym named) in
          subst (λ r. has_at o.view.registrations g r ≡ true) same it.1.0.1

      here : has_wide reach.reservations (number_of place.hosts (Some (new_reservation t place.sender))) ≡ true → has_wide reach.reservations (number_of s.hosts (Some (new_reservation t place.sender))) ≡ true
      here = subst (λ n. has_wide reach.reservations (number_of n (Some (new_reservation t place.sender))) ≡ true) (sym is.known.hosts)

      nonzero : (keys : List ℕ) (j k : ℕ) → Each IsKey keys → key_at keys j ≡ Some k → (k == 0) ≡ false
      nonzero keys zero k each there = let bad : None ≡ Some k = there in cc
      nonzero keys (suc i) k each there =
          let key = each i 0 (slice_get_within keys i k there) in
          let same : get_or keys i 0 ≡ k = get_or_from_slice_get keys i k 0 there in
          let positive : 1 ≤ k = subst (λ n. 1 ≤ n) same key.0 in
          grind (arith, nat_tests)

  -- a condition that no registered sender meets is met by none
  pub forbidden_reach : holds_as clause.condition place.held place.sender true ≡ false → IsReach s o.view clause place.sender place.reservation reach
  forbidden_reach none u w led =
      let permitted = (and_parts (names clause.action led.leads.command) (holds clause.condition u.registry place.sender) led.leads.free.permitted).1 in
      let meets = subst (λ v. holds_as clause.condition v place.sender (is_registered u.registry place.sender) ≡ true) (stands u w led) (sym (holds_by clause.condition u.registry place.sender) ∙ permitted) in
      absurd (false≢true (sym none ∙ registered_too clause.condition place.held (is_registered u.registry place.sender) meets))
    where
      registered_too : (condition : Option Condition) (v : Option Held) (b : Bool) → holds_as condition v place.sender b ≡ true → holds_as condition v place.sender true ≡ true
      registered_too (Some condition.Holder) None b meets = meets
      registered_too (Some condition.Holder) (Some (One t h)) b meets = meets
      registered_too (Some condition.Reserved) v b meets = meets
      registered_too _ _ b meets = refl

module _ (s : Scope) (o : Onlooker) (clause : Clause) (reach : Reach) (is : IsOnlooking s o) where
  -- ---- what is possible within a reach

  -- these possibilities have what the reach makes of those before
  pub record AreWithin (most : Possibilities) : Type 0 where
    pub given : (n : ℕ) → has reach.given n ≡ true → has_at most.registrations o.other n ≡ true
    pub freed : (g r : ℕ) → g < MOST_NEXUSES → g ≢ o.other → has_at o.view.registrations g r ≡ true → has reach.removed r ≡ true → has_at most.registrations g 0 ≡ true
    pub reservations : (x : ℕ) → has_wide reach.reservations x ≡ true → has_wide most.reservations x ≡ true
    pub pending : (r q n : ℕ) → has_at o.view.registrations s.own r ≡ true → has o.view.pending q ≡ true → q < ATTENTION_SETS → IsTold reach r q n → has most.pending n ≡ true

  pub most_of_reach : (most : Possibilities) → ((x : ℕ) → IsReach s o.view clause o.other x reach) → AreWithin most → IsMost s o.view clause o.other most
  most_of_reach most reaches are x u w led = record {
    items = items;
    numbered = λ g there. let n = numbered g there in (n.0, n.1);
    pending = (told.0, told.1);
  }
    where
      within_it : IsWithin s o.other reach u w
      within_it = reaches x u w led

      shown : Shows (view_in s o.view) u
      shown = led.leads.shown

      -- what g is registered with, and why
      HasNumber : ℕ → Type 0
      HasNumber g = (n : ℕ) × IsSo s w (Registration g n) × (IsSo s u (Registration g n) ⊎ (has_at most.registrations g n ≡ true))

      sent : HasNumber o.other
      sent =
          let seen = shown.registrations o.other (subst (λ n. o.other < n) (sym is.hosts) o.other_there) in
          let found = within_it.sender seen.0 seen.1.1 in
          (found.0, found.1, at found.0 seen.0 seen.1.1 found.2)
        where
          at : (n r : ℕ) → IsSo s u (Registration o.other r) → (n ≡ r) ⊎ (has reach.given n ≡ true) → IsSo s u (Registration o.other n) ⊎ (has_at most.registrations o.other n ≡ true)
          at n r so (inl same) = inl (subst (λ m. IsSo s u (Registration o.other m)) (sym same) so)
          at n r so (inr gives) = inr (are.given n gives)

      others : (g : ℕ) → g < s.hosts → g ≢ o.other → HasNumber g
      others g there apart =
          let seen = shown.registrations g there in
          let found = within_it.others g seen.0 apart seen.1.1 in
          (found.0, found.1, at found.0 seen.0 seen.1.0.1 seen.1.1 found.2)
        where
          below : g < MOST_NEXUSES
          below = let most_hosts = is.fits.scope.hosts.1 in omega arith

          at : (n r : ℕ) → has_at o.view.registrations g r ≡ true → IsSo s u (Registration g r) → (n ≡ r) ⊎ ((n ≡ 0) × (has reach.removed r ≡ true))
              → IsSo s u (Registration g n) ⊎ (has_at most.registrations g n ≡ true)
          at n r possible so (inl same) = inl (subst (λ m. IsSo s u (Registration g m)) (sym same) so)
          at n r possible so (inr gone) = inr (subst (λ m. has_at most.registrations g m ≡ true) (sym gone.0) (are.freed g r below apart possible gone.1))

      numbered : (g : ℕ) → g < s.hosts → HasNumber g
      numbered g there = at (eqb_tells g o.other)
        where
          at : (((g == o.other) ≡ true) × (g ≡ o.other)) ⊎ (((g == o.other) ≡ false) × (g ≢ o.other)) → HasNumber g
          at (inl same) = subst HasNumber (sym same.1) sent
          at (inr other) = others g there other.1

      told : (n : ℕ) × IsSo s w (Attentions n) × (IsSo s u (Attentions n) ⊎ (has most.pending n ≡ true))
      told =
          let owner = shown.registrations s.own is.fits.scope.own in
          let seen = shown.pending in
          let found = within_it.told owner.0 seen.0 owner.1.1 seen.1.1 in
          (found.0, found.1, at found.0 owner.0 seen.0 owner.1.0.1 seen.1.0 seen.1.1 found.2)
        where
          at : (n r q : ℕ) → has_at o.view.registrations s.own r ≡ true → has o.view.pending q ≡ true → IsSo s u (Attentions q) → (n ≡ q) ⊎ IsTold reach r q n
              → IsSo s u (Attentions n) ⊎ (has most.pending n ≡ true)
          at n r q owns pends so (inl same) = inl (subst (λ m. IsSo s u (Attentions m)) (sym same) so)
          at n r q owns pends so (inr tells) = inr (are.pending r q n owns pends so.0 tells)

      items : (i : Item) → IsSo s w i → IsSo s u i ⊎ IsPossible (view_in s most) i
      items (Registration g n) so =
          let found = numbered g so.0 in
          at found.0 (one_registration s w g found.0 n is.fits.scope found.1 so) found.2
        where
          at : (m : ℕ) → m ≡ n → IsSo s u (Registration g m) ⊎ (has_at most.registrations g m ≡ true) → IsSo s u (Registration g n) ⊎ IsPossible (view_in s most) (Registration g n)
          at m same (inl before) = inl (subst (λ r. IsSo s u (Registration g r)) same before)
          at m same (inr possible) = inr (so.0, subst (λ r. has_at most.registrations g r ≡ true) same possible)
      items (Reservation y) so = at within_it.reservation.0 (within_it.reservation.1 ∙ sym so) within_it.reservation.2
        where
          at : (z : ℕ) → z ≡ y → IsSo s u (Reservation z) ⊎ (has_wide reach.reservations z ≡ true) → IsSo s u (Reservation y) ⊎ (has_wide most.reservations y ≡ true)
          at z same (inl before) = inl (subst (λ r. IsSo s u (Reservation r)) same before)
          at z same (inr takes) = inr (subst (λ r. has_wide most.reservations r ≡ true) same (are.reservations z takes))
      items (Attentions q) so = at told.0 (one_attentions s w told.0 q told.1 so) told.2
        where
          at : (n : ℕ) → n ≡ q → IsSo s u (Attentions n) ⊎ (has most.pending n ≡ true) → IsSo s u (Attentions q) ⊎ (has most.pending q ≡ true)
          at n same (inl before) = inl (subst (λ r. IsSo s u (Attentions r)) same before)
          at n same (inr possible) = inr (subst (λ r. has most.pending r ≡ true) same possible)

-- ---- an answer that has the most

pub adds_most : (s : Scope) (o : Onlooker) (clause : Clause) (old answer : Possibilities) (Leads : UnitState → UnitState → Type 0) → IsOnlooking s o → is_action o.keys.now clause.action ≡ true → HasShown s o.view old
    → IsMost s o.view clause o.other answer → Adds s old answer Leads (ClauseLeaves (view_in s o.view) clause o.other)
    → Adds s old answer (ClauseLeads (view_in s o.view) clause o.other) (ClauseLeaves (view_in s o.view) clause o.other)
adds_most s o clause old answer Leads is declared shown most adds = adds_placed s o clause old answer is declared shown (record { kept = adds.kept; all = all; only = adds.only })
  where
    all : (u w : UnitState) → (x : ℕ) × (x < count_of_reservations o.hosts) × PlaceLeads (view_in s o.view) clause o.other x u w → Allows s answer w
    all u w led = record { items = λ i so. at i (known.items i so); numbered = known.numbered; pending = known.pending }
      where
        known : IsAtMost s answer u w
        known = most led.0 u w led.2

        at : (i : Item) → IsSo s u i ⊎ IsPossible (view_in s answer) i → IsPossible (view_in s answer) i
        at i (inl before) = adds.kept i (shown u i led.2.leads.shown before)
        at i (inr possible) = possible
