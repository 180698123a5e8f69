-- Whatever becomes another by a service action is in its reach.
use Rattle.pr_interference.proofs.Common.{◌≡◌, ℕ, zero, suc, ◌≤◌, Bool, true, false, not, ◌&&◌, ◌||◌, ◌≢◌, ◌⊎◌, length, if◌then◌else◌, ◌==◌, bit_or, Some, None, Option, sym, refl, ap, ◌∙◌, subst, inl, inr, arith, false≢true, and_parts, and_from, eqb_tells, nat_tests, has_wide, has, Kind, is_kind, is_told_of_loss, is_held_by_all, State, key_of, is_registered, new_reservation, Held, One, UnitState, Scope, number_of, Registration, IsSo, is_pending_after, contains-told, Reach, MOST_KEYS, or_left}
use Rattle.pr_unit.specs.declared.demand.Demand.TheVariants.{Unregister}
use Rattle.std.proofs.Common.{is_some, unwrap_or}
use Rattle.std.specs.Int.Bits.{or_zero_r}
use Rattle.std.specs.FinSet as set
use Rattle.std.specs.FinMap as map
use Rattle.std.proofs.lemmas.Bool.{not-true}
use Rattle.pr_registry.specs.declared.held.Held.TheVariants.{All}
use Rattle.pr_registry.specs.declared.change.Change.{Change as Told}
use Rattle.pr_registry.specs.Hosts.{Keys, just, without, hosts_with, is_key, is_empty}
use Rattle.pr_registry.specs.Registrations.{holds_alone, is_holder_of}
use Rattle.pr_registry.specs.Changes.{Case, ReplacesAll, ReplacesHolder, RemovesKey, no_change, is_held_as, is_released, preempt_case, change_on_unregister, change_on_release, change_on_clear, change_on_preempt}
use Rattle.pr_registry.specs.Effects.{with_registration as register, held_by_rest, held_or, with_reservation, after_release, without_registration, after_clear, after_preempt}
use Rattle.pr_registry.proofs.lemmas.Sets.{get-without, contains-hosts_with, key_is, not_empty_from_some}
use Rattle.pr_roles.specs.Keys.{key_at}
use Rattle.pr_views.proofs.lemmas.Possibilities.Numbers.{same_registration}
use Rattle.pr_regions.specs.Transitions.{never, Audience, tells_nobody}
use Rattle.pr_regions.specs.inside.Parts.{is_of_registrant, told_if, told_but, tells_of_clearing, tells_of_loss, tells_of_removal, tells_of_replacement, lost_if}
use Rattle.pr_regions.proofs.lemmas.Showing.Numbers.{AreDistinct}
use Rattle.pr_unit.specs.Conduct.{leaves, unregistering}
use Rattle.pr_regions.proofs.lemmas.Purposes.Conduct.{after_for, change_for}
use Rattle.pr_regions.proofs.lemmas.Regions.ChangedStates.{Is, then_in}
use Rattle.pr_regions.proofs.lemmas.Regions.ToldAttentions.{contains-codes_told, told-lt, flags}
use Rattle.pr_regions.proofs.lemmas.Regions.Effects.{Becomes, still, on_register, on_unregister, on_release, on_clear, is_key-number, is_registered-number}
use Rattle.pr_regions.proofs.lemmas.Regions.PreemptCases.{in_case, on_preempt_all, on_preempt_holder, on_preempt_key}
use Rattle.pr_interference.specs.inside.Reaching.{IsTold, IsWithin, HasEveryKey, HasEveryKeyBut}

-- ---- what a registry becomes

-- with registration r a host is told of nothing, or of one thing that is in reach
abbrev pub Tells : Reach → ℕ → Bool → Bool → Bool → Type 0
Tells reach r false false false = Unit {0}
Tells reach r true false false = has reach.told_03 r ≡ true
Tells reach r false true false = has reach.told_04 r ≡ true
Tells reach r false false true = has reach.told_05 r ≡ true
Tells reach r _ _ _ = ⊥

-- what a registry becomes is in reach
pub record IsInReach (hosts : ℕ) (reach : Reach) (u : State) (to : Option ℕ) (out : ℕ → Bool) (left : ℕ) (tells : Audience) : Type 0 where
  pub given : (j : ℕ) → to ≡ Some j → has reach.given j ≡ true
  pub removed : (r : ℕ) → r ≤ MOST_KEYS → out r ≡ true → has reach.removed r ≡ true
  pub reservation : (left ≡ number_of hosts u.held) ⊎ (has_wide reach.reservations left ≡ true)
  pub told : (r : ℕ) → r ≤ MOST_KEYS → Tells reach r (tells.told_03 r) (tells.told_04 r) (tells.told_05 r)

told_one : (reach : Reach) (r q : ℕ) (a b c : Bool) → Tells reach r a b c → (bit_or q (flags a b c) ≡ q) ⊎ IsTold reach r q (bit_or q (flags a b c))
told_one reach r q false false false tells = inl (or_zero_r q)
told_one reach r q true false false tells = inr (inl (tells, refl))
told_one reach r q false true false tells = inr (inr (inl (tells, refl)))
told_one reach r q false false true tells = inr (inr (inr (tells, refl)))
told_one reach r q _ _ _ tells = absurd tells

pub within_becomes : (s : Scope) (from : ℕ) (reach : Reach) (u : UnitState) (v : State) (t : Told) (to : Option ℕ) (out : ℕ → Bool) (left : ℕ) (tells : Audience)
    → length s.keys ≤ MOST_KEYS → s.own ≢ from → Becomes s.keys s.hosts from to out left tells u.registry v t → IsInReach s.hosts reach u.registry to out left tells
    → IsWithin s from reach u (then_in u v t)
within_becomes s from reach u v t to out left tells few apart becomes is = record {
  sender = λ r so.
      let new = becomes.sender r (record { known = so.1; key = so.2 }) in
      (unwrap_or to r, (so.0, new.known, new.key), given to r (λ j at. is.given j at));
  others = λ g r other so.
      let key = becomes.others g r other (record { known = so.1; key = so.2 }) in
      by_removal g r (out r) refl so key;
  reservation = (left, becomes.reservation, is.reservation);
  told = λ r q so pending.
      let at : Is s.keys u.registry s.own r = record { known = so.1; key = so.2 } in (
        bit_or q (flags (tells.told_03 r) (tells.told_04 r) (tells.told_05 r)),
        (
          told-lt q (tells.told_03 r) (tells.told_04 r) (tells.told_05 r) pending.0,
          λ code. contains-told u.pending t s.own code
              ∙ (λ i. is_pending_after (pending.1 code i) (becomes.told.told_03.others s.own r apart at i) (becomes.told.told_04.others s.own r apart at i) (becomes.told.told_05.others s.own r apart at i) code)
              ∙ sym (contains-codes_told q (tells.told_03 r) (tells.told_04 r) (tells.told_05 r) code),
        ),
        told_one reach r q (tells.told_03 r) (tells.told_04 r) (tells.told_05 r) (is.told r (let small = so.1 in omega arith)),
      );
}
  where
    given : (o : Option ℕ) (r : ℕ) → ((j : ℕ) → o ≡ Some j → has reach.given j ≡ true) → (unwrap_or o r ≡ r) ⊎ (has reach.given (unwrap_or o r) ≡ true)
    given None r gives = inl refl
    given (Some j) r gives = inr (gives j refl)

    by_removal : (g r : ℕ) (b : Bool) → out r ≡ b → IsSo s u (Registration g r) → key_of v g ≡ (if b then None else key_of u.registry g)
        → (n : ℕ) × IsSo s (then_in u v t) (Registration g n) × ((n ≡ r) ⊎ ((n ≡ 0) × (has reach.removed r ≡ true)))
    by_removal g r true goes so key = (0, (so.0, omega arith, key), inr (refl, is.removed r (let small = so.1 in omega arith) goes))
    by_removal g r false stays so key = (r, (so.0, so.1, key ∙ so.2), inl refl)

-- ---- action by action

module _ (s : Scope) (from : ℕ) (reach : Reach) (u : UnitState) where
  abbrev Stays : ℕ → Type 0
  Stays left = (left ≡ number_of s.hosts u.registry.held) ⊎ (has_wide reach.reservations left ≡ true)

  -- that nobody is told is in every reach
  told_none : (r : ℕ) → r ≤ MOST_KEYS → Tells reach r false false false
  told_none r few = tt

  told_registered_03 : HasEveryKey reach.told_03 → (r : ℕ) → r ≤ MOST_KEYS → Tells reach r (is_of_registrant r) false false
  told_registered_03 tells zero few = tt
  told_registered_03 tells (suc i) few = let is : is_of_registrant (suc i) ≡ true = grind (arith, nat_tests) in subst (λ b. Tells reach (suc i) b false false) (sym is) (tells (suc i) (omega arith) few)

  told_registered_05 : HasEveryKey reach.told_05 → (r : ℕ) → r ≤ MOST_KEYS → Tells reach r false false (is_of_registrant r)
  told_registered_05 tells zero few = tt
  told_registered_05 tells (suc i) few = let is : is_of_registrant (suc i) ≡ true = grind (arith, nat_tests) in subst (λ b. Tells reach (suc i) false false b) (sym is) (tells (suc i) (omega arith) few)

  told_if_04 : (b : Bool) → (b ≡ true → HasEveryKey reach.told_04) → (r : ℕ) → r ≤ MOST_KEYS → Tells reach r false (told_if b r) false
  told_if_04 false tells r few = tt
  told_if_04 true tells zero few = tt
  told_if_04 true tells (suc i) few = let is : is_of_registrant (suc i) ≡ true = grind (arith, nat_tests) in subst (λ b. Tells reach (suc i) false b false) (sym is) (tells refl (suc i) (omega arith) few)

  -- the reservation that is left is the one from before, or none where that is in reach
  left_or_none : (o : Option Held) → (o ≡ u.registry.held) ⊎ ((o ≡ None) × (has_wide reach.reservations 0 ≡ true)) → Stays (number_of s.hosts o)
  left_or_none o (inl same) = inl (ap (number_of s.hosts) same)
  left_or_none o (inr ended) = inr (ap (λ v. has_wide reach.reservations (number_of s.hosts v)) ended.0 ∙ ended.1)

  -- nothing is removed or given
  keeps : (left : ℕ) (those : ℕ → Bool) → Stays left → ((r : ℕ) → r ≤ MOST_KEYS → Tells reach r false (those r) false) → IsInReach s.hosts reach u.registry None never left (tells_of_loss those)
  keeps left those stays tells = record {
    given = λ j is. let bad : None ≡ Some j = is in cc;
    removed = λ r few goes. absurd (false≢true goes);
    reservation = stays;
    told = tells;
  }

  module _ (few : length s.keys ≤ MOST_KEYS) (apart : s.own ≢ from) where
    pub register_within : (j k : ℕ) → j ≤ length s.keys → key_at s.keys j ≡ Some k → has reach.given j ≡ true → IsWithin s from reach u (then_in u (register u.registry from k) no_change)
    register_within j k small named gives =
        within_becomes s from reach u _ no_change (Some j) never (number_of s.hosts u.registry.held) tells_nobody few apart (on_register s.keys s.hosts from j k u.registry small named)
        (record {
          given = λ i is. let same : j ≡ i = cc in subst (λ n. has reach.given n ≡ true) same gives;
          removed = λ r few goes. absurd (false≢true goes);
          reservation = inl refl;
          told = told_none;
        })

    -- what a registrant's unregistering ends and tells
    abbrev Ends : Type 0
    Ends = (holds_alone u.registry.held from || is_held_by_all u.registry.held) ≡ true → has_wide reach.reservations 0 ≡ true

    abbrev Releases : Type 0
    Releases = (holds_alone u.registry.held from && is_told_of_loss u.registry.held) ≡ true → HasEveryKey reach.told_04

    -- a registrant unregisters
    unregistered_within : has reach.given 0 ≡ true → Ends → Releases → IsWithin s from reach u (then_in u (without_registration u.registry from) (change_on_unregister u.registry from))
    unregistered_within gives ends tells =
        let b = holds_alone u.registry.held from && is_told_of_loss u.registry.held in
        within_becomes s from reach u (without_registration u.registry from) (change_on_unregister u.registry from) (Some 0) never (number_of s.hosts (without_registration u.registry from).held) (tells_of_loss (told_if b)) few apart
        (on_unregister s.keys s.hosts from u.registry)
        (record {
          given = λ i is. let same : 0 ≡ i = cc in subst (λ n. has reach.given n ≡ true) same gives;
          removed = λ r few goes. absurd (false≢true goes);
          reservation = left_or_none (without_registration u.registry from).held (left u.registry.held (holds_alone u.registry.held from) ends);
          told = told_if_04 b tells;
        })
      where
        Left : Option Held → Option Held → Type 0
        Left o v = (o ≡ v) ⊎ ((o ≡ None) × (has_wide reach.reservations 0 ≡ true))

        rest : (v : Option Held) → (is_held_by_all v ≡ true → has_wide reach.reservations 0 ≡ true) → Left (held_by_rest (without u.registry.keys (just from)) v) v
        rest None ends = inl refl
        rest (Some (One t g)) ends = inl refl
        rest (Some (All t)) ends = at (is_empty (without u.registry.keys (just from)))
          where
            at : (b : Bool) → Left (if b then None else Some (All t)) (Some (All t))
            at true = inr (refl, ends refl)
            at false = inl refl

        left : (v : Option Held) (b : Bool) → ((b || is_held_by_all v) ≡ true → has_wide reach.reservations 0 ≡ true) → Left (if b then None else held_by_rest (without u.registry.keys (just from)) v) v
        left v true ends = inr (refl, ends refl)
        left v false ends = rest v ends

    pub unregister_within : has reach.given 0 ≡ true → Ends → Releases
        → IsWithin s from reach u (then_in u (after_for s.keys u.registry from Unregister) (change_for s.keys u.registry from Unregister))
    unregister_within gives ends tells = at (is_registered u.registry from)
      where
        at : (b : Bool) → IsWithin s from reach u (then_in u (if b then unregistering u.registry from else leaves u.registry).after (if b then unregistering u.registry from else leaves u.registry).change)
        at true = unregistered_within gives ends tells
        at false =
            let now = number_of s.hosts u.registry.held in
            within_becomes s from reach u u.registry no_change None never now tells_nobody few apart (still s.keys s.hosts from u.registry u.registry (λ g. refl)) (keeps now never (inl refl) told_none)

    pub reserve_within : (t : Kind) → (u.registry.held ≡ None → has_wide reach.reservations (number_of s.hosts (Some (new_reservation t from))) ≡ true) → IsWithin s from reach u (then_in u (with_reservation u.registry from t) no_change)
    reserve_within t takes =
        let now = number_of s.hosts (with_reservation u.registry from t).held in
        within_becomes s from reach u (with_reservation u.registry from t) no_change None never now tells_nobody few apart (still s.keys s.hosts from u.registry (with_reservation u.registry from t) (λ g. refl))
        (keeps now never (at u.registry.held takes) told_none)
      where
        at : (v : Option Held) → (v ≡ None → has_wide reach.reservations (number_of s.hosts (Some (new_reservation t from))) ≡ true)
            → (number_of s.hosts (held_or v (new_reservation t from)) ≡ number_of s.hosts v) ⊎ (has_wide reach.reservations (number_of s.hosts (held_or v (new_reservation t from))) ≡ true)
        at None takes = inr (takes refl)
        at (Some v) takes = inl refl

    pub release_within : (t : Kind) → Ends → (((holds_alone u.registry.held from || is_held_by_all u.registry.held) && is_told_of_loss u.registry.held) ≡ true → HasEveryKey reach.told_04)
        → IsWithin s from reach u (then_in u (after_release u.registry from t) (change_on_release u.registry from t))
    release_within t ends tells =
        let now = number_of s.hosts (after_release u.registry from t).held in
        let b = is_released u.registry from t && is_told_of_loss u.registry.held in
        within_becomes s from reach u (after_release u.registry from t) (change_on_release u.registry from t) None never now (tells_of_loss (told_if b)) few apart (on_release s.keys s.hosts from t u.registry)
        (keeps now (told_if b) (left_or_none (after_release u.registry from t).held (at (is_released u.registry from t) refl)) (told_if_04 b (λ is. tells (both is))))
      where
        -- who releases it holds it
        holds : (v : Option Held) → is_holder_of u.registry.keys v from ≡ true → (holds_alone v from || is_held_by_all v) ≡ true
        holds None is = absurd (false≢true is)
        holds (Some (One k g)) is = or_left (g == from) false is
        holds (Some (All k)) is = refl

        holder : is_released u.registry from t ≡ true → (holds_alone u.registry.held from || is_held_by_all u.registry.held) ≡ true
        holder is = holds u.registry.held (and_parts (is_holder_of u.registry.keys u.registry.held from) (is_held_as u.registry.held t) is).0

        both : (is_released u.registry from t && is_told_of_loss u.registry.held) ≡ true → ((holds_alone u.registry.held from || is_held_by_all u.registry.held) && is_told_of_loss u.registry.held) ≡ true
        both is =
            let parts = and_parts (is_released u.registry from t) (is_told_of_loss u.registry.held) is in
            and_from (holds_alone u.registry.held from || is_held_by_all u.registry.held) (is_told_of_loss u.registry.held) (holder parts.0) parts.1

        at : (b : Bool) → is_released u.registry from t ≡ b → ((if b then None else u.registry.held) ≡ u.registry.held) ⊎ (((if b then None else u.registry.held) ≡ None) × (has_wide reach.reservations 0 ≡ true))
        at true is = inr (refl, ends (holder is))
        at false is = inl refl

    -- whoever is registered may go
    goes : HasEveryKey reach.removed → (r : ℕ) → r ≤ MOST_KEYS → is_of_registrant r ≡ true → has reach.removed r ≡ true
    goes removes zero few is = absurd (false≢true is)
    goes removes (suc i) few is = removes (suc i) (omega arith) few

    pub clear_within : has reach.given 0 ≡ true → HasEveryKey reach.removed → has_wide reach.reservations 0 ≡ true → HasEveryKey reach.told_03
        → IsWithin s from reach u (then_in u (after_clear u.registry) (change_on_clear u.registry from))
    clear_within gives removes none tells =
        within_becomes s from reach u (after_clear u.registry) (change_on_clear u.registry from) (Some 0) is_of_registrant 0 (tells_of_clearing is_of_registrant) few apart (on_clear s.keys s.hosts from u.registry)
        (record {
          given = λ i is. let same : 0 ≡ i = cc in subst (λ n. has reach.given n ≡ true) same gives;
          removed = goes removes;
          reservation = inr none;
          told = told_registered_03 tells;
        })

    pub preempt_all_within : (t : Kind) → is_held_by_all u.registry.held ≡ true → HasEveryKey reach.removed
        → has_wide reach.reservations (number_of s.hosts (Some (new_reservation t from))) ≡ true → HasEveryKey reach.told_05
        → IsWithin s from reach u (then_in u (after_preempt u.registry from 0 (Some t)) (change_on_preempt u.registry from 0 (Some t)))
    preempt_all_within t all removes takes tells =
        let left = number_of s.hosts (Some (new_reservation t from)) in
        within_becomes s from reach u (after_preempt u.registry from 0 (Some t)) (change_on_preempt u.registry from 0 (Some t)) None is_of_registrant left (tells_of_removal is_of_registrant) few apart
        (in_case s.keys s.hosts from None is_of_registrant left (tells_of_removal is_of_registrant) u.registry 0 t ReplacesAll (replaces u.registry.held all) (on_preempt_all s.keys s.hosts from t u.registry))
        (record {
          given = λ j is. let bad : None ≡ Some j = is in cc;
          removed = goes removes;
          reservation = inr takes;
          told = told_registered_05 tells;
        })
      where
        replaces : (v : Option Held) → is_held_by_all v ≡ true → preempt_case u.registry.keys v 0 ≡ ReplacesAll
        replaces None is = absurd (false≢true is)
        replaces (Some (One t g)) is = absurd (false≢true is)
        replaces (Some (All t)) is = refl

    -- each but the sender is free or has the key j
    abbrev AllGo : ℕ → Type 0
    AllGo j = (g n : ℕ) → g ≢ from → IsSo s u (Registration g n) → (n ≡ 0) ⊎ (n ≡ j)

    -- whoever has the key j, which the sender may have itself, goes
    pub preempt_key_within : (j k r : ℕ) (t : Kind) → AreDistinct s.keys → j ≤ length s.keys → key_at s.keys j ≡ Some k → (k == 0) ≡ false → IsSo s u (Registration from r) → is_registered u.registry from ≡ true
        → (r ≡ j → has reach.given 0 ≡ true) → (is_held_by_all u.registry.held ≡ true → r ≡ j → AllGo j → has_wide reach.reservations 0 ≡ true) → has reach.removed j ≡ true
        → ((old : Kind) (g : ℕ) → u.registry.held ≡ Some (One old g) → key_of u.registry g ≡ Some k → has_wide reach.reservations (number_of s.hosts (Some (new_reservation t from))) ≡ true)
        → ((old : Kind) (g : ℕ) → u.registry.held ≡ Some (One old g) → key_of u.registry g ≡ Some k → is_kind old t ≡ false → HasEveryKeyBut j reach.told_04)
        → has reach.told_05 j ≡ true
        → IsWithin s from reach u (then_in u (after_preempt u.registry from k (Some t)) (change_on_preempt u.registry from k (Some t)))
    preempt_key_within j k r t once small named nonzero so present mine ends removes takes frees removed = at (preempt_case u.registry.keys u.registry.held k) refl
      where
        out : ℕ → Bool
        out n = n == j

        gone : (n : ℕ) → n ≤ MOST_KEYS → out n ≡ true → has reach.removed n ≡ true
        gone n few is = let same : n ≡ j = grind (arith, nat_tests) in subst (λ m. has reach.removed m ≡ true) (sym same) removes

        never_all : (v : Option Held) → preempt_case u.registry.keys v k ≡ ReplacesAll → ⊥
        never_all None is = let bad : RemovesKey ≡ ReplacesAll = is in cc
        never_all (Some (One t g)) is = by (is_key (map.get u.registry.keys g) k) is
          where
            by : (b : Bool) → (if b then ReplacesHolder t else RemovesKey) ≡ ReplacesAll → ⊥
            by true is = let bad : ReplacesHolder t ≡ ReplacesAll = is in cc
            by false is = let bad : RemovesKey ≡ ReplacesAll = is in cc
        never_all (Some (All t)) is = let bad : RemovesKey ≡ ReplacesAll = sym (ap (λ b. if b then ReplacesAll else RemovesKey) nonzero) ∙ is in cc

        -- the holder's reservation is replaced
        told_rest : (b : Bool) (n : ℕ) → n ≤ MOST_KEYS → (b ≡ true → HasEveryKeyBut j reach.told_04) → (((n == j) ≡ true) × (n ≡ j)) ⊎ (((n == j) ≡ false) × (n ≢ j))
            → Tells reach n false (told_but b j n) (n == j)
        told_rest b n few tells (inl same) =
            subst (λ x. Tells reach n false (b && (not (n == 0) && not x)) x) (sym same.0) (subst (λ x. Tells reach n false x true) (sym (nobody b (not (n == 0)))) (subst (λ m. has reach.told_05 m ≡ true) (sym same.1) removed))
          where
            nobody : (x y : Bool) → (x && (y && false)) ≡ false
            nobody true true = refl
            nobody true false = refl
            nobody false y = refl
        told_rest false n few tells (inr other) = subst (λ x. Tells reach n false false x) (sym other.0) tt
        told_rest true zero few tells (inr other) = subst (λ x. Tells reach 0 false false x) (sym other.0) tt
        told_rest true (suc i) few tells (inr other) =
            let some : not (suc i == 0) ≡ true = grind (arith, nat_tests) in
            subst (λ x. Tells reach (suc i) false (not (suc i == 0) && not x) x) (sym other.0) (subst (λ x. Tells reach (suc i) false (x && true) false) (sym some) (tells refl (suc i) (omega arith) few other.1))

        -- whose reservation it is
        HasHolder : Kind → Type 0
        HasHolder held = (g : ℕ) × (u.registry.held ≡ Some (One held g)) × (key_of u.registry g ≡ Some k)

        holder_of : (held : Kind) (v : Option Held) → u.registry.held ≡ v → preempt_case u.registry.keys v k ≡ ReplacesHolder held → HasHolder held
        holder_of held None stands is = let bad : RemovesKey ≡ ReplacesHolder held = is in cc
        holder_of held (Some (One old g)) stands is = by (is_key (map.get u.registry.keys g) k) refl is
          where
            by : (b : Bool) → is_key (map.get u.registry.keys g) k ≡ b → (if b then ReplacesHolder old else RemovesKey) ≡ ReplacesHolder held → HasHolder held
            by true keys is = let same : old ≡ held = cc in (g, stands ∙ ap (λ x. Some (One x g)) same, key_is (map.get u.registry.keys g) k keys)
            by false keys is = let bad : RemovesKey ≡ ReplacesHolder held = is in cc
        holder_of held (Some (All old)) stands is = let bad : RemovesKey ≡ ReplacesHolder held = sym (ap (λ b. if b then ReplacesAll else RemovesKey) nonzero) ∙ is in cc

        replaces : (held : Kind) → preempt_case u.registry.keys u.registry.held k ≡ ReplacesHolder held
            → IsWithin s from reach u (then_in u (after_preempt u.registry from k (Some t)) (change_on_preempt u.registry from k (Some t)))
        replaces held is =
            let left = number_of s.hosts (Some (new_reservation t from)) in
            let b = not (is_kind held t) in
            let holder = holder_of held u.registry.held refl is in
            within_becomes s from reach u (after_preempt u.registry from k (Some t)) (change_on_preempt u.registry from k (Some t)) None out left (tells_of_replacement (told_but b j) out) few apart
            (in_case s.keys s.hosts from None out left (tells_of_replacement (told_but b j) out) u.registry k t (ReplacesHolder held) is (on_preempt_holder s.keys s.hosts from j k t held u.registry once small named))
            (record {
              given = λ i is. let bad : None ≡ Some i = is in cc;
              removed = gone;
              reservation = inr (takes held holder.0 holder.1 holder.2);
              told = λ n few. told_rest b n few (λ new. frees held holder.0 holder.1 holder.2 (not-true (is_kind held t) new)) (eqb_tells n j);
            })

        -- the key is merely removed
        own : Bool
        own = r == j

        rest : Keys
        rest = without u.registry.keys (hosts_with u.registry.keys k)

        -- a sender with another key stays
        stays : own ≡ false → is_empty rest ≡ false
        stays other = by (key_of u.registry from) refl
          where
            kept : set.contains (hosts_with u.registry.keys k) from ≡ false
            kept = contains-hosts_with u.registry.keys k from ∙ is_key-number s.keys u.registry from r j k once small named (record { known = so.1; key = so.2 }) ∙ other

            by : (o : Option ℕ) → key_of u.registry from ≡ o → is_empty rest ≡ false
            by None is = absurd (false≢true (sym (ap is_some is) ∙ present))
            by (Some n) is = not_empty_from_some rest from n (get-without u.registry.keys (hosts_with u.registry.keys k) from ∙ ap (λ b. if b then None else map.get u.registry.keys from) kept ∙ is)

        -- where nobody is left, all others were free or had the key
        all_go : is_empty rest ≡ true → AllGo j
        all_go empty g n other so = by (key_of u.registry g) refl (eqb_tells n j)
          where
            at : Is s.keys u.registry g n
            at = record { known = so.1; key = so.2 }

            free : is_of_registrant n ≡ false → n ≡ 0
            free is = zero_if n is
              where
                zero_if : (m : ℕ) → is_of_registrant m ≡ false → m ≡ 0
                zero_if zero is = refl
                zero_if (suc i) is = let positive : is_of_registrant (suc i) ≡ true = grind (arith, nat_tests) in absurd (false≢true (sym is ∙ positive))

            by : (o : Option ℕ) → key_of u.registry g ≡ o → (((n == j) ≡ true) × (n ≡ j)) ⊎ (((n == j) ≡ false) × (n ≢ j)) → (n ≡ 0) ⊎ (n ≡ j)
            by o is (inl same) = inr same.1
            by None is (inr differs) = inl (free (sym (is_registered-number s.keys u.registry g n at) ∙ ap is_some is))
            by (Some m) is (inr differs) =
                let kept = contains-hosts_with u.registry.keys k g ∙ is_key-number s.keys u.registry g n j k once small named at ∙ differs.0 in
                let there = get-without u.registry.keys (hosts_with u.registry.keys k) g ∙ ap (λ b. if b then None else map.get u.registry.keys g) kept ∙ is in
                absurd (false≢true (sym (not_empty_from_some rest g m there) ∙ empty))

        left_rest : (v : Option Held) → (is_held_by_all v ≡ true → r ≡ j → AllGo j → has_wide reach.reservations 0 ≡ true) → (own ≡ true) ⊎ (own ≡ false) → (number_of s.hosts (held_by_rest rest v) ≡ number_of s.hosts v) ⊎ (has_wide reach.reservations (number_of s.hosts (held_by_rest rest v)) ≡ true)
        left_rest None ends mine_or_not = inl refl
        left_rest (Some (One t g)) ends mine_or_not = inl refl
        left_rest (Some (All t)) ends (inr other) = inl (ap (λ b. number_of s.hosts (if b then None else Some (All t))) (stays other))
        left_rest (Some (All t)) ends (inl same) = by (is_empty rest) refl
          where
            by : (b : Bool) → is_empty rest ≡ b → (number_of s.hosts (if b then None else Some (All t)) ≡ number_of s.hosts (Some (All t))) ⊎ (has_wide reach.reservations (number_of s.hosts (if b then None else Some (All t))) ≡ true)
            by true empty = let is : r ≡ j = grind (arith, nat_tests) in inr (ends refl is (all_go empty))
            by false some = inl refl

        gives : (b : Bool) → own ≡ b → (i : ℕ) → lost_if b ≡ Some i → has reach.given i ≡ true
        gives true same i is = let e : 0 ≡ i = cc in let equal : r ≡ j = grind (arith, nat_tests) in subst (λ n. has reach.given n ≡ true) e (mine equal)
        gives false other i is = let bad : None ≡ Some i = is in cc

        told_gone : (n : ℕ) (b : Bool) → (n == j) ≡ b → Tells reach n false false b
        told_gone n true is = let same : n ≡ j = grind (arith, nat_tests) in subst (λ m. has reach.told_05 m ≡ true) (sym same) removed
        told_gone n false is = tt

        one : (n : ℕ) → Is s.keys u.registry from n → (n == j) ≡ own
        one n is = ap (λ m. m == j) (same_registration s.keys n r once is.known so.1 (sym is.key ∙ so.2))

        mine_or_not : (b : Bool) → own ≡ b → (own ≡ true) ⊎ (own ≡ false)
        mine_or_not true is = inl is
        mine_or_not false is = inr is

        removes_key : preempt_case u.registry.keys u.registry.held k ≡ RemovesKey → IsWithin s from reach u (then_in u (after_preempt u.registry from k (Some t)) (change_on_preempt u.registry from k (Some t)))
        removes_key is =
            let left = number_of s.hosts (held_by_rest rest u.registry.held) in
            within_becomes s from reach u (after_preempt u.registry from k (Some t)) (change_on_preempt u.registry from k (Some t)) (lost_if own) out left (tells_of_removal out) few apart
            (in_case s.keys s.hosts from (lost_if own) out left (tells_of_removal out) u.registry k t RemovesKey is (on_preempt_key s.keys s.hosts from j k t u.registry own once small named one))
            (record {
              given = gives own refl;
              removed = gone;
              reservation = left_rest u.registry.held ends (mine_or_not own refl);
              told = λ n few. told_gone n (n == j) refl;
            })

        at : (case : Case) → preempt_case u.registry.keys u.registry.held k ≡ case → IsWithin s from reach u (then_in u (after_preempt u.registry from k (Some t)) (change_on_preempt u.registry from k (Some t)))
        at ReplacesAll is = absurd (never_all u.registry.held is)
        at (ReplacesHolder held) is = replaces held is
        at RemovesKey is = removes_key is
