-- Branches that tell how a command ends, by their regions.
use Rattle.pr_regions.proofs.Common.{◌≡◌, ℕ, zero, suc, ◌<◌, ◌≤◌, Bool, true, false, ◌≢◌, ◌⊎◌, List, [], ◌∷◌, length, if◌then◌else◌, ◌==◌, Some, None, Option, option_map, sym, refl, ap, ◌∙◌, subst, inl, inr, arith, eqb_tells, has, BitSet, Command, Held, One, UnitState, HasSomebody, Scope, IsScope, Registration, IsSo, Meets, IsInRegion, IsCovered, Purpose, Standing, Branch, AlwaysEnds, any, Leaves, EndsIn, Tell, MOST_KEYS, Contains, one_registration, Region, filter_of, IsUntestedOrRegistered}
use Rattle.std.proofs.Common.{below_more}
use Rattle.std.specs.List.{All as Each}
use Rattle.pr_regions.specs.inside.Parts.{IsTest}
use Rattle.pr_regions.proofs.lemmas.Portions.GatheredStates.{few_keys}

-- ---- lists of one to three

pub each_of_one : {X : Type 0} (P : X → Type 0) (a : X) → P a → Each P (a ∷ [])
each_of_one P a first zero d small = first
each_of_one P a first (suc k) d small = absurd (omega arith)

pub each_of_two : {X : Type 0} (P : X → Type 0) (a b : X) → P a → P b → Each P (a ∷ b ∷ [])
each_of_two P a b first second zero d small = first
each_of_two P a b first second (suc zero) d small = second
each_of_two P a b first second (suc (suc k)) d small = absurd (omega arith)

pub each_of_three : {X : Type 0} (P : X → Type 0) (a b c : X) → P a → P b → P c → Each P (a ∷ b ∷ c ∷ [])
each_of_three P a b c first second third zero d small = first
each_of_three P a b c first second third (suc zero) d small = second
each_of_three P a b c first second third (suc (suc zero)) d small = third
each_of_three P a b c first second third (suc (suc (suc k))) d small = absurd (omega arith)

listed : {X : Type 0} (P : X → Type 0) (xs : List X) (x : X) → Each P xs → Contains xs x → P x
listed P xs x each there = subst P there.2 (each there.0 x there.1)

-- ---- who is in a region

-- what a region leaves to g, as tests
abbrev pub left_to : (ℕ → Bool) → (ℕ → Bool) → Option Held → ℕ → ℕ → Bool
left_to holder others (Some (One kind h)) g r = if h == g then holder r else others r
left_to holder others _ g r = others r

filtered : (region : Region) (holder others : ℕ → Bool) (test : Option (ℕ → Bool)) (held : Option Held) (g r : ℕ) → Leaves region holder others test → r ≤ MOST_KEYS
    → has (filter_of region held g) r ≡ left_to holder others held g r
filtered region holder others test (Some (One kind h)) g r leaves few = at (h == g)
  where
    at : (b : Bool) → has (if b then region.holder else region.others) r ≡ (if b then holder r else others r)
    at true = leaves.to_holder r few
    at false = leaves.to_others r few
filtered region holder others test _ g r leaves few = leaves.to_others r few

pub record IsThere (s : Scope) (sender : ℕ) (holder others : ℕ → Bool) (test : Option (ℕ → Bool)) (u : UnitState) : Type 0 where
  pub registrations : (g r : ℕ) → g ≢ sender → IsSo s u (Registration g r) → left_to holder others u.registry.held g r ≡ true
  pub somebody : HasSomebody s u sender test

somebody_there : (s : Scope) (u : UnitState) (sender : ℕ) (somebody : Option BitSet) (test : Option (ℕ → Bool)) → length s.keys ≤ MOST_KEYS → IsTest somebody test
    → HasSomebody s u sender test → HasSomebody s u sender (option_map has somebody)
somebody_there s u sender None None few tests there = tt
somebody_there s u sender (Some w) (Some passes) few tests there =
    let known = there.3.1 in
    (there.0, there.1, there.2, there.3, tests there.1 (omega arith) ∙ there.4)
somebody_there s u sender _ _ few tests there = absurd tests

somebody_here : (s : Scope) (u : UnitState) (sender : ℕ) (somebody : Option BitSet) (test : Option (ℕ → Bool)) → length s.keys ≤ MOST_KEYS → IsTest somebody test
    → HasSomebody s u sender (option_map has somebody) → HasSomebody s u sender test
somebody_here s u sender None None few tests there = tt
somebody_here s u sender (Some w) (Some passes) few tests there =
    let known = there.3.1 in
    (there.0, there.1, there.2, there.3, sym (tests there.1 (omega arith)) ∙ there.4)
somebody_here s u sender _ _ few tests there = absurd tests

pub in_region : (s : Scope) (u : UnitState) (sender : ℕ) (region : Region) (holder others : ℕ → Bool) (test : Option (ℕ → Bool)) → length s.keys ≤ MOST_KEYS
    → Leaves region holder others test → IsThere s sender holder others test u → IsInRegion s sender region u
in_region s u sender region holder others test few leaves there = record {
  registrations = λ g r other so. let known = so.1 in filtered region holder others test u.registry.held g r leaves (omega arith) ∙ there.registrations g r other so;
  somebody = somebody_there s u sender region.somebody test few leaves.tested there.somebody;
}

pub from_region : (s : Scope) (u : UnitState) (sender : ℕ) (region : Region) (holder others : ℕ → Bool) (test : Option (ℕ → Bool)) → length s.keys ≤ MOST_KEYS
    → Leaves region holder others test → IsInRegion s sender region u → IsThere s sender holder others test u
from_region s u sender region holder others test few leaves inside = record {
  registrations = λ g r other so. let known = so.1 in sym (filtered region holder others test u.registry.held g r leaves (omega arith)) ∙ inside.registrations g r other so;
  somebody = somebody_here s u sender region.somebody test few leaves.tested inside.somebody;
}

-- ---- who passes a test

abbrev pub HasNobody : Scope → UnitState → ℕ → (ℕ → Bool) → Type 0
HasNobody s u sender passes = (g r : ℕ) → g ≢ sender → IsSo s u (Registration g r) → passes r ≡ false

-- the same of the hosts below n
abbrev HasNobodyBelow : Scope → UnitState → ℕ → (ℕ → Bool) → ℕ → Type 0
HasNobodyBelow s u sender passes n = (g : ℕ) → g < n → (r : ℕ) → g ≢ sender → IsSo s u (Registration g r) → passes r ≡ false

abbrev Numbered : Scope → UnitState → Type 0
Numbered s u = (g : ℕ) → g < s.hosts → (r : ℕ) × IsSo s u (Registration g r)

abbrev Once : Scope → UnitState → Type 0
Once s u = (g r q : ℕ) → IsSo s u (Registration g r) → IsSo s u (Registration g q) → r ≡ q

somebody_below : (s : Scope) (u : UnitState) (sender : ℕ) (passes : ℕ → Bool) → Numbered s u → Once s u → (n : ℕ) → n ≤ s.hosts
    → HasSomebody s u sender (Some passes) ⊎ HasNobodyBelow s u sender passes n
somebody_below s u sender passes numbered once zero small = inr (λ g none r other so. absurd (omega arith))
somebody_below s u sender passes numbered once (suc n) small = more (somebody_below s u sender passes numbered once n (omega arith)) (eqb_tells n sender)
  where
    -- one host more
    also : HasNobodyBelow s u sender passes n → ((r : ℕ) → n ≢ sender → IsSo s u (Registration n r) → passes r ≡ false) → HasSomebody s u sender (Some passes) ⊎ HasNobodyBelow s u sender passes (suc n)
    also none here =
        inr (λ g below. below_more (λ h. (r : ℕ) → h ≢ sender → IsSo s u (Registration h r) → passes r ≡ false) n none here g (omega arith))

    by_test : (r : ℕ) → IsSo s u (Registration n r) → n ≢ sender → HasNobodyBelow s u sender passes n → (b : Bool) → passes r ≡ b
        → HasSomebody s u sender (Some passes) ⊎ HasNobodyBelow s u sender passes (suc n)
    by_test r so other none true is = inl (n, r, other, so, is)
    by_test r so other none false is = also none (λ q apart at_n. ap passes (sym (once n r q so at_n)) ∙ is)

    more : HasSomebody s u sender (Some passes) ⊎ HasNobodyBelow s u sender passes n → (((n == sender) ≡ true) × (n ≡ sender)) ⊎ (((n == sender) ≡ false) × (n ≢ sender))
        → HasSomebody s u sender (Some passes) ⊎ HasNobodyBelow s u sender passes (suc n)
    more (inl there) test = inl there
    more (inr none) (inl same) = also none (λ r other so. absurd (other same.1))
    more (inr none) (inr other) =
        let it = numbered n (omega arith) in
        by_test it.0 it.1 other.1 none (passes it.0) refl

pub somebody_or_none : (s : Scope) (u : UnitState) (sender : ℕ) (passes : ℕ → Bool) → IsScope s → ((g : ℕ) → g < s.hosts → (r : ℕ) × IsSo s u (Registration g r))
    → HasSomebody s u sender (Some passes) ⊎ HasNobody s u sender passes
somebody_or_none s u sender passes scope numbered =
    all_hosts (somebody_below s u sender passes numbered (λ g r q. one_registration s u g r q scope) s.hosts (omega arith))
  where
    all_hosts : HasSomebody s u sender (Some passes) ⊎ HasNobodyBelow s u sender passes s.hosts → HasSomebody s u sender (Some passes) ⊎ HasNobody s u sender passes
    all_hosts (inl there) = inl there
    all_hosts (inr none) = inr (λ g r other so. none g so.0 r other so)

pub somebody_or_nobody : (s : Scope) (p : Purpose) (held : Option Held) (sender : ℕ) (standing : Standing) (u : UnitState) (c : Command) (passes : ℕ → Bool)
    → Meets s p held sender standing u c → HasSomebody s u sender (Some passes) ⊎ HasNobody s u sender passes
somebody_or_nobody s p held sender standing u c passes m = somebody_or_none s u sender passes m.scope m.numbered

-- where every registration is left to everybody
pub everyone : (held : Option Held) (g r : ℕ) → left_to any any held g r ≡ true
everyone (Some (One kind h)) g r = at (h == g)
  where
    at : (b : Bool) → (if b then true else true) ≡ true
    at true = refl
    at false = refl
everyone _ g r = refl

-- a test that none does not pass is proper
pub untested : (somebody : Option BitSet) → IsTest somebody None → IsUntestedOrRegistered somebody
untested None tests = tt
untested (Some w) tests = absurd tests

pub tested : (somebody : Option BitSet) (passes : ℕ → Bool) → passes 0 ≡ false → IsTest somebody (Some passes) → IsUntestedOrRegistered somebody
tested None passes fails tests = absurd tests
tested (Some w) passes fails tests = tests 0 (omega arith) ∙ fails

-- ---- branches

pub tell : (hosts : ℕ) (p : Purpose) (held : Option Held) (sender : ℕ) (standing : Standing) (branches : List Branch) → Each (EndsIn hosts p held sender standing) branches
    → ((s : Scope) (u : UnitState) (c : Command) → s.hosts ≡ hosts → Meets s p held sender standing u c → IsCovered s sender branches u)
    → Tell hosts p held sender standing branches
tell hosts p held sender standing branches each covered = record {
  right = λ s u c alike m. record {
    covered = covered s u c alike m;
    right = λ b there inside. (listed (EndsIn hosts p held sender standing) branches b each there).ends s u c alike m inside;
  };
  proper = λ k d small. (each k d small).proper;
  fits = λ k d small. (each k d small).fits;
}

-- a single branch, whose region is that of all states
pub tell_alone : (hosts : ℕ) (p : Purpose) (held : Option Held) (sender : ℕ) (standing : Standing) (branch : Branch) → Leaves branch.region any any None
    → AlwaysEnds hosts p held sender standing branch.ending → Tell hosts p held sender standing (branch ∷ [])
tell_alone hosts p held sender standing branch leaves always =
    tell hosts p held sender standing (branch ∷ [])
    (each_of_one (EndsIn hosts p held sender standing) branch (record {
      ends = λ s u c alike m inside. always.ends s u c alike m;
      proper = untested branch.region.somebody leaves.tested;
      fits = always.fits;
    }))
    (λ s u c alike m. record {
      branch = branch;
      listed = (0, omega arith, refl);
      inside = in_region s u sender branch.region any any None (few_keys s.keys m.scope.keys) leaves (record { registrations = λ g r other so. everyone u.registry.held g r; somebody = tt });
    })
