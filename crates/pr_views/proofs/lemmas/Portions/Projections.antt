-- What each nexus has in the states of a portion.
use Rattle.pr_views.proofs.Common.{◌≡◌, ℕ, ◌+◌, ◌<◌, ◌≤◌, true, false, not, ◌&&◌, ◌≢◌, ◌⊎◌, List, is_some, IfSome, IfNone, if◌then◌else◌, nat_lt, ◌==◌, Some, None, Option, option_map, sym, refl, ap, ◌∙◌, subst, inl, inr, arith, false≢true, and_parts, ltb-true, cases_lt, has, BitSet, is_all, Held, One, All, UnitState, is_reservation, has_at, AreFilled, Registration, IsSo, Fits}
use Rattle.std.proofs.lemmas.Bool.{and_from, cases_eq, cases_order}
use Rattle.std.proofs.lemmas.Bool.Decides.{eqb_tells}
use Rattle.pr_views.specs.declared.portion.Portion.{Portion}
use Rattle.pr_views.specs.Views.{View}
use Rattle.pr_views.specs.Portions.{HasSomebody, IsIn, IsTogether, TestsRegistered, GivesHolder, IsPortion, IsProjected}
use Rattle.pr_views.specs.inside.Passing.{LacksOne, CanPass, CannotPass, NonePasses, IsFirstPassing}
use Rattle.pr_views.proofs.lemmas.Possibilities.Numbers.{held_at, number_of-held_at, one_registration}
use Rattle.pr_views.proofs.lemmas.Views.ShownStates.{state_of, registration-state_of, attentions-state_of, IsHeldBy, shown}

-- ---- choices

-- the choice, but r at g
abbrev but : (ℕ → ℕ) → ℕ → ℕ → ℕ → ℕ
but f g r h = if h == g then r else f h

but_there : (f : ℕ → ℕ) (g r : ℕ) → but f g r g ≡ r
but_there f g r = at (eqb_tells g g)
  where
    at : (((g == g) ≡ true) × (g ≡ g)) ⊎ (((g == g) ≡ false) × (g ≢ g)) → but f g r g ≡ r
    at (inl same) = rw same.0 refl
    at (inr other) = absurd (other.1 refl)

but_elsewhere : (f : ℕ → ℕ) (g r h : ℕ) → h ≢ g → but f g r h ≡ f h
but_elsewhere f g r h differs = at (eqb_tells h g)
  where
    at : (((h == g) ≡ true) × (h ≡ g)) ⊎ (((h == g) ≡ false) × (h ≢ g)) → but f g r h ≡ f h
    at (inl same) = absurd (differs same.1)
    at (inr other) = rw other.0 refl

-- each nexus that is there has what is chosen for it
abbrev AreChosen : ℕ → List BitSet → (ℕ → ℕ) → Type 0
AreChosen hosts words f = (g : ℕ) → g < hosts → has_at words g (f g) ≡ true

chosen_but : (hosts : ℕ) (words : List BitSet) (f : ℕ → ℕ) (g r : ℕ) → AreChosen hosts words f → has_at words g r ≡ true → AreChosen hosts words (but f g r)
chosen_but hosts words f g r chosen is h there = at (eqb_tells h g)
  where
    at : (((h == g) ≡ true) × (h ≡ g)) ⊎ (((h == g) ≡ false) × (h ≢ g)) → has_at words h (but f g r h) ≡ true
    at (inl same) = ap (has_at words h) (but_same same.1) ∙ ap (λ k. has_at words k r) same.1 ∙ is
      where
        but_same : h ≡ g → but f g r h ≡ r
        but_same e = ap (but f g r) e ∙ but_there f g r
    at (inr other) = ap (has_at words h) (but_elsewhere f g r h other.1) ∙ chosen h there

-- some choice
abbrev choose : (hosts : ℕ) (words : List BitSet) → AreFilled hosts words → (g : ℕ) → (g < hosts) ⊎ (hosts ≤ g) → ℕ
choose hosts words filled g (inl there) = (filled g there).0
choose hosts words filled g (inr past) = 0

abbrev any_choice : (hosts : ℕ) (words : List BitSet) → AreFilled hosts words → ℕ → ℕ
any_choice hosts words filled g = choose hosts words filled g (cases_lt g hosts)

any_chosen : (hosts : ℕ) (words : List BitSet) (filled : AreFilled hosts words) → AreChosen hosts words (any_choice hosts words filled)
any_chosen hosts words filled g there = at (cases_lt g hosts)
  where
    at : (c : (g < hosts) ⊎ (hosts ≤ g)) → has_at words g (choose hosts words filled g c) ≡ true
    at (inl small) = (filled g small).1
    at (inr past) = absurd (omega arith)

-- ---- a state of the portion

-- somebody passes by its choice
abbrev IsSomebody : ℕ → ℕ → (ℕ → ℕ) → Option BitSet → Type 0
IsSomebody hosts sender f None = Unit {0}
IsSomebody hosts sender f (Some test) = (g : ℕ) × (g < hosts) × (g ≢ sender) × (has test (f g) ≡ true)

not_none : (words : List BitSet) (g r : ℕ) → has_at words g r ≡ true → has_at words g 0 ≡ false → r ≢ 0
not_none words g r is none zero = false≢true (sym none ∙ ap (has_at words g) (sym zero) ∙ is)

registered_somebody : (hosts sender : ℕ) (f : ℕ → ℕ) (test : Option BitSet) → TestsRegistered test → IsSomebody hosts sender f test → (g : ℕ) × (g < hosts) × (f g ≢ 0)
registered_somebody hosts sender f None tests is = absurd tests
registered_somebody hosts sender f (Some w) tests is = (is.0, is.1, λ zero. false≢true (sym tests ∙ ap (has w) (sym zero) ∙ is.3))

held_by : (v : View) (p : Portion) (f : ℕ → ℕ) (held : Option Held) → p.sender < v.scope.hosts → AreChosen v.scope.hosts p.registrations f → IsSomebody v.scope.hosts p.sender f p.somebody
    → is_reservation v.scope.hosts held ≡ true → GivesHolder p held → IsHeldBy v.scope f held
held_by v p f None sender chosen is fits holder = tt
held_by v p f (Some (One kind h)) sender chosen is fits holder =
    let small = ltb-true h v.scope.hosts (and_parts (not (is_all kind)) (nat_lt h v.scope.hosts) fits).1 in
    not_none p.registrations h (f h) (chosen h small) holder
held_by v p f (Some (All kind)) sender chosen is fits holder = at holder
  where
    at : (has_at p.registrations p.sender 0 ≡ false) ⊎ TestsRegistered p.somebody → (g : ℕ) × (g < v.scope.hosts) × (f g ≢ 0)
    at (inl registered) = (p.sender, sender, not_none p.registrations p.sender (f p.sender) (chosen p.sender sender) registered)
    at (inr tests) = registered_somebody v.scope.hosts p.sender f p.somebody tests is

-- the state of a choice, with the reservation of the portion
abbrev chosen_state : View → Portion → (ℕ → ℕ) → ℕ → UnitState
chosen_state v p f q = state_of v.scope f (held_at v.scope.hosts p.reservation) q

in_state : (v : View) (p : Portion) (f : ℕ → ℕ) (q : ℕ) → Fits v → IsPortion v p → AreChosen v.scope.hosts p.registrations f → (g : ℕ) → g < v.scope.hosts
    → IsSo v.scope (chosen_state v p f q) (Registration g (f g))
in_state v p f q fits is chosen g there =
    registration-state_of v.scope f (held_at v.scope.hosts p.reservation) q g there (fits.registrations g (f g) (is.registrations g (f g) there (chosen g there)))

somebody_in : (v : View) (p : Portion) (f : ℕ → ℕ) (q : ℕ) (test : Option BitSet) → Fits v → IsPortion v p → AreChosen v.scope.hosts p.registrations f → IsSomebody v.scope.hosts p.sender f test
    → HasSomebody v.scope (chosen_state v p f q) p.sender (option_map has test)
somebody_in v p f q None fits is chosen one = tt
somebody_in v p f q (Some w) fits is chosen one = (one.0, f one.0, one.2, in_state v p f q fits is chosen one.0 one.1, one.3)

inside : (v : View) (p : Portion) (f : ℕ → ℕ) (q : ℕ) → Fits v → IsPortion v p → AreChosen v.scope.hosts p.registrations f → IsSomebody v.scope.hosts p.sender f p.somebody → v.pending q ≡ true
    → IsIn v p (chosen_state v p f q)
inside v p f q fits is chosen one pending =
    let numbered = number_of-held_at v.scope.hosts p.reservation fits.scope.hosts.0 (fits.reservations p.reservation is.reservation) in
    let holder = held_by v p f (held_at v.scope.hosts p.reservation) is.sender chosen one numbered.0 (is.holder (held_at v.scope.hosts p.reservation) numbered.0 numbered.1) in
    record {
      shown = shown v f (held_at v.scope.hosts p.reservation) q fits (λ g there. is.registrations g (f g) there (chosen g there)) numbered.0 (ap v.reservations (sym numbered.1) ∙ is.reservation) holder pending;
      reservation = numbered.1;
      registrations = λ g r so.
          let same = one_registration v.scope (chosen_state v p f q) g r (f g) fits.scope so (in_state v p f q fits is chosen g so.0) in
          ap (has_at p.registrations g) same ∙ chosen g so.0;
      somebody = somebody_in v p f q p.somebody fits is chosen one;
    }

together : (v : View) (p : Portion) (f : ℕ → ℕ) (g r q : ℕ) → Fits v → IsPortion v p → AreChosen v.scope.hosts p.registrations f → IsSomebody v.scope.hosts p.sender f p.somebody
    → g < v.scope.hosts → f g ≡ r → v.pending q ≡ true → IsTogether v p (Registration g r) q
together v p f g r q fits is chosen one there same pending = record {
  unit = chosen_state v p f q;
  inside = inside v p f q fits is chosen one pending;
  is = subst (λ n. IsSo v.scope (chosen_state v p f q) (Registration g n)) same (in_state v p f q fits is chosen g there);
  pending = attentions-state_of v.scope f (held_at v.scope.hosts p.reservation) q (fits.pending q pending);
}

-- ---- who passes

-- what each has, once some state has each of them
projected_by : (v : View) (p : Portion) (words : List BitSet) → IsPortion v p → AreFilled v.scope.hosts words
    → ((u : UnitState) (g r : ℕ) → IsIn v p u → IsSo v.scope u (Registration g r) → has_at words g r ≡ true)
    → ((g r q : ℕ) → g < v.scope.hosts → has_at words g r ≡ true → v.pending q ≡ true → IsTogether v p (Registration g r) q)
    → IsProjected v p words
projected_by v p words is filled all only =
    let sender = filled p.sender is.sender in
    record {
      all = all;
      only = only;
      some = λ q pending.
          let one = only p.sender sender.0 q is.sender sender.1 pending in
          record { unit = one.unit; inside = one.inside; is = one.inside.reservation; pending = one.pending };
    }

-- where one alone must pass, each still has some registration
pub filled_by_one : (hosts : ℕ) (p : Portion) (test : BitSet) (a : ℕ) (words : List BitSet) → AreFilled hosts p.registrations → CanPass p test a
    → ((r : ℕ) → has_at words a r ≡ (has_at p.registrations a r && has test r)) → ((h r : ℕ) → h ≢ a → has_at words h r ≡ has_at p.registrations h r) → AreFilled hosts words
filled_by_one hosts p test a words filled pass here elsewhere g there = at (cases_eq g a)
  where
    at : (g ≡ a) ⊎ (g ≡ a → ⊥) → (n : ℕ) × (has_at words g n ≡ true)
    at (inl same) = (pass.registration, ap (λ h. has_at words h pass.registration) same ∙ here pass.registration ∙ and_from _ _ pass.left pass.passes)
    at (inr other) = let one = filled g there in (one.0, elsewhere g one.0 other ∙ one.1)

-- beside r at g, some other choice
module _ (v : View) (p : Portion) (fits : Fits v) (is : IsPortion v p) (filled : AreFilled v.scope.hosts p.registrations) where
  others : ℕ → ℕ
  others = any_choice v.scope.hosts p.registrations filled

  others_chosen : AreChosen v.scope.hosts p.registrations others
  unfolding others
  others_chosen = any_chosen v.scope.hosts p.registrations filled

  -- without a test
  untested : (g r q : ℕ) → p.somebody ≡ None → g < v.scope.hosts → has_at p.registrations g r ≡ true → v.pending q ≡ true → IsTogether v p (Registration g r) q
  untested g r q none there left pending =
      together v p (but others g r) g r q fits is (chosen_but v.scope.hosts p.registrations others g r others_chosen left)
      (subst (IsSomebody v.scope.hosts p.sender (but others g r)) (sym none) tt) there (but_there others g r) pending

  -- g itself passes
  itself : (test : BitSet) (g r q : ℕ) → p.somebody ≡ Some test → g < v.scope.hosts → has_at p.registrations g r ≡ true → v.pending q ≡ true
      → g ≢ p.sender → has test r ≡ true → IsTogether v p (Registration g r) q
  itself test g r q some there left pending other passes =
      together v p (but others g r) g r q fits is (chosen_but v.scope.hosts p.registrations others g r others_chosen left)
      (subst (IsSomebody v.scope.hosts p.sender (but others g r)) (sym some) (g, there, other, ap (has test) (but_there others g r) ∙ passes)) there (but_there others g r) pending

  -- somebody else, h, passes
  beside : (test : BitSet) (g r q h : ℕ) → p.somebody ≡ Some test → g < v.scope.hosts → has_at p.registrations g r ≡ true → v.pending q ≡ true
      → h < v.scope.hosts → h ≢ g → CanPass p test h → IsTogether v p (Registration g r) q
  beside test g r q h some there left pending also differs pass =
      let chosen = chosen_but v.scope.hosts p.registrations others h pass.registration others_chosen pass.left in
      let passes = ap (has test) (but_elsewhere (but others h pass.registration) g r h differs ∙ but_there others h pass.registration) ∙ pass.passes in
      together v p (but (but others h pass.registration) g r) g r q fits is (chosen_but v.scope.hosts p.registrations (but others h pass.registration) g r chosen left)
      (subst (IsSomebody v.scope.hosts p.sender (but (but others h pass.registration) g r)) (sym some) (h, also, pass.other, passes)) there
      (but_there (but others h pass.registration) g r) pending

  pub projected_untested : p.somebody ≡ None → IsProjected v p p.registrations
  projected_untested none =
      projected_by v p p.registrations is filled (λ u g r inside so. inside.registrations g r so) (λ g r q there left pending. untested g r q none there left pending)

  -- where two can pass the test
  pub projected_by_several : (test : BitSet) (a b : ℕ) → p.somebody ≡ Some test → a < v.scope.hosts → b < v.scope.hosts → a ≢ b → CanPass p test a → CanPass p test b
      → IsProjected v p p.registrations
  projected_by_several test a b some there also differ first second =
      projected_by v p p.registrations is filled (λ u g r inside so. inside.registrations g r so)
      (λ g r q in_range left pending. at g r q in_range left pending (cases_eq a g))
    where
      at : (g r q : ℕ) → g < v.scope.hosts → has_at p.registrations g r ≡ true → v.pending q ≡ true → (a ≡ g) ⊎ (a ≡ g → ⊥) → IsTogether v p (Registration g r) q
      at g r q in_range left pending (inl same) =
          beside test g r q b some in_range left pending also (λ e. differ (same ∙ sym e)) second
      at g r q in_range left pending (inr other) = beside test g r q a some in_range left pending there other first

  -- where one alone can
  pub projected_by_one : (test : BitSet) (a : ℕ) (words : List BitSet) → p.somebody ≡ Some test → a < v.scope.hosts → CanPass p test a
      → ((h : ℕ) → h < v.scope.hosts → h ≢ a → CannotPass p test h) → ((r : ℕ) → has_at words a r ≡ (has_at p.registrations a r && has test r))
      → ((h r : ℕ) → h ≢ a → has_at words h r ≡ has_at p.registrations h r) → IsProjected v p words
  projected_by_one test a words some there pass alone here elsewhere =
      projected_by v p words is (filled_by_one v.scope.hosts p test a words filled pass here elsewhere) (λ u g r inside so. all u g r inside so (cases_eq g a))
      (λ g r q in_range left pending. at g r q in_range left pending (cases_eq g a))
    where
      passed : (u : UnitState) (g r : ℕ) → IsIn v p u → IsSo v.scope u (Registration g r) → g ≡ a → HasSomebody v.scope u p.sender (Some (has test)) → has test r ≡ true
      passed u g r inside so same one = one_at (cases_eq one.0 a)
        where
          at_a : (h n : ℕ) → h ≡ a → IsSo v.scope u (Registration h n) → IsSo v.scope u (Registration a n)
          at_a h n e = subst (λ k. IsSo v.scope u (Registration k n)) e

          one_at : (one.0 ≡ a) ⊎ (one.0 ≡ a → ⊥) → has test r ≡ true
          one_at (inl e) = ap (has test) (one_registration v.scope u a r one.1 fits.scope (at_a g r same so) (at_a one.0 one.1 e one.3)) ∙ one.4
          one_at (inr differs) =
              absurd (false≢true (sym (alone one.0 one.3.0 differs one.2 one.1 (inside.registrations one.0 one.1 one.3)) ∙ one.4))

      all : (u : UnitState) (g r : ℕ) → IsIn v p u → IsSo v.scope u (Registration g r) → (g ≡ a) ⊎ (g ≡ a → ⊥) → has_at words g r ≡ true
      all u g r inside so (inl same) =
          let left = inside.registrations g r so in
          let passes = passed u g r inside so same (subst (λ o. HasSomebody v.scope u p.sender (option_map has o)) some inside.somebody) in
          ap (λ h. has_at words h r) same ∙ here r ∙ and_from _ _ (ap (λ h. has_at p.registrations h r) (sym same) ∙ left) passes
      all u g r inside so (inr other) = elsewhere g r other ∙ inside.registrations g r so

      at : (g r q : ℕ) → g < v.scope.hosts → has_at words g r ≡ true → v.pending q ≡ true → (g ≡ a) ⊎ (g ≡ a → ⊥) → IsTogether v p (Registration g r) q
      at g r q in_range left pending (inl same) =
          let both = and_parts (has_at p.registrations a r) (has test r) (sym (here r) ∙ ap (λ h. has_at words h r) (sym same) ∙ left) in
          itself test g r q some in_range (ap (λ h. has_at p.registrations h r) same ∙ both.0) pending (λ e. pass.other (sym same ∙ e)) both.1
      at g r q in_range left pending (inr other) =
          beside test g r q a some in_range (sym (elsewhere g r other) ∙ left) pending there (λ e. other (sym e)) pass

-- ---- no state

pub no_state_where_one_lacks : (v : View) (p : Portion) (u : UnitState) → LacksOne v.scope.hosts p.registrations → IsIn v p u → ⊥
no_state_where_one_lacks v p u lacks inside =
    let one = inside.shown.registrations lacks.host lacks.there in
    false≢true (sym (lacks.none one.0) ∙ inside.registrations lacks.host one.0 one.1.1)

pub no_state_where_none_passes : (v : View) (p : Portion) (test : BitSet) (u : UnitState) → p.somebody ≡ Some test → NonePasses p test 0 v.scope.hosts → IsIn v p u → ⊥
no_state_where_none_passes v p test u some none inside =
    at (subst (λ o. HasSomebody v.scope u p.sender (option_map has o)) some inside.somebody)
  where
    at : HasSomebody v.scope u p.sender (Some (has test)) → ⊥
    at one = false≢true (sym (none one.0 (omega arith) one.3.0 one.2 one.1 (inside.registrations one.0 one.1 one.3)) ∙ one.4)

-- ---- in any view of so many nexuses

pub untested_of : (hosts : ℕ) (p : Portion) → AreFilled hosts p.registrations → p.somebody ≡ None
    → (v : View) → v.scope.hosts ≡ hosts → Fits v → IsPortion v p → IsProjected v p p.registrations
untested_of hosts p filled none v same fits is =
    projected_untested v p fits is (subst (λ n. AreFilled n p.registrations) (sym same) filled) none

pub several_of : (hosts : ℕ) (p : Portion) (test : BitSet) (a : ℕ) (next : Option ℕ) → AreFilled hosts p.registrations → p.somebody ≡ Some test → IsFirstPassing p test 0 hosts a
    → is_some next ≡ true → IfSome next (IsFirstPassing p test (a + 1) hosts) → (v : View) → v.scope.hosts ≡ hosts → Fits v → IsPortion v p → IsProjected v p p.registrations
several_of hosts p test a None filled some first found more v same fits is = absurd (false≢true found)
several_of hosts p test a (Some b) filled some first found more v same fits is =
    let differ : a ≡ b → ⊥ = λ e. absurd (omega (arith, more.late)) in
    projected_by_several v p fits is (subst (λ n. AreFilled n p.registrations) (sym same) filled) test a b some (subst (λ n. a < n) (sym same) first.there)
    (subst (λ n. b < n) (sym same) more.there) differ first.passes more.passes

pub one_of : (hosts : ℕ) (p : Portion) (test : BitSet) (a : ℕ) (next : Option ℕ) (words : List BitSet) → AreFilled hosts p.registrations → p.somebody ≡ Some test → IsFirstPassing p test 0 hosts a
    → is_some next ≡ false → IfNone next (NonePasses p test (a + 1) hosts) → ((r : ℕ) → has_at words a r ≡ (has_at p.registrations a r && has test r))
    → ((h r : ℕ) → h ≢ a → has_at words h r ≡ has_at p.registrations h r) → (v : View) → v.scope.hosts ≡ hosts → Fits v → IsPortion v p → IsProjected v p words
one_of hosts p test a (Some b) words filled some first found none here elsewhere v same fits is = absurd (false≢true (sym found))
one_of hosts p test a None words filled some first found none here elsewhere v same fits is =
    projected_by_one v p fits is (subst (λ n. AreFilled n p.registrations) (sym same) filled) test a words some (subst (λ n. a < n) (sym same) first.there)
    first.passes (λ h small differs. at h (subst (λ n. h < n) same small) differs (cases_order h a)) here elsewhere
  where
    at : (h : ℕ) → h < hosts → h ≢ a → (h ≡ a) ⊎ ((h < a) ⊎ (a < h)) → CannotPass p test h
    at h small differs (inl e) = absurd (differs e)
    at h small differs (inr (inl before)) = first.first h (omega arith) before
    at h small differs (inr (inr after)) = none h (omega arith) small

pub none_of_lacking : (hosts : ℕ) (p : Portion) → LacksOne hosts p.registrations → (v : View) → v.scope.hosts ≡ hosts → Fits v → IsPortion v p → (u : UnitState) → IsIn v p u → ⊥
none_of_lacking hosts p lacks v same fits is u inside =
    no_state_where_one_lacks v p u (subst (λ n. LacksOne n p.registrations) (sym same) lacks) inside

pub none_of_failing : (hosts : ℕ) (p : Portion) (test : BitSet) → p.somebody ≡ Some test → NonePasses p test 0 hosts
    → (v : View) → v.scope.hosts ≡ hosts → Fits v → IsPortion v p → (u : UnitState) → IsIn v p u → ⊥
none_of_failing hosts p test some none v same fits is u inside =
    no_state_where_none_passes v p test u some (subst (NonePasses p test 0) (sym same) none) inside
