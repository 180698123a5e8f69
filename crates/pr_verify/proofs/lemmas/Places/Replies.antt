-- A script that is ready stands at one of its places, and a reply leads from there to the lines of the arm that takes it.
use Rattle.pr_verify.proofs.Common.{◌≡◌, ℕ, zero, suc, ◌<◌, true, false, List, [], ◌∷◌, get_or, if◌then◌else◌, slice_get, Some, None, Contains, Option, sym, refl, subst, arith, Contains-append_left, Contains-append_right, position-Some, none-some, same_Some, Command, Reply, sends, stops, Stmts, Arms, no_arm, arm, Configuration, settled_form, matches, first_of, Place, tests_of, next_of, place, places, places_of_arms, follows}
use Rattle.std.specs.Prelude.{codes, option_map}
use Rattle.std.proofs.lemmas.Option.{option_and_then_some}
use Rattle.pr_script.specs.declared.script.Test.TheVariants as test
use Rattle.pr_script.specs.Scripts.{statement, ready, stopped, before, standing_of_items}
use Rattle.pr_script.specs.Takes.{first_match, take}
use Rattle.pr_script.specs.Costs.{commands}
use Rattle.pr_roles.proofs.lemmas.FirstStarts.Existence.{contains_first}
use Rattle.pr_verify.proofs.lemmas.Places.Successors.{IsWithin, Goes, Leads, goes_before, leads_settled}

-- there is something still to do, and it leads to these lines
abbrev pub LeadsOn : List Place → List ℕ → Option Configuration → Type 0
LeadsOn all next None = ⊥
LeadsOn all next (Some l) = Leads all next l

-- the body of the arm is still to do, before these
abbrev pub goes_into : Configuration → Option Stmts → Option Configuration
goes_into l o = option_map (λ body. settled_form (before body l)) o

-- ---- the arm that takes a reply

takes_arm : (all : List Place) (a : Arms) (l : Configuration) (left broken : List ℕ) (r : Reply) (i : ℕ) (next : List ℕ) → IsWithin (places_of_arms a left broken) all → Goes all l left broken
    → matches (get_or (tests_of a) i test.Good) r ≡ true → ((k : ℕ) → k < i → matches (get_or (tests_of a) k test.Good) r ≡ false) → slice_get (next_of a left broken) i ≡ Some next
    → LeadsOn all next (goes_into l (first_match a r))
takes_arm all no_arm l left broken r i next placed goes passes before_it is = absurd (none-some next is)
takes_arm all (arm t body rest) l left broken r zero next placed goes passes before_it is =
    let first = leads_settled all (first_of body left broken) (before body l)
    (broken, goes_before all body l left broken (λ p there. placed p (Contains-append_left (places body left broken) (places_of_arms rest left broken) p there)) goes) in
    subst (λ b. LeadsOn all next (goes_into l (if b then Some body else first_match rest r))) (sym passes)
    (subst (λ lines. Leads all lines (settled_form (before body l))) (same_Some (first_of body left broken) next is) first)
takes_arm all (arm t body rest) l left broken r (suc i) next placed goes passes before_it is =
    subst (λ b. LeadsOn all next (goes_into l (if b then Some body else first_match rest r))) (sym (before_it 0 (omega arith)))
    (takes_arm all rest l left broken r i next (λ p there. placed p (Contains-append_right (places body left broken) (places_of_arms rest left broken) p there)) goes
    passes (λ k less. before_it (suc k) (omega arith)) is)

taken_by : (all : List Place) (n : ℕ) (c : Command) (a : Arms) (l : Configuration) (left broken : List ℕ) (r : Reply) (next : List ℕ) → IsWithin (places_of_arms a left broken) all
    → Goes all l left broken → follows (place n c a left broken) r ≡ Some next → LeadsOn all next (goes_into l (first_match a r))
taken_by all n c a l left broken r next placed goes is =
    option_and_then_some (slice_get (next_of a left broken)) _ next is (λ i found there.
    let first = position-Some (λ t. matches t r) (tests_of a) i test.Good found in
    takes_arm all a l left broken r i next placed goes first.1 first.2 there)

-- ---- where a script is ready

-- It is ready at one of these places, to which it may have come; and where an arm of the place takes a reply, the script
-- goes on to the lines of the arm.
pub record IsReadyAt (all : List Place) (now : List ℕ) (l : Configuration) (n : ℕ) (c : Command) : Type 0 where
  pub place : Place
  pub listed : Contains all place
  pub line : place.line ≡ n
  pub command : place.command ≡ c
  pub there : Contains now n
  pub one : commands l ≡ 1
  pub goes_on : (r : Reply) (next : List ℕ) → follows place r ≡ Some next → LeadsOn all next (take l r)

ready_send : (all : List Place) (now : List ℕ) (n : ℕ) (c : Command) (a : Arms) (l : Configuration) → Leads all now (statement (sends n c a) ∷ l) → IsReadyAt all now (statement (sends n c a) ∷ l) n c
ready_send all now n c a l leads =
    let left = leads.1.0 in
    let broken = leads.0 in
    let there = leads.1.1.0 in
    let placed = leads.1.1.1 in
    let rest = leads.1.2 in
    record {
      place = place n c a left broken;
      listed = placed (place n c a left broken) (contains_first (place n c a left broken) (places_of_arms a left broken));
      line = refl;
      command = refl;
      there = there;
      one = refl;
      goes_on = λ r next is. taken_by all n c a l left broken r next (λ p among. placed p (Contains-append_right (place n c a left broken ∷ []) (places_of_arms a left broken) p among)) rest is;
    }

pub ready_at : (all : List Place) (now : List ℕ) (l : Configuration) (n : ℕ) (c : Command) → Leads all now l → standing_of_items l ≡ Some (ready n c) → IsReadyAt all now l n c
ready_at all now [] n c leads is = let bad : Some (stopped (codes "end")) ≡ Some (ready n c) = is in cc
ready_at all now ((statement (sends m d a)) ∷ l) n c leads is =
    let same = same_Some (ready m d) (ready n c) is in
    let line : m ≡ n = cc in
    let command : d ≡ c = cc in
    subst (λ x. IsReadyAt all now (statement (sends m d a) ∷ l) x c) line
    (subst (λ x. IsReadyAt all now (statement (sends m d a) ∷ l) m x) command (ready_send all now m d a l leads))
ready_at all now ((statement (stops w)) ∷ l) n c leads is = let bad : Some (stopped w) ≡ Some (ready n c) = is in cc
ready_at all now _ n c leads is = absurd (none-some (ready n c) is)
