-- What a comparison of a world with the seats' lists says.
use Rattle.std.proofs.Common.{◌≡◌, ℕ, ◌<◌, ◌≤◌, ◌==◌, ◌&&◌, Bool, true, false, IsTrue, List, [], ◌∷◌, length, get_or, Option, Some, None, refl, sym, ap, ◌∙◌, subst, arith}
use Rattle.std.specs.Prelude.{◌↔◌, if◌then◌else◌, map, nat_lt}
use Rattle.std.specs.List.{cons_option, list_all, range_with_len}
use Rattle.std.proofs.lemmas.Bool.{and_parts}
use Rattle.std.proofs.lemmas.Bool.Decides.{nat_tests}
use Rattle.std.proofs.lemmas.List.{get_or-map, length-map}
use Rattle.std.proofs.lemmas.List.Folds.{list_all-map}
use Rattle.std.proofs.lemmas.List.FromFn.{get_or-map-range_with_len, length-range_with_len}
use Rattle.pr_roles.specs.declared.entry.Entry.{Entry}
use Rattle.pr_roles.specs.declared.item.Item.{Item}
use Rattle.pr_roles.specs.declared.item.Item.TheVariants.{Sent, Reset}
use Rattle.pr_roles.specs.declared.step.Step.{Step}
use Rattle.pr_roles.specs.Scenarios.{Scenario, scenario_of}
use Rattle.pr_roles.specs.Schedules.{Schedule, plan}
use Rattle.pr_roles.specs.Worlds.{control}
use Rattle.pr_audit.specs.declared.end.End.{End}
use Rattle.pr_world.specs.Courses.{IsReached}
use Rattle.pr_audit.specs.Auditors.{is_planned}
use Rattle.pr_audit.specs.Ends.{Ending, ending, ending_of}
use Rattle.pr_world.specs.Progress.{Progress}
use Rattle.pr_shared.specs.Guests.{guests_of}
use Rattle.pr_shared.specs.Histories.{entries_by, entries_of}
use Rattle.pr_shared.specs.inside.Senders.{is_sent_before}
use Rattle.pr_shared.specs.inside.WorldEnds.{AreOne}
use Rattle.pr_shared.specs.Outcomes.{IsClosed, IsHalted, IsHaltedWith, endings_in, is_over}

-- ---- list by list

-- where all are the same, so are those at one place
pub own_at : {X : Type 0} (f : ℕ → List Entry) (g : X → List Entry) (xs : List X) (i : ℕ) (x : X) → i < length xs → x ≡ get_or xs i x
    → map f (range_with_len 0 (length xs)) ≡ map g xs → f i ≡ g x
own_at f g xs i x there at all =
    sym (get_or-map-range_with_len f 0 (length xs) i i [] there (omega arith)) ∙ (ap (λ ls. get_or ls i []) all ∙ (get_or-map g xs i x [] there ∙ ap g (sym at)))

-- ---- the whole

over_is : (s : Scenario) (w : Progress) (ends : List End) → map (λ e. Some (ending_of e)) ends ≡ endings_in s w.schedule → list_all (λ e. is_over (Some (ending_of e))) ends ≡ list_all is_over (endings_in s w.schedule)
over_is s w ends are = sym (list_all-map is_over (λ e. Some (ending_of e)) ends) ∙ ap (list_all is_over) are

pub just_over : (s : Scenario) (mine : List (List Entry)) (w : Progress) (ends : List End) (a r : Bool) → a ≡ true → IsTrue a ↔ AreOne s mine w
    → map (λ e. Some (ending_of e)) ends ≡ endings_in (scenario_of w.scenario) w.schedule → r ≡ list_all (λ e. is_over (Some (ending_of e))) ends → IsTrue r ↔ IsClosed s mine w
just_over s mine w ends a r one tells are over =
    let all = over ∙ over_is (scenario_of w.scenario) w ends are in (
      λ yes. record { scenario = (tells.0 one).scenario; own = (tells.0 one).own; over = sym all ∙ yes },
      λ closed. all ∙ closed.over,
    )

-- ---- who sent nothing

pub none_past : (history : List Item) (count h : ℕ) → list_all (is_sent_before count) history ≡ true → count ≤ h → entries_of history h ≡ []
none_past [] count h before past = refl
none_past (Sent e ∷ items) count h before past =
    let parts = and_parts (nat_lt e.host count) (list_all (is_sent_before count) items) before in
    let other : (e.host == h) ≡ false = grind (arith, nat_tests, parts.0) in
    ap (λ b. cons_option (if b then Some e else None) (entries_of items h)) other ∙ none_past items count h parts.1 past
none_past (Reset ∷ items) count h before past = none_past items count h before past

some_past : (history : List Item) (count : ℕ) → ((h : ℕ) → count ≤ h → entries_of history h ≡ []) → list_all (is_sent_before count) history ≡ true
some_past [] count none = refl
some_past (Reset ∷ items) count none = some_past items count none
some_past (Sent e ∷ items) count none = at (nat_lt e.host count) refl (some_past items count others)
  where
    others : (h : ℕ) → count ≤ h → entries_of items h ≡ []
    others h past = by (e.host == h) (none h past)
      where
        by : (b : Bool) → cons_option (if b then Some e else None) (entries_of items h) ≡ [] → entries_of items h ≡ []
        by true all = let bad : e ∷ entries_of items h ≡ [] = all in cc
        by false all = all

    itself : (n : ℕ) → (n == n) ≡ true
    itself n = grind (arith, nat_tests)

    at : (b : Bool) → nat_lt e.host count ≡ b → list_all (is_sent_before count) items ≡ true → (nat_lt e.host count && list_all (is_sent_before count) items) ≡ true
    at true before rest = ap (λ b. b && list_all (is_sent_before count) items) before ∙ rest
    at false before rest =
        let past : count ≤ e.host = grind (arith, nat_tests, before) in
        let sent = none e.host past in
        let bad : e ∷ entries_of items e.host ≡ [] = sym (ap (λ b. cons_option (if b then Some e else None) (entries_of items e.host)) (itself e.host)) ∙ sent in
        cc

pub just_halted : {X : Type 0} (s : Scenario) (w : Progress) (xs : List X) (g : X → List Entry) (history : List Item) (count : ℕ) (a r : Bool) → a ≡ true → IsTrue a ↔ AreOne s (map g xs) w
    → history ≡ w.schedule.world.history → count ≡ length xs → r ≡ list_all (is_sent_before count) history → IsTrue r ↔ IsHaltedWith s (map g xs) w
just_halted s w xs g history count a r one tells is all before = (
  λ yes.
      record {
        scenario = (tells.0 one).scenario;
        own = (tells.0 one).own;
        none = λ h past. ap (λ items. entries_of items h) (sym is) ∙ none_past history count h (sym before ∙ yes) (omega (arith, long, past));
      },
  λ halted. before ∙ some_past history count (λ h past. ap (λ items. entries_of items h) is ∙ halted.none h (omega (arith, long, past))),
)
  where
    long : length (map g xs) ≡ count
    long = length-map xs g ∙ sym all

-- ---- how each stands

pub all_ends : (s : Scenario) (y : Schedule) (n : ℕ) (es : List (Option Ending)) → n ≡ length s.nexuses → es ≡ map (λ h. ending (control y.world h) (plan y h)) (range_with_len 0 n) → es ≡ endings_in s y
all_ends s y n es all before = before ∙ ap (λ k. map (λ h. ending (control y.world h) (plan y h)) (range_with_len 0 k)) all

-- ---- all the lists

pub ordered_length : {X : Type 0} (xs : List X) (f : X → ℕ) (n : ℕ) → map f xs ≡ range_with_len 0 n → length xs ≡ n
ordered_length xs f n order = sym (length-map xs f) ∙ (ap length order ∙ length-range_with_len 0 n)

pub guests_length : (s : Scenario) (guests : List Bool) → guests_of s ≡ guests → length s.nexuses ≡ length guests
guests_length s guests are = sym (length-map s.nexuses (λ n. is_planned n.task)) ∙ ap length are

-- there are as many as seats
pub lists_length : {X Y : Type 0} (lists : List X) (g : X → List Entry) (seats : List Y) (f : Y → List Entry) → map g lists ≡ map f seats → length lists ≡ length seats
lists_length lists g seats f mine = sym (length-map lists g) ∙ (ap length mine ∙ length-map seats f)

-- so many lists, which are those of the seats, are what was sent
own_lists : {X Y : Type 0} (lists xs : List X) (g : X → List Entry) (seats : List Y) (f : Y → List Entry) (sent history : List Item) (n : ℕ) → lists ≡ xs → map g xs ≡ map f seats → length seats ≡ n
    → history ≡ sent → entries_by (length lists) sent ≡ map g lists → entries_by n history ≡ map f seats
own_lists lists xs g seats f sent history n same mine long is own =
    let all : length lists ≡ n = sym (length-map lists g) ∙ (ap length (ap (map g) same ∙ mine) ∙ (length-map seats f ∙ long)) in
    ap (entries_by n) is ∙ (sym (ap (λ k. entries_by k sent) all) ∙ (own ∙ (ap (map g) same ∙ mine)))

pub closed_own : {X Y : Type 0} (s : Scenario) (w : Progress) (lists xs : List X) (g : X → List Entry) (seats : List Y) (f : Y → List Entry) (history : List Item) (n : ℕ) → IsClosed s (map g lists) w
    → lists ≡ xs → map g xs ≡ map f seats → length seats ≡ n → history ≡ w.schedule.world.history → entries_by n history ≡ map f seats
closed_own s w lists xs g seats f history n closed same mine long is =
    own_lists lists xs g seats f w.schedule.world.history history n same mine long is (ap (λ k. entries_by k w.schedule.world.history) (sym (length-map lists g)) ∙ closed.own)

pub halted_own : {X Y : Type 0} (s : Scenario) (w : Progress) (lists xs : List X) (g : X → List Entry) (seats : List Y) (f : Y → List Entry) (history : List Item) (n : ℕ) → IsHaltedWith s (map g lists) w
    → lists ≡ xs → map g xs ≡ map f seats → length seats ≡ n → history ≡ w.schedule.world.history → entries_by n history ≡ map f seats
halted_own s w lists xs g seats f history n halted same mine long is =
    own_lists lists xs g seats f w.schedule.world.history history n same mine long is (ap (λ k. entries_by k w.schedule.world.history) (sym (length-map lists g)) ∙ halted.own)

-- ---- a history that was halted

pub halted : {X Y : Type 0} (s : Scenario) (w : Progress) (lists xs : List X) (g : X → List Entry) (seats : List Y) (f : Y → List Entry) (history : List Item) (n : ℕ) → IsHaltedWith s (map g lists) w
    → lists ≡ xs → map g xs ≡ map f seats → length seats ≡ n → (steps : List Step) × IsReached (scenario_of w.scenario) steps w.schedule → history ≡ w.schedule.world.history → IsHalted s n history
halted s w lists xs g seats f history n with same mine long legal is =
    let here : (steps : List Step) × IsReached s steps w.schedule = subst (λ u. (steps : List Step) × IsReached u steps w.schedule) with.scenario legal in
    let all : length (map g lists) ≡ n = ap length (ap (map g) same ∙ mine) ∙ (length-map seats f ∙ long) in
    record {
      start = here.1.start;
      first = here.1.first;
      legal = (here.1.events, w.schedule.world, here.1.run, sym is);
      none = λ h past. ap (λ items. entries_of items h) is ∙ with.none h (omega (arith, all, past));
    }
