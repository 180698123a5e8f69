-- What safety and legality say of a replay.
use Rattle.pr_roles.proofs.lemmas.SafeRuns.NextEvents.{safe_sends_are_fine}
use Rattle.pr_world.proofs.Common.{◌≡◌, ℕ, zero, suc, ◌<◌, ◌≤◌, false, List, [], ◌∷◌, ◌++◌, map, length, IsTrue, slice_get, Some, sym, refl, ap, ◌∙◌, subst, arith, range_with_len, option_map_or, false≢true, nat_tests, get_or_past, spelling, UnitState, Stmts, IsLegal, IsSafe, Scripted, task, Scenario, Control, Free, World, entry_of, Event, Host, Guest, UnitReset, Fetched, is_guest_task, Happens, commands_by, is_trapped, Entry, Item, Sent, Reset, Step, Reaches}
use Rattle.std.proofs.Common.{◌||◌, zero-add, slice_index}
use Rattle.std.specs.List.{list_any}
use Rattle.std.proofs.lemmas.List.{append_assoc}
use Rattle.std.proofs.lemmas.List.FromFn.{get_or-map-range_with_len, length-map-range_with_len}
use Rattle.pr_roles.specs.Starts.{IsAllowedStart}
use Rattle.pr_roles.specs.Safety.{KeepsBudgetBy}
use Rattle.pr_world.specs.declared.replaying.Replayed.{Replayed}
use Rattle.pr_audit.specs.Ends.{is_trapped_end}
use Rattle.pr_world.specs.Laws.{IsPermittedAfter}
use Rattle.pr_world.specs.Replays.{IsReplayed}
use Rattle.pr_audit.proofs.lemmas.Auditing.Histories.{last_same, legal_before, one_longer, reached_before}

pub replay_is_legal : (s : Scenario) (steps : List Step) (r : Replayed) (x : IsReplayed s steps r) → IsLegal s x.start r.history.items
replay_is_legal s steps r x = (x.events, x.last.world, x.reached, sym x.outcome.history)

-- where none at any place is trapped, none is
none_trapped : (ks : List Control) → ((h : ℕ) → is_trapped (option_map_or (λ c. c) (slice_get ks h) Free) ≡ false) → list_any is_trapped ks ≡ false
none_trapped [] each = refl
none_trapped (k ∷ ks) each = λ i. each zero i || none_trapped ks (λ h. each (suc h)) i

pub safe_untrapped : (s : Scenario) (steps : List Step) (r : Replayed) → IsSafe s → IsReplayed s steps r → list_any is_trapped_end r.ends.items ≡ false
unfolding IsSafe
safe_untrapped s steps r safe x =
    x.outcome.trapped ∙ none_trapped x.last.world.controls (λ h. (safe x.start x.allowed x.events x.last.world x.reached h).0)

-- the count of each, and none past the last
count_at : (es : List Item) (n h budget : ℕ) → commands_by es h ≤ budget → slice_index (map (λ g. commands_by es g) (range_with_len 0 n)) h ≤ budget
count_at es n h budget few = grind (arith, nat_tests, counted, uncounted)
  where
    counted : (i : ℕ) → i < n → slice_index (map (λ g. commands_by es g) (range_with_len 0 n)) i ≡ commands_by es i
    counted i there = get_or-map-range_with_len (λ g. commands_by es g) 0 n i i 0 there (zero-add i)

    uncounted : (i : ℕ) → n ≤ i → slice_index (map (λ g. commands_by es g) (range_with_len 0 n)) i ≡ 0
    uncounted i past = get_or_past (map (λ g. commands_by es g) (range_with_len 0 n)) i 0 (rw (length-map-range_with_len (λ g. commands_by es g) 0 n) past)

pub safe_budgets : (s : Scenario) (steps : List Step) (r : Replayed) → IsSafe s → IsReplayed s steps r → (h : ℕ) (script : Stmts) (budget : ℕ) → task s h ≡ Some (Scripted script budget)
    → slice_index r.counts.items h ≤ budget
unfolding IsSafe
safe_budgets s steps r safe x h script budget is =
    let kept : KeepsBudgetBy (task s h) x.last.world h = (safe x.start x.allowed x.events x.last.world x.reached h).1 in
    let few : commands_by x.last.world.history h ≤ budget = subst (λ t. KeepsBudgetBy t x.last.world h) is kept in
    subst (λ cs. slice_index cs h ≤ budget) (sym x.outcome.counts) (count_at x.last.world.history (length x.last.plans) h budget few)

sent_same : (d e : Entry) → Sent d ≡ Sent e → d ≡ e
sent_same d e same = cc

-- a host's entry is what its script sent, as its role permits
permitted_after : (s : Scenario) (u : UnitState) (before : List Item) (e : Entry) (w v : World) (event : Event) → IsSafe s → IsAllowedStart s u → Reaches s u before w → Happens s w event v
    → v.history ≡ w.history ++ Sent e ∷ [] → (script : Stmts) (budget : ℕ) → task s e.host ≡ Some (Scripted script budget) → IsPermittedAfter s u before e
permitted_after s u before e w v (Host h so) safe allowed reaches sends added script budget is =
    let sent = entry_of h (spelling sends.command) sends.reply in
    let same = sent_same sent e (last_same w.history w.history (Sent sent) (Sent e) (sym (ap (λ x. x.history) sends.world) ∙ added)).1 in
    let fine = safe_sends_are_fine s u reaches.events w h so v safe allowed reaches.run sends in
    subst (IsPermittedAfter s u before) same (record {
      events = reaches.events;
      world = w;
      run = reaches.run;
      history = reaches.items;
      command = sends.command;
      wire = refl;
      after = sends.unit;
      how = so;
      answer = sends.answer;
      permitted = fine.role;
    })
permitted_after s u before e w v (Guest g wire so) safe allowed reaches sends added script budget is =
    let sent = entry_of g wire sends.reply in
    let same = sent_same sent e (last_same w.history w.history (Sent sent) (Sent e) (sym (ap (λ x. x.history) sends.world) ∙ added)).1 in
    let here : task s g ≡ Some (Scripted script budget) = ap (λ (x : Entry). task s x.host) same ∙ is in
    absurd (false≢true (subst (λ t. IsTrue (is_guest_task t)) here sends.guest))
permitted_after s u before e w v UnitReset safe allowed reaches resets added script budget is =
    let same : Reset ≡ Sent e = (last_same w.history w.history Reset (Sent e) (sym (ap (λ x. x.history) resets.world) ∙ added)).1 in
    cc
permitted_after s u before e w v (Fetched h code) safe allowed reaches fetched added script budget is = absurd (one_longer w.history (Sent e) (sym (ap (λ x. x.history) fetched.world) ∙ added))

pub safe_roles : (s : Scenario) (steps : List Step) (r : Replayed) → IsSafe s → (x : IsReplayed s steps r) → (before : List Item) (e : Entry) (rest : List Item) → r.history.items ≡ before ++ Sent e ∷ rest
    → (script : Stmts) (budget : ℕ) → task s e.host ≡ Some (Scripted script budget) → IsPermittedAfter s x.start before e
safe_roles s steps r safe x before e rest is =
    let one : before ++ Sent e ∷ rest ≡ (before ++ Sent e ∷ []) ++ rest = sym (append_assoc before (Sent e ∷ []) rest) in
    let more = legal_before s x.start (before ++ Sent e ∷ []) rest (subst (IsLegal s x.start) (is ∙ one) (replay_is_legal s steps r x)) in
    let last = reached_before s x.start before (Sent e) more.1 (record { events = more.0; run = more.2; items = more.3 }) in
    permitted_after s x.start before e last.before last.after last.adds.event safe x.allowed last.reaches last.adds.happens last.adds.added
