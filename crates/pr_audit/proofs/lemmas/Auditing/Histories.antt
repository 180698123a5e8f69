-- The histories of runs: each event adds one item, or none where somebody else is told of an attention, and what stands before the
-- last one is the history of a run.
use Rattle.pr_audit.proofs.Common.{◌≡◌, ℕ, Bool, true, false, List, [], ◌∷◌, ◌++◌, take, sym, refl, ap, ◌∙◌, subst, append-nil, false≢true, spelling, UnitState, IsLegal, Scenario, World, entry_of, Event, Host, Guest, UnitReset, Fetched, Happens, world_from, Item, Sent, Reset, Adds, AddsAfterFetches, IsWorldOf, Reaches}
use Rattle.std.proofs.Common.{drop}
use Rattle.std.specs.Prelude.{◌⊎◌}
use Rattle.std.proofs.Common.{inl, inr}
use Rattle.std.proofs.lemmas.List.{append_assoc, append_cancel_left, take-append-drop}
pub use Rattle.std.proofs.lemmas.List.{same_from_push as last_same}
pub use Rattle.pr_roles.proofs.lemmas.SafeRuns.NextEvents.{runs_go_on as run_then}
use Rattle.pr_unit.specs.inside.SharedStates.{IsAtMost}
use Rattle.pr_unit.specs.UnitStates.{after_report}
use Rattle.pr_unit.proofs.lemmas.Steps.QuietSteps.{reported-quiet}
use Rattle.pr_unit.proofs.lemmas.Steps.SharedSteps.{at_most_below, below_through, same_below}
use Rattle.pr_roles.specs.Worlds.{Run}

-- ---- the last of a list

not_nil : {X : Type 0} (xs : List X) (x : X) → xs ++ x ∷ [] ≡ [] → ⊥
not_nil [] x is = let bad : x ∷ [] ≡ [] = is in cc
not_nil (y ∷ xs) x is = let bad : y ∷ (xs ++ x ∷ []) ≡ [] = is in cc

-- a history is no longer than itself
pub one_longer : (es : List Item) (i : Item) → es ≡ es ++ i ∷ [] → ⊥
one_longer es i is = let bad : [] ≡ i ∷ [] = append_cancel_left es [] (i ∷ []) (append-nil es ∙ is) in cc

-- ---- the last event of a run

record HasAdded (w v : World) : Type 0 where
  pub item : Item
  pub added : v.history ≡ w.history ++ item ∷ []

is_fetch : Event → Bool
is_fetch (Host h so) = false
is_fetch (Guest g wire so) = false
is_fetch UnitReset = false
is_fetch (Fetched h code) = true

has_added : (s : Scenario) (w : World) (event : Event) (v : World) → is_fetch event ≡ false → Happens s w event v → HasAdded w v
unfolding is_fetch
has_added s w (Host h so) v other sends = record { item = Sent (entry_of h (spelling sends.command) sends.reply); added = ap (λ x. x.history) sends.world }
has_added s w (Guest g wire so) v other sends = record { item = Sent (entry_of g wire sends.reply); added = ap (λ x. x.history) sends.world }
has_added s w UnitReset v other resets = record { item = Reset; added = ap (λ x. x.history) resets.world }
has_added s w (Fetched h code) v other fetched = absurd (false≢true (sym other))

nothing_added : (s : Scenario) (w : World) (event : Event) (v : World) → is_fetch event ≡ true → Happens s w event v → v.history ≡ w.history
unfolding is_fetch
nothing_added s w (Fetched h code) v is fetched = ap (λ x. x.history) fetched.world
nothing_added s w _ v is happens = absurd (false≢true is)

-- ---- worlds that a history leads to

pub reached_legal : (s : Scenario) (u : UnitState) (history : List Item) (w : World) → Reaches s u history w → IsLegal s u history
reached_legal s u history w reaches = (reaches.events, w, reaches.run, reaches.items)

pub run_on : (s : Scenario) (w : World) (es : List Event) (v : World) (fs : List Event) (x : World) → Run s w es v → Run s v fs x → Run s w (es ++ fs) x
run_on s w [] v fs x run next = subst (λ y. Run s y fs x) run next
run_on s w (e ∷ es) v fs x run next = (run.0, run.1, run_on s run.0 es v fs x run.2 next)

pub reaches_more : (s : Scenario) (u : UnitState) (history : List Item) (w : World) (e : Item) (v : World) → Reaches s u history w → AddsAfterFetches s w e v → Reaches s u (history ++ e ∷ []) v
reaches_more s u history w e v reaches more =
    let mid : World = record w { unit = more.from } in
    record {
      events = (reaches.events ++ more.events) ++ more.adds.event ∷ [];
      run = run_then s (world_from s u) mid v (reaches.events ++ more.events) more.adds.event
          (run_on s (world_from s u) reaches.events w more.events mid reaches.run more.fetches) more.adds.happens;
      items = more.adds.added ∙ ap (λ es. es ++ e ∷ []) reaches.items;
    }

-- before the last item there was a world that the others led to, and behind it nothing was added
pub record ReachedBefore (s : Scenario) (u : UnitState) (history : List Item) (e : Item) (w : World) : Type 0 where
  pub before : World
  pub reaches : Reaches s u history before
  pub after : World
  pub adds : Adds s before e after
  pub later : List Event
  pub on : Run s after later w

-- the same, of a run that begins anywhere
record IsPassed (s : Scenario) (w v : World) (history : List Item) (e : Item) : Type 0 where
  events : List Event
  before : World
  run : Run s w events before
  items : before.history ≡ history
  after : World
  adds : Adds s before e after
  later : List Event
  on : Run s after later v

passed : (s : Scenario) (history : List Item) (e : Item) (w : World) (events : List Event) (v : World) → Run s w events v → v.history ≡ history ++ e ∷ [] → (w.history ≡ history ++ e ∷ []) ⊎ IsPassed s w v history e
passed s history e w [] v run items = inl (ap (λ x. x.history) (sym run) ∙ items)
passed s history e w (event ∷ events) v run items = at (passed s history e run.0 events v run.2 items)
  where
    by : run.0.history ≡ history ++ e ∷ [] → (b : Bool) → is_fetch event ≡ b → (w.history ≡ history ++ e ∷ []) ⊎ IsPassed s w v history e
    by there true fetch = inl (sym (nothing_added s w event run.0 fetch run.1) ∙ there)
    by there false other =
        let new = has_added s w event run.0 other run.1 in
        let same = last_same w.history history new.item e (sym new.added ∙ there) in
        inr (record {
          events = [];
          before = w;
          run = refl;
          items = same.0;
          after = run.0;
          adds = record { event = event; happens = run.1; added = new.added ∙ ap (λ f. w.history ++ f ∷ []) same.1 };
          later = events;
          on = run.2;
        })

    at : (run.0.history ≡ history ++ e ∷ []) ⊎ IsPassed s run.0 v history e → (w.history ≡ history ++ e ∷ []) ⊎ IsPassed s w v history e
    at (inl there) = by there (is_fetch event) refl
    at (inr x) = inr (record { events = event ∷ x.events; before = x.before; run = (run.0, run.1, x.run); items = x.items; after = x.after; adds = x.adds; later = x.later; on = x.on })

pub reached_before : (s : Scenario) (u : UnitState) (history : List Item) (e : Item) (w : World) → Reaches s u (history ++ e ∷ []) w → ReachedBefore s u history e w
reached_before s u history e w reaches = at (passed s history e (world_from s u) reaches.events w reaches.run reaches.items)
  where
    at : ([] ≡ history ++ e ∷ []) ⊎ IsPassed s (world_from s u) w history e → ReachedBefore s u history e w
    at (inl none) = absurd (not_nil history e (sym none))
    at (inr x) = record { before = x.before; reaches = record { events = x.events; run = x.run; items = x.items }; after = x.after; adds = x.adds; later = x.later; on = x.on }

-- ---- where nothing is added, less may be pending

record HasGrown (w v : World) : Type 0 where
  rest : List Item
  is : v.history ≡ w.history ++ rest

grown : (s : Scenario) (w : World) (events : List Event) (v : World) → Run s w events v → HasGrown w v
grown s w [] v run = record { rest = []; is = ap (λ x. x.history) run ∙ sym (append-nil w.history) }
grown s w (event ∷ events) v run = at (is_fetch event) refl (grown s run.0 events v run.2)
  where
    at : (b : Bool) → is_fetch event ≡ b → HasGrown run.0 v → HasGrown w v
    at true is more = record { rest = more.rest; is = more.is ∙ ap (λ es. es ++ more.rest) (nothing_added s w event run.0 is run.1) }
    at false is more =
        let new = has_added s w event run.0 is run.1 in
        record { rest = new.item ∷ more.rest; is = more.is ∙ ap (λ es. es ++ more.rest) new.added ∙ append_assoc w.history (new.item ∷ []) more.rest }

fetched_below : (s : Scenario) (w x : World) (event : Event) (y : World) → is_fetch event ≡ true → Happens s x event y → IsWorldOf s w x → IsWorldOf s w y
unfolding is_fetch
fetched_below s w x (Fetched h code) y is fetched of = subst (IsWorldOf s w) (sym fetched.world) (record {
  below = below_through s.shared w.unit x.unit (after_report x.unit h code) of.below (at_most_below s.shared x.unit h (after_report x.unit h code) (subst (λ b. IsAtMost b x.unit h (after_report x.unit h code)) (sym fetched.shares) (reported-quiet x.unit h code)));
  controls = of.controls;
  history = of.history;
})
fetched_below s w x _ y is happens of = absurd (false≢true is)

pub only_fetched : (s : Scenario) (w x : World) (events : List Event) (y : World) → Run s x events y → y.history ≡ x.history → IsWorldOf s w x → IsWorldOf s w y
only_fetched s w x [] y run same of = subst (IsWorldOf s w) (sym run) of
only_fetched s w x (event ∷ events) y run same of = at (is_fetch event) refl (λ is. only_fetched s w run.0 events y run.2 (same ∙ sym (nothing_added s x event run.0 is run.1)) (fetched_below s w x event run.0 is run.1 of))
  where
    at : (b : Bool) → is_fetch event ≡ b → (is_fetch event ≡ true → IsWorldOf s w y) → IsWorldOf s w y
    at true is rest = rest is
    at false is rest =
        let new = has_added s x event run.0 is run.1 in
        let more = grown s run.0 events y run.2 in
        let longer = sym same ∙ more.is ∙ ap (λ es. es ++ more.rest) new.added ∙ append_assoc x.history (new.item ∷ []) more.rest in
        let bad : [] ≡ new.item ∷ more.rest = append_cancel_left x.history [] (new.item ∷ more.rest) (append-nil x.history ∙ longer) in
        cc

pub same_world : (s : Scenario) (w : World) → IsWorldOf s w w
same_world s w = record { below = same_below s.shared w.unit; controls = refl; history = refl }

-- a run without history has at most fetched
pub reached_at_first : (s : Scenario) (u : UnitState) (w : World) → Reaches s u [] w → IsWorldOf s (world_from s u) w
reached_at_first s u w reaches = only_fetched s (world_from s u) (world_from s u) reaches.events w reaches.run reaches.items (same_world s (world_from s u))

-- ---- the beginnings of a legal history are legal

pub legal_before : (s : Scenario) (u : UnitState) (xs ys : List Item) → IsLegal s u (xs ++ ys) → IsLegal s u xs
legal_before s u xs [] legal = subst (IsLegal s u) (append-nil xs) legal
legal_before s u xs (e ∷ ys) legal =
    let more = legal_before s u (xs ++ e ∷ []) ys (subst (IsLegal s u) (sym (append_assoc xs (e ∷ []) ys)) legal) in
    let reaches : Reaches s u (xs ++ e ∷ []) more.1 = record { events = more.0; run = more.2; items = more.3 } in
    let before = reached_before s u xs e more.1 reaches in
    reached_legal s u xs before.before before.reaches

pub legal_take : (s : Scenario) (u : UnitState) (n : ℕ) (history : List Item) → IsLegal s u history → IsLegal s u (take n history)
legal_take s u n history legal = legal_before s u (take n history) (drop n history) (subst (IsLegal s u) (sym (take-append-drop n history)) legal)
