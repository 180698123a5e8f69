-- Who is safe with fewer premises is safe with more: the fewer events are among the more.
use Rattle.pr_roles.proofs.Common.{◌≡◌, ℕ, ◌<◌, Bool, true, ◌||◌, ◌⊎◌, inl, inr, nat_lt, List, [], ◌∷◌, length, refl, ap, UnitState, Scenario, World, Event, Host, How, Run, Item}
use Rattle.std.proofs.lemmas.Bool.{or_cases, or_right, lt-ltb}
unfoldable use Rattle.pr_roles.specs.Safety.{IsSafe}
use Rattle.pr_roles.specs.declared.how.How.TheVariants as how
use Rattle.pr_roles.specs.Answers.{refusals_by, most_refusals, may_come}
use Rattle.pr_roles.specs.Scenarios.{on_shared_paths}
use Rattle.pr_roles.specs.Starts.{IsAllowedStart}
use Rattle.pr_roles.specs.Worlds.{Guest, UnitReset, Fetched, HostSends, Happens}
use Rattle.pr_roles.specs.SafeRuns.{FewerPremisesAreNoSafer, SharedPathsAreNoSafer}

-- of another version, where no fewer share their paths, and the disk may report early if it might
module _ (s : Scenario) (version : ℕ) (shared : ℕ → Bool) (early : Bool) (paths : (h : ℕ) → h < length s.nexuses → s.shared h ≡ true → shared h ≡ true) (order : s.early ≡ true → early ≡ true) where
  abbrev t : Scenario
  t = record s { version = version; shared = shared; early = early }

  allowed_more : (u : UnitState) → IsAllowedStart s u → IsAllowedStart t u
  allowed_more u allowed = record {
    formed = allowed.formed;
    hosts = allowed.hosts;
    registrations = allowed.registrations;
    reservation = allowed.reservation;
    pending = allowed.pending;
  }

  room_more : (history : List Item) (h : ℕ) (k : How) → may_come s history h k ≡ true → may_come t history h k ≡ true
  room_more history h how.Plain room = room
  room_more history h how.Early room = at (or_cases s.early (nat_lt (refusals_by history h how.Early) (most_refusals s h how.Early)) room)
    where
      at : (s.early ≡ true) ⊎ (nat_lt (refusals_by history h how.Early) (most_refusals s h how.Early) ≡ true) → may_come t history h how.Early ≡ true
      at (inl is) = ap (λ b. b || nat_lt (refusals_by history h how.Early) (most_refusals s h how.Early)) (order is)
      at (inr less) = or_right early (nat_lt (refusals_by history h how.Early) (most_refusals s h how.Early)) less
  room_more history h how.Busy room = room
  room_more history h how.Full room = room

  sends_more : (w : World) (h : ℕ) (k : How) (v : World) → HostSends s w h k v → HostSends t w h k v
  sends_more w h k v sends = record {
    room = room_more w.history h k sends.room;
    line = sends.line;
    command = sends.command;
    ready = sends.ready;
    reply = sends.reply;
    unit = sends.unit;
    answer = sends.answer;
    world = sends.world;
  }

  happens_more : (w : World) (e : Event) (v : World) → Happens s w e v → Happens t w e v
  happens_more w (Host h k) v sends = sends_more w h k v sends
  happens_more w (Guest g wire k) v sends = record {
    room = room_more w.history g k sends.room;
    guest = sends.guest;
    bytes = sends.bytes;
    lengths = sends.lengths;
    request = sends.request;
    read = sends.read;
    reply = sends.reply;
    unit = sends.unit;
    answer = sends.answer;
    permitted = sends.permitted;
    world = sends.world;
  }
  happens_more w UnitReset v resets = record { room = resets.room; world = resets.world }
  happens_more w (Fetched h code) v fetched = record { there = fetched.there; shares = paths h fetched.there fetched.shares; pending = fetched.pending; world = fetched.world }

  run_more : (w : World) (es : List Event) (v : World) → Run s w es v → Run t w es v
  run_more w [] v run = run
  run_more w (e ∷ es) v run = (run.0, happens_more w e run.0 run.1, run_more run.0 es v run.2)

  pub more_is_no_safer : IsSafe t → IsSafe s
  unfolding IsSafe sends_more
  more_is_no_safer safe u allowed es w run h =
      let x = safe u (allowed_more u allowed) es w (run_more _ es w run) h in
      (x.0, x.1, λ k v sends good. x.2 k v (sends_more w h k v sends) good)

pub shared_paths_are_no_safer : SharedPathsAreNoSafer
shared_paths_are_no_safer s = more_is_no_safer s s.version (λ h. true) s.early (λ h there shares. refl) (λ is. is)

pub fewer_premises_are_no_safer : FewerPremisesAreNoSafer
fewer_premises_are_no_safer s = more_is_no_safer (on_shared_paths s) 3 (λ h. nat_lt h (length s.nexuses)) true (λ h there shares. lt-ltb h (length s.nexuses) there) (λ is. refl)
