-- What outlines are asked is the same where others look at the disk by the hosts' paths.
use Rattle.pr_verify.proofs.Common.{ℕ, Some, Option, UnitState, Stmts, Task, Scripted, task, Scenario, IsAllowedStart, Becomes, by_another, by_reset, IsAsked, at_start, by_itself, by_others, IsSound, HasOutline, OnScripted, Outline, HaveOutlines}
use Rattle.pr_roles.specs.Scenarios.{on_shared_paths}

module _ (s : Scenario) where
  allowed_before : (u : UnitState) → IsAllowedStart (on_shared_paths s) u → IsAllowedStart s u
  allowed_before u allowed = record {
    formed = allowed.formed;
    hosts = allowed.hosts;
    registrations = allowed.registrations;
    reservation = allowed.reservation;
    pending = allowed.pending;
  }

  becomes_before : (own : ℕ) (u v : UnitState) → Becomes (on_shared_paths s) own u v → Becomes s own u v
  becomes_before own u v (by_another g there other done) = by_another g there other done
  becomes_before own u v (by_reset declared is) = by_reset declared is

  asked_before : (script : Stmts) (o : Outline) (line : ℕ) (u : UnitState) → IsAsked (on_shared_paths s) script o line u → IsAsked s script o line u
  asked_before script o line u (at_start x) = at_start (record { allowed = allowed_before u x.allowed; first = x.first })
  asked_before script o line u (by_itself p listed x) =
      by_itself p listed (record { from = x.from; shown = x.shown; reply = x.reply; answer = x.answer; next = x.next; follows = x.follows; there = x.there })
  asked_before script o line u (by_others x) = by_others (record { from = x.from; shown = x.shown; becomes = becomes_before o.host x.from u x.becomes })

  sound_shared : (script : Stmts) (o : Outline) → IsSound s script o → IsSound (on_shared_paths s) script o
  sound_shared script o sound = record { listed = sound.listed; scenario = sound.scenario; shows = λ line u asked. sound.shows line u (asked_before script o line u asked) }

  carried_shared : (h : ℕ) (t : Option Task) → OnScripted t (HasOutline s h) → OnScripted t (HasOutline (on_shared_paths s) h)
  carried_shared h (Some (Scripted script budget)) x = record {
    outline = x.outline;
    host = x.host;
    sound = sound_shared script x.outline x.sound;
    fitting = record { arms = x.fitting.arms; role = x.fitting.role; cost = x.fitting.cost };
  }
  carried_shared h _ x = tt

  pub outlines_shared : HaveOutlines s → HaveOutlines (on_shared_paths s)
  outlines_shared have h there = carried_shared h (task s h) (have h there)
