-- Histories that are followed, and what their last item breaks.
use Rattle.pr_witness.proofs.Common.{◌≡◌, ℕ, ◌<◌, List, [], ◌∷◌, ◌++◌, length, Some, None, refl, sym, ap, ◌∙◌, subst, arith, length-map, UnitState, Item, Parts, Scenario, scenario_of, IsAllowedStart, World, ActFor, world_at, IsRunOf}
use Rattle.std.proofs.Common.{true, false}
use Rattle.std.specs.Prelude.{vec_len}
use Rattle.pr_cdb.specs.declared.command.Command.{Command}
use Rattle.pr_cdb.specs.declared.reply.Reply.{Reply}
use Rattle.pr_cdb.specs.declared.wire.Request.TheVariants.{Plain}
use Rattle.pr_cdb.specs.Spelling.{spelling}
use Rattle.pr_unit.specs.Replies.{is_good}
use Rattle.pr_script.specs.Scripts.{ready}
use Rattle.pr_roles.specs.declared.entry.Entry.{Entry}
use Rattle.pr_roles.specs.declared.how.How.{How}
use Rattle.pr_roles.specs.declared.item.Item.TheVariants.{Sent, Reset}
use Rattle.pr_roles.specs.Breaches.{Broken, meets_no_arm, leaves_role, exceeds_budget, Breaks, LeavesRole}
use Rattle.pr_roles.specs.Permits.{is_permitted}
use Rattle.pr_roles.specs.Scenarios.{role}
use Rattle.pr_roles.specs.Worlds.{Event, Host, Guest, UnitReset, Fetched, Happens, HostSends, control, entry_of, standing_of, world_from}
use Rattle.pr_roles.proofs.lemmas.Scenarios.Parts.{count_of_parts}
use Rattle.pr_audit.specs.declared.auditor.Auditor.{Auditor}
use Rattle.pr_registry.specs.Registrations.{State}
use Rattle.pr_audit.specs.Auditors.{Adds, AddsAfterFetches, IsTried, is_free, is_planned}
use Rattle.pr_audit.proofs.lemmas.Auditors.Additions.{guests_free, same_entry, same_item}
use Rattle.pr_audit.proofs.lemmas.Auditing.Histories.{one_longer, reaches_more, run_on}
use Rattle.pr_witness.specs.declared.breach.Breach.{Breach}
use Rattle.pr_witness.specs.declared.breach.CertifiedRun.{CertifiedRun}
use Rattle.pr_witness.specs.Breaches.{IsBreachOf, broken_of}
use Rattle.pr_witness.specs.CertifiedRuns.{TellsOf}
use Rattle.pr_witness.specs.inside.Following.{IsBroken, IsRunFrom, IsFollowed, IsForbidden, LeavesWith}

-- there is a script or a guest for each that the scenario declares
pub control_there : (s : Scenario) (w : World) (h : ℕ) → ActFor s w → h < length s.nexuses → h < length w.controls
control_there s w h acts there =
    let all : length w.controls ≡ length s.nexuses = sym (length-map w.controls is_free) ∙ (ap length acts.tasks ∙ length-map s.nexuses (λ n. is_planned n.task)) in
    omega arith

pub followed_first : (s : Scenario) (u : UnitState) (a : Auditor) → world_at a [] ≡ world_from s u → ActFor s (world_at a []) → IsFollowed s u [] (world_at a [])
followed_first s u a world acts = record { reaches = record { events = []; run = world; items = refl }; acts = acts }

-- the item is the last one of the history
pub followed_whole : (s : Scenario) (u : UnitState) (history before : List Item) (a b : Auditor) (e : Item) → history ≡ before ++ e ∷ [] → IsFollowed s u before (world_at a before)
    → IsTried s (world_at a before) e true (world_at b (before ++ e ∷ [])) → ActFor s (world_at b []) → IsFollowed s u history (world_at b history)
followed_whole s u history before a b e whole followed tried acts = subst (λ es. IsFollowed s u es (world_at b es)) (sym whole) (record {
  reaches = reaches_more s u before (world_at a before) e (world_at b (before ++ e ∷ [])) followed.reaches tried.0;
  acts = record { hosts = acts.hosts; tasks = acts.tasks };
})

-- ---- a command outside its host's role

leaves_at : (s : Scenario) (u : UnitState) (w v : World) (g line : ℕ) (how : How) (command : Command) (reply : Reply) → IsFollowed s u w.history w → (sends : HostSends s w g how v)
    → sends.reply ≡ reply → standing_of (control w g) ≡ Some (ready line command) → is_good reply ≡ true → is_permitted (role s g) w.unit.registry g (Plain command) ≡ false → LeavesRole s u g line v
leaves_at s u w v g line how command reply followed sends is stands good forbidden =
    let both : Some (ready sends.line sends.command) ≡ Some (ready line command) = sym sends.ready ∙ stands in
    let at : sends.line ≡ line = cc in
    let same : sends.command ≡ command = cc in
    record {
      events = followed.reaches.events;
      before = w;
      run = followed.reaches.run;
      how = how;
      sends = sends;
      at = at;
      good = ap is_good is ∙ good;
      forbidden = ap (λ c. is_permitted (role s g) w.unit.registry g (Plain c)) same ∙ forbidden;
    }

-- the entry that was added is the command that leaves the role
pub leaves : (s : Scenario) (u : UnitState) (w v : World) (e : Entry) (h line : ℕ) → IsFollowed s u w.history w → LeavesWith s w e h line → Adds s w (Sent e) v → LeavesRole s u h line v
leaves s u w v e h line followed with_it adds = by adds.event adds.happens adds.added
  where
    by : (event : Event) → Happens s w event v → v.history ≡ w.history ++ Sent e ∷ [] → LeavesRole s u h line v
    by (Host g how) sends added =
        let same : entry_of g (spelling sends.command) sends.reply ≡ e = same_entry w.history v.history (entry_of g (spelling sends.command) sends.reply) e (ap (λ x. x.history) sends.world) added in
        let sender : h ≡ g = sym with_it.sender ∙ sym (ap (λ d. d.host) same) in
        subst (λ x. LeavesRole s u x line v) (sym sender) (leaves_at s u w v g line how with_it.command e.reply followed sends (ap (λ d. d.reply) same)
        (subst (λ x. standing_of (control w x) ≡ Some (ready line with_it.command)) sender with_it.ready) with_it.good
        (subst (λ x. is_permitted (role s x) w.unit.registry x (Plain with_it.command) ≡ false) sender with_it.forbidden))
    by (Guest g wire how) sends added =
        let same : entry_of g wire sends.reply ≡ e = same_entry w.history v.history (entry_of g wire sends.reply) e (ap (λ x. x.history) sends.world) added in
        let sender : h ≡ g = sym with_it.sender ∙ sym (ap (λ d. d.host) same) in
        let free : standing_of (control w h) ≡ None = ap (λ x. standing_of (control w x)) sender ∙ ap standing_of (guests_free s w followed.acts g sends.guest) in
        let bad : None ≡ Some (ready line with_it.command) = sym free ∙ with_it.ready in
        cc
    by UnitReset resets added = let bad : Reset ≡ Sent e = same_item w.history v.history Reset (Sent e) (ap (λ x. x.history) resets.world) added in cc
    by (Fetched g code) fetched added = absurd (one_longer w.history (Sent e) (sym (ap (λ x. x.history) fetched.world) ∙ added))

-- ---- what is broken

-- the fetches before it lead to a world that is followed, too
fetched_followed : (s : Scenario) (u : UnitState) (w v : World) (e : Item) → IsFollowed s u w.history w → (more : AddsAfterFetches s w e v) → IsFollowed s u w.history (record w { unit = more.from })
fetched_followed s u w v e followed more = record {
  reaches = record {
    events = followed.reaches.events ++ more.events;
    run = run_on s (world_from s u) followed.reaches.events w more.events (record w { unit = more.from }) followed.reaches.run more.fetches;
    items = refl;
  };
  acts = record { hosts = ap (λ (r : State). r.hosts) more.registry ∙ followed.acts.hosts; tasks = followed.acts.tasks };
}

pub forbidden_breaks : (s : Scenario) (u : UnitState) (history : List Item) (a b : Auditor) (e : Item) (broken : Broken) → IsFollowed s u history (world_at a history)
    → AddsAfterFetches s (world_at a history) e (world_at b (history ++ e ∷ [])) → IsForbidden s (world_at a []) e broken → Breaks s u (world_at b (history ++ e ∷ [])) broken
forbidden_breaks s u history a b (Sent e) (meets_no_arm h line) followed more bad = absurd bad
forbidden_breaks s u history a b (Sent e) (leaves_role h line) followed more with_it =
    leaves s u (record { unit = more.from; controls = (world_at a history).controls; history = history }) (world_at b (history ++ Sent e ∷ [])) e h line (fetched_followed s u (world_at a history) (world_at b (history ++ Sent e ∷ [])) (Sent e) followed more)
    (record {
      sender = with_it.sender;
      command = with_it.command;
      ready = with_it.ready;
      good = with_it.good;
      forbidden = ap (λ (r : State). is_permitted (role s h) r h (Plain with_it.command)) more.registry ∙ with_it.forbidden;
    }) more.adds
forbidden_breaks s u history a b (Sent e) (exceeds_budget h) followed more bad = absurd bad
forbidden_breaks s u history a b Reset broken followed more bad = absurd bad

pub forbidden_whole : (s : Scenario) (u : UnitState) (history before : List Item) (a b : Auditor) (e : Item) (broken : Broken) → history ≡ before ++ e ∷ []
    → IsFollowed s u before (world_at a before) → IsTried s (world_at a before) e true (world_at b (before ++ e ∷ [])) → ActFor s (world_at b [])
    → IsForbidden s (world_at a []) e broken → IsBroken s u history (world_at b history) broken
forbidden_whole s u history before a b e broken whole followed tried acts bad = record {
  followed = followed_whole s u history before a b e whole followed tried acts;
  breaks = subst (λ es. Breaks s u (world_at b es) broken) (sym whole) (forbidden_breaks s u before a b e broken followed tried.0 bad);
}

-- ---- a run

-- (what is read of the world is not its history)
tells_at : (s : Scenario) (c : CertifiedRun) (a : Auditor) (es : List Item) → TellsOf s c (world_at a []) → TellsOf s c (world_at a es)
tells_at s c a es tells = record { unit = tells.unit; ends = tells.ends; counts = tells.counts }

pub run_from : (s : Scenario) (c : CertifiedRun) (start v : UnitState) (history es : List Item) (a b : Auditor) → IsAllowedStart s start → world_at a [] ≡ world_from s v → v ≡ start
    → ActFor s (world_at a []) → es ≡ history → ((u : UnitState) → IsFollowed s u [] (world_at a []) → IsFollowed s u es (world_at b es))
    → IsRunFrom s b start history c → IsRunOf s c
run_from s c start v history es a b allowed world same acts whole follows from =
    let first = followed_first s c.start a (world ∙ ap (world_from s) (same ∙ sym from.starts)) acts in
    let done = subst (λ xs. IsFollowed s c.start xs (world_at b xs)) (whole ∙ sym from.items) (follows c.start first) in
    record {
      allowed = subst (IsAllowedStart s) (sym from.starts) allowed;
      events = done.reaches.events;
      world = world_at b c.history.items;
      run = done.reaches.run;
      whole = refl;
      tells = tells_at s c b c.history.items from.tells;
    }

pub breach_from : (s : Scenario) (breach : Breach) (start v : UnitState) (history es : List Item) (a b : Auditor) → IsAllowedStart s start → world_at a [] ≡ world_from s v → v ≡ start
    → ActFor s (world_at a []) → es ≡ history → ((u : UnitState) → IsFollowed s u [] (world_at a []) → IsBroken s u es (world_at b es) (broken_of breach.broken))
    → IsRunFrom s b start history breach.run → IsBreachOf s breach
breach_from s breach start v history es a b allowed world same acts whole breaks from =
    let c = breach.run in
    let first = followed_first s c.start a (world ∙ ap (world_from s) (same ∙ sym from.starts)) acts in
    let done = subst (λ xs. IsBroken s c.start xs (world_at b xs) (broken_of breach.broken)) (whole ∙ sym from.items) (breaks c.start first) in
    record {
      breach = record {
        allowed = subst (IsAllowedStart s) (sym from.starts) allowed;
        events = done.followed.reaches.events;
        world = world_at b c.history.items;
        run = done.followed.reaches.run;
        whole = refl;
        breaks = done.breaks;
      };
      tells = tells_at s c b c.history.items from.tells;
    }

-- as many as the parts declare
pub parts_count : (p q : Parts) (n : ℕ) → q ≡ p → n ≡ vec_len q.nexuses → n ≡ length (scenario_of p).nexuses
parts_count p q n same is =
    let parts = count_of_parts p in
    let items = ap (λ (r : Parts). length r.nexuses.items) same in
    let all = q.nexuses.ok.0 in
    omega (arith, parts, items, all, is)
