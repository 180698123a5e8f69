-- An entry that one among the senders was asked for.
use Rattle.pr_audit.proofs.Common.{◌≡◌, ℕ, ◌<◌, ◌≤◌, Bool, true, false, List, [], ◌∷◌, ◌++◌, map, length, get_or, IsTrue, slice_set, Some, vec_len, sym, refl, ap, ◌∙◌, subst, arith, false≢true, option_map_or, get_or-map, length-map, map-set, slice_get-get_or, map-set_same, slice_get, UnitState, how_of, may_come, Task, Scripted, Planned, Nexus, role, Scenario, scenario_of, Free, World, control, control_of, Entry, How, Item, Sent, Parts, control_by, Adds, IsWorldOf, IsTried, is_free, ActFor, is_planned, IsJudged}
use Rattle.std.proofs.Common.{Vec, Global}
use Rattle.std.proofs.lemmas.List.{length-set, get_or-set_same}
use Rattle.pr_unit.specs.UnitStates.{IsWellFormed}
use Rattle.pr_roles.specs.declared.parts.Nexus.{Nexus as NexusPart}
use Rattle.pr_audit.specs.declared.sender.Sender.{Sender}
use Rattle.pr_audit.specs.Auditors.{IsPast}
use Rattle.pr_audit.specs.inside.Auditing.{AreFirstSenders}
use Rattle.pr_audit.proofs.lemmas.Auditing.Parts.{count_of_parts, path_at, role_at}
use Rattle.pr_audit.specs.inside.Auditing.{AddsBy, IsTriedBy, IsTriedServed}
use Rattle.pr_roles.specs.DeclaredRefusals.{is_served}
use Rattle.pr_roles.specs.declared.how.How.TheVariants as how
use Rattle.pr_unit.specs.SharedPaths.{IsBelow}
use Rattle.pr_audit.proofs.lemmas.Auditing.Ways.{shown, shown_served, shown_refused, told_may}
use Rattle.pr_audit.proofs.lemmas.Auditors.Additions.{added_by, judged_tried, judged_acts, acts_below, comes, none_past}

-- ---- the senders

abbrev pub world_of : UnitState → List Sender → List Item → World
world_of u senders es = record { unit = u; controls = map control_by senders; history = es }

pub free_from : (t : Task) → is_free (control_of t) ≡ is_planned t
free_from (Scripted script budget) = refl
free_from (Planned commands) = refl

tasks_begun : (ns : List Nexus) → map is_free (map (λ n. control_of n.task) ns) ≡ map (λ n. is_planned n.task) ns
tasks_begun [] = refl
tasks_begun (n ∷ ns) = λ i. free_from n.task i ∷ tasks_begun ns i

-- just the guests among them send what they like
pub begun_tasks : (p : Parts) (senders : List Sender) → AreFirstSenders p senders → map is_free (map control_by senders) ≡ map (λ n. is_planned n.task) (scenario_of p).nexuses
begun_tasks p senders controls = ap (map is_free) controls ∙ tasks_begun (scenario_of p).nexuses

-- what was said of a world after one history holds after another
others_acts : (s : Scenario) (u : UnitState) (senders : List Sender) (es fs : List Item) → ActFor s (world_of u senders es) → ActFor s (world_of u senders fs)
others_acts s u senders es fs acts = record { hosts = acts.hosts; tasks = acts.tasks }

length-senders : (s : Scenario) (u : UnitState) (senders : List Sender) (es : List Item) → ActFor s (world_of u senders es) → length senders ≡ length s.nexuses
length-senders s u senders es acts =
    sym (length-map (map control_by senders) is_free ∙ length-map senders control_by) ∙ (ap length acts.tasks ∙ length-map s.nexuses (λ n. is_planned n.task))

-- ---- the parts of a scenario

past_parts : (p q : Parts) (h i n : ℕ) → q ≡ p → i ≡ h → n ≡ vec_len q.nexuses → n ≤ i → length (scenario_of p).nexuses ≤ h
past_parts p q h i n same at len past =
    let parts = count_of_parts p in
    let items = ap (λ r. length r.nexuses.items) same in
    let all = q.nexuses.ok.0 in
    omega arith

pub within_parts : (p q : Parts) (h i n : ℕ) → q ≡ p → i ≡ h → n ≡ vec_len q.nexuses → i < n → h < length (scenario_of p).nexuses
within_parts p q h i n same at len there =
    let parts = count_of_parts p in
    let items = ap (λ r. length r.nexuses.items) same in
    let all = q.nexuses.ok.0 in
    omega arith

pub sender_within : (s : Scenario) (u : UnitState) (senders : Vec Sender Global) (es : List Item) (h i : ℕ) → ActFor s (world_of u senders.items es) → i ≡ h → h < length s.nexuses → i < vec_len senders
sender_within s u senders es h i acts at there =
    let all = length-senders s u senders.items es acts in
    let len = senders.ok.0 in
    omega arith

pub nobody_tried : (p q : Parts) (u : UnitState) (senders : List Sender) (e : Entry) (i n : ℕ) → ActFor (scenario_of p) (world_of u senders []) → q ≡ p → i ≡ e.host → n ≡ vec_len q.nexuses → n ≤ i
    → (before : List Item) (x y : World) → IsWorldOf (scenario_of p) (world_of u senders before) x → Adds (scenario_of p) x (Sent e) y → ⊥
nobody_tried p q u senders e i n acts same at len past before x y of adds =
    none_past (scenario_of p) x e y (acts_below (scenario_of p) (world_of u senders before) x of (others_acts (scenario_of p) u senders [] before acts)) (past_parts p q e.host i n same at len past) adds

-- a way in which it may come no more
pub none_tried : (so : How) (s : Scenario) (u : UnitState) (senders : List Sender) (e : Entry) (before : List Item) → ActFor s (world_of u senders [])
    → may_come s before e.host so ≡ false → (x y : World) → IsWorldOf s (world_of u senders before) x → AddsBy so s x e y → ⊥
none_tried so s u senders e before acts over x y of adds =
    let room = (comes so s x e y (acts_below s (world_of u senders before) x of (others_acts s u senders [] before acts)) adds).room in
    false≢true (sym over ∙ ap (λ es. may_come s es e.host so) (sym of.history) ∙ room)

-- ---- both ways of the unit, and either refusal

tried_from : (s : Scenario) (w m : World) (e : Entry) (k : How) → m.unit ≡ w.unit → m.controls ≡ w.controls → m.history ≡ w.history
    → ((x y : World) → IsWorldOf s m x → AddsBy k s x e y → ⊥) → (x y : World) → IsWorldOf s w x → AddsBy k s x e y → ⊥
tried_from s w m e k unit controls history none x y of adds =
    none x y (record { below = subst (λ u. IsBelow s.shared u x.unit) (sym unit) of.below; controls = of.controls ∙ sym controls; history = of.history ∙ sym history }) adds

module _ (s : Scenario) (e : Entry) (w m v : World) where
  -- the second was tried where the first changed nothing
  pub both_tried : (b : Bool) → IsTriedBy how.Plain s w e false m → IsTriedBy how.Early s (record m { history = w.history }) e b v → IsTriedServed s w e b v
  both_tried true plain early = subst (λ x. IsTried s x (Sent e) true v) (λ i. record { unit = plain.0 i; controls = plain.1 i; history = w.history }) early
  both_tried false plain early = each
    where
      each : (k : How) → IsTrue (is_served k) → (x y : World) → IsWorldOf s w x → AddsBy k s x e y → ⊥
      each how.Plain served = plain.2
      each how.Early served = tried_from s w (record m { history = w.history }) e how.Early plain.0 plain.1 refl early.2
      each how.Busy served = let bad : false ≡ true = served in cc
      each how.Full served = let bad : false ≡ true = served in cc

-- an entry that some event adds is answered as its status says
told_by : (k : How) (s : Scenario) (x : World) (e : Entry) (y : World) → ActFor s x → AddsBy k s x e y → shown k ≡ how_of e.reply.status
told_by k s x e y acts adds = let is = comes k s x e y acts adds in told_may k (control x e.host) (role s e.host) x.unit e is.after is.unit is.may

module _ (s : Scenario) (u : UnitState) (senders : List Sender) (e : Entry) (before : List Item) (acts : ActFor s (world_of u senders [])) where
  abbrev at_first : World
  at_first = world_of u senders before

  shown_as : (k : How) (x y : World) → IsWorldOf s at_first x → AddsBy k s x e y → shown k ≡ how_of e.reply.status
  shown_as k x y of adds = told_by k s x e y (acts_below s at_first x of (others_acts s u senders [] before acts)) adds

  pub served_tried : (b : Bool) (v : World) → how.Plain ≡ how_of e.reply.status → IsTriedServed s at_first e b v → IsTried s at_first (Sent e) b v
  served_tried true v told is = is
  served_tried false v told none = λ x y of adds.
      let by = added_by s x e y adds in
      none by.0 (shown_served by.0 (shown_as by.0 x y of by.1 ∙ sym told)) x y of by.1

  pub refusal_tried : (so : How) (b : Bool) (v : World) → so ≡ how_of e.reply.status → is_served so ≡ false → IsTriedBy so s at_first e b v → IsTried s at_first (Sent e) b v
  refusal_tried so true v told refused is = is
  refusal_tried so false v told refused none = λ x y of adds.
      let by = added_by s x e y adds in
      none.2 x y of (subst (λ k. AddsBy k s x e y) (shown_refused by.0 so refused (shown_as by.0 x y of by.1 ∙ sym told)) by.1)

-- ---- the sender at a place

pub sender_at : (senders : List Sender) (h i : ℕ) (x : Sender) → i ≡ h → x ≡ get_or senders i x → get_or (map control_by senders) h (control_by x) ≡ control_by x
sender_at senders h i x at found = get_or-map control_by senders h x ∙ ap control_by (sym (found ∙ ap (λ j. get_or senders j x) at))

pub control_at : (s : Scenario) (u : UnitState) (senders : List Sender) (es : List Item) (h i : ℕ) (x : Sender) → ActFor s (world_of u senders []) → h < length s.nexuses → i ≡ h → x ≡ get_or senders i x
    → control (world_of u senders es) h ≡ control_by x
control_at s u senders es h i x acts there at found =
    let among : h < length (map control_by senders) = rw (length-map senders control_by, length-senders s u senders [] acts) there in
    ap (λ o. option_map_or (λ c. c) o Free) (slice_get-get_or (map control_by senders) h (control_by x) among ∙ ap Some (sender_at senders h i x at found))

pub controls_with : (senders : List Sender) (h i : ℕ) (y : Sender) → i ≡ h → map control_by (slice_set senders i y) ≡ slice_set (map control_by senders) h (control_by y)
controls_with senders h i y at = map-set control_by senders i y ∙ ap (λ j. slice_set (map control_by senders) j (control_by y)) at

-- ---- the sender of the entry

module _ (so : How) (p q : Parts) (u v : UnitState) (senders : List Sender) (e : Entry) (i : ℕ) (n : NexusPart) (x y : Sender) (b : Bool) (acts : ActFor (scenario_of p) (world_of u senders []))
    (there : e.host < length (scenario_of p).nexuses) (same : q ≡ p) (at : i ≡ e.host) (nexus : n ≡ get_or q.nexuses.items i n) (participation : x ≡ get_or senders i x)
    (judged : IsJudged n.shared so (control_by x) n.role.clauses.items u e b (control_by y) v) where
  by_role : IsJudged ((scenario_of p).shared e.host) so (control_by x) (role (scenario_of p) e.host) u e b (control_by y) v
  by_role =
      let named = nexus ∙ (ap (λ r. get_or r.nexuses.items i n) same ∙ ap (λ j. get_or p.nexuses.items j n) at) in
      subst (λ shared. IsJudged shared so (control_by x) (role (scenario_of p) e.host) u e b (control_by y) v) (path_at p e.host n there named)
      (subst (λ clauses. IsJudged n.shared so (control_by x) clauses u e b (control_by y) v) (role_at p e.host n there named) judged)

  pub sender_tried : IsWellFormed u → (before : List Item) → may_come (scenario_of p) before e.host so ≡ true → IsTriedBy so (scenario_of p) (world_of u senders before) e b (world_of v (slice_set senders i y) (before ++ Sent e ∷ []))
  sender_tried formed before room =
      subst (λ ks. IsTriedBy so (scenario_of p) (world_of u senders before) e b (record { unit = v; controls = ks; history = before ++ Sent e ∷ [] })) (sym (controls_with senders e.host i y at))
      (judged_tried so (scenario_of p) (world_of u senders before) e (control_by x) (control_by y) b v formed (others_acts (scenario_of p) u senders [] before acts) there (control_at (scenario_of p) u senders before e.host i x acts there at participation)
      (sender_at senders e.host i x at participation) room by_role)

  pub sender_acts : ActFor (scenario_of p) (world_of v (slice_set senders i y) [])
  sender_acts =
      subst (λ ks. ActFor (scenario_of p) (record { unit = v; controls = ks; history = [] })) (sym (controls_with senders e.host i y at))
      (judged_acts so (scenario_of p) (world_of u senders []) e (control_by x) (control_by y) b v [] acts (sender_at senders e.host i x at participation) by_role)

-- ---- an entry that is taken as it is

module _ (s : Scenario) (u v : UnitState) (senders : List Sender) (e : Entry) (i : ℕ) (x y : Sender) (acts : ActFor s (world_of u senders [])) (there : e.host < length s.nexuses) (at : i ≡ e.host)
    (found : x ≡ get_or senders i x) where
  control_past : control (world_of v (slice_set senders i y) []) e.host ≡ control_by y
  control_past =
      let among : e.host < length (map control_by senders) = rw (length-map senders control_by, length-senders s u senders [] acts) there in
      let past : e.host < length (slice_set (map control_by senders) e.host (control_by y)) = rw length-set among in
      ap (λ ks. option_map_or (λ c. c) (slice_get ks e.host) Free) (controls_with senders e.host i y at)
      ∙ ap (λ o. option_map_or (λ c. c) o Free) (slice_get-get_or (slice_set (map control_by senders) e.host (control_by y)) e.host (control_by y) past
      ∙ ap Some (get_or-set_same (map control_by senders) e.host (control_by y) (control_by y) among))

  pub sender_past : IsPast e (control_by x) (control_by y) → IsPast e (control (world_of u senders []) e.host) (control (world_of v (slice_set senders i y) []) e.host)
  sender_past is =
      subst (λ k. IsPast e k (control (world_of v (slice_set senders i y) []) e.host)) (sym (control_at s u senders [] e.host i x acts there at found))
      (subst (λ k. IsPast e (control_by x) k) (sym control_past) is)

  pub controls_past : map control_by (slice_set senders i y) ≡ slice_set (map control_by senders) e.host (control (world_of v (slice_set senders i y) []) e.host)
  controls_past = controls_with senders e.host i y at ∙ ap (slice_set (map control_by senders) e.host) (sym control_past)

  pub past_acts : v.registry.hosts ≡ length s.nexuses → is_free (control_by y) ≡ is_free (control_by x) → ActFor s (world_of v (slice_set senders i y) [])
  past_acts hosts free = record {
    hosts = hosts;
    tasks =
        ap (map is_free) (controls_with senders e.host i y at)
        ∙ (map-set_same is_free (map control_by senders) e.host (control_by y) (control_by x) (free ∙ ap is_free (sym (sender_at senders e.host i x at found))) ∙ acts.tasks);
  }
