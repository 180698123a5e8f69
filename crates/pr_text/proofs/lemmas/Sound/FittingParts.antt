-- What is declared fits.
use Rattle.pr_text.proofs.Common.{◌≡◌, ℕ, Bool, true, false, not, ◌&&◌, ◌||◌, nat_lt, List, [], ◌∷◌, map, length, nat_le, ◌==◌, Some, None, Option, sym, refl, ap, ◌∙◌, subst, list_all, unwrap_or, and_parts, is_name, Fits, is_version, is_count, are_resets, most_declared, is_role, is_start, is_nexus, Scenario, Nexus, Task, Scripted, Planned, and_from, Declared, WrittenTask, scripted, planned, Declaration, Context, before_all, outside, in_script, in_plan, declared_keys, nexus_written, nexus_declared, IsDeclaredBy, task_written, body_lines, missing_fault, IsDated, IsTask, IsDeclaration, AreDeclarations, IsSound}
use Rattle.std.proofs.lemmas.Bool.{not_from_false}
use Rattle.std.proofs.lemmas.List.{length-map}
use Rattle.std.proofs.lemmas.Simd.{map-map}
use Rattle.pr_roles.specs.Fitting.{is_task, is_task_of, are_of, is_order}
use Rattle.pr_text.specs.inside.Endings.{missing_at}
use Rattle.pr_text.specs.inside.Sound.{is_written_of, is_declared_of}
use Rattle.pr_text.proofs.lemmas.Sound.Scripts.{skips}
use Rattle.pr_text.proofs.lemmas.Sound.Trees.{whole_fits}
use Rattle.pr_text.proofs.lemmas.ScenarioRoundTrip.Uniqueness.{head_same, tail_same}
use Rattle.pr_text.proofs.lemmas.ScriptRoundTrip.Versions.{body_dated}

-- ---- one nexus

task_known : (keys : List ℕ) (t : Task) (w : WrittenTask) → task_written t ≡ w → IsTask keys (Some w) → is_task keys t ≡ true
task_known keys (Scripted b budget) w e h =
    let known : IsTask keys (Some (scripted (body_lines b) budget)) = subst (λ v. IsTask keys (Some v)) (sym e) h in
    and_from _ _ (whole_fits keys b known.0) known.1
task_known keys (Planned commands) w e h = subst (λ v. IsTask keys (Some v)) (sym e) h

task_fits : (keys : List ℕ) (t : Task) (o : Option WrittenTask) → task_written t ≡ unwrap_or o (planned []) → IsTask keys o → is_task keys t ≡ true
task_fits keys t None e h = task_known keys t (planned []) e refl
task_fits keys t (Some w) e h = task_known keys t w e h

nexus_fits : (keys : List ℕ) (n : Nexus) (x : Declaration) → nexus_written n ≡ nexus_declared x → IsDeclaration keys x → is_nexus keys n ≡ true
nexus_fits keys n x e h =
    let described = and_parts (is_name x.name) _ h.described in
    let rest = and_parts (is_role keys x.role) _ described.1 in
    and_from _ _ (ap (λ w. is_name w.name) e ∙ described.0) (
    and_from _ _ (ap (λ w. is_role keys w.role) e ∙ rest.0) (
    and_from _ _ (ap (λ w. is_start keys w.start) e ∙ rest.1) (task_fits keys n.task x.task (ap (λ w. w.task) e) h.task)))

-- ---- its version

task_has : (v : ℕ) (t : Task) (o : Option WrittenTask) → task_written t ≡ unwrap_or o (planned []) → is_written_of v o ≡ true → is_task_of v t ≡ true
task_has v (Scripted b budget) None e h = cc
task_has v (Scripted b budget) (Some w) e h =
    let has : is_written_of v (Some (scripted (body_lines b) budget)) ≡ true = subst (λ x. is_written_of v (Some x) ≡ true) (sym e) h in
    sym (body_dated v b) ∙ has
task_has v (Planned commands) o e h = refl

nexus_has : (v : ℕ) (n : Nexus) (x : Declaration) → nexus_written n ≡ nexus_declared x → is_declared_of v x ≡ true
    → (is_count v n.busy && (is_count v n.full && is_task_of v n.task)) ≡ true
nexus_has v n x e h =
    let parts = and_parts (is_count v (unwrap_or x.busy 0)) _ h in
    let rest = and_parts (is_count v (unwrap_or x.full 0)) _ parts.1 in
    and_from _ _ (ap (λ w. is_count v w.busy) e ∙ parts.0) (
    and_from _ _ (ap (λ w. is_count v w.full) e ∙ rest.0) (task_has v n.task x.task (ap (λ w. w.task) e) rest.1))

-- ---- all of them

each_fits : (keys : List ℕ) (ns : List Nexus) (xs : List Declaration) → map nexus_written ns ≡ map nexus_declared xs → AreDeclarations keys xs → list_all (is_nexus keys) ns ≡ true
each_fits keys [] xs e h = refl
each_fits keys (n ∷ ns) [] e h = cc
each_fits keys (n ∷ ns) (x ∷ xs) e h =
    and_from _ _ (nexus_fits keys n x (head_same _ _ _ _ e) h.0) (each_fits keys ns xs (tail_same _ _ _ _ e) h.1)

each_has : (v : ℕ) (ns : List Nexus) (xs : List Declaration) → map nexus_written ns ≡ map nexus_declared xs → list_all (is_declared_of v) xs ≡ true → are_of v ns ≡ true
each_has v [] xs e h = refl
each_has v (n ∷ ns) [] e h = cc
each_has v (n ∷ ns) (x ∷ xs) e h =
    let parts = and_parts (is_declared_of v x) _ h in
    and_from _ _ (nexus_has v n x (head_same _ _ _ _ e) parts.0) (each_has v ns xs (tail_same _ _ _ _ e) parts.1)

-- only from version 3 on the disk may report an attention first
order_kept : (new b : Bool) → (not (new && b) || new) ≡ true
order_kept true true = refl
order_kept true false = refl
order_kept false b = refl

-- ---- the whole

some_nexus : (n : ℕ) (d : Declared) (p : Context) → missing_at n d p ≡ None → not (length d.nexuses == 0) ≡ true
some_nexus n d before_all e = cc
some_nexus n d outside e = not_from_false _ (skips (length d.nexuses == 0) _ _ e).0
some_nexus n d (in_script o) e = cc
some_nexus n d (in_plan h commands) e = cc

pub declared_fits : (n : ℕ) (d : Declared) (s : Scenario) → IsSound n d → IsDated d → missing_fault n d ≡ None → IsDeclaredBy d s → Fits s
declared_fits n d s sound dated faultless kept =
    let long : length s.nexuses ≡ length d.nexuses = sym (length-map s.nexuses nexus_written) ∙ (ap length kept.nexuses ∙ length-map d.nexuses nexus_declared) in
    let named : map (λ x. x.name) s.nexuses ≡ map (λ x. x.name) d.nexuses =
    sym (map-map (λ w. w.name) nexus_written s.nexuses) ∙ (ap (map (λ w. w.name)) kept.nexuses ∙ map-map (λ w. w.name) nexus_declared d.nexuses) in
    let keys : s.keys ≡ declared_keys d = kept.keys in
    let few : nat_le (length d.nexuses) (most_declared s.version) ≡ true = ap (λ v. nat_le (length d.nexuses) (most_declared v)) kept.version ∙ dated.few in
    record {
      version = ap is_version kept.version ∙ dated.version;
      dated = ap (λ v. are_of v s.nexuses) kept.version ∙ each_has d.version s.nexuses d.nexuses kept.nexuses dated.each;
      resets = ap (λ v. are_resets v s.resets) kept.version ∙ (ap (are_resets d.version) kept.resets ∙ dated.resets);
      order = ap (λ v. is_order v s.early) kept.version ∙ (ap (is_order d.version) kept.order ∙ order_kept (nat_lt 2 d.version) (not d.in_order));
      keys = rw keys sound.keys;
      reservations = rw (kept.reservations, long) sound.reservations;
      nexuses = rw (long, named, keys) (
          and_from _ _ (some_nexus n d d.place faultless) (
          and_from _ _ few (
          and_from _ _ sound.apart (each_fits (declared_keys d) s.nexuses d.nexuses kept.nexuses sound.each))));
    }
