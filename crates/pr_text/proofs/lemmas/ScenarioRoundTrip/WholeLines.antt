-- The lines of a whole scenario have no fault.
use Rattle.pr_text.proofs.Common.{◌≡◌, ℕ, zero, suc, ◌+◌, ◌<◌, ◌≤◌, Bool, true, false, not, ◌&&◌, ◌||◌, false≢true, List, [], ◌∷◌, ◌++◌, map, length, is_some, nat_lt, nat_le, ◌==◌, Some, None, Ok, Option, option_map, bytes_eq, sym, refl, ap, ◌∙◌, append_assoc, append-nil, arith, length-append, list_all, slice_get, option_map_or, unwrap_or, and_parts, nat_tests, Held, is_version, are_resets, most_declared, are_distinct, is_nexus, Nexus, Task, Scripted, Planned, first_under, MOST_RESETS, each, fence_line, declares, resets_line, order_line, keys_line, reservation_line, generation_line, since, leb-true, Declared, nothing, Declaration, outside, held_of, number_of, nexus_written, nexus_declared, all_said, start_of, first_unscripted, end_placed, item_standing}
use Rattle.std.specs.List.{All, flat_map}
use Rattle.std.proofs.lemmas.Bool.{ltb-true}
use Rattle.std.proofs.lemmas.List.Elements.{All-head, All-tail}
use Rattle.std.proofs.Math.Bool.{and-false}
use Rattle.pr_registry.specs.declared.held.Held.TheVariants.{One}
use Rattle.pr_registry.specs.Registrations.{is_all}
use Rattle.pr_attention.specs.CodeSets.{AreAttentions}
use Rattle.pr_roles.specs.Fitting.{AreDeclared, is_reservation, is_same_reservation, are_of}
use Rattle.pr_roles.proofs.lemmas.Starts.AllowedStarts.{start_found}
use Rattle.pr_roles.specs.declared.limits.TheConstants.{MOST_KEYS}
use Rattle.pr_text.specs.Reading.{is_shared_path}
use Rattle.pr_text.specs.ScriptRoundTrip.{line}
use Rattle.pr_text.specs.ScenarioRoundTrip.{task_line, details_said, keys_said, resets_said, wanted_by, is_host, alone_said, all_alone_said, order_said, says_alone, says_order, ScenariosHaveNoFault}
use Rattle.pr_text.proofs.lemmas.Declarations.Names.{names, is_taken, free_of, names_moved, itself, number_nowhere, number_there}
use Rattle.pr_text.proofs.lemmas.ScenarioRoundTrip.NexusLines.{one_longer, said_on, said_first, pending_same, count_said, count_same, is_planned, placed, bare, full, is_nexus_of, details_go, alone_goes}
use Rattle.pr_text.proofs.lemmas.ScriptRoundTrip.Versions.{has_by, has_first}

-- ---- the version, the keys, the generation, and the resets

fence_goes : (n version : ℕ) → item_standing n (fence_line version) nothing ≡ Ok (placed version None None None None [] outside)
unfolding item_standing
fence_goes n version = refl

abbrev keys_kept : List ℕ → Option (List ℕ)
keys_kept [] = None
keys_kept (k ∷ ks) = Some (k ∷ ks)

keys_same : (keys : List ℕ) → unwrap_or (keys_kept keys) [] ≡ keys
keys_same [] = refl
keys_same (k ∷ ks) = refl

keys_go : (n version : ℕ) (keys : List ℕ) → are_distinct (λ j k. j == k) keys ≡ true → nat_lt MOST_KEYS (length keys) ≡ false
    → item_standing n (declares (keys_line keys)) (placed version None None None None [] outside) ≡ Ok (placed version (Some keys) None None None [] outside)
unfolding item_standing
keys_go n version keys once few = rw (once, few) refl

keys_lines_go : (n version : ℕ) (keys : List ℕ) → is_version version ≡ true → AreDeclared keys → all_said (keys_said n keys) (placed version None None None None [] outside) ≡ Ok (placed version (keys_kept keys) None None None [] outside)
keys_lines_go n version [] dated h = refl
keys_lines_go n version (k ∷ ks) dated h =
    let parts = and_parts (nat_le (length (k ∷ ks)) MOST_KEYS) _ h.once in
    said_first n (declares (keys_line (k ∷ ks))) [] _ _ _ (has_first version dated) (keys_go n version (k ∷ ks) parts.1 (has_by (length (k ∷ ks)) MOST_KEYS parts.0)) refl

generation_goes : (n version generation : ℕ) (keys : Option (List ℕ)) (xs : List Declaration)
    → item_standing n (declares (generation_line generation)) (placed version keys None None None xs outside) ≡ Ok (placed version keys None (Some generation) None xs outside)
unfolding item_standing
generation_goes n version generation keys xs = refl

-- a version that has resets, and how many
resets_new : (version count : ℕ) → are_resets version count ≡ true → (count == 0) ≡ false → nat_lt version 2 ≡ false
resets_new version count may some = grind (arith, nat_tests)

resets_room : (version count : ℕ) → are_resets version count ≡ true → (count == 0) ≡ false → (nat_le 1 count && nat_le count MOST_RESETS) ≡ true
resets_room version count may some = grind (arith, nat_tests)

module _ (n version : ℕ) (keys : Option (List ℕ)) (g : Option ℕ) (xs : List Declaration) where
  abbrev with_resets : Option ℕ → Declared
  with_resets rs = placed version keys None g rs xs outside

  resets_line_goes : (count : ℕ) → (nat_le 1 count && nat_le count MOST_RESETS) ≡ true → item_standing n (declares (resets_line count)) (with_resets None) ≡ Ok (with_resets (Some count))
  unfolding item_standing
  resets_line_goes count few = rw few refl

  resets_go : (count : ℕ) → are_resets version count ≡ true → all_said (resets_said n count) (with_resets None) ≡ Ok (with_resets (count_said count))
  resets_go count may = by (count == 0) refl
    where
      by : (b : Bool) → (count == 0) ≡ b → all_said (resets_said n count) (with_resets None) ≡ Ok (with_resets (count_said count))
      by true is = rw is refl
      by false is = rw is (said_first n (declares (resets_line count)) [] _ (with_resets (Some count)) _ (resets_new version count may is) (resets_line_goes count (resets_room version count may is)) refl)

-- ---- nexuses

abbrev named : List Nexus → List (List ℕ)
named ns = map (λ x. x.name) ns

nexus_goes : (n version : ℕ) (keys : Option (List ℕ)) (before : List Declaration) (x : Nexus) → is_taken x.name before ≡ false → nat_le (most_declared version) (length before) ≡ false
    → item_standing n (task_line x.name x.task) (placed version keys None None None before outside) ≡ Ok (placed version keys None None None (before ++ bare n x ∷ []) outside)
unfolding item_standing
nexus_goes n version keys before x free few =
    by_task x.task refl
  where
    by_task : (t : Task) → x.task ≡ t → item_standing n (task_line x.name x.task) (placed version keys None None None before outside) ≡ Ok (placed version keys None None None (before ++ bare n x ∷ []) outside)
    by_task (Scripted script budget) is = rw (is, number_nowhere before x.name free, few) refl
    by_task (Planned commands) is = rw (is, number_nowhere before x.name free, few) refl

room : (k m most : ℕ) → k + suc m ≤ most → nat_le most k ≡ false
room k m most h = grind (arith, nat_tests)

-- the names stay apart when one more of them is declared
still_apart : (before : List Declaration) (d : Declaration) (rest : List (List ℕ)) → are_distinct bytes_eq (names before ++ d.name ∷ rest) ≡ true
    → are_distinct bytes_eq (names (before ++ d ∷ []) ++ rest) ≡ true
still_apart before d rest h = ap (are_distinct bytes_eq) (names_moved before d rest) ∙ h

since_task : (version : ℕ) (name : List ℕ) (t : Task) → is_version version ≡ true → nat_lt version (since (task_line name t)) ≡ false
since_task version name (Scripted script budget) dated = has_first version dated
since_task version name (Planned commands) dated = has_first version dated

nexuses_go : (n version : ℕ) (keys : Option (List ℕ)) (before : List Declaration) (ns : List Nexus) → is_version version ≡ true → are_distinct bytes_eq (names before ++ named ns) ≡ true → length before + length ns ≤ most_declared version
    → all_said (map (λ x. line n (task_line x.name x.task)) ns) (placed version keys None None None before outside) ≡ Ok (placed version keys None None None (before ++ map (bare n) ns) outside)
nexuses_go n version keys before [] dated apart few = ap (λ l. Ok (placed version keys None None None l outside)) (sym (append-nil before))
nexuses_go n version keys before (x ∷ ns) dated apart few =
    said_first n (task_line x.name x.task) (map (λ y. line n (task_line y.name y.task)) ns) _ _ _ (since_task version x.name x.task dated)
    (nexus_goes n version keys before x (free_of before x.name (named ns) apart) (room (length before) (length ns) (most_declared version) few))
    (nexuses_go n version keys (before ++ bare n x ∷ []) ns dated (still_apart before (bare n x) (named ns) apart) (one_longer before (bare n x) (length ns) (most_declared version) few)
    ∙ ap (λ l. Ok (placed version keys None None None l outside)) (append_assoc before (bare n x ∷ []) (map (bare n) ns)))

details_all : (n version : ℕ) (keys : Option (List ℕ)) (vs : Option (List (Option Held))) (g rs : Option ℕ) (before : List Declaration) (ns : List Nexus)
    → is_version version ≡ true → are_of version ns ≡ true
    → are_distinct bytes_eq (names before ++ named ns) ≡ true → list_all (is_nexus (unwrap_or keys [])) ns ≡ true → All (λ x. AreAttentions x.pending) ns
    → all_said (flat_map (details_said n) ns) (placed version keys vs g rs (before ++ map (bare n) ns) outside) ≡ Ok (placed version keys vs g rs (before ++ map (full n) ns) outside)
details_all n version keys vs g rs before [] dated has apart fits are = refl
details_all n version keys vs g rs before (x ∷ ns) dated has apart fits are =
    let parts = and_parts (is_nexus (unwrap_or keys []) x) _ fits in
    let have = and_parts (is_nexus_of version x) _ has in
    said_on (details_said n x) (flat_map (details_said n) ns) _ (placed version keys vs g rs (before ++ full n x ∷ map (bare n) ns) outside) _
    (details_go n version dated keys vs g rs before (map (bare n) ns) x (free_of before x.name (named ns) apart) have.0 parts.0 (All-head (λ y. AreAttentions y.pending) x ns are))
    (ap (λ l. all_said (flat_map (details_said n) ns) (placed version keys vs g rs l outside)) (sym (append_assoc before (full n x ∷ []) (map (bare n) ns)))
    ∙ (details_all n version keys vs g rs (before ++ full n x ∷ []) ns dated have.1 (still_apart before (full n x) (named ns) apart) parts.1 (All-tail (λ y. AreAttentions y.pending) x ns are)
    ∙ ap (λ l. Ok (placed version keys vs g rs l outside)) (append_assoc before (full n x ∷ []) (map (full n) ns))))

-- ---- reservations

-- the name of the h-th leads to its number
number_at : (n : ℕ) (before : List Declaration) (ns : List Nexus) (h : ℕ) → are_distinct bytes_eq (names before ++ named ns) ≡ true → h < length ns
    → number_of (before ++ map (bare n) ns) (option_map_or (λ x. x.name) (slice_get ns h) []) ≡ Some (length before + h)
number_at n before [] h apart below = absurd (omega arith)
number_at n before (x ∷ ns) zero apart below =
    number_there before (bare n x) (map (bare n) ns) x.name (free_of before x.name (named ns) apart) (itself x.name)
    ∙ ap (λ m. Some m) (omega arith)
number_at n before (x ∷ ns) (suc h) apart below =
    ap (λ l. number_of l (option_map_or (λ y. y.name) (slice_get ns h) [])) (sym (append_assoc before (bare n x ∷ []) (map (bare n) ns)))
    ∙ (number_at n (before ++ bare n x ∷ []) ns h (still_apart before (bare n x) (named ns) apart) (omega arith)
    ∙ ap (λ m. Some m) (omega (arith, length-append before (bare n x ∷ []))))

held_goes : (n : ℕ) (ns : List Nexus) (v : Option Held) → are_distinct bytes_eq (named ns) ≡ true → is_reservation (length ns) v ≡ true
    → held_of (map (bare n) ns) (wanted_by ns v) ≡ Some v
held_goes n ns (Some (One kind h)) apart fits =
    let below = ltb-true h (length ns) (and_parts (not (is_all kind)) _ fits).1 in
    ap (λ o. option_map (λ m. Some (One kind m)) o) (number_at n [] ns h apart below) ∙ ap (λ m. Some (Some (One kind m))) (omega arith)
held_goes n ns _ apart h = refl

helds_go : (n : ℕ) (ns : List Nexus) (vs : List (Option Held)) → are_distinct bytes_eq (named ns) ≡ true → list_all (is_reservation (length ns)) vs ≡ true
    → each (held_of (map (bare n) ns)) (map (wanted_by ns) vs) ≡ Some vs
helds_go n ns [] apart fits = refl
helds_go n ns (v ∷ vs) apart fits =
    let parts = and_parts (is_reservation (length ns) v) _ fits in
    rw (held_goes n ns v apart parts.0, helds_go n ns vs apart parts.1) refl

reservation_goes : (n version : ℕ) (keys : Option (List ℕ)) (g rs : Option ℕ) (ns : List Nexus) (vs : List (Option Held)) → are_distinct bytes_eq (named ns) ≡ true
    → list_all (is_reservation (length ns)) vs ≡ true → are_distinct is_same_reservation vs ≡ true
    → item_standing n (declares (reservation_line (map (wanted_by ns) vs))) (placed version keys None g rs (map (bare n) ns) outside) ≡ Ok (placed version keys (Some vs) g rs (map (bare n) ns) outside)
unfolding item_standing
reservation_goes n version keys g rs ns vs apart fits once = rw (helds_go n ns vs apart fits, once) refl

-- ---- nobody else on the path

-- one of which all is said
abbrev settled : ℕ → Nexus → Bool → Declaration
settled n x b = record (full n x) { alone = not (is_planned x.task) && b }

abbrev all_settled : ℕ → (ℕ → Bool) → List Nexus → List Declaration
all_settled n alone [] = []
all_settled n alone (x ∷ ns) = settled n x (alone 0) ∷ all_settled n (λ h. alone (suc h)) ns

module _ (n version : ℕ) (keys : Option (List ℕ)) (vs : Option (List (Option Held))) (g rs : Option ℕ) (dated : is_version version ≡ true) where
  abbrev of : List Declaration → Declared
  of xs = placed version keys vs g rs xs outside

  alone_may : (guest b : Bool) → (b ≡ true → nat_lt version 3 ≡ false) → (not guest && b) ≡ true → (guest ≡ false) × (nat_lt version 3 ≡ false)
  alone_may false b new h = (refl, new h)
  alone_may true b new h = cc

  all_alone_go : (alone : ℕ → Bool) (before : List Declaration) (ns : List Nexus) → ((h : ℕ) → alone h ≡ true → nat_lt version 3 ≡ false) → are_distinct bytes_eq (names before ++ named ns) ≡ true
      → all_said (all_alone_said n alone ns) (of (before ++ map (full n) ns)) ≡ Ok (of (before ++ all_settled n alone ns))
  all_alone_go alone before [] new apart = refl
  all_alone_go alone before (x ∷ ns) new apart =
      let y = settled n x (alone 0) in
      said_on (alone_said n x.name (not (is_planned x.task) && alone 0)) (all_alone_said n (λ h. alone (suc h)) ns) _ (of (before ++ y ∷ map (full n) ns)) _
      (alone_goes n version dated keys vs g rs before (map (full n) ns) x.name (free_of before x.name (named ns) apart) (full n x) (not (is_planned x.task) && alone 0) (itself x.name)
      (alone_may (is_planned x.task) (alone 0) (new 0)) refl)
      (ap (λ l. all_said (all_alone_said n (λ h. alone (suc h)) ns) (of l)) (sym (append_assoc before (y ∷ []) (map (full n) ns)))
      ∙ (all_alone_go (λ h. alone (suc h)) (before ++ y ∷ []) ns (λ h. new (suc h)) (still_apart before y (named ns) apart)
      ∙ ap (λ l. Ok (of l)) (append_assoc before (y ∷ []) (all_settled n (λ h. alone (suc h)) ns))))

  -- ---- the order

  order_line_goes : (xs : List Declaration) → item_standing n (declares order_line) (of xs) ≡ Ok (record (of xs) { in_order = true })
  unfolding item_standing
  order_line_goes xs = refl

  order_goes : (xs : List Declaration) (b : Bool) → (b ≡ true → nat_lt version 3 ≡ false) → all_said (order_said n b) (of xs) ≡ Ok (record (of xs) { in_order = b })
  order_goes xs true new = said_first n (declares order_line) [] _ (record (of xs) { in_order = true }) _ (new refl) (order_line_goes xs) refl
  order_goes xs false new = refl

new_enough : (version : ℕ) (b : Bool) → (nat_lt 2 version && b) ≡ true → nat_lt version 3 ≡ false
new_enough version b h = let new = (and_parts (nat_lt 2 version) b h).0 in grind (arith, nat_tests)

-- what is said of a path, and of the order, is so
path_same : (new guest shared : Bool) → (shared ≡ true → (new && not guest) ≡ true) → shared ≡ (new && (not guest && not (not guest && (new && not shared))))
path_same true false true may = refl
path_same true false false may = refl
path_same true true true may = sym (may refl)
path_same true true false may = refl
path_same false guest true may = sym (may refl)
path_same false guest false may = refl

paths_same : (n version : ℕ) (shared : ℕ → Bool) (ns : List Nexus) → ((h : ℕ) → shared h ≡ true → (nat_lt 2 version && option_map_or is_host (slice_get ns h) false) ≡ true)
    → (h : ℕ) → shared h ≡ option_map_or (is_shared_path version) (slice_get (all_settled n (λ k. nat_lt 2 version && not (shared k)) ns) h) false
paths_same n version shared [] may h = none (shared h) (nat_lt 2 version) (may h)
  where
    none : (b c : Bool) → (b ≡ true → (c && false) ≡ true) → b ≡ false
    none true c is = absurd (false≢true (sym (and-false c) ∙ is refl))
    none false c is = refl
paths_same n version shared (x ∷ ns) may zero = path_same (nat_lt 2 version) (is_planned x.task) (shared 0) (may 0)
paths_same n version shared (x ∷ ns) may (suc h) = paths_same n version (λ k. shared (suc k)) ns (λ k. may (suc k)) h

order_same : (new early : Bool) → (not early || new) ≡ true → early ≡ (new && not (new && not early))
order_same true true h = refl
order_same true false h = refl
order_same false true h = cc
order_same false false h = refl

-- ---- the end

tasks_there : (n : ℕ) (alone : ℕ → Bool) (ns : List Nexus) → first_unscripted (all_settled n alone ns) ≡ None
tasks_there n alone [] = refl
tasks_there n alone (x ∷ ns) = rw (and-false (not (is_planned x.task))) (tasks_there n (λ h. alone (suc h)) ns)

starts_same : (n : ℕ) (alone : ℕ → Bool) (ns : List Nexus) → map start_of (all_settled n alone ns) ≡ map (λ x. x.start) ns
starts_same n alone [] = refl
starts_same n alone (x ∷ ns) = ap (λ l. x.start ∷ l) (starts_same n (λ h. alone (suc h)) ns)

some_there : (n : ℕ) (alone : ℕ → Bool) (ns : List Nexus) → not (length ns == 0) ≡ true → (length (all_settled n alone ns) == 0) ≡ false
some_there n alone [] h = cc
some_there n alone (x ∷ ns) h = grind (arith, nat_tests)

ends : (n version : ℕ) (keys : Option (List ℕ)) (g rs : Option ℕ) (alone : ℕ → Bool) (in_order : Bool) (ns : List Nexus) (vs : List (Option Held)) → not (length ns == 0) ≡ true → is_some (first_under (map (λ x. x.start) ns) vs) ≡ true
    → end_placed n (record (placed version keys (Some vs) g rs (all_settled n alone ns) outside) { in_order = in_order }) ≡ Ok (record (placed version keys (Some vs) g rs (all_settled n alone ns) outside) { in_order = in_order })
unfolding end_placed
ends n version keys g rs alone in_order ns vs some startable = rw (some_there n alone ns some, tasks_there n alone ns, starts_same n alone ns, startable) refl

written_same : (n : ℕ) (alone : ℕ → Bool) (ns : List Nexus) → All (λ x. AreAttentions x.pending) ns → map nexus_written ns ≡ map nexus_declared (all_settled n alone ns)
written_same n alone [] are = refl
written_same n alone (x ∷ ns) are =
    ap (λ l. nexus_written x ∷ l) (written_same n (λ h. alone (suc h)) ns (All-tail (λ y. AreAttentions y.pending) x ns are))
    ∙ (ap (λ p. record (nexus_written x) { pending = p } ∷ map nexus_declared (all_settled n (λ h. alone (suc h)) ns)) (sym (pending_same x.pending (All-head (λ y. AreAttentions y.pending) x ns are)))
    ∙ (ap (λ b. record (nexus_declared (full n x)) { busy = b; full = x.full } ∷ map nexus_declared (all_settled n (λ h. alone (suc h)) ns)) (sym (count_same x.busy))
    ∙ ap (λ f. record (nexus_declared (full n x)) { full = f } ∷ map nexus_declared (all_settled n (λ h. alone (suc h)) ns)) (sym (count_same x.full))))

-- ---- the whole

pub said : ScenariosHaveNoFault
said n s fits can paths are =
    let keys = keys_kept s.keys in
    let resets = count_said s.resets in
    let version = s.version in
    let dated = fits.version in
    let old = has_first version dated in
    let parts = and_parts (not (length s.nexuses == 0)) _ fits.nexuses in
    let few = and_parts (nat_le (length s.nexuses) (most_declared version)) _ parts.1 in
    let apart = and_parts (are_distinct bytes_eq (named s.nexuses)) _ few.1 in
    let at_most = leb-true (length s.nexuses) (most_declared version) few.0 in
    let reserved = and_parts (list_all (is_reservation (length s.nexuses)) s.reservations) _ (and_parts (not (length s.reservations == 0)) _ fits.reservations).1 in
    let last = all_alone_said n (says_alone s) s.nexuses ++ order_said n (says_order s) in
    let behind = line n (declares (reservation_line (map (wanted_by s.nexuses) s.reservations))) ∷ (flat_map (details_said n) s.nexuses ++ last) in
    let each : list_all (is_nexus (unwrap_or keys [])) s.nexuses ≡ true = rw (keys_same s.keys) apart.1 in
    record {
      declared = record (placed version keys (Some s.reservations) (Some s.generation) resets (all_settled n (says_alone s) s.nexuses) outside) { in_order = says_order s };
      faultless =
          said_first n (fence_line version) _ nothing _ _ refl (fence_goes n version)
          (said_on (keys_said n s.keys) _ _ _ _ (keys_lines_go n version s.keys dated fits.keys)
          (said_on (map (λ x. line n (task_line x.name x.task)) s.nexuses) _ _ _ _ (nexuses_go n version keys [] s.nexuses dated apart.0 (omega arith))
          (said_first n (declares (generation_line s.generation)) (resets_said n s.resets ++ behind) _ _ _ old (generation_goes n version s.generation keys (map (bare n) s.nexuses))
          (said_on (resets_said n s.resets) behind _ _ _ (resets_go n version keys (Some s.generation) (map (bare n) s.nexuses) s.resets fits.resets)
          (said_first n (declares (reservation_line (map (wanted_by s.nexuses) s.reservations))) _ _ _ _ old
          (reservation_goes n version keys (Some s.generation) resets s.nexuses s.reservations apart.0 reserved.0 reserved.1)
          (said_on (flat_map (details_said n) s.nexuses) last _ _ _ (details_all n version keys (Some s.reservations) (Some s.generation) resets [] s.nexuses dated fits.dated apart.0 each are)
          (said_on (all_alone_said n (says_alone s) s.nexuses) (order_said n (says_order s)) _ _ _
          (all_alone_go n version keys (Some s.reservations) (Some s.generation) resets dated (says_alone s) [] s.nexuses (λ h. new_enough version (not (s.shared h))) apart.0)
          (order_goes n version keys (Some s.reservations) (Some s.generation) resets dated (all_settled n (says_alone s) s.nexuses) (says_order s) (new_enough version (not s.early))))))))));
      whole = record {
        faultless = ends n version keys (Some s.generation) resets (says_alone s) (says_order s) s.nexuses s.reservations parts.0 (start_found s can);
        kept = record { version = refl; keys = sym (keys_same s.keys); reservations = refl; generation = refl; resets = sym (count_same s.resets); paths = paths_same n version s.shared s.nexuses paths; order = order_same (nat_lt 2 version) s.early fits.order; nexuses = written_same n (says_alone s) s.nexuses are };
      };
    }
