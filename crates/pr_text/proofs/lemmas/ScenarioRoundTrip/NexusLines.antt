-- The lines of one nexus have no fault.
use Rattle.pr_text.proofs.Common.{◌≡◌, ℕ, suc, ◌+◌, ◌≤◌, Bool, true, false, cond, not, ◌&&◌, ◌||◌, List, [], ◌∷◌, ◌++◌, map, length, is_some, nat_lt, nat_le, ◌==◌, Some, None, Ok, Err, fold, filter, Option, Result, bytes_eq, sym, refl, ap, ◌∙◌, append_assoc, append-nil, arith, length-append, list_all, list_any, unwrap_or, and_parts, nat_tests, Command, Attention, Held, is_written, is_name, MOST_BUDGET, is_version, is_count, are_distinct, is_action, is_role, is_start, is_nexus, Nexus, Task, Scripted, Planned, MOST_CLAUSES, MOST_PLANNED, MOST_REFUSALS, Clause, ScenarioLine, declares, start_line, pending_line, refusals_line, alone_line, role_line, script_line, plan_line, end_line, command_line, since, RefusalKind, and_from, leb-true, Declared, WrittenTask, scripted, planned, Declaration, OpenLines, Context, outside, in_script, in_plan, codes_of, count_in, and_then, with_count, with_task, begun_script, item_placed, task_written, body_lines, all_said, ReadError, number_of, item_standing, not-true, or_parts}
use Rattle.std.specs.FinSet as set
use Rattle.std.proofs.lemmas.Bool.{cond_both, or_from, not_from_false}
use Rattle.std.proofs.Math.Bool.{and-false}
use Rattle.std.proofs.Math.Seq.{set-append_seam}
use Rattle.pr_attention.specs.Attentions.{Codes, code_of, is_attention, each_attention}
use Rattle.pr_attention.specs.CodeSets.{no_code, AreAttentions}
use Rattle.pr_attention.proofs.lemmas.Sets.{same_codes, contains-no_code, contains-insert_code}
use Rattle.pr_script.specs.Grammar.{script_fits}
use Rattle.pr_roles.specs.Worlds.{is_guest_task}
use Rattle.pr_roles.specs.Fitting.{is_alternative, is_same_alternative, is_task, is_task_of}
use Rattle.pr_lines.specs.declared.item.RefusalKind.TheVariants as refusal
use Rattle.pr_lines.specs.CommandWords.{without_keys}
use Rattle.pr_text.specs.ScriptRoundTrip.{Line, line, script_said}
use Rattle.pr_text.specs.ScenarioRoundTrip.{attentions_in, pending_said, refusals_said, task_said, alone_said, details_said}
use Rattle.pr_text.proofs.lemmas.ScriptRoundTrip.Lines.{goes, reread}
use Rattle.pr_text.proofs.lemmas.Declarations.Names.{is_taken, itself, number_there, element_there}
use Rattle.pr_text.proofs.lemmas.LineFaults.Order.{in_version}
use Rattle.pr_text.proofs.lemmas.ScriptRoundTrip.Versions.{has_first}

-- ---- lines one after another

on_after : (x : Result Declared ReadError) (f g : Declared → Result Declared ReadError) (e : Declared) (r : Result Declared ReadError) → and_then x f ≡ Ok e → ((d : Declared) → f d ≡ Ok e → g d ≡ r) → and_then x g ≡ r
on_after (Ok d) f g e r h each = each d h
on_after (Err y) f g e r h each = cc

pub said_on : (ls ks : List Line) (d e : Declared) (r : Result Declared ReadError) → all_said ls d ≡ Ok e → all_said ks e ≡ r → all_said (ls ++ ks) d ≡ r
said_on [] ks d e r first rest = ap (λ x. and_then x (all_said ks)) first ∙ rest
said_on (l ∷ ls) ks d e r first rest = on_after (item_placed l.number l.item d) (all_said ls) (all_said (ls ++ ks)) e r first (λ f h. said_on ls ks f e r h rest)

pub said_first : (n : ℕ) (i : ScenarioLine) (ls : List Line) (d e : Declared) (r : Result Declared ReadError) → nat_lt d.version (since i) ≡ false
    → item_standing n i d ≡ Ok e → all_said ls e ≡ r → all_said (line n i ∷ ls) d ≡ r
said_first n i ls d e r has first rest = goes (item_placed n i d) e (all_said ls) (in_version n i d has ∙ first) ∙ rest

-- ---- pending attentions

contains-codes : (xs : List Attention) (codes : Codes) (q : ℕ)
    → set.contains (fold (λ s x. set.insert s (code_of x)) codes xs) q ≡ (list_any (λ x. q == code_of x) xs || set.contains codes q)
contains-codes [] codes q = refl
contains-codes (x ∷ xs) codes q =
    contains-codes xs (set.insert codes (code_of x)) q
    ∙ (ap (λ b. list_any (λ y. q == code_of y) xs || b) (contains-insert_code codes (code_of x) q) ∙ swapped (q == code_of x) (list_any (λ y. q == code_of y) xs) (set.contains codes q))
  where
    swapped : (a b c : Bool) → (b || (a || c)) ≡ ((a || b) || c)
    swapped true true c = refl
    swapped true false c = refl
    swapped false true c = refl
    swapped false false c = refl

-- with one attention more, of which we know whether it is kept and whether it is the one that is looked for
one_kept : (codes : Codes) (q : ℕ) (x : Attention) (xs : List Attention) (b c : Bool) → set.contains codes (code_of x) ≡ b → (q == code_of x) ≡ c
    → list_any (λ y. q == code_of y) (filter (λ y. set.contains codes (code_of y)) xs) ≡ (list_any (λ y. q == code_of y) xs && set.contains codes q)
    → list_any (λ y. q == code_of y) (filter (λ y. set.contains codes (code_of y)) (x ∷ xs)) ≡ ((q == code_of x || list_any (λ y. q == code_of y) xs) && set.contains codes q)
one_kept codes q x xs true true there same rest =
    let is : q ≡ code_of x = grind (arith, nat_tests) in
    rw (there, same) (sym (ap (set.contains codes) is ∙ there))
one_kept codes q x xs true false there same rest = rw (there, same) rest
one_kept codes q x xs false true there same rest =
    let is : q ≡ code_of x = grind (arith, nat_tests) in
    let none : set.contains codes q ≡ false = ap (set.contains codes) is ∙ there in
    rw (there, same) (rest ∙ rw none (and-false (list_any (λ y. q == code_of y) xs)))
one_kept codes q x xs false false there same rest = rw (there, same) rest

any-kept : (codes : Codes) (q : ℕ) (xs : List Attention)
    → list_any (λ x. q == code_of x) (filter (λ x. set.contains codes (code_of x)) xs) ≡ (list_any (λ x. q == code_of x) xs && set.contains codes q)
any-kept codes q [] = refl
any-kept codes q (x ∷ xs) = one_kept codes q x xs (set.contains codes (code_of x)) (q == code_of x) refl refl (any-kept codes q xs)

attentions_are : (codes : Codes) → AreAttentions codes → codes_of (attentions_in codes) ≡ codes
attentions_are codes are = same_codes (codes_of (attentions_in codes)) codes each
  where
    known : (q : ℕ) (b : Bool) → set.contains codes q ≡ b → (is_attention q && b) ≡ b
    known q true there = rw (are q there) refl
    known q false there = and-false (is_attention q)

    nothing_else : (b : Bool) (q : ℕ) → (b || set.contains no_code q) ≡ b
    nothing_else true q = refl
    nothing_else false q = contains-no_code q

    each : (q : ℕ) → set.contains (codes_of (attentions_in codes)) q ≡ set.contains codes q
    each q =
        contains-codes (attentions_in codes) no_code q
        ∙ (nothing_else (list_any (λ x. q == code_of x) (attentions_in codes)) q
        ∙ (any-kept codes q each_attention ∙ known q (set.contains codes q) refl))

any_fewer : {A : Type 0} (p q : A → Bool) (xs : List A) → list_any q xs ≡ false → list_any q (filter p xs) ≡ false
any_fewer p q [] h = refl
any_fewer p q (x ∷ xs) h =
    let parts = or_parts (q x) _ h in
    let rest = any_fewer p q xs parts.1 in
    cond_both (p x) (x ∷ filter p xs) (filter p xs) (λ ys. list_any q ys ≡ false) (λ _. or_from _ _ parts.0 rest) (λ _. rest)

apart_still : {A : Type 0} (same : A → A → Bool) (p : A → Bool) (xs : List A) → are_distinct same xs ≡ true → are_distinct same (filter p xs) ≡ true
apart_still same p [] h = refl
apart_still same p (x ∷ xs) h =
    let parts = and_parts (not (list_any (λ y. same y x) xs)) _ h in
    let first = not_from_false _ (any_fewer p (λ y. same y x) xs (not-true _ parts.0)) in
    let rest = apart_still same p xs parts.1 in
    cond_both (p x) (x ∷ filter p xs) (filter p xs) (λ ys. are_distinct same ys ≡ true) (λ _. and_from _ _ first rest) (λ _. rest)

attentions_apart : (codes : Codes) → are_distinct (λ x y. code_of x == code_of y) (attentions_in codes) ≡ true
attentions_apart codes = apart_still (λ x y. code_of x == code_of y) (λ x. set.contains codes (code_of x)) each_attention refl

-- what is kept of attentions that are written, if any are
abbrev pub pending_kept : List Attention → Codes → Option Codes
pending_kept [] codes = None
pending_kept (x ∷ xs) codes = Some codes

pub pending_same : (codes : Codes) → AreAttentions codes → unwrap_or (pending_kept (attentions_in codes) codes) no_code ≡ codes
pending_same codes are = at (attentions_in codes) (attentions_are codes are)
  where
    at : (xs : List Attention) → codes_of xs ≡ codes → unwrap_or (pending_kept xs codes) no_code ≡ codes
    at [] h = h
    at (x ∷ xs) h = refl

-- ---- one nexus among others

abbrev pub is_planned : Task → Bool
is_planned t = is_guest_task (Some t)

-- how often a refusal or a reset may come, if a line says it
abbrev pub count_said : ℕ → Option ℕ
count_said count = cond (count == 0) None (Some count)

pub count_same : (count : ℕ) → unwrap_or (count_said count) 0 ≡ count
count_same count = by (count == 0) refl
  where
    by : (b : Bool) → (count == 0) ≡ b → unwrap_or (count_said count) 0 ≡ count
    by true is = let none : count ≡ 0 = grind (arith, nat_tests) in rw is (sym none)
    by false is = rw is refl

abbrev pub placed : ℕ → Option (List ℕ) → Option (List (Option Held)) → Option ℕ → Option ℕ → List Declaration → Context → Declared
placed version keys vs g rs xs p = record { version = version; keys = keys; reservations = vs; generation = g; resets = rs; in_order = false; nexuses = xs; place = p }

-- a nexus of which so much is said; and one of which nothing is said behind what may be pending
abbrev pub staged : ℕ → List ℕ → Bool → Option (List (Option ℕ)) → Option Codes → Option ℕ → Option ℕ → List Clause → Option WrittenTask → Declaration
staged n name guest s p b f r t = record { name = name; line = n; is_guest = guest; start = s; pending = p; busy = b; full = f; alone = false; role = r; task = t }

abbrev pub early : ℕ → List ℕ → Bool → Option (List (Option ℕ)) → Option Codes → Declaration
early n name guest s p = staged n name guest s p None None [] None

short_role : (k m : ℕ) → k + suc m ≤ MOST_CLAUSES → nat_le MOST_CLAUSES k ≡ false
short_role k m h = grind (arith, nat_tests)

short_plan : (k m : ℕ) → k + suc m ≤ MOST_PLANNED → nat_le MOST_PLANNED k ≡ false
short_plan k m h = grind (arith, nat_tests)

pub one_longer : {A : Type 0} (xs : List A) (x : A) (m top : ℕ) → length xs + suc m ≤ top → length (xs ++ x ∷ []) + m ≤ top
one_longer xs x m top h = omega (arith, length-append xs (x ∷ []))

module _ (n version : ℕ) (dated : is_version version ≡ true) (keys : Option (List ℕ)) (vs : Option (List (Option Held))) (g rs : Option ℕ) (before after : List Declaration) (name : List ℕ) (free : is_taken name before ≡ false) where
  abbrev with : Declaration → Context → Declared
  with x p = placed version keys vs g rs (before ++ x ∷ after) p

  old : nat_lt version 1 ≡ false
  old = has_first version dated

  number : (x : Declaration) → bytes_eq x.name name ≡ true → number_of (before ++ x ∷ after) name ≡ Some (length before)
  number x it = number_there before x after name free it

  start_goes : (guest : Bool) (xs : List (Option ℕ)) → list_all (is_alternative (unwrap_or keys [])) xs ≡ true → are_distinct is_same_alternative xs ≡ true
      → item_standing n (declares (start_line name xs)) (with (early n name guest None None) outside) ≡ Ok (with (early n name guest (Some xs) None) outside)
  unfolding item_standing
  start_goes guest xs known once =
      let x = early n name guest None None in
      rw (number x (itself name), element_there before x after, known, once, set-append_seam before x after (early n name guest (Some xs) None)) refl

  pending_line_goes : (guest : Bool) (s : Option (List (Option ℕ))) (xs : List Attention) (codes : Codes) → are_distinct (λ x y. code_of x == code_of y) xs ≡ true → codes_of xs ≡ codes
      → item_standing n (declares (pending_line name xs)) (with (early n name guest s None) outside) ≡ Ok (with (early n name guest s (Some codes)) outside)
  unfolding item_standing
  pending_line_goes guest s xs codes once same =
      let x = early n name guest s None in
      rw (number x (itself name), element_there before x after, once, same, set-append_seam before x after (early n name guest s (Some codes))) refl

  pending_goes : (guest : Bool) (s : Option (List (Option ℕ))) (xs : List Attention) (codes : Codes) → are_distinct (λ x y. code_of x == code_of y) xs ≡ true → codes_of xs ≡ codes
      → all_said (pending_said n name xs) (with (early n name guest s None) outside) ≡ Ok (with (early n name guest s (pending_kept xs codes)) outside)
  pending_goes guest s [] codes once same = refl
  pending_goes guest s (a ∷ xs) codes once same =
      said_first n (declares (pending_line name (a ∷ xs))) [] _ (with (early n name guest s (Some codes)) outside) _ old (pending_line_goes guest s (a ∷ xs) codes once same) refl

  -- ---- refusals

  abbrev counted_as : RefusalKind → ℕ → Declaration → Declaration
  counted_as r count x = cond (count == 0) x (with_count r count x)

  new : (count : ℕ) → is_count version count ≡ true → (count == 0) ≡ false → nat_lt version 2 ≡ false
  new count may some = grind (arith, nat_tests)

  room : (count : ℕ) → is_count version count ≡ true → (count == 0) ≡ false → (nat_le 1 count && nat_le count MOST_REFUSALS) ≡ true
  room count may some = grind (arith, nat_tests)

  refusals_line_goes : (r : RefusalKind) (count : ℕ) (x : Declaration) → bytes_eq x.name name ≡ true → is_some (count_in r x) ≡ false → (nat_le 1 count && nat_le count MOST_REFUSALS) ≡ true
      → item_standing n (declares (refusals_line r name count)) (with x outside) ≡ Ok (with (with_count r count x) outside)
  unfolding item_standing
  refusals_line_goes r count x it none few = rw (number x it, element_there before x after, none, few, set-append_seam before x after (with_count r count x)) refl

  refusals_go : (r : RefusalKind) (count : ℕ) (x : Declaration) → bytes_eq x.name name ≡ true → is_some (count_in r x) ≡ false → is_count version count ≡ true
      → all_said (refusals_said n name r count) (with x outside) ≡ Ok (with (counted_as r count x) outside)
  refusals_go r count x it none may = by (count == 0) refl
    where
      by : (b : Bool) → (count == 0) ≡ b → all_said (refusals_said n name r count) (with x outside) ≡ Ok (with (counted_as r count x) outside)
      by true is = rw is refl
      by false is = rw is (said_first n (declares (refusals_line r name count)) [] _ (with (with_count r count x) outside) _ (new count may is) (refusals_line_goes r count x it none (room count may is)) refl)

  -- how often each may come
  counts_are : (guest : Bool) (s : Option (List (Option ℕ))) (p : Option Codes) (b f : ℕ)
      → counted_as refusal.Full f (counted_as refusal.Busy b (early n name guest s p)) ≡ staged n name guest s p (count_said b) (count_said f) [] None
  counts_are guest s p b f = by (b == 0) (f == 0)
    where
      by : (c d : Bool) → cond d (cond c (early n name guest s p) (with_count refusal.Busy b (early n name guest s p))) (with_count refusal.Full f (cond c (early n name guest s p) (with_count refusal.Busy b (early n name guest s p))))
          ≡ staged n name guest s p (cond c None (Some b)) (cond d None (Some f)) [] None
      by true true = refl
      by true false = refl
      by false true = refl
      by false false = refl

  both_go : (guest : Bool) (s : Option (List (Option ℕ))) (p : Option Codes) (b f : ℕ) (ls : List Line) (r : Result Declared ReadError) → is_count version b ≡ true → is_count version f ≡ true
      → all_said ls (with (staged n name guest s p (count_said b) (count_said f) [] None) outside) ≡ r
      → all_said (refusals_said n name refusal.Busy b ++ (refusals_said n name refusal.Full f ++ ls)) (with (early n name guest s p) outside) ≡ r
  both_go guest s p b f ls r busies fulls rest =
      let x = early n name guest s p in
      let y = counted_as refusal.Busy b x in
      let it = cond_both (b == 0) x (with_count refusal.Busy b x) (λ z. bytes_eq z.name name ≡ true) (λ _. itself name) (λ _. itself name) in
      let none = cond_both (b == 0) x (with_count refusal.Busy b x) (λ z. is_some z.full ≡ false) (λ _. refl) (λ _. refl) in
      said_on (refusals_said n name refusal.Busy b) _ _ (with y outside) _ (refusals_go refusal.Busy b x (itself name) refl busies)
      (said_on (refusals_said n name refusal.Full f) ls _ (with (counted_as refusal.Full f y) outside) _ (refusals_go refusal.Full f y it none fulls)
      (ap (λ z. all_said ls (with z outside)) (counts_are guest s p b f) ∙ rest))

  -- ---- a role

  role_goes : (guest : Bool) (s : Option (List (Option ℕ))) (p : Option Codes) (b f : Option ℕ) (done : List Clause) (c : Clause) → is_action (unwrap_or keys []) c.action ≡ true → nat_le MOST_CLAUSES (length done) ≡ false
      → item_standing n (declares (role_line name c)) (with (staged n name guest s p b f done None) outside) ≡ Ok (with (staged n name guest s p b f (done ++ c ∷ []) None) outside)
  unfolding item_standing
  role_goes guest s p b f done c known short =
      let x = staged n name guest s p b f done None in
      rw (number x (itself name), element_there before x after, known, short, set-append_seam before x after (staged n name guest s p b f (done ++ c ∷ []) None)) refl

  roles_go : (guest : Bool) (s : Option (List (Option ℕ))) (p : Option Codes) (b f : Option ℕ) (done cs : List Clause) → list_all (λ c. is_action (unwrap_or keys []) c.action) cs ≡ true → length done + length cs ≤ MOST_CLAUSES
      → all_said (map (λ c. line n (declares (role_line name c))) cs) (with (staged n name guest s p b f done None) outside) ≡ Ok (with (staged n name guest s p b f (done ++ cs) None) outside)
  roles_go guest s p b f done [] known short = ap (λ l. Ok (with (staged n name guest s p b f l None) outside)) (sym (append-nil done))
  roles_go guest s p b f done (c ∷ cs) known short =
      let parts = and_parts (is_action (unwrap_or keys []) c.action) _ known in
      said_first n (declares (role_line name c)) (map (λ d. line n (declares (role_line name d))) cs) _ _ _ old (role_goes guest s p b f done c parts.0 (short_role (length done) (length cs) short))
      (roles_go guest s p b f (done ++ c ∷ []) cs parts.1 (one_longer done c (length cs) MOST_CLAUSES short)
      ∙ ap (λ l. Ok (with (staged n name guest s p b f l None) outside)) (append_assoc done (c ∷ []) cs))

  -- the last line of a task
  abbrev tasked_as : WrittenTask → Declaration → Declaration
  tasked_as t x = record x { task = Some t }

  task_ends : (x : Declaration) (t : WrittenTask) (p : Context) → with_task (with x p) (length before) t ≡ with (tasked_as t x) outside
  task_ends x t p = rw (element_there before x after, set-append_seam before x after (tasked_as t x)) refl

  -- ---- a script

  script_begins : (s : Option (List (Option ℕ))) (p : Option Codes) (b f : Option ℕ) (r : List Clause) (budget : ℕ) → (nat_le 1 budget && nat_le budget MOST_BUDGET) ≡ true
      → item_standing n (declares (script_line name budget)) (with (staged n name false s p b f r None) outside) ≡ Ok (with (staged n name false s p b f r None) (in_script (begun_script (length before) budget)))
  unfolding item_standing
  script_begins s p b f r budget fits =
      let x = staged n name false s p b f r None in
      rw (number x (itself name), element_there before x after, fits) refl

  script_ends : (x : Declaration) (o : OpenLines) → o.blocks ≡ [] → o.host ≡ length before → item_standing n end_line (with x (in_script o)) ≡ Ok (with (tasked_as (scripted o.lines o.budget) x) outside)
  unfolding item_standing
  script_ends x o closed own = rw (closed, own) (ap (λ d. Ok d) (task_ends x (scripted o.lines o.budget) (in_script o)))

  -- ---- a plan

  plan_begins : (s : Option (List (Option ℕ))) (p : Option Codes) (b f : Option ℕ) (r : List Clause)
      → item_standing n (declares (plan_line name)) (with (staged n name true s p b f r None) outside) ≡ Ok (with (staged n name true s p b f r None) (in_plan (length before) []))
  unfolding item_standing
  plan_begins s p b f r =
      let x = staged n name true s p b f r None in
      rw (number x (itself name), element_there before x after) refl

  command_goes : (x : Declaration) (h : ℕ) (done : List Command) (c : Command) → is_written (unwrap_or keys []) c ≡ true → nat_le MOST_PLANNED (length done) ≡ false
      → item_standing n (command_line (without_keys c)) (with x (in_plan h done)) ≡ Ok (with x (in_plan h (done ++ c ∷ [])))
  unfolding item_standing
  command_goes x h done c written short = rw (written, short) refl

  commands_go : (x : Declaration) (h : ℕ) (done cs : List Command) → list_all (is_written (unwrap_or keys [])) cs ≡ true → length done + length cs ≤ MOST_PLANNED
      → all_said (map (λ c. line n (command_line (without_keys c))) cs) (with x (in_plan h done)) ≡ Ok (with x (in_plan h (done ++ cs)))
  commands_go x h done [] written short = ap (λ l. Ok (with x (in_plan h l))) (sym (append-nil done))
  commands_go x h done (c ∷ cs) written short =
      let parts = and_parts (is_written (unwrap_or keys []) c) _ written in
      said_first n (command_line (without_keys c)) (map (λ d. line n (command_line (without_keys d))) cs) _ _ _ old (command_goes x h done c parts.0 (short_plan (length done) (length cs) short))
      (commands_go x h (done ++ c ∷ []) cs parts.1 (one_longer done c (length cs) MOST_PLANNED short) ∙ ap (λ l. Ok (with x (in_plan h l))) (append_assoc done (c ∷ []) cs))

  plan_ends : (x : Declaration) (cs : List Command) → item_standing n end_line (with x (in_plan (length before) cs)) ≡ Ok (with (tasked_as (planned cs) x) outside)
  unfolding item_standing
  plan_ends x cs = ap (λ d. Ok d) (task_ends x (planned cs) (in_plan (length before) cs))

  -- ---- a task

  task_goes : (t : Task) (s : Option (List (Option ℕ))) (p : Option Codes) (b f : Option ℕ) (r : List Clause) → is_task_of version t ≡ true → is_task (unwrap_or keys []) t ≡ true
      → all_said (task_said n name t) (with (staged n name (is_planned t) s p b f r None) outside) ≡ Ok (with (staged n name (is_planned t) s p b f r (Some (task_written t))) outside)
  task_goes (Scripted script budget) s p b f r has h =
      let x = staged n name false s p b f r None in
      let parts = and_parts (script_fits (unwrap_or keys []) script) _ h in
      let read = reread n (with x outside) (length before) budget script dated has parts.0 in
      said_first n (declares (script_line name budget)) (script_said n (body_lines script) ++ line n end_line ∷ []) _ _ _ old (script_begins s p b f r budget parts.1)
      (said_on (script_said n (body_lines script)) (line n end_line ∷ []) _ (with x (in_script read.script)) _
      read.stepped
      (said_first n end_line [] _ _ _ old (script_ends x read.script read.closed read.host_is)
      (ap (λ t. Ok (with (tasked_as t x) outside)) (ap (λ ls. scripted ls read.script.budget) read.lines_are ∙ ap (λ m. scripted (body_lines script) m) read.budget_is))))
  task_goes (Planned commands) s p b f r has h =
      let x = staged n name true s p b f r None in
      let parts = and_parts (nat_le (length commands) MOST_PLANNED) _ h in
      said_first n (declares (plan_line name)) (map (λ c. line n (command_line (without_keys c))) commands ++ line n end_line ∷ []) _ _ _ old (plan_begins s p b f r)
      (said_on (map (λ c. line n (command_line (without_keys c))) commands) (line n end_line ∷ []) _ (with x (in_plan (length before) commands)) _
      (commands_go x (length before) [] commands parts.1 (let few_commands = leb-true (length commands) MOST_PLANNED parts.0 in omega arith))
      (said_first n end_line [] _ _ _ old (plan_ends x commands) refl))

  -- ---- nobody else on the path

  alone_line_goes : (x : Declaration) → bytes_eq x.name name ≡ true → x.is_guest ≡ false → x.alone ≡ false
      → item_standing n (declares (alone_line (name ∷ []))) (with x outside) ≡ Ok (with (record x { alone = true }) outside)
  unfolding item_standing
  alone_line_goes x it host new = rw (number x it, element_there before x after, set-append_seam before x after (record x { alone = true }), host, new) refl

  pub alone_goes : (x : Declaration) (b : Bool) → bytes_eq x.name name ≡ true → (b ≡ true → (x.is_guest ≡ false) × (nat_lt version 3 ≡ false)) → x.alone ≡ false
      → all_said (alone_said n name b) (with x outside) ≡ Ok (with (record x { alone = b }) outside)
  alone_goes x true it may new = said_first n (declares (alone_line (name ∷ []))) [] _ (with (record x { alone = true }) outside) _ (may refl).1 (alone_line_goes x it (may refl).0 new) refl
  alone_goes x false it may new = ap (λ a. Ok (with (record x { alone = a }) outside)) new

-- ---- all of them

abbrev pub bare : ℕ → Nexus → Declaration
bare n x = early n x.name (is_planned x.task) None None

abbrev pub full : ℕ → Nexus → Declaration
full n x = staged n x.name (is_planned x.task) (Some x.start) (pending_kept (attentions_in x.pending) x.pending) (count_said x.busy) (count_said x.full) x.role (Some (task_written x.task))

-- the version has what the nexus has
abbrev pub is_nexus_of : ℕ → Nexus → Bool
is_nexus_of version x = is_count version x.busy && (is_count version x.full && is_task_of version x.task)

pub details_go : (n version : ℕ) → is_version version ≡ true → (keys : Option (List ℕ)) (vs : Option (List (Option Held))) (g rs : Option ℕ) (before after : List Declaration) (x : Nexus)
    → is_taken x.name before ≡ false → is_nexus_of version x ≡ true → is_nexus (unwrap_or keys []) x ≡ true → AreAttentions x.pending
    → all_said (details_said n x) (placed version keys vs g rs (before ++ bare n x ∷ after) outside) ≡ Ok (placed version keys vs g rs (before ++ full n x ∷ after) outside)
details_go n version dated keys vs g rs before after x free has fits are =
    let guest = is_planned x.task in
    let busies = and_parts (is_count version x.busy) _ has in
    let fulls = and_parts (is_count version x.full) _ busies.1 in
    let pending = pending_kept (attentions_in x.pending) x.pending in
    let parts = and_parts (is_role (unwrap_or keys []) x.role) _ (and_parts (is_name x.name) _ fits).1 in
    let roles = and_parts (nat_le (length x.role) MOST_CLAUSES) _ parts.0 in
    let rest = and_parts (is_start (unwrap_or keys []) x.start) _ parts.1 in
    let start = and_parts (list_all (is_alternative (unwrap_or keys [])) x.start) _ (and_parts (not (length x.start == 0)) _ rest.0).1 in
    said_first n (declares (start_line x.name x.start)) _ _ _ _ (has_first version dated) (start_goes n version dated keys vs g rs before after x.name free guest x.start start.0 start.1)
    (said_on (pending_said n x.name (attentions_in x.pending)) _ _ _ _
    (pending_goes n version dated keys vs g rs before after x.name free guest (Some x.start) (attentions_in x.pending) x.pending (attentions_apart x.pending) (attentions_are x.pending are))
    (both_go n version dated keys vs g rs before after x.name free guest (Some x.start) pending x.busy x.full _ _ busies.0 fulls.0
    (said_on (map (λ c. line n (declares (role_line x.name c))) x.role) _ _ _ _
    (roles_go n version dated keys vs g rs before after x.name free guest (Some x.start) pending (count_said x.busy) (count_said x.full) [] x.role roles.1 (let few_roles = leb-true (length x.role) MOST_CLAUSES roles.0 in omega arith))
    (task_goes n version dated keys vs g rs before after x.name free x.task (Some x.start) pending (count_said x.busy) (count_said x.full) x.role fulls.1 rest.1))))
