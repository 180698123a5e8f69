-- What is declared stays sound with one line more.
use Rattle.pr_text.proofs.Common.{◌≡◌, ℕ, zero, suc, ◌+◌, true, false, cond, not, ◌&&◌, List, [], ◌∷◌, ◌++◌, map, length, is_some, nat_le, ◌==◌, slice_set, Some, None, Ok, Option, sym, refl, ap, ◌∙◌, subst, arith, list_all, slice_get, and_parts, Attention, is_written, is_name, MOST_BUDGET, is_action, is_role, MOST_CLAUSES, MOST_PLANNED, Clause, states, ScenarioLine, DeclaringLine, fence_line, declares, nexus_line, start_line, pending_line, refusals_line, resets_line, alone_line, order_line, role_line, script_line, plan_line, end_line, command_line, keys_line, reservation_line, generation_line, RefusalKind, ParsedCommand, is_item, and_from, Declared, WrittenTask, scripted, planned, Declaration, Context, outside, in_script, in_plan, codes_of, declared_keys, number_of, with_count, with_task, begun_script, item_placed, IsTask, IsDeclaration, AreDeclarations, IsSound, IsPlace, le-leb, not-false, or_parts, StatementLine, option_map_or, with_statement_line, since, nat_lt, Bool}
use Rattle.std.proofs.lemmas.Bool.{leb-false}
use Rattle.std.proofs.lemmas.List.{length-set, length_push}
use Rattle.pr_lines.specs.declared.item.RefusalKind.TheVariants as refusal
use Rattle.pr_text.specs.declared.fault.Which.TheVariants as which
use Rattle.pr_text.specs.declared.fault.ReadError.TheVariants as fault
use Rattle.pr_text.specs.LineFaults.{command_fault, declaring_fault, fault_at, first_fault, keys_undeclared, names_unknown, past_limit, says_again, standing_fault, statement_fault}
use Rattle.pr_text.specs.NextLine.{with_alone, with_declared, with_line, with_named, with_nexus}
use Rattle.pr_text.specs.Standing.{by_place, of_plan, of_script}
use Rattle.std.specs.Prelude.{is_none, fold}
use Rattle.pr_text.specs.Declaring.{holds_of, is_spelled, nexus_named}
use Rattle.pr_text.specs.inside.Sound.{AreBegun}
use Rattle.pr_text.proofs.lemmas.Sound.Scripts.{Faultless, all_push, faultless, passes, script_sound, skips, stands_outside}
use Rattle.pr_text.proofs.lemmas.Sound.Lists.{keys_sound, nexus_sound, reservation_sound}

-- ---- the same, at another place

moved : (n : ℕ) (d : Declared) (p : Context) → IsSound n d → IsPlace (declared_keys d) (n + 1) p → IsSound (n + 1) (record d { place = p })
moved n d p h at = record { keys = h.keys; reservations = h.reservations; apart = h.apart; each = h.each; place = at }

-- ---- one nexus

declaration_at : (keys : List ℕ) (xs : List Declaration) (h : ℕ) (x : Declaration) → slice_get xs h ≡ Some x → AreDeclarations keys xs → IsDeclaration keys x
declaration_at keys [] h x there all = cc
declaration_at keys (y ∷ xs) zero x there all = let same : y ≡ x = cc in subst (IsDeclaration keys) same all.0
declaration_at keys (y ∷ xs) (suc h) x there all = declaration_at keys xs h x there all.1

set_sound : (keys : List ℕ) (xs : List Declaration) (h : ℕ) (y : Declaration) → IsDeclaration keys y → AreDeclarations keys xs → AreDeclarations keys (slice_set xs h y)
set_sound keys [] h y is all = tt
set_sound keys (x ∷ xs) zero y is all = (is, all.1)
set_sound keys (x ∷ xs) (suc h) y is all = (all.0, set_sound keys xs h y is all.1)

names_same : (xs : List Declaration) (h : ℕ) (x y : Declaration) → slice_get xs h ≡ Some x → y.name ≡ x.name → map (λ z. z.name) (slice_set xs h y) ≡ map (λ z. z.name) xs
names_same [] h x y there e = refl
names_same (z ∷ xs) zero x y there e = let same : z ≡ x = cc in ap (λ n. n ∷ map (λ w. w.name) xs) (e ∙ ap (λ w. w.name) (sym same))
names_same (z ∷ xs) (suc h) x y there e = ap (λ ns. z.name ∷ ns) (names_same xs h x y there e)

changed : (n : ℕ) (d : Declared) (h : ℕ) (x y : Declaration) (p : Context) → IsSound n d → slice_get d.nexuses h ≡ Some x → y.name ≡ x.name
    → IsDeclaration (declared_keys d) y → IsPlace (declared_keys d) (n + 1) p → IsSound (n + 1) (record d { nexuses = slice_set d.nexuses h y; place = p })
changed n d h x y p sound there named is at =
    let long : length (slice_set d.nexuses h y) ≡ length d.nexuses = length-set d.nexuses h y in
    record {
      keys = sound.keys;
      reservations = rw long sound.reservations;
      apart = rw (names_same d.nexuses h x y there named) sound.apart;
      each = set_sound (declared_keys d) d.nexuses h y is sound.each;
      place = at;
    }

-- the nexus with a name that is declared
record Named (d : Declared) (name : List ℕ) : Type 0 where
  number : ℕ
  nexus : Declaration
  found : number_of d.nexuses name ≡ Some number
  there : slice_get d.nexuses number ≡ Some nexus

named : (d : Declared) (name : List ℕ) → is_none (nexus_named d name) ≡ false → Named d name
named d name known = by_number (number_of d.nexuses name) refl
  where
    by_nexus : (h : ℕ) (o : Option Declaration) → number_of d.nexuses name ≡ Some h → slice_get d.nexuses h ≡ o → Named d name
    by_nexus h None found there = let none : is_none (nexus_named d name) ≡ true = rw (found, there) refl in cc
    by_nexus h (Some x) found there = record { number = h; nexus = x; found = found; there = there }

    by_number : (o : Option ℕ) → number_of d.nexuses name ≡ o → Named d name
    by_number None found = let none : is_none (nexus_named d name) ≡ true = rw found refl in cc
    by_number (Some h) found = by_nexus h (slice_get d.nexuses h) found refl

-- one of which something holds
holding : (d : Declared) (name : List ℕ) (p : Declaration → Bool) → not (holds_of d name p) ≡ false → Named d name
holding d name p h = named d name (some (nexus_named d name) (not-false _ h))
  where
    some : (o : Option Declaration) → option_map_or p o false ≡ true → is_none o ≡ false
    some None h = cc
    some (Some x) h = refl

-- what keeps this one sound keeps all that is declared so
named_sound : (n : ℕ) (name : List ℕ) (f : Declaration → Declaration) (d : Declared) → d.place ≡ outside → IsSound n d → is_none (nexus_named d name) ≡ false
    → ((x : Declaration) → nexus_named d name ≡ Some x → IsDeclaration (declared_keys d) x → ((f x).name ≡ x.name) × IsDeclaration (declared_keys d) (f x))
    → IsSound (n + 1) (with_named d name f)
named_sound n name f d at sound known each =
    let m = named d name known in
    let it : nexus_named d name ≡ Some m.nexus = rw (m.found, m.there) refl in
    let next = each m.nexus it (declaration_at (declared_keys d) d.nexuses m.number m.nexus m.there sound.each) in
    let same : record d { nexuses = slice_set d.nexuses m.number (f m.nexus) } ≡ with_named d name f = rw (m.found, m.there) refl in
    subst (IsSound (n + 1)) same (changed n d m.number m.nexus (f m.nexus) d.place sound m.there next.0 next.1 (subst (IsPlace (declared_keys d) (n + 1)) (sym at) tt))

-- ---- the lines outside

-- what is wrong with the line is nothing
abbrev IsClean : ℕ → DeclaringLine → Declared → Type 0
IsClean n l d = declaring_fault n d l ≡ None

clean : (n : ℕ) (l : DeclaringLine) (d : Declared) → IsClean n l d → Faultless false (names_unknown d l) (keys_undeclared d l) (says_again d l) (past_limit d l)
clean n l d h = faultless n false (names_unknown d l) (keys_undeclared d l) (says_again d l) (past_limit d l) h

start_sound : (n : ℕ) (name : List ℕ) (xs : List (Option ℕ)) (d : Declared) → d.place ≡ outside → not (length xs == 0) ≡ true → IsSound n d → IsClean (n + 1) (start_line name xs) d
    → IsSound (n + 1) (with_declared (n + 1) d (start_line name xs))
start_sound n name xs d at some sound h =
    let b = clean (n + 1) (start_line name xs) d h in
    let starts = and_from _ _ some (and_from _ _ (not-false _ b.declared) (not-false _ (or_parts (holds_of d name (λ x. is_some x.start)) _ b.once).1)) in
    named_sound n name (λ x. record x { start = Some xs }) d at sound b.known (λ x is was.
    let parts = and_parts (is_name x.name) _ was.described in
    let role = and_parts (is_role (declared_keys d) x.role) _ parts.1 in
    (refl, record { described = and_from _ _ parts.0 (and_from _ _ role.0 starts); task = was.task }))

pending_sound : (n : ℕ) (name : List ℕ) (xs : List Attention) (d : Declared) → d.place ≡ outside → IsSound n d → IsClean (n + 1) (pending_line name xs) d
    → IsSound (n + 1) (with_declared (n + 1) d (pending_line name xs))
pending_sound n name xs d at sound h =
    named_sound n name (λ x. record x { pending = Some (codes_of xs) }) d at sound (clean (n + 1) (pending_line name xs) d h).known
    (λ x is was. (refl, record { described = was.described; task = was.task }))

counted_name : (r : RefusalKind) (count : ℕ) (x : Declaration) → (with_count r count x).name ≡ x.name
counted_name refusal.Busy count x = refl
counted_name refusal.Full count x = refl

counted_is : (keys : List ℕ) (r : RefusalKind) (count : ℕ) (x : Declaration) → IsDeclaration keys x → IsDeclaration keys (with_count r count x)
counted_is keys refusal.Busy count x was = record { described = was.described; task = was.task }
counted_is keys refusal.Full count x was = record { described = was.described; task = was.task }

refusals_sound : (n : ℕ) (r : RefusalKind) (name : List ℕ) (count : ℕ) (d : Declared) → d.place ≡ outside → IsSound n d → IsClean (n + 1) (refusals_line r name count) d
    → IsSound (n + 1) (with_declared (n + 1) d (refusals_line r name count))
refusals_sound n r name count d at sound h =
    named_sound n name (with_count r count) d at sound (clean (n + 1) (refusals_line r name count) d h).known
    (λ x is was. (counted_name r count x, counted_is (declared_keys d) r count x was))

-- a list that is not full takes one more of what may stand in it
fits_more : {A : Type 0} (most : ℕ) (p : A → Bool) (xs : List A) (x : A) → (nat_le (length xs) most && list_all p xs) ≡ true → p x ≡ true → nat_le most (length xs) ≡ false
    → (nat_le (length (xs ++ x ∷ [])) most && list_all p (xs ++ x ∷ [])) ≡ true
fits_more most p xs x h is few =
    let parts = and_parts (nat_le (length xs) most) _ h in
    and_from _ _ (le-leb (length (xs ++ x ∷ [])) most (omega (arith, length_push xs x, leb-false most (length xs) few))) (all_push p xs x parts.1 is)

role_sound : (n : ℕ) (name : List ℕ) (clause : Clause) (d : Declared) → d.place ≡ outside → IsSound n d → IsClean (n + 1) (role_line name clause) d
    → IsSound (n + 1) (with_declared (n + 1) d (role_line name clause))
role_sound n name clause d at sound h =
    let keys = declared_keys d in
    let b = clean (n + 1) (role_line name clause) d h in
    let few = (skips (holds_of d name (λ x. nat_le MOST_CLAUSES (length x.role))) _ _ b.within).0 in
    named_sound n name (λ x. record x { role = x.role ++ clause ∷ [] }) d at sound b.known (λ x is was.
    let parts = and_parts (is_name x.name) _ was.described in
    let role = and_parts (is_role keys x.role) _ parts.1 in
    let short = sym (ap (λ o. option_map_or (λ y. nat_le MOST_CLAUSES (length y.role)) o false) is) ∙ few in
    let more = fits_more MOST_CLAUSES (λ c. is_action keys c.action) x.role clause role.0 (not-false _ b.declared) short in
    (refl, record { described = and_from _ _ parts.0 (and_from _ _ more role.1); task = was.task }))

-- a line of something else than nexuses and keys, on whatever line it stands
aside : (n m : ℕ) (d : Declared) (g rs : Option ℕ) (in_order : Bool) → d.place ≡ outside → IsSound n d → IsSound m (record d { generation = g; resets = rs; in_order = in_order })
aside n m d g rs in_order at sound = record {
  keys = sound.keys;
  reservations = sound.reservations;
  apart = sound.apart;
  each = sound.each;
  place = subst (IsPlace (declared_keys d) m) (sym at) tt;
}

-- nobody else on the paths of some
abbrev as_alone : Declaration → Declaration
as_alone x = record x { alone = true }

one_alone : (n : ℕ) (d : Declared) (h : ℕ) (o : Option Declaration) → slice_get d.nexuses h ≡ o → d.place ≡ outside → IsSound n d → IsSound n (with_nexus d h as_alone)
one_alone n d h None there at sound = rw there sound
one_alone n d h (Some x) there at sound =
    let was = declaration_at (declared_keys d) d.nexuses h x there sound.each in
    let e = record d { nexuses = slice_set d.nexuses h (as_alone x) } in
    let place = subst (IsPlace (declared_keys d) (n + 1)) (sym at) tt in
    let next = changed n d h x (as_alone x) d.place sound there refl (record { described = was.described; task = was.task }) place in
    rw there (aside (n + 1) n e d.generation d.resets d.in_order at next)

named_alone : (n : ℕ) (d : Declared) (o : Option ℕ) → d.place ≡ outside → IsSound n d
    → IsSound n (option_map_or (λ h. with_nexus d h as_alone) o d) × ((option_map_or (λ h. with_nexus d h as_alone) o d).place ≡ outside)
named_alone n d None at sound = (sound, at)
named_alone n d (Some h) at sound = (one_alone n d h (slice_get d.nexuses h) refl at sound, at)

alone_sound : (n : ℕ) (names : List (List ℕ)) (d : Declared) → d.place ≡ outside → IsSound n d → IsSound (n + 1) (fold with_alone d names)
alone_sound n [] d at sound = aside n (n + 1) d d.generation d.resets d.in_order at sound
alone_sound n (name ∷ names) d at sound = let one = named_alone n d (number_of d.nexuses name) at sound in alone_sound n names (with_alone d name) one.1 one.0

begun_sound : (keys : List ℕ) (n h budget : ℕ) → (nat_le 1 budget && nat_le budget MOST_BUDGET) ≡ true → AreBegun keys n (begun_script h budget)
begun_sound keys n h budget room = record { standing = refl; reaching = refl; counted = refl; short = refl; rising = refl; passed = refl; budget = room }

script_line_sound : (n : ℕ) (name : List ℕ) (budget : ℕ) (d : Declared) → IsSound n d → IsClean (n + 1) (script_line name budget) d
    → IsSound (n + 1) (with_declared (n + 1) d (script_line name budget))
script_line_sound n name budget d sound h =
    let b = clean (n + 1) (script_line name budget) d h in
    let m = holding d name (λ x. not x.is_guest) b.known in
    let room = not-false _ (skips (not (nat_le 1 budget && nat_le budget MOST_BUDGET)) _ _ b.within).0 in
    rw m.found (moved n d (in_script (begun_script m.number budget)) sound (begun_sound (declared_keys d) (n + 1) m.number budget room))

plan_line_sound : (n : ℕ) (name : List ℕ) (d : Declared) → IsSound n d → IsClean (n + 1) (plan_line name) d → IsSound (n + 1) (with_declared (n + 1) d (plan_line name))
plan_line_sound n name d sound h =
    let m = holding d name (λ x. x.is_guest) (clean (n + 1) (plan_line name) d h).known in
    rw m.found (moved n d (in_plan m.number []) sound refl)

declared_sound : (n : ℕ) (l : DeclaringLine) (d : Declared) → d.place ≡ outside → IsSound n d → is_item (declares l) ≡ true → IsClean (n + 1) l d → IsSound (n + 1) (with_declared (n + 1) d l)
declared_sound n (keys_line keys) d at sound s h = let b = clean (n + 1) (keys_line keys) d h in keys_sound n keys d at s sound b.once b.within
declared_sound n (nexus_line guest name) d at sound s h = nexus_sound n guest name d at s sound (clean (n + 1) (nexus_line guest name) d h).once
declared_sound n (start_line name xs) d at sound s h = start_sound n name xs d at s sound h
declared_sound n (pending_line name xs) d at sound s h = pending_sound n name xs d at sound h
declared_sound n (refusals_line r name count) d at sound s h = refusals_sound n r name count d at sound h
declared_sound n (reservation_line ws) d at sound s h = let b = clean (n + 1) (reservation_line ws) d h in reservation_sound n ws d at s sound b.known b.once
declared_sound n (generation_line g) d at sound s h = aside n (n + 1) d (Some g) d.resets d.in_order at sound
declared_sound n (resets_line count) d at sound s h = aside n (n + 1) d d.generation (Some count) d.in_order at sound
declared_sound n (alone_line names) d at sound s h = alone_sound n names d at sound
declared_sound n order_line d at sound s h = aside n (n + 1) d d.generation d.resets true at sound
declared_sound n (role_line name clause) d at sound s h = role_sound n name clause d at sound h
declared_sound n (script_line name budget) d at sound s h = script_line_sound n name budget d sound h
declared_sound n (plan_line name) d at sound s h = plan_line_sound n name d sound h

-- ---- the other lines

versioned : (n version : ℕ) (d : Declared) → IsSound n d → IsSound n (record d { version = version })
versioned n version d h = record { keys = h.keys; reservations = h.reservations; apart = h.apart; each = h.each; place = h.place }

task_at : (n : ℕ) (d : Declared) (h : ℕ) (t : WrittenTask) (o : Option Declaration) → slice_get d.nexuses h ≡ o → IsSound n d → IsTask (declared_keys d) (Some t)
    → IsSound (n + 1) (with_task d h t)
task_at n d h t None is sound fits =
    let same : (with_task d h t).nexuses ≡ d.nexuses = rw is refl in
    subst (λ xs. IsSound (n + 1) (record d { nexuses = xs; place = outside })) (sym same) (moved n d outside sound tt)
task_at n d h t (Some x) is sound fits =
    let same : (with_task d h t).nexuses ≡ slice_set d.nexuses h (record x { task = Some t }) = rw is refl in
    let was = declaration_at (declared_keys d) d.nexuses h x is sound.each in
    subst (λ xs. IsSound (n + 1) (record d { nexuses = xs; place = outside })) (sym same)
    (changed n d h x (record x { task = Some t }) outside sound is refl (record { described = was.described; task = fits }) tt)

-- a statement's line, or a command's, leaves what is open sound
stated_sound : (keys : List ℕ) (n : ℕ) (l : StatementLine) (p : Context) → is_item (states l) ≡ true → IsPlace keys n p
    → of_script (Some (fault.Syntax (n + 1))) (λ o. statement_fault (n + 1) keys o l) p ≡ None → IsPlace keys (n + 1) (of_script p (λ o. in_script (with_statement_line (n + 1) l o)) p)
stated_sound keys n l (in_script o) s at h = script_sound keys n l o s at h
stated_sound keys n l _ s at h = cc

plan_sound : (keys : List ℕ) (n : ℕ) (s : ParsedCommand) (p : Context) → IsPlace keys n p
    → of_plan (Some (fault.Syntax (n + 1))) (λ h commands. command_fault (n + 1) keys commands s) p ≡ None → IsPlace keys (n + 1) (of_plan p (λ h commands. in_plan h (commands ++ s.command ∷ [])) p)
plan_sound keys n s (in_plan g commands) at h =
    let b = faultless (n + 1) false false (not (is_spelled keys s)) false (cond (nat_le MOST_PLANNED (length commands)) (Some which.Plan) None) h in
    let few = (skips (nat_le MOST_PLANNED (length commands)) _ _ b.within).0 in
    let written = (and_parts (is_written keys s.command) _ (not-false _ b.declared)).0 in
    fits_more MOST_PLANNED (is_written keys) commands s.command at written few
plan_sound keys n s _ at h = cc

-- the last line of a script or a plan; elsewhere it has a fault
ended_sound : (n : ℕ) (d : Declared) (p : Context) → IsSound n d → IsPlace (declared_keys d) n p
    → first_fault (n + 1) (by_place true true (λ o. not (length o.blocks == 0)) (λ h commands. false) p) false false false None ≡ None
    → IsSound (n + 1) (by_place d d (λ o. with_task d o.host (scripted o.lines o.budget)) (λ h commands. with_task d h (planned commands)) p)
ended_sound n d (in_script o) sound at h =
    task_at n d o.host (scripted o.lines o.budget) (slice_get d.nexuses o.host) refl sound
    (record { standing = at.standing; short = rw (← at.counted) at.short; rising = at.rising }, at.budget)
ended_sound n d (in_plan g commands) sound at h = task_at n d g (planned commands) (slice_get d.nexuses g) refl sound at
ended_sound n d _ sound at h = cc

line_sound : (n : ℕ) (i : ScenarioLine) (d : Declared) → IsSound n d → is_item i ≡ true → standing_fault (n + 1) d i ≡ None → IsSound (n + 1) (with_line (n + 1) d i)
line_sound n (fence_line version) d sound s h = moved n (record d { version = version }) outside (versioned n version d sound) tt
line_sound n (declares l) d sound s h = let b = stands_outside d.place (declaring_fault (n + 1) d l) (fault.Syntax (n + 1)) h in declared_sound n l d b.0 sound s b.1
line_sound n (states l) d sound s h = moved n d _ sound (stated_sound (declared_keys d) n l d.place s sound.place h)
line_sound n (command_line c) d sound s h = moved n d _ sound (plan_sound (declared_keys d) n c d.place sound.place h)
line_sound n end_line d sound s h = ended_sound n d d.place sound sound.place h

pub placed_sound : (n : ℕ) (i : ScenarioLine) (d e : Declared) → IsSound n d → is_item i ≡ true → item_placed (n + 1) i d ≡ Ok e → IsSound (n + 1) e
unfolding item_placed
placed_sound n i d e sound s r =
    let a = passes (fault_at (n + 1) d i) (with_line (n + 1) d i) e r in
    subst (IsSound (n + 1)) a.1 (line_sound n i d sound s (skips (nat_lt d.version (since i)) _ _ a.0).1)
