-- What is declared with one line more is what the version has.
use Rattle.pr_text.proofs.Common.{◌≡◌, ℕ, zero, suc, ◌+◌, Bool, true, false, not, ◌&&◌, List, [], ◌∷◌, ◌++◌, length, nat_lt, nat_le, slice_set, Some, None, Ok, Option, sym, refl, ap, ◌∙◌, subst, arith, list_all, slice_get, option_map_or, unwrap_or, and_parts, is_count, are_resets, most_declared, MOST_REFUSALS, MOST_RESETS, states, ScenarioLine, DeclaringLine, StatementLine, fence_line, declares, nexus_line, start_line, pending_line, refusals_line, resets_line, alone_line, role_line, script_line, plan_line, end_line, send_line, on_line, done_line, repeat_line, break_line, stop_line, command_line, since, RefusalKind, ParsedCommand, is_item, and_from, Declared, WrittenTask, scripted, planned, Declaration, OpenLines, Context, before_all, outside, in_script, in_plan, codes_of, number_of, with_count, with_task, begun_script, with_statement_line, item_placed, arm_on, block_done, send_at, repeat_of, break_out, stop_with, is_line_of, IsDated, le-leb, not-false}
use Rattle.std.proofs.lemmas.Bool.{leb-false}
use Rattle.std.proofs.lemmas.List.{length-set, length_push}
use Rattle.std.specs.Prelude.{fold}
use Rattle.pr_lines.specs.declared.item.RefusalKind.TheVariants as refusal
use Rattle.pr_lines.specs.Versions.{declaring_since, statement_since}
use Rattle.pr_script.specs.Versions.{since as test_since}
use Rattle.pr_text.specs.Standing.{by_place, is_before_all, of_script, of_plan}
use Rattle.pr_text.specs.declared.fault.ReadError.TheVariants as fault
use Rattle.pr_text.specs.LineFaults.{past_limit, names_unknown, keys_undeclared, says_again, declaring_fault, standing_fault, fault_at}
use Rattle.pr_text.specs.NextLine.{with_nexus, with_alone, with_declared, with_line}
use Rattle.pr_text.specs.inside.Sound.{is_written_of, is_declared_of, IsPlaceOf}
use Rattle.pr_text.proofs.lemmas.Sound.Scripts.{all_push, faultless, passes, skips, stands_outside}
use Rattle.pr_text.proofs.lemmas.ScriptRoundTrip.Versions.{by_has, count_kept, resets_kept}

-- ---- one nexus

dated_at : (p : Declaration → Bool) (xs : List Declaration) (h : ℕ) (x : Declaration) → slice_get xs h ≡ Some x → list_all p xs ≡ true → p x ≡ true
dated_at p [] h x there all = cc
dated_at p (y ∷ xs) zero x there all = let same : y ≡ x = cc in subst (λ z. p z ≡ true) same (and_parts (p y) _ all).0
dated_at p (y ∷ xs) (suc h) x there all = dated_at p xs h x there (and_parts (p y) _ all).1

dated_set : (p : Declaration → Bool) (xs : List Declaration) (h : ℕ) (y : Declaration) → p y ≡ true → list_all p xs ≡ true → list_all p (slice_set xs h y) ≡ true
dated_set p [] h y is all = refl
dated_set p (x ∷ xs) zero y is all = and_from _ _ is (and_parts (p x) _ all).1
dated_set p (x ∷ xs) (suc h) y is all = let parts = and_parts (p x) _ all in and_from _ _ parts.0 (dated_set p xs h y is parts.1)

-- what keeps the version of each keeps that of all
nexus_dated : (p : Declaration → Bool) (xs : List Declaration) (h : ℕ) (f : Declaration → Declaration) (o : Option Declaration)
    → ((x : Declaration) → p x ≡ true → p (f x) ≡ true) → slice_get xs h ≡ o → list_all p xs ≡ true → list_all p (option_map_or (λ x. slice_set xs h (f x)) o xs) ≡ true
nexus_dated p xs h f None each there all = all
nexus_dated p xs h f (Some x) each there all = dated_set p xs h (f x) (each x (dated_at p xs h x there all)) all

nexus_long : (xs : List Declaration) (h : ℕ) (f : Declaration → Declaration) (o : Option Declaration)
    → length (option_map_or (λ x. slice_set xs h (f x)) o xs) ≡ length xs
nexus_long xs h f None = refl
nexus_long xs h f (Some x) = length-set xs h (f x)

named_dated : (d : Declared) (f : Declaration → Declaration) (o : Option ℕ) → IsDated d → d.place ≡ outside
    → ((x : Declaration) → is_declared_of d.version x ≡ true → is_declared_of d.version (f x) ≡ true) → IsDated (option_map_or (λ h. with_nexus d h f) o d)
named_dated d f None dated at each = dated
named_dated d f (Some h) dated at each = record {
  version = dated.version;
  resets = dated.resets;
  few = rw (nexus_long d.nexuses h f (slice_get d.nexuses h)) dated.few;
  each = nexus_dated (is_declared_of d.version) d.nexuses h f (slice_get d.nexuses h) each refl dated.each;
  place = subst (IsPlaceOf d.version d.resets (with_nexus d h f).nexuses) (sym at) tt;
}

counted : (v : ℕ) (r : RefusalKind) (count : ℕ) (x : Declaration) → is_count v count ≡ true → is_declared_of v x ≡ true → is_declared_of v (with_count r count x) ≡ true
counted v refusal.Busy count x room h = let parts = and_parts (is_count v (unwrap_or x.busy 0)) _ h in and_from _ _ room parts.1
counted v refusal.Full count x room h =
    let parts = and_parts (is_count v (unwrap_or x.busy 0)) _ h in
    let rest = and_parts (is_count v (unwrap_or x.full 0)) _ parts.1 in
    and_from _ _ parts.0 (and_from _ _ room rest.1)

tasked : (v : ℕ) (t : WrittenTask) (x : Declaration) → is_written_of v (Some t) ≡ true → is_declared_of v x ≡ true → is_declared_of v (record x { task = Some t }) ≡ true
tasked v t x written h =
    let parts = and_parts (is_count v (unwrap_or x.busy 0)) _ h in
    let rest = and_parts (is_count v (unwrap_or x.full 0)) _ parts.1 in
    and_from _ _ parts.0 (and_from _ _ rest.0 written)

tasked_dated : (d : Declared) (h : ℕ) (t : WrittenTask) → is_written_of d.version (Some t) ≡ true → IsDated d → IsDated (with_task d h t)
tasked_dated d h t written dated = record {
  version = dated.version;
  resets = dated.resets;
  few = rw (nexus_long d.nexuses h (λ x. record x { task = Some t }) (slice_get d.nexuses h)) dated.few;
  each = nexus_dated (is_declared_of d.version) d.nexuses h (λ x. record x { task = Some t }) (slice_get d.nexuses h) (λ x. tasked d.version t x written) refl dated.each;
  place = tt;
}

-- ---- a line outside

opened : (d : Declared) (g : ℕ → Context) (o : Option ℕ) → ((h : ℕ) → IsPlaceOf d.version d.resets d.nexuses (g h)) → IsDated d → IsDated (option_map_or (λ h. record d { place = g h }) o d)
opened d g None is dated = dated
opened d g (Some h) is dated = record { version = dated.version; resets = dated.resets; few = dated.few; each = dated.each; place = is h }

new_dated : (d : Declared) (x : Declaration) → is_declared_of d.version x ≡ true → nat_le (most_declared d.version) (length d.nexuses) ≡ false → d.place ≡ outside → IsDated d
    → IsDated (record d { nexuses = d.nexuses ++ x ∷ [] })
new_dated d x is room at dated = record {
  version = dated.version;
  resets = dated.resets;
  few = rw (length_push d.nexuses x) (le-leb (length d.nexuses + 1) (most_declared d.version) (omega (arith, leb-false (most_declared d.version) (length d.nexuses) room)));
  each = all_push (is_declared_of d.version) d.nexuses x dated.each is;
  place = subst (IsPlaceOf d.version d.resets (d.nexuses ++ x ∷ [])) (sym at) tt;
}

place_kept : (d : Declared) (f : Declaration → Declaration) (o : Option ℕ) → d.place ≡ outside → (option_map_or (λ h. with_nexus d h f) o d).place ≡ outside
place_kept d f None at = at
place_kept d f (Some h) at = at

alone_dated : (names : List (List ℕ)) (d : Declared) → d.place ≡ outside → IsDated d → IsDated (fold with_alone d names)
alone_dated [] d at dated = dated
alone_dated (name ∷ names) d at dated =
    let o = number_of d.nexuses name in
    let as_alone = λ (x : Declaration). record x { alone = true } in
    alone_dated names (with_alone d name) (place_kept d as_alone o at) (named_dated d as_alone o dated at (λ x h. h))

declared_dated : (n : ℕ) (l : DeclaringLine) (d : Declared) → d.place ≡ outside → nat_lt d.version (declaring_since l) ≡ false → past_limit d l ≡ None → IsDated d → IsDated (with_declared n d l)
declared_dated n (nexus_line guest name) d at has few dated =
    new_dated d _ refl (skips (nat_le (most_declared d.version) (length d.nexuses)) _ _ few).0 at dated
declared_dated n (start_line name xs) d at has few dated = named_dated d (λ x. record x { start = Some xs }) (number_of d.nexuses name) dated at (λ x h. h)
declared_dated n (pending_line name xs) d at has few dated = named_dated d (λ x. record x { pending = Some (codes_of xs) }) (number_of d.nexuses name) dated at (λ x h. h)
declared_dated n (refusals_line r name count) d at has few dated =
    let room = skips (not (nat_le 1 count && nat_le count MOST_REFUSALS)) _ _ few in
    let kept = count_kept d.version count dated.version has (not-false _ room.0) in
    named_dated d (with_count r count) (number_of d.nexuses name) dated at (λ x. counted d.version r count x kept)
declared_dated n (resets_line count) d at has few dated =
    let room = skips (not (nat_le 1 count && nat_le count MOST_RESETS)) _ _ few in
    record {
      version = dated.version;
      resets = resets_kept d.version count dated.version has (not-false _ room.0);
      few = dated.few;
      each = dated.each;
      place = subst (IsPlaceOf d.version (Some count) d.nexuses) (sym at) tt;
    }
declared_dated n (alone_line names) d at has few dated = alone_dated names d at dated
declared_dated n (role_line name clause) d at has few dated = named_dated d (λ x. record x { role = x.role ++ clause ∷ [] }) (number_of d.nexuses name) dated at (λ x h. h)
declared_dated n (script_line name budget) d at has few dated = opened d (λ h. in_script (begun_script h budget)) (number_of d.nexuses name) (λ h. refl) dated
declared_dated n (plan_line name) d at has few dated = opened d (λ h. in_plan h []) (number_of d.nexuses name) (λ h. tt) dated
declared_dated n _ d at has few dated = record { version = dated.version; resets = dated.resets; few = dated.few; each = dated.each; place = dated.place }

-- ---- a line of a script or plan

stated_dated : (v n : ℕ) (l : StatementLine) (o : OpenLines) → nat_lt v (statement_since l) ≡ false → list_all (is_line_of v) o.lines ≡ true
    → list_all (is_line_of v) (with_statement_line n l o).lines ≡ true
stated_dated v n (send_line s) o has all = all_push (is_line_of v) o.lines (send_at n s.command) all refl
stated_dated v n (on_line t) o has all = all_push (is_line_of v) o.lines (arm_on t) all (by_has (test_since t) v has)
stated_dated v n done_line o has all = all_push (is_line_of v) o.lines block_done all refl
stated_dated v n (repeat_line count) o has all = all_push (is_line_of v) o.lines (repeat_of count) all refl
stated_dated v n break_line o has all = all_push (is_line_of v) o.lines break_out all refl
stated_dated v n (stop_line word) o has all = all_push (is_line_of v) o.lines (stop_with word) all refl

in_script_dated : (v : ℕ) (r : Option ℕ) (xs : List Declaration) (n : ℕ) (l : StatementLine) (p : Context) → nat_lt v (statement_since l) ≡ false → IsPlaceOf v r xs p
    → IsPlaceOf v r xs (of_script p (λ o. in_script (with_statement_line n l o)) p)
in_script_dated v r xs n l before_all has h = h
in_script_dated v r xs n l (in_script o) has h = stated_dated v n l o has h
in_script_dated v r xs n l _ has h = tt

in_plan_dated : (v : ℕ) (r : Option ℕ) (xs : List Declaration) (s : ParsedCommand) (p : Context) → IsPlaceOf v r xs p → IsPlaceOf v r xs (of_plan p (λ h commands. in_plan h (commands ++ s.command ∷ [])) p)
in_plan_dated v r xs s outside h = tt
in_plan_dated v r xs s (in_plan g commands) h = tt
in_plan_dated v r xs s _ h = h

ended_dated : (d : Declared) (p : Context) → IsPlaceOf d.version d.resets d.nexuses p → IsDated d
    → IsDated (by_place d d (λ o. with_task d o.host (scripted o.lines o.budget)) (λ h commands. with_task d h (planned commands)) p)
ended_dated d (in_script o) at dated = tasked_dated d o.host (scripted o.lines o.budget) at dated
ended_dated d (in_plan h commands) at dated = tasked_dated d h (planned commands) refl dated
ended_dated d _ at dated = dated

-- ---- any line

none_before : (v : ℕ) (r : Option ℕ) (xs : List Declaration) (p : Context) → is_before_all p ≡ true → IsPlaceOf v r xs p → (r ≡ None) × (xs ≡ [])
none_before v r xs before_all h at = at
none_before v r xs _ h at = cc

few_none : (version : ℕ) (xs : List Declaration) → xs ≡ [] → nat_le (length xs) (most_declared version) ≡ true
few_none version xs none = ap (λ ys. nat_le (length ys) (most_declared version)) none ∙ le-leb 0 (most_declared version) (omega arith)

line_dated : (n : ℕ) (i : ScenarioLine) (d : Declared) → is_item i ≡ true → nat_lt d.version (since i) ≡ false → standing_fault n d i ≡ None → IsDated d → IsDated (with_line n d i)
line_dated n (fence_line version) d known has clean dated =
    let well = faultless n (not (is_before_all d.place)) false false false None clean in
    let none = none_before d.version d.resets d.nexuses d.place (not-false _ well.placed) dated.place in
    record {
      version = known;
      resets = ap (λ r. are_resets version (unwrap_or r 0)) none.0;
      few = few_none version d.nexuses none.1;
      each = ap (list_all (is_declared_of version)) none.1;
      place = tt;
    }
line_dated n (declares l) d known has clean dated =
    let stands = stands_outside d.place (declaring_fault n d l) (fault.Syntax n) clean in
    let well = faultless n false (names_unknown d l) (keys_undeclared d l) (says_again d l) (past_limit d l) stands.1 in
    declared_dated n l d stands.0 has well.within dated
line_dated n (states l) d known has clean dated =
    record { version = dated.version; resets = dated.resets; few = dated.few; each = dated.each; place = in_script_dated d.version d.resets d.nexuses n l d.place has dated.place }
line_dated n (command_line s) d known has clean dated =
    record { version = dated.version; resets = dated.resets; few = dated.few; each = dated.each; place = in_plan_dated d.version d.resets d.nexuses s d.place dated.place }
line_dated n end_line d known has clean dated = ended_dated d d.place dated.place dated

pub placed_dated : (n : ℕ) (i : ScenarioLine) (d e : Declared) → IsDated d → is_item i ≡ true → item_placed n i d ≡ Ok e → IsDated e
unfolding item_placed
placed_dated n i d e dated known r =
    let a = passes (fault_at n d i) (with_line n d i) e r in
    let b = skips (nat_lt d.version (since i)) _ _ a.0 in
    subst IsDated a.1 (line_dated n i d known b.0 b.1 dated)
