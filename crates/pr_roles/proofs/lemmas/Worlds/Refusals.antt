-- How often a nexus is refused in a run.
use Rattle.pr_roles.proofs.Common.{◌≡◌, ℕ, ◌+◌, ◌<◌, ◌≤◌, Bool, true, false, cond, ◌&&◌, List, [], ◌∷◌, ◌==◌, sym, refl, ap, ◌∙◌, subst, arith, false≢true, and_parts, nat_tests, UnitState, Scenario, world_from, IsTrue, ◌++◌, sum_by_push, Reply, Entry, Item, How, World, Event, Host, Run}
use Rattle.std.proofs.Common.{zero-add}
use Rattle.std.specs.List.{count_by}
use Rattle.std.proofs.lemmas.List.Sums.{sum_by-cons}
use Rattle.pr_cdb.specs.declared.wire.Request.{Request}
use Rattle.pr_cdb.specs.declared.wire.Request.TheVariants.{Plain}
use Rattle.pr_cdb.specs.Spelling.{spelling}
use Rattle.pr_cdb.specs.Statuses.{is_busy_status, is_full_status}
use Rattle.std.proofs.Common.{if◌then◌else◌}
use Rattle.pr_cdb.specs.ReplyData.{sense_bytes}
use Rattle.pr_unit.specs.Attentions.{attention_sense}
use Rattle.pr_unit.specs.Replies.{good, check, is_request_sense}
use Rattle.pr_unit.proofs.lemmas.Steps.Statuses.{steps_are_never_busy}
use Rattle.pr_roles.specs.declared.item.Item.TheVariants.{Sent, Reset}
use Rattle.pr_roles.specs.declared.how.How.TheVariants as how
use Rattle.pr_roles.specs.Answers.{Answers, is_refusal, is_refused, refusals_by, most_refusals, may_come}
use Rattle.pr_roles.specs.Worlds.{Guest, UnitReset, Fetched, Happens, entry_of}
use Rattle.pr_roles.specs.Laws.{is_same_refusal, is_refused_in, RefusalsAreCounted, RefusalsAreDeclared}

-- a report is no refusal
served : (b : Bool) (code : ℕ) → (is_busy_status (if b then good (sense_bytes (attention_sense code)) else check (attention_sense code)).status ≡ false)
    × (is_full_status (if b then good (sense_bytes (attention_sense code)) else check (attention_sense code)).status ≡ false)
served true code = (refl, refl)
served false code = (refl, refl)

-- the status tells how a command was answered
pub told : (how other : How) (u : UnitState) (h : ℕ) (q : Request) (r : Reply) (v : UnitState) → Answers other u h q r v → is_refusal how r ≡ is_same_refusal how other
told how.Plain other u h q r v is = refl
told how.Early other u h q r v is = refl
told how.Busy how.Early u h q r v is = ap (λ (x : Reply). is_busy_status x.status) is.reports.reply ∙ (served (is_request_sense q) is.reports.code).0
told how.Full how.Early u h q r v is = ap (λ (x : Reply). is_full_status x.status) is.reports.reply ∙ (served (is_request_sense q) is.reports.code).1
told how.Busy how.Plain u h q r v is = (steps_are_never_busy u h q r v is).0
told how.Full how.Plain u h q r v is = (steps_are_never_busy u h q r v is).1
told how.Busy how.Busy u h q r v is = ap (λ x. is_busy_status x.status) is.0
told how.Busy how.Full u h q r v is = ap (λ x. is_busy_status x.status) is.0
told how.Full how.Busy u h q r v is = ap (λ x. is_full_status x.status) is.0
told how.Full how.Full u h q r v is = ap (λ x. is_full_status x.status) is.0

pub counted_more : (es : List Item) (e : Entry) (h : ℕ) (how : How) → refusals_by (es ++ Sent e ∷ []) h how ≡ refusals_by es h how + cond (e.host == h && is_refusal how e.reply) 1 0
counted_more es e h how = sum_by_push (λ x. cond (is_refused h how x) 1 0) es (Sent e)

pub refused_more : (s : Scenario) (w : World) (e : Event) (v : World) → Happens s w e v → (h : ℕ) (how : How)
    → refusals_by v.history h how ≡ refusals_by w.history h how + cond (is_refused_in h how e) 1 0
refused_more s w (Host g other) v sends h how =
    ap (λ (x : World). refusals_by x.history h how) sends.world
    ∙ counted_more w.history (entry_of g (spelling sends.command) sends.reply) h how
    ∙ ap (λ b. refusals_by w.history h how + cond (g == h && b) 1 0) (told how other w.unit g (Plain sends.command) sends.reply sends.unit sends.answer)
refused_more s w (Guest g wire other) v sends h how =
    ap (λ (x : World). refusals_by x.history h how) sends.world
    ∙ counted_more w.history (entry_of g wire sends.reply) h how
    ∙ ap (λ b. refusals_by w.history h how + cond (g == h && b) 1 0) (told how other w.unit g sends.request sends.reply sends.unit sends.answer)
refused_more s w UnitReset v resets h how =
    ap (λ (x : World). refusals_by x.history h how) resets.world ∙ sum_by_push (λ x. cond (is_refused h how x) 1 0) w.history Reset
refused_more s w (Fetched g code) v fetched h how = let same = ap (λ (x : World). refusals_by x.history h how) fetched.world in omega (arith, same)

run_counted : (s : Scenario) (w : World) (es : List Event) (v : World) → Run s w es v → (h : ℕ) (how : How)
    → refusals_by v.history h how ≡ refusals_by w.history h how + count_by (is_refused_in h how) es
run_counted s w [] v run h how = let same = ap (λ (x : World). refusals_by x.history h how) run in omega (arith, same)
run_counted s w (e ∷ es) v run h how =
    let first = refused_more s w e run.0 run.1 h how in
    let rest = run_counted s run.0 es v run.2 h how in
    let split : count_by (is_refused_in h how) (e ∷ es) ≡ cond (is_refused_in h how e) 1 0 + count_by (is_refused_in h how) es = sum_by-cons (λ x. cond (is_refused_in h how x) 1 0) e es in
    omega (arith, first, rest, split)

-- ---- no more than are declared

has_room : (s : Scenario) (es : List Item) (h : ℕ) (how other : How) → is_same_refusal how other ≡ true → IsTrue (may_come s es h other) → refusals_by es h how < most_refusals s h how
has_room s es h how.Busy how.Busy same room = grind (arith, nat_tests)
has_room s es h how.Full how.Full same room = grind (arith, nat_tests)
has_room s es h _ _ same room = absurd (false≢true same)

-- an event in which g is answered so, where that may still come
one_more : (s : Scenario) (es : List Item) (g h : ℕ) (how other : How) (n : ℕ) → IsTrue (may_come s es g other)
    → n ≡ refusals_by es h how + cond (g == h && is_same_refusal how other) 1 0 → refusals_by es h how ≤ most_refusals s h how → n ≤ most_refusals s h how
one_more s es g h how other n room more within = at (g == h && is_same_refusal how other) refl more
  where
    at : (b : Bool) → (g == h && is_same_refusal how other) ≡ b → n ≡ refusals_by es h how + cond b 1 0 → n ≤ most_refusals s h how
    at false is more = omega (arith, more, within)
    at true is more =
        let parts = and_parts (g == h) (is_same_refusal how other) is in
        let same : g ≡ h = grind (arith, nat_tests) in
        let left = has_room s es h how other parts.1 (subst (λ x. IsTrue (may_come s es x other)) same room) in
        omega (arith, more, left)

refused_within : (s : Scenario) (w : World) (e : Event) (v : World) → Happens s w e v → (h : ℕ) (how : How)
    → refusals_by w.history h how ≤ most_refusals s h how → refusals_by v.history h how ≤ most_refusals s h how
refused_within s w (Host g other) v sends h how = one_more s w.history g h how other _ sends.room (refused_more s w (Host g other) v sends h how)
refused_within s w (Guest g wire other) v sends h how = one_more s w.history g h how other _ sends.room (refused_more s w (Guest g wire other) v sends h how)
refused_within s w UnitReset v resets h how = λ within. let more = refused_more s w UnitReset v resets h how in omega (arith, more, within)
refused_within s w (Fetched g code) v fetched h how = λ within. let more = refused_more s w (Fetched g code) v fetched h how in omega (arith, more, within)

run_within : (s : Scenario) (w : World) (es : List Event) (v : World) → Run s w es v → (h : ℕ) (how : How)
    → refusals_by w.history h how ≤ most_refusals s h how → refusals_by v.history h how ≤ most_refusals s h how
run_within s w [] v run h how within = subst (λ (x : World). refusals_by x.history h how ≤ most_refusals s h how) (sym run) within
run_within s w (e ∷ es) v run h how within = run_within s run.0 es v run.2 h how (refused_within s w e run.0 run.1 h how within)

pub refusals_are_counted : RefusalsAreCounted
refusals_are_counted s u es w run h how = run_counted s (world_from s u) es w run h how ∙ zero-add (count_by (is_refused_in h how) es)

pub refusals_are_declared : RefusalsAreDeclared
refusals_are_declared s u es w run h how =
    subst (λ n. n ≤ most_refusals s h how) (refusals_are_counted s u es w run h how) (run_within s (world_from s u) es w run h how (omega arith))
