-- A scenario that was run or refused, and what is written of it.
use Rattle.pr_commands.proofs.Common.{◌≡◌, ℕ, ◌<◌, ◌≤◌, true, List, [], ◌∷◌, zero, suc, Option, Some, None, Ok, Err, Result, refl, sym, ap, ◌∙◌, subst, arith, IfSome, is_err, map, slice_index_or, range_with_len, slice_get, Scenario, scenario_of, task, commands_by, IsWrittenAs, End, ending_of, name_of, names_in, names_of, Fault, Judgement}
use Rattle.std.proofs.Common.{◌^◌}
use Rattle.std.specs.Prelude.{length}
use Rattle.std.specs.List.{list_all}
use Rattle.std.specs.Option.{option_map_or}
use Rattle.std.specs.Result.{IsErr, IsErrAnd}
use Rattle.std.proofs.lemmas.Bool.{and_parts}
use Rattle.pr_roles.specs.declared.parts.Nexus.{Nexus as NexusPart}
use Rattle.pr_verify.specs.declared.verifying.Refused.{Refused}
use Rattle.pr_roles.specs.Scenarios.{Nexus}
use Rattle.pr_roles.specs.Safety.{IsSafe}
use Rattle.pr_roles.specs.Fitting.{Fits, is_nexus}
use Rattle.pr_roles.specs.declared.item.Item.{Item}
use Rattle.pr_world.specs.Rooms.{room_by}
use Rattle.pr_roles.proofs.lemmas.Starts.AllowedStarts.{each_nexus}
use Rattle.pr_world.proofs.lemmas.Workings.Room.{sent_within}
use Rattle.pr_world.proofs.lemmas.Workings.Reserves.{room_of_nexus}
use Rattle.pr_shared.specs.declared.outcome.Outcome.{Outcome}
use Rattle.pr_shared.specs.Outcomes.{IsOutcome}
use Rattle.pr_trace.specs.TraceText.{trace_text}
use Rattle.pr_commands.specs.declared.fault.Fault.TheVariants as fault
use Rattle.pr_commands.specs.Runs.{counts_in, outcome_text}
use Rattle.pr_commands.specs.inside.Performances.{Performed, IsPerformed, IsRunFault, answer_in}
use Rattle.pr_commands.specs.declared.judging.Acceptance.{Acceptance}
use Rattle.pr_commands.specs.declared.judging.Method.{Method}
use Rattle.pr_commands.specs.inside.Judgements.{Stands, scenario_in as judged_in}
use Rattle.pr_commands.proofs.lemmas.Checks.Verdicts.{safe_by}
use Rattle.pr_commands.specs.declared.runs.Ran.{Ran}

-- ---- whether it is refused

pub is_refused : (p : Performed) → is_err p ≡ is_err (answer_in p)
is_refused (Ok ran) = refl
is_refused (Err back) = refl

-- ---- counts

room_in : (keys : List ℕ) (ns : List Nexus) (h : ℕ) → list_all (is_nexus keys) ns ≡ true
    → room_by (option_map_or (λ n. Some n.task) (slice_get ns h) None) ≤ 4096
room_in keys [] h fit = omega arith
room_in keys (n ∷ ns) zero fit = room_of_nexus keys n (and_parts (is_nexus keys n) (list_all (is_nexus keys) ns) fit).0
room_in keys (n ∷ ns) (suc h) fit = room_in keys ns h (and_parts (is_nexus keys n) (list_all (is_nexus keys) ns) fit).1

pub short_rooms : (s : Scenario) (h : ℕ) → Fits s → room_by (task s h) ≤ 4096
short_rooms s h fits = room_in s.keys s.nexuses h (each_nexus s fits)

-- no nexus sends so many that there is no number for them
pub few_sent : (s : Scenario) (o : Outcome) (h : ℕ) → Fits s → IsSafe s → IsOutcome s o → commands_by o.history.items h < 2 ^ 32
few_sent s o h fits safe comes =
    let kept : commands_by comes.last.world.history h ≤ room_by (task s h) = sent_within s comes.steps comes.last safe comes.reached h in
    let here : commands_by o.history.items h ≤ room_by (task s h) = subst (λ es. commands_by es h ≤ room_by (task s h)) (sym comes.history) kept in
    omega (arith, here, short_rooms s h fits)

pub counts_at : (s : Scenario) (o : Outcome) (history : List Item) (n : ℕ) (counts : List ℕ) → counts ≡ map (λ h. commands_by history h) (range_with_len 0 n)
    → history ≡ o.history.items → n ≡ length s.nexuses → counts ≡ counts_in s o.history.items
counts_at s o history n counts is same all =
    is ∙ (ap (λ es. map (λ h. commands_by es h) (range_with_len 0 n)) same ∙ ap (λ n. map (λ h. commands_by o.history.items h) (range_with_len 0 n)) all)

pub text_of_outcome : (s : Scenario) (o : Outcome) (history : List Item) (ends : List End) (counts : List ℕ) → history ≡ o.history.items → ends ≡ o.ends.items
    → counts ≡ counts_in s o.history.items → trace_text s.version (names_in s) history o.unit.registry (map ending_of ends) counts ≡ outcome_text s o
text_of_outcome s o history ends counts same ended counted =
    λ i. trace_text s.version (names_in s) (same i) o.unit.registry (map ending_of (ended i)) (counted i)

-- ---- names

pub named_there : (ns : List NexusPart) (h : ℕ) (d : NexusPart) → h < length ns → name_of (names_of ns) h ≡ (slice_index_or ns h d).name.bytes
named_there [] h d there = absurd (omega (arith, there))
named_there (n ∷ ns) zero d there = refl
named_there (n ∷ ns) (suc h) d there = named_there ns h d (omega (arith, there))

-- ---- what was judged is performed

-- the text is known to be that of the judged scenario, and the verdict stands
abbrev pub IsOfText : Option (List ℕ) → Method → Judgement → Type 0
IsOfText known method j = IfSome known (λ text. IsWrittenAs text (scenario_of (judged_in j))) × Stands method j

pub refusal_performed : (known : Option (List ℕ)) (method : Method) (j : Judgement) (back : Refused) → j ≡ Err back → IsOfText known method j → IsPerformed known (Ok (Err back))
refusal_performed known method j back same judged = subst (IsOfText known method) same judged

pub run_performed : (known : Option (List ℕ)) (method : Method) (j : Judgement) (v : Acceptance) (ran : Ran) → j ≡ Ok v → IsOfText known method j → scenario_of ran.scenario ≡ scenario_of v.verified
    → IsOutcome (scenario_of v.verified) ran.outcome → IsPerformed known (Ok (Ok ran))
run_performed known method j v ran same judged copied comes =
    let here = subst (IsOfText known method) same judged in (
      subst (λ s. IfSome known (λ text. IsWrittenAs text s)) (sym copied) here.0,
      (subst IsSafe (sym copied) (safe_by method (scenario_of v.verified) v.worlds here.1), subst (λ s. IsOutcome s ran.outcome) (sym copied) comes),
    )

-- ---- faults

fault_in : (known : Option (List ℕ)) (s : Scenario) (f : Fault) → IfSome known (λ text. IsWrittenAs text s) → IsSafe s → IsRunFault s f
    → IsPerformed known (Err f)
fault_in known s fault.Usage read safe is = absurd is
fault_in known s fault.File read safe is = absurd is
fault_in known s (fault.Input e) read safe is = absurd is
fault_in known s (fault.Trace e) read safe is = absurd is
fault_in None s (fault.Thread name) read safe is = tt
fault_in (Some text) s (fault.Thread name) read safe is =
    record { scenario = s; read = read; safe = safe; host = is.0; there = is.1; name_is = is.2 }
fault_in known s fault.History read safe is = tt
fault_in known s fault.Memory read safe is = tt
fault_in known s fault.Output read safe is = absurd is

pub fault_performed : (known : Option (List ℕ)) (method : Method) (j : Judgement) (v : Acceptance) (f : Fault) → j ≡ Ok v → IsOfText known method j → IsRunFault (scenario_of v.verified) f → IsPerformed known (Err f)
fault_performed known method j v f same judged is =
    let here = subst (IsOfText known method) same judged in
    fault_in known (scenario_of v.verified) f here.0 (safe_by method (scenario_of v.verified) v.worlds here.1) is

-- what is handed on as it is
pub fault_handed_on : (known : Option (List ℕ)) (r : Result Performed Fault) (f : Fault) → IsErr r → IsErrAnd r (λ e. e ≡ f) → IsPerformed known (Err f) → IsPerformed known r
fault_handed_on known (Ok performed) f failed same is = cc
fault_handed_on known (Err e) f failed same is = subst (λ e. IsPerformed known (Err e)) (sym same) is
