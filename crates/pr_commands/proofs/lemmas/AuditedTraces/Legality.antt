-- What replays and runs write is read as a legal history.
use Rattle.pr_commands.proofs.Common.{◌≡◌, ℕ, suc, zero, ◌<◌, ◌≤◌, Bool, false, List, [], ◌∷◌, length, map, Some, None, Result, Ok, Err, is_err, refl, sym, ap, ◌∙◌, subst, arith, range_with_len, slice_get, Scenario, commands_by, IsWrittenAs, ending_of}
use Rattle.std.proofs.Common.{get_or, take}
use Rattle.std.specs.Option.{option_map_or}
use Rattle.std.proofs.lemmas.Bool.{false≢true}
use Rattle.std.proofs.lemmas.List.{ext_get_or, take_all}
use Rattle.std.proofs.lemmas.List.FromFn.{get_or-map-range_with_len, length-map-range_with_len}
use Rattle.std.proofs.lemmas.Simd.{map-map}
use Rattle.pr_cdb.specs.declared.command.Command.{Command}
use Rattle.pr_roles.specs.declared.item.Item.{Item}
use Rattle.pr_roles.specs.declared.refusal.Refusal.{Refusal}
use Rattle.pr_roles.specs.declared.step.Step.{Step}
use Rattle.pr_roles.specs.Schedules.{Schedule}
use Rattle.pr_roles.specs.Worlds.{Control, Free}
use Rattle.pr_audit.specs.Ends.{counts_in, ending, ending_in, endings}
use Rattle.pr_audit.specs.Audits.{IsLegalFromFirst}
use Rattle.pr_report.specs.declared.verdict.Verdict.{Verdict}
use Rattle.pr_report.specs.declared.verdict.Verdict.TheVariants.{Accepted, AcceptedBySearch, Refused, Legal, Illegal}
use Rattle.pr_report.specs.Verdicts.{is_refusal, verdict_text}
use Rattle.pr_shared.specs.declared.outcome.Outcome.{Outcome}
use Rattle.pr_shared.specs.Outcomes.{IsOutcome}
use Rattle.pr_text.proofs.lemmas.Laws.WrittenTexts.{what_is_written_fits}
use Rattle.pr_text.proofs.lemmas.ScenarioRoundTrip.Uniqueness.{written_once}
use Rattle.pr_trace.specs.TraceReadings.{trace_of}
use Rattle.pr_trace.specs.Traces.{IsTraceOf as IsTraceOfSchedule}
use Rattle.pr_trace.specs.TraceText.{names_in, trace_text}
use Rattle.pr_trace.specs.Versions.{most_items}
use Rattle.pr_trace.proofs.lemmas.TraceLaws.Runs.{runs_are_read}
use Rattle.pr_world.specs.Courses.{IsReached}
use Rattle.pr_commands.specs.Audits.{HoldsOfTrace, IsAuditOf}
use Rattle.pr_commands.specs.AuditedTraces.{IsAuditedLegal, legal_line, ReplaysAreAuditedLegal, RunsAreAuditedLegal}
use Rattle.pr_commands.specs.Runs.{Holds, answer_text, counts_in as counts_of_outcome, outcome_text}
use Rattle.pr_commands.proofs.lemmas.AuditedTraces.Lengths.{HasEach, reached_has_each, run_fits, steps_fit}
use Rattle.pr_commands.proofs.lemmas.Replays.Plans.{few_steps, named_length}

-- ---- how the nexuses stand, by their numbers

length-endings : (ks : List Control) (ps : List (List Command)) → length ks ≡ length ps → length (endings ks ps) ≡ length ks
length-endings [] ps same = refl
length-endings (k ∷ ks) [] same = absurd (omega (arith, same))
length-endings (k ∷ ks) (p ∷ ps) same = ap suc (length-endings ks ps (omega (arith, same)))

ending_at : (ks : List Control) (ps : List (List Command)) (h : ℕ) → length ks ≡ length ps → h < length ks
    → get_or (endings ks ps) h None ≡ ending (option_map_or (λ c. c) (slice_get ks h) Free) (option_map_or (λ p. p) (slice_get ps h) [])
ending_at [] ps h same there = absurd (omega (arith, there))
ending_at (k ∷ ks) [] h same there = absurd (omega (arith, same))
ending_at (k ∷ ks) (p ∷ ps) zero same there = refl
ending_at (k ∷ ks) (p ∷ ps) (suc h) same there = ending_at ks ps h (omega (arith, same)) (omega (arith, there))

endings_are : (y : Schedule) (n : ℕ) → length y.world.controls ≡ n → length y.plans ≡ n → endings y.world.controls y.plans ≡ map (ending_in y) (range_with_len 0 n)
endings_are y n controls plans =
    ext_get_or None (endings y.world.controls y.plans) (map (ending_in y) (range_with_len 0 n)) (long ∙ sym (length-map-range_with_len (ending_in y) 0 n))
    (λ h there. ending_at y.world.controls y.plans h same (omega (arith, there, long, controls)) ∙ sym (get_or-map-range_with_len (ending_in y) 0 n h h None (omega (arith, there, long)) (omega arith)))
  where
    same : length y.world.controls ≡ length y.plans
    same = controls ∙ sym plans

    long : length (endings y.world.controls y.plans) ≡ n
    long = length-endings y.world.controls y.plans same ∙ controls

-- the text of an outcome is the trace of what led to it
outcome_traced : (s : Scenario) (o : Outcome) (x : IsOutcome s o) → IsTraceOfSchedule s x.last (outcome_text s o)
outcome_traced s o x = record {
  ends = map ending_of o.ends.items;
  standing = map-map (λ e. Some e) ending_of o.ends.items ∙ x.ends ∙ sym (endings_are x.last (length s.nexuses) each.controls each.plans);
  text_is = λ i. trace_text s.version (names_in s) (x.history i) ((x.unit i).registry) (map ending_of o.ends.items) (counts i);
}
  where
    each : HasEach s x.last x.steps
    each = reached_has_each s x.steps x.last x.reached

    counts : counts_of_outcome s o.history.items ≡ counts_in x.last
    counts =
        ap (λ es. map (λ h. commands_by es h) (range_with_len 0 (length s.nexuses))) x.history
        ∙ ap (λ n. map (λ h. commands_by x.last.world.history h) (range_with_len 0 n)) (sym each.plans)

-- ---- audits

-- where the trace is read as a legal history, the verdict is no other one
module _ (trace : List ℕ) (s : Scenario) (history : List Item) (traced : trace_of s.version (names_in s) trace ≡ Ok history) (legal : IsLegalFromFirst s history) where
  one_verdict : (verdict : Verdict) → HoldsOfTrace trace s verdict → verdict ≡ Legal (length history)
  one_verdict Accepted holds = absurd holds.2
  one_verdict (AcceptedBySearch worlds) holds = absurd holds.2
  one_verdict (Refused reason) holds = absurd holds.2
  one_verdict (Legal items) holds =
      let same : holds.0 ≡ history = let both : Ok holds.0 ≡ Ok history = sym holds.1 ∙ traced in cc in
      ap Legal (holds.2.1 ∙ ap length same)
  one_verdict (Illegal place) holds =
      let same : history ≡ holds.0 = let both : Ok history ≡ Ok holds.0 = sym traced ∙ holds.1 in cc in
      let all : IsLegalFromFirst s (take (length holds.0) holds.0) = subst (IsLegalFromFirst s) (same ∙ sym (take_all (length holds.0) holds.0 (omega arith))) legal in
      let past : length holds.0 < place = (holds.2.exactly (length holds.0)).0 all in
      let within : place ≤ length holds.0 = holds.2.within.1 in
      absurd (omega (arith, past, within))

  one_answer : (text answer : List ℕ) (refused : Bool) → IsWrittenAs text s → IsAuditOf trace text answer refused → (answer ≡ legal_line (length history)) × (refused ≡ false)
  one_answer text answer refused read audit =
      let same : audit.scenario ≡ s = written_once text audit.scenario s audit.read read in
      let verdict = one_verdict audit.answer (subst (λ (t : Scenario). HoldsOfTrace trace t audit.answer) same audit.holds) in
      (audit.lines_are ∙ ap (verdict_text (names_in audit.scenario)) verdict, audit.refused_is ∙ ap is_refusal verdict)

-- with no more items than a trace of the version
audited : (text trace : List ℕ) (s : Scenario) (steps : List Step) (y : Schedule) → IsWrittenAs text s → IsReached s steps y → length y.world.history ≤ most_items s.version
    → IsTraceOfSchedule s y trace → IsAuditedLegal text trace
audited text trace s steps y read reached few traced = record {
  items = length y.world.history;
  legal = record {
    scenario = s;
    read = read;
    answer = Legal (length y.world.history);
    holds = (y.world.history, back, (legal, refl));
    lines_are = refl;
    refused_is = refl;
  };
  only = λ answer refused. one_answer trace s y.world.history back legal text answer refused read;
}
  where
    back : trace_of s.version (names_in s) trace ≡ Ok y.world.history
    back = runs_are_read s reached.start reached.events y trace (what_is_written_fits text s read).0 reached.allowed reached.run few traced

    legal : IsLegalFromFirst s y.world.history
    legal = record { start = reached.start; first = reached.first; legal = (reached.events, y.world, reached.run, refl) }

pub replays_are_audited_legal : ReplaysAreAuditedLegal
replays_are_audited_legal steps text trace refused counted x =
    let each = reached_has_each x.scenario x.turns x.last x.reached in
    let long = named_length x.scenario.version (names_in x.scenario) steps x.turns x.named in
    audited text trace x.scenario x.turns x.last x.read x.reached
    (steps_fit x.scenario.version (length x.last.world.history) (omega (arith, each.items, long, few_steps steps counted))) x.trace_is

pub runs_are_audited_legal : RunsAreAuditedLegal
runs_are_audited_legal text trace x = of x.answer x.holds x.lines_are x.refused_is
  where
    of : (r : Result Outcome Refusal) → Holds x.scenario r → trace ≡ answer_text x.scenario r → false ≡ is_err r → IsAuditedLegal text trace
    of (Err reason) holds lines refused = absurd (false≢true refused)
    of (Ok o) holds lines refused =
        subst (IsAuditedLegal text) (sym lines)
        (audited text (outcome_text x.scenario o) x.scenario holds.1.steps holds.1.last x.read holds.1.reached
        (run_fits x.scenario holds.1.steps holds.1.last (what_is_written_fits text x.scenario x.read).0 holds.0 holds.1.reached)
        (outcome_traced x.scenario o holds.1))
