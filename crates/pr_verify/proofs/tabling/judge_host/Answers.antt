use Rattle.pr_verify.proofs.Common.{◌≡◌, ℕ, ◌<◌, List, map, length, Some, sym, ap, ◌∙◌, subst, AllZip, rise_above, script_of, Scripted, task, scenario_of, KeptView, IsLeastSound, IsListed, OnScripted, Place, outline_of, row_of, IsRow, Spot, place_of, AreWritten}
use Rattle.std.proofs.lemmas.Slice.Zip.{AllZip-long}
use Rattle.pr_verify.specs.Tables.{IsTable}
use Rattle.pr_views.specs.declared.table.Row.{Row}
use Rattle.pr_verify.specs.inside.Reviewing.{IsFirstMisfit}
use Rattle.pr_verify.specs.inside.Tabling.{IsCosted, IsJudgement}
use Rattle.pr_verify.proofs.lemmas.Reviewing.Findings.{spots_rise, spots_written}
use Rattle.pr_verify.proofs.lemmas.Outlines.LineOrder.{as_many}
use Rattle.pr_verify.proofs.lemmas.Rooms.Scripts.{on_scripted}
use Rattle.pr_verify.proofs.lemmas.Tabling.Judgements.{scripted_is, judgement}
use Rattle.pr_verify.proofs.lemmas.Tabling.Rows.{of_script, lines_listed, zip_map}
use Rattle.pr_verify.proofs.tabling.judge_host.Goals as goal

pub invariant_of-questions-clause-declared : goal.invariant_of-questions-clause-declared
invariant_of-questions-clause-declared c = subst (λ h. h < length (scenario_of c.args.scenario.now).nexuses) (sym c.in_ok-outline.ensures.host) c.script_in-script.ensures.there

pub invariant_of-questions-clause-written : goal.invariant_of-questions-clause-written
invariant_of-questions-clause-written c =
    let keys = (scenario_of c.args.scenario.now).keys in
    subst (AreWritten keys) (sym c.deref.ensures.value)
    (spots_written (script_of c.script_in-script.result.now) c.in_ok-spots.spots.items c.in_ok-spots.ensures.places keys c.script_in-script.ensures.fits)

pub invariant_of-questions-clause-listed : goal.invariant_of-questions-clause-listed
invariant_of-questions-clause-listed c =
    let same = lines_listed c.in_ok-outline.outline (script_of c.script_in-script.result.now) c.in_ok-spots.spots.items c.in_ok-spots.ensures.places
    (of_script (task (scenario_of c.args.scenario.now) c.args.host) (script_of c.script_in-script.result.now) (λ b. IsListed b (outline_of c.in_ok-outline.outline)) c.requires c.script_in-script.ensures.script c.in_ok-outline.ensures.listed) in
    subst (λ (xs : List Spot). map (λ (e : ℕ × KeptView). e.0) c.in_ok-outline.outline.views.items ≡ map (λ x. x.line) xs) (sym c.deref.ensures.value) same

pub invariant_of-questions-clause-rise : goal.invariant_of-questions-clause-rise
invariant_of-questions-clause-rise c =
    let same = lines_listed c.in_ok-outline.outline (script_of c.script_in-script.result.now) c.in_ok-spots.spots.items c.in_ok-spots.ensures.places
    (of_script (task (scenario_of c.args.scenario.now) c.args.host) (script_of c.script_in-script.result.now) (λ b. IsListed b (outline_of c.in_ok-outline.outline)) c.requires c.script_in-script.ensures.script c.in_ok-outline.ensures.listed) in
    ap (rise_above 0) same ∙ spots_rise (script_of c.script_in-script.result.now) c.in_ok-spots.spots.items c.in_ok-spots.ensures.places (scenario_of c.args.scenario.now).keys c.script_in-script.ensures.fits

pub returns-clause-table : goal.returns-clause-table
returns-clause-table c =
    let s = scenario_of c.args.scenario.now in
    let t = task s c.args.host in
    let script = script_of c.script_in-script.result.now in
    let spots = c.in_ok-spots.spots.items in
    let o = outline_of c.in_ok-outline.outline in
    let rows = c.in_ok-rows.rows.items in
    let least = of_script t script (λ b. IsLeastSound s b o) c.requires c.script_in-script.ensures.script c.in_ok-outline.ensures.least in
    let all = subst (λ (xs : List Spot). AllZip (λ p r. IsRow s o (place_of p) (row_of r)) xs rows) c.deref.ensures.value c.in_ok-rows.ensures.rows in
    let is : IsTable s script (record { outline = o; rows = map row_of rows }) = record {
      least = least;
      rows = subst (λ (ps : List Place). AllZip (IsRow s o) ps (map row_of rows)) c.in_ok-spots.ensures.places (zip_map (IsRow s o) place_of row_of spots rows all);
    } in
    on_scripted t (λ b n. script ≡ b) (λ b n. IsTable s b (record { outline = o; rows = map row_of rows })) (λ b n same. subst (λ d. IsTable s d (record { outline = o; rows = map row_of rows })) same is) c.script_in-script.ensures.script

pub invariant_of-result : goal.invariant_of-result
invariant_of-result c =
    let s = scenario_of c.args.scenario.now in
    let script = script_of c.script_in-script.result.now in
    let spots = c.in_ok-spots.spots.items in
    let o = outline_of c.in_ok-outline.outline in
    let listed = lines_listed c.in_ok-outline.outline script spots c.in_ok-spots.ensures.places
    (of_script (task s c.args.host) script (λ b. IsListed b (outline_of c.in_ok-outline.outline)) c.requires c.script_in-script.ensures.script c.in_ok-outline.ensures.listed) in
    let R = λ (p : Spot) (r : Row). IsRow (scenario_of c.args.scenario.now) o (place_of p) (row_of r) in
    record {
      each = AllZip-long R c.deref.result.now c.in_ok-rows.rows.items c.in_ok-rows.ensures.rows ∙ ap length c.deref.ensures.value
          ∙ sym (as_many (λ (p : Spot). p.line) c.in_ok-outline.outline.views.items spots listed);
    }

pub returns-clause-judgement : goal.returns-clause-judgement
returns-clause-judgement c =
    let s = scenario_of c.args.scenario.now in
    let h = c.args.host in
    let t = task s h in
    let own = script_of c.script_in-script.result.now in
    let spots = c.in_ok-spots.spots.items in
    let o = outline_of c.in_ok-outline.outline in
    let misfit = c.in_ok-rows.misfit in
    let one = scripted_is t c.requires in
    let script = one.0 in
    let budget = one.1 in
    let least = of_script t own (λ b. IsLeastSound s b o) c.requires c.script_in-script.ensures.script c.in_ok-outline.ensures.least in
    let found = subst (λ xs. IsFirstMisfit s o xs misfit) c.deref.ensures.value c.in_ok-rows.ensures.misfit in
    let same = subst (λ d. OnScripted d (λ b n. own ≡ b)) one.2 c.script_in-script.ensures.script in
    let costed = subst (λ d. OnScripted d (λ b n. IsCosted s h b n c.over_budget.result)) one.2 c.over_budget.ensures in
    subst (IsJudgement s h) (sym c.or-reason.ensures)
    (judgement s h own budget (one.2 ∙ ap (λ b. Some (Scripted b budget)) (sym same)) o c.in_ok-outline.ensures.host least c.in_ok-spots.ensures.fields spots c.in_ok-spots.ensures.places
    c.over_budget.result misfit (subst (λ b. IsCosted s h b budget c.over_budget.result) (sym same) costed) found)
