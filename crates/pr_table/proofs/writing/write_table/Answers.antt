-- The script of a scenario fits, so that it has few rows; it is the host's, and the version is the scenario's.
use Rattle.pr_table.proofs.Common.{◌≡◌, ℕ, List, ap, ◌∙◌, subst, refl, script_of, Puts, puts_as, table_rows}
use Rattle.pr_roles.specs.declared.parts.Parts.{Parts}
use Rattle.pr_roles.specs.Scenarios.{nexus_of, scenario_of}
use Rattle.pr_roles.proofs.lemmas.Scenarios.Nexuses.{scripted_fits, scripted_task}
use Rattle.pr_trace.proofs.lemmas.TraceText.Lines.{version_read}
use Rattle.pr_table.specs.TableText.{table_text}
use Rattle.pr_table.proofs.lemmas.Rows.Counts.{few_rows}
use Rattle.pr_table.proofs.lemmas.TableText.Hosts.{scripted_text}
use Rattle.pr_table.proofs.writing.write_table.Goals as goal

pub put_table-requires : goal.put_table-requires
put_table-requires g c =
    let s = scenario_of c.args.scenario.now in
    let found = c.nexus_in-nexus.ensures in
    few_rows s.keys (script_of c.in-Scripted.script) (scripted_fits s c.args.host c.nexus_in-nexus.result.now found.nexus c.in-Scripted.script c.in-Scripted.budget c.in-Scripted.is found.fits).0

pub returns : goal.returns
returns g c =
    let s = scenario_of c.args.scenario.now in
    let n = c.nexus_in-nexus.result.now in
    let b = script_of c.in-Scripted.script in
    let found = c.nexus_in-nexus.ensures.nexus in
    let scripted = scripted_task s c.args.host n found c.in-Scripted.script c.in-Scripted.budget c.in-Scripted.is in
    let name = c.as_bytes-name.ensures.value ∙ c.as_str.ensures.value in
    let version : c.parts.result.now.version ≡ s.version = ap (λ (p : Parts). p.version) c.parts.ensures.value ∙ version_read c.args.scenario.now c.args.scenario.now refl in
    let dated = subst (λ (v : ℕ). Puts (g.W.Write.contents c.args.writer.now) (g.W.Write.contents c.put_table.new.writer) (table_text v c.as_bytes-name.result.now c.in-Scripted.budget (table_rows b)) c.put_table.result) version c.put_table.ensures in
    let puts = subst (λ (x : List ℕ). Puts (g.W.Write.contents c.args.writer.now) (g.W.Write.contents c.put_table.new.writer) (table_text s.version x c.in-Scripted.budget (table_rows b)) c.put_table.result) name dated in
    puts_as _ _ _ _ _ (scripted_text s c.args.host (nexus_of n) b c.in-Scripted.budget found scripted) puts
