use Rattle.pr_text.proofs.Common.{refl, sym, declared_by}
use Rattle.pr_text.specs.inside.OpenScripts.{open_seen}
use Rattle.pr_text.proofs.lemmas.LineFaults.Order.{before_end, script_fails}
use Rattle.pr_text.proofs.lemmas.Steps.Failures.{handed_on}
use Rattle.pr_text.proofs.builder.Builder.line_in_script.Goals as goal

pub returns-in_err-script : goal.returns-in_err-script
returns-in_err-script c =
    handed_on declared_by c.in_err-script.field-0.0 _ _ c.from_residual.ensures.1
    (script_fails c.args.line c.args.item (open_seen c.args.script) (declared_by c.args.self) _ c.in_default.not-End (rw (sym c.declared_keys.ensures) c.in_err-script.ensures))

pub returns : goal.returns
returns c =
    rw (before_end c.args.line c.args.item (open_seen c.args.script) (declared_by c.args.self) c.in_default.not-End, sym c.declared_keys.ensures, c.in_ok-script.ensures) refl
