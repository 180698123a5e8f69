use Rattle.std.proofs.lemmas.Result.{err_from_is_err_and}
use Rattle.pr_text.proofs.Common.{refl, scenario_of, declared_by}
use Rattle.pr_text.proofs.lemmas.Texts.Readings.{too_large, fails_early, told_late, written_ok}
use Rattle.pr_text.proofs.lemmas.Sound.Texts.{read_sound}
use Rattle.pr_text.proofs.text.diagnosed.Goals as goal

pub returns-then-text-gt-MOST_BYTES-clause-fault : goal.returns-then-text-gt-MOST_BYTES-clause-fault
returns-then-text-gt-MOST_BYTES-clause-fault c = rw (c.alone.ensures, too_large c.args.text.now c.if-text-gt-MOST_BYTES.true) refl

pub returns-in_err-number-clause-fault : goal.returns-in_err-number-clause-fault
returns-in_err-number-clause-fault c =
    let p = err_from_is_err_and c.from_residual.result c.from_residual.ensures.1 in
    rw (p.1, p.2) (fails_early c.args.text.now c.in_err-number.field-0.0.error c.if-text-gt-MOST_BYTES.false c.in_err-number.ensures.fault)

pub ended-requires-clause-sound : goal.ended-requires-clause-sound
ended-requires-clause-sound c = (read_sound c.args.text.now c.in_ok-number.number (declared_by c.in_ok-number.builder) c.in_ok-number.ensures.ok).0

pub ended-requires-clause-dated : goal.ended-requires-clause-dated
ended-requires-clause-dated c = (read_sound c.args.text.now c.in_ok-number.number (declared_by c.in_ok-number.builder) c.in_ok-number.ensures.ok).1

pub returns-clause-found : goal.returns-clause-found
returns-clause-found c =
    written_ok scenario_of c.args.text.now c.in_ok-number.number (declared_by c.in_ok-number.builder) c.ended.result
    c.if-text-gt-MOST_BYTES.false c.in_ok-number.ensures.ok c.ended.ensures.found

pub returns-clause-fault : goal.returns-clause-fault
returns-clause-fault c =
    told_late c.args.text.now c.in_ok-number.number (declared_by c.in_ok-number.builder) c.ended.result
    c.if-text-gt-MOST_BYTES.false c.in_ok-number.ensures.ok c.ended.ensures.fault
