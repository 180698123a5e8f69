use Rattle.pr_text.proofs.Common.{◌≡◌, None, sym, refl, ◌∙◌, false≢true, Fits, scenario_of, declared_by, missing_fault}
use Rattle.pr_text.proofs.lemmas.Texts.Readings.{whole, empty, fails_end}
use Rattle.pr_text.proofs.lemmas.Sound.FittingParts.{declared_fits}
use Rattle.pr_text.proofs.builder.Builder.finished.Goals as goal

pub returns-in-Some-clause-fault : goal.returns-in-Some-clause-fault
returns-in-Some-clause-fault c = fails_end c.args.number (declared_by c.args.self) c.in-Some.fault (sym c.missing_fault.ensures ∙ c.in-Some.is)

pub make-requires : goal.make-requires
make-requires c =
    declared_fits c.args.number (declared_by c.args.self) (scenario_of c.in_ok-parts.parts) c.requires.sound c.requires.dated
    (sym c.missing_fault.ensures ∙ c.in_default.is) c.in_ok-parts.ensures.declared

pub returns-in-Ok-clause-found : goal.returns-in-Ok-clause-found
returns-in-Ok-clause-found c =
    rw c.in-Ok.ensures.kept (whole c.args.number (declared_by c.args.self) (scenario_of c.in_ok-parts.parts)
    (sym c.missing_fault.ensures ∙ c.in_default.is) c.in_ok-parts.ensures.declared (c.in-Ok.ensures.exactly.0 refl))

pub returns-clause-fault : goal.returns-clause-fault
unfolding scenario_of
returns-clause-fault c =
    let faultless : missing_fault c.args.number (declared_by c.args.self) ≡ None = sym c.missing_fault.ensures ∙ c.in_default.is in
    let fits : Fits (scenario_of c.in_ok-parts.parts) = declared_fits c.args.number (declared_by c.args.self) (scenario_of c.in_ok-parts.parts) c.requires.sound c.requires.dated faultless c.in_ok-parts.ensures.declared in
    empty c.args.number (declared_by c.args.self) (scenario_of c.in_ok-parts.parts) faultless c.in_ok-parts.ensures.declared fits c.in_ok-parts.ensures.room
    (λ can. false≢true (c.in-Err.ensures.exactly.1 can))
