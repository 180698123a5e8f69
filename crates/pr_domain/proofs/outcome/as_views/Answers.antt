use Rattle.pr_domain.proofs.Common.{[], ◌∷◌, take, get_or, sym, refl, ◌∙◌, subst, rules, AreDeclared, Possibilities, AreInRange, ViewOf, Landing, AllZip, HasWords}
use Rattle.std.proofs.Common.{◌++◌}
use Rattle.std.proofs.lemmas.List.{take_more, take_all}
use Rattle.std.proofs.lemmas.Slice.Zip.{all_zipped_more}
use Rattle.pr_script.specs.declared.landing.Landing.TheVariants.{Arm}
use Rattle.pr_domain.proofs.outcome.as_views.Goals as goal

abbrev spare : Landing × Possibilities
spare = (Arm 0, record { registrations = []; reservations = record { bits = 0 }; pending = record { bits = 0 } })

pub of-requires : goal.of-requires
of-requires g c = (
  search rules,
  (
    (c.args.view.now.some, c.args.view.now.few),
    (
      subst AreDeclared (sym c.deref.ensures.0) c.args.view.now.declared,
      subst (λ keys. AreInRange c.args.view.now.hosts keys (get_or c.args.found.now c.loop-landing.landing-index spare).1) (sym c.deref.ensures.0) (c.requires.range c.loop-landing.landing-index spare c.loop-landing-test.true),
    ),
  ),
)

pub loop-landing-preserved : goal.loop-landing-preserved
loop-landing-preserved g c =
    let found = c.args.found.now in
    let n = c.loop-landing.landing-index in
    let f = get_or found n spare in
    let left = c.in_ok-left in
    let o : Landing × ViewOf g.row.S.Denot g.S.ViewSet = (f.0, left.left) in
    rw c.in_ok-push.ensures.items
    (subst (λ xs. AllZip (HasWords c.args.view.now) xs (c.loop-landing.views.items ++ o ∷ [])) (sym (take_more found n spare c.loop-landing-test.true))
    (all_zipped_more (HasWords c.args.view.now) (take n found) c.loop-landing.views.items f o c.loop-landing.invariant
    (record { landing = refl; alike = record { keys = sym (left.ensures.keys ∙ c.deref.ensures.0); hosts = sym left.ensures.hosts }; same = left.ensures.same })))

pub returns : goal.returns
returns g c = subst (λ xs. AllZip (HasWords c.args.view.now) xs c.loop-landing.views.items) (take_all c.loop-landing.landing-index c.args.found.now c.loop-landing-test.false) c.loop-landing.invariant
