-- An outline by other sets is the same one.
use Rattle.pr_verify.proofs.Common.{◌≡◌, ℕ, ◌<◌, length, All, sym, subst, length-map, get_or-map, All-map, task, Scenario, view_of, View, Outline, outline_of, IsMadeFor, IsScripted}
use Rattle.pr_sets.specs.declared.view_set.ViewSet.{Ghosts as ViewSet}
use Rattle.pr_views.specs.declared.outline.OutlineBy.{OutlineBy}
use Rattle.pr_views.specs.declared.view.ViewOf.{ViewOf}

pub made_same : {S T : Type 0} {sets : ViewSet S} {others : ViewSet T} (s : Scenario) (o : OutlineBy (ViewOf S sets)) (x : OutlineBy (ViewOf T others))
    → outline_of o ≡ outline_of x → IsMadeFor s o → IsMadeFor s x
made_same {S} {T} {sets} {others} s o x same made k d small =
    let f : ℕ × ViewOf T others → ℕ × View = λ e. (e.0, view_of x.host e.1) in
    let each = subst (λ (y : Outline). All Made y.views) same (All-map Made (λ (e : ℕ × ViewOf S sets). (e.0, view_of o.host e.1)) o.views.items made) in
    subst Made (get_or-map f x.views.items k d (f d) small) (each k (f d) (subst (λ n. k < n) (sym (length-map x.views.items f)) small))
  where
    Made : ℕ × View → Type 0
    Made e = (e.1.scope.keys ≡ s.keys) × (e.1.scope.hosts ≡ length s.nexuses)

pub scripted_same : (s : Scenario) (o x : Outline) → o ≡ x → IsScripted (task s o.host) → IsScripted (task s x.host)
scripted_same s o x same is = subst (λ (y : Outline). IsScripted (task s y.host)) same is
