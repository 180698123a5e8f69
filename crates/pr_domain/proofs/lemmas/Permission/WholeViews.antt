-- What a role says of a whole view, from what is found of the states that it shows.
use Rattle.pr_domain.proofs.Common.{◌≡◌, ℕ, Bool, true, false, ◌||◌, ◌↔◌, List, IsTrue, sym, refl, ap, ◌∙◌, subst, list_any, false≢true, or_right, has, Command, Plain, Step, view_in, Item, Attentions, View, IsPossible, Within, Possibilities, scope_at}
use Rattle.std.proofs.lemmas.Bool.{false_from_ne_true}
use Rattle.pr_unit.proofs.lemmas.TakenSteps.GoodSteps.{good_step}
use Rattle.pr_roles.specs.declared.role.Clause.{Clause}
use Rattle.pr_roles.specs.Permits.{is_always_permitted, clause_permits, command_permitted}
use Rattle.pr_views.proofs.lemmas.Possibilities.Numbers.{one_attentions}
use Rattle.pr_views.proofs.lemmas.Views.ShownStates.{shown_within}
use Rattle.pr_domain.proofs.lemmas.Reporting.OwnerStates.{idle_from_zero}
use Rattle.pr_domain.specs.Permission.{IsPermittedIn, IsRefusedIn}
use Rattle.pr_domain.specs.inside.Permitting.{ArePermitted, IsOneRefused}
use Rattle.pr_domain.proofs.lemmas.Permitting.IdleCommands.{good_ends}

-- ---- the whole view

pub permitted_where_busy : (v : View) (role : List Clause) (c : Command) → is_always_permitted c ≡ false → v.pending 0 ≡ false → IsPermittedIn v role c
permitted_where_busy v role c looks busy u r w shown step good =
    let ends = good_ends v.scope u c r w shown.formed step good looks in
    let seen = shown.pending in
    absurd (false≢true (sym busy ∙ subst (λ q. v.pending q ≡ true) (one_attentions v.scope u seen.0 0 seen.1.1 ends.idle) seen.1.0))

pub permitted_from_each : (v : View) (role : List Clause) (c : Command) → is_always_permitted c ≡ false → ((x : ℕ) → ArePermitted v role c x) → IsPermittedIn v role c
permitted_from_each v role c looks permitted u r w shown step good =
    or_right (is_always_permitted c) _ (permitted shown.reservation.0 u shown shown.reservation.1.1 (good_ends v.scope u c r w shown.formed step good looks))

-- a state in which it ends GOOD, with the step
pub refused_from_one : (v : View) (role : List Clause) (c : Command) → is_always_permitted c ≡ false → (x : ℕ) × IsOneRefused v role c x → IsRefusedIn v role c
refused_from_one v role c looks (x, one) = record {
  from = one.unit;
  shown = one.shown;
  reply = _;
  after = _;
  step = good_step one.unit v.scope.own c (idle_from_zero v.scope one.unit one.served.idle) one.served.free one.served.whole;
  good = refl;
  refused = ap (λ b. b || list_any (λ clause. clause_permits clause one.unit.registry v.scope.own c) role) looks ∙ one.refused;
}

pub permitted_alike : (v w : View) (role : List Clause) (c : Command) → v.scope ≡ w.scope → Within w v → IsPermittedIn v role c → IsPermittedIn w role c
permitted_alike v w role c same within permitted u r after shown step good =
    subst (λ s. IsTrue (command_permitted role u.registry s.own c)) same
    (permitted u r after (shown_within w v u (sym same) within shown) (subst (λ s. Step u s.own (Plain c) r after) (sym same) step) good)

pub refused_alike : (v w : View) (role : List Clause) (c : Command) → v.scope ≡ w.scope → Within v w → IsRefusedIn v role c → IsRefusedIn w role c
refused_alike v w role c same within one = record {
  from = one.from;
  shown = shown_within v w one.from same within one.shown;
  reply = one.reply;
  after = one.after;
  step = subst (λ s. Step one.from s.own (Plain c) one.reply one.after) same one.step;
  good = one.good;
  refused = subst (λ s. command_permitted role one.from.registry s.own c ≡ false) same one.refused;
}

-- ---- the view that a value of the program is

module _ (own hosts : ℕ) (items : List ℕ) (p : Possibilities) (w : View) (role : List Clause) (c : Command) (scope : w.scope ≡ scope_at items hosts own)
    (same : (i : Item) → IsPossible (view_in (scope_at items hosts own) p) i ↔ IsPossible w i) (looks : is_always_permitted c ≡ false) where
  pub permitted_of_busy : (there : Bool) → there ≡ has p.pending 0 → there ≡ false → IsPermittedIn w role c
  permitted_of_busy there tells none =
      permitted_where_busy w role c looks (false_from_ne_true (w.pending 0) (λ is. false≢true (sym none ∙ tells ∙ (same (Attentions 0)).1 is)))

  pub permitted_of_words : ((x : ℕ) → ArePermitted (view_in (scope_at items hosts own) p) role c x) → IsPermittedIn w role c
  permitted_of_words permitted = permitted_alike (view_in (scope_at items hosts own) p) w role c (sym scope) (λ i. (same i).1) (permitted_from_each (view_in (scope_at items hosts own) p) role c looks permitted)

  pub refused_of_words : (x : ℕ) × IsOneRefused (view_in (scope_at items hosts own) p) role c x → IsRefusedIn w role c
  refused_of_words one = refused_alike (view_in (scope_at items hosts own) p) w role c (sym scope) (λ i. (same i).0) (refused_from_one (view_in (scope_at items hosts own) p) role c looks one)
