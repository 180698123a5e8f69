-- How a command ends by which its sender is registered no more.
use Rattle.pr_regions.proofs.Common.{◌≡◌, ℕ, zero, suc, ◌<◌, Bool, true, false, not, ◌&&◌, ◌≢◌, ◌⊎◌, [], ◌∷◌, is_some, if◌then◌else◌, ◌==◌, Some, None, Option, sym, refl, ap, ◌∙◌, subst, inl, inr, arith, false≢true, eqb_tells, Command, is_held_by_all, is_told_of_loss, held_by_rest, without, is_empty, State, is_registered, key_of, Held, One, All, get-without, UnitState, HasSomebody, Scope, number_of, Registration, IsSo, Meets, HasRoom, IsCovered, Ends, Purpose, Standing, Branch, Transition, Good, Does, AlwaysEnds, never, is_unregistered, any, only, is_of_registrant, told_if, Leaves, EndsIn, Tell, ne_eqb, tells_nobody, tells_of_loss, holds_alone, is_empty_from_none}
use Rattle.pr_unit.specs.declared.demand.Demand.TheVariants.{Unregister}
use Rattle.std.specs.FinMap as map
use Rattle.std.proofs.lemmas.Bool.{not-false}
use Rattle.pr_registry.specs.Hosts.{just}
use Rattle.pr_registry.specs.Effects.{without_registration}
use Rattle.pr_registry.proofs.lemmas.Sets.{contains-just, not_empty_from_some}
use Rattle.pr_views.proofs.lemmas.Possibilities.Numbers.{key_there}
use Rattle.pr_unit.specs.Conduct.{leaves as leaving, unregistering}
use Rattle.pr_unit.proofs.lemmas.Demands.{unregister_kept, unregister_fault}
use Rattle.pr_regions.proofs.lemmas.Purposes.Conduct.{after_for, change_for}
use Rattle.pr_regions.proofs.lemmas.Regions.Effects.{Becomes, on_unregister, is_registered-number}
use Rattle.pr_regions.proofs.lemmas.Parts.Endings.{registered_or_not, good_ends, leaves, same_ends}
use Rattle.pr_regions.proofs.lemmas.Parts.Branches.{left_to, in_region, from_region, HasNobody, somebody_or_nobody, each_of_two, everyone, untested, tested, tell}
use Rattle.pr_regions.proofs.lemmas.Portions.GatheredStates.{few_keys}

-- ---- who has a key

pub key_with : (s : Scope) (u : UnitState) (g r : ℕ) → IsSo s u (Registration g r) → is_of_registrant r ≡ true → (k : ℕ) × (key_of u.registry g ≡ Some k)
key_with s u g zero so is = absurd (false≢true is)
key_with s u g (suc i) so is = let there = key_there s.keys i so.1 in (there.0, so.2 ∙ there.1)

-- who has no number but 0 has no key, be it there or not
pub keyless : (s : Scope) (p : Purpose) (held : Option Held) (sender : ℕ) (standing : Standing) (u : UnitState) (c : Command) (g : ℕ) → Meets s p held sender standing u c
    → ((r : ℕ) → IsSo s u (Registration g r) → is_of_registrant r ≡ false) → key_of u.registry g ≡ None
keyless s p held sender standing u c g m none = at (key_of u.registry g) refl
  where
    at : (o : Option ℕ) → key_of u.registry g ≡ o → o ≡ None
    at None is = refl
    at (Some k) is =
        let inside = (m.formed.registry.keys g k is).0 in
        let small : g < s.hosts = subst (λ n. g < n) m.hosts inside in
        let it = m.numbered g small in
        let there = is_registered-number s.keys u.registry g it.0 (record { known = it.1.1; key = it.1.2 }) in
        absurd (false≢true (sym (none it.0 it.1) ∙ sym there ∙ ap is_some is))

-- ---- what is left of the reservation

get-rest_other : (u : State) (h g : ℕ) → g ≢ h → map.get (without u.keys (just h)) g ≡ key_of u g
get-rest_other u h g other = get-without u.keys (just h) g ∙ ap (λ b. if b then None else map.get u.keys g) (contains-just h g ∙ ne_eqb g h other)

some_rest : (s : Scope) (sender : ℕ) (u : UnitState) → HasSomebody s u sender (Some is_of_registrant) → is_empty (without u.registry.keys (just sender)) ≡ false
some_rest s sender u there =
    let key = key_with s u there.0 there.1 there.3 there.4 in
    not_empty_from_some (without u.registry.keys (just sender)) there.0 key.0 (get-rest_other u.registry sender there.0 there.2 ∙ key.1)

no_rest : (s : Scope) (p : Purpose) (held : Option Held) (sender : ℕ) (standing : Standing) (u : UnitState) (c : Command) → Meets s p held sender standing u c
    → HasNobody s u sender is_of_registrant → is_empty (without u.registry.keys (just sender)) ≡ true
no_rest s p held sender standing u c m nobody = is_empty_from_none (without u.registry.keys (just sender)) (λ q. at q (eqb_tells q sender))
  where
    at : (q : ℕ) → (((q == sender) ≡ true) × (q ≡ sender)) ⊎ (((q == sender) ≡ false) × (q ≢ sender)) → map.get (without u.registry.keys (just sender)) q ≡ None
    at q (inl same) = get-without u.registry.keys (just sender) q ∙ ap (λ b. if b then None else map.get u.registry.keys q) (contains-just sender q ∙ same.0)
    at q (inr other) = get-rest_other u.registry sender q other.1 ∙ keyless s p held sender standing u c q m (λ r so. nobody q r other.1 so)

-- a reservation that is not of all registrants stands, unless the sender holds it alone
held_without : (u : State) (h : ℕ) → is_held_by_all u.held ≡ false → (without_registration u h).held ≡ (if holds_alone u.held h then None else u.held)
held_without u h other = at u.held other
  where
    at : (v : Option Held) → is_held_by_all v ≡ false → (if holds_alone v h then None else held_by_rest (without u.keys (just h)) v) ≡ (if holds_alone v h then None else v)
    at (Some (All t)) other = absurd (false≢true (sym other))
    at _ other = refl

held_by_some : (u : State) (h : ℕ) → is_held_by_all u.held ≡ true → is_empty (without u.keys (just h)) ≡ false → (without_registration u h).held ≡ u.held
held_by_some u h all some = at u.held all
  where
    at : (v : Option Held) → is_held_by_all v ≡ true → (if holds_alone v h then None else held_by_rest (without u.keys (just h)) v) ≡ v
    at (Some (All t)) all = ap (λ b. if b then None else Some (All t)) some
    at _ all = absurd (false≢true all)

held_by_none : (u : State) (h : ℕ) → is_held_by_all u.held ≡ true → is_empty (without u.keys (just h)) ≡ true → (without_registration u h).held ≡ None
held_by_none u h all none = at u.held all
  where
    at : (v : Option Held) → is_held_by_all v ≡ true → (if holds_alone v h then None else held_by_rest (without u.keys (just h)) v) ≡ None
    at (Some (All t)) all = ap (λ b. if b then None else Some (All t)) none
    at _ all = absurd (false≢true all)

alone_of_all : (v : Option Held) (h : ℕ) → is_held_by_all v ≡ true → holds_alone v h ≡ false
alone_of_all (Some (One t g)) h all = absurd (false≢true all)
alone_of_all _ h all = refl

-- ---- how it ends

pub unregister_absent : (hosts : ℕ) (held : Option Held) (sender : ℕ) (standing : Standing) (change : Transition) → is_unregistered standing ≡ true
    → Does change None never (number_of hosts held) tells_nobody → HasRoom hosts (Good change) → AlwaysEnds hosts Unregister held sender standing (Good change)
unregister_absent hosts held sender standing change absent does room = record {
  ends = λ s u c alike m.
      let out : is_registered u.registry sender ≡ false = registered_or_not s Unregister held sender standing u c m ∙ ap not absent in
      same_ends s Unregister held sender standing u c hosts change tt m alike (unregister_kept u.registry sender) (unregister_fault u.registry sender)
      (ap (λ b. (if b then unregistering u.registry sender else leaving u.registry).after) out) (ap (λ b. (if b then unregistering u.registry sender else leaving u.registry).change) out) does;
  fits = room;
}

-- a registrant that unregisters, by what is left
unregister_ends : (s : Scope) (held : Option Held) (sender : ℕ) (standing : Standing) (u : UnitState) (c : Command) (left : ℕ) (told : Bool) (change : Transition)
    → Meets s Unregister held sender standing u c → is_unregistered standing ≡ false
    → left ≡ number_of s.hosts (without_registration u.registry sender).held → told ≡ (holds_alone u.registry.held sender && is_told_of_loss u.registry.held)
    → Does change (Some 0) never left (tells_of_loss (told_if told)) → Ends s sender (Good change) u c
unregister_ends s held sender standing u c left told change m present leaves_it tells does =
    let there : is_registered u.registry sender ≡ true = registered_or_not s Unregister held sender standing u c m ∙ ap not present in
    let now = number_of s.hosts (without_registration u.registry sender).held in
    let b = holds_alone u.registry.held sender && is_told_of_loss u.registry.held in
    let known = on_unregister s.keys s.hosts sender u.registry in
    let so : Becomes s.keys s.hosts sender (Some 0) never now (tells_of_loss (told_if b)) u.registry (after_for s.keys u.registry sender Unregister) (change_for s.keys u.registry sender Unregister) =
    let P : Bool → Type 0 =
    λ x. Becomes s.keys s.hosts sender (Some 0) never now (tells_of_loss (told_if b)) u.registry (if x then unregistering u.registry sender else leaving u.registry).after (if x then unregistering u.registry sender else leaving u.registry).change in
    subst P (sym there) known in
    good_ends s Unregister held sender standing u c (Some 0) never now (tells_of_loss (told_if b)) change tt m (unregister_kept u.registry sender) (unregister_fault u.registry sender)
    (leaves change (Some 0) never left now (tells_of_loss (told_if b)) leaves_it (subst (λ x. Does change (Some 0) never left (tells_of_loss (told_if x))) tells does))
    so

pub unregister_good : (hosts : ℕ) (held : Option Held) (sender : ℕ) (standing : Standing) (change : Transition) → is_unregistered standing ≡ false → is_held_by_all held ≡ false
    → Does change (Some 0) never (number_of hosts (if holds_alone held sender then None else held)) (tells_of_loss (told_if (holds_alone held sender && is_told_of_loss held))) → HasRoom hosts (Good change)
    → AlwaysEnds hosts Unregister held sender standing (Good change)
unregister_good hosts held sender standing change present other does room = record {
  ends = λ s u c alike m.
      unregister_ends s held sender standing u c (number_of hosts (if holds_alone held sender then None else held)) (holds_alone held sender && is_told_of_loss held) change m present
      ((λ i. number_of (sym alike i) (if holds_alone (sym m.held i) sender then None else sym m.held i)) ∙ ap (number_of s.hosts) (sym (held_without u.registry sender (ap is_held_by_all m.held ∙ other))))
      (λ i. holds_alone (sym m.held i) sender && is_told_of_loss (sym m.held i))
      does;
  fits = room;
}

-- of all registrants the sender goes: the reservation stays with the others, if there are any
pub tell_unregistered : (hosts : ℕ) (held : Option Held) (sender : ℕ) (standing : Standing) (b d : Branch) (stays ends : Transition) → is_held_by_all held ≡ true → is_unregistered standing ≡ false
    → Leaves b.region any any (Some is_of_registrant) → b.ending ≡ Good stays → Does stays (Some 0) never (number_of hosts held) tells_nobody → HasRoom hosts (Good stays)
    → Leaves d.region any (only 0) None → d.ending ≡ Good ends → Does ends (Some 0) never 0 tells_nobody → HasRoom hosts (Good ends)
    → Tell hosts Unregister held sender standing (b ∷ d ∷ [])
tell_unregistered hosts held sender standing b d stays ends all present leaves_b ends_b does_b room_b leaves_d ends_d does_d room_d =
    tell hosts Unregister held sender standing (b ∷ d ∷ [])
    (each_of_two (EndsIn hosts Unregister held sender standing) b d
    (record {
      ends = λ s u c alike m inside.
          let there = from_region s u sender b.region any any (Some is_of_registrant) (few_keys s.keys m.scope.keys) leaves_b inside in
          rw ends_b (unregister_ends s held sender standing u c (number_of hosts held) false stays m present
          ((λ i. number_of (sym alike i) (sym m.held i)) ∙ ap (number_of s.hosts) (sym (held_by_some u.registry sender (ap is_held_by_all m.held ∙ all) (some_rest s sender u there.somebody))))
          (sym (ap (λ x. x && is_told_of_loss u.registry.held) (alone_of_all u.registry.held sender (ap is_held_by_all m.held ∙ all)))) does_b);
      proper = tested b.region.somebody is_of_registrant refl leaves_b.tested;
      fits = rw ends_b room_b;
    })
    (record {
      ends = λ s u c alike m inside.
          let there = from_region s u sender d.region any (only 0) None (few_keys s.keys m.scope.keys) leaves_d inside in
          rw ends_d (unregister_ends s held sender standing u c 0 false ends m present
          (ap (number_of s.hosts) (sym (held_by_none u.registry sender (ap is_held_by_all m.held ∙ all) (no_rest s Unregister held sender standing u c m
          (λ g r other so. not_registered r (sym (everyones held g r all) ∙ sym (ap (λ v. left_to any (only 0) v g r) m.held) ∙ there.registrations g r other so))))))
          (sym (ap (λ x. x && is_told_of_loss u.registry.held) (alone_of_all u.registry.held sender (ap is_held_by_all m.held ∙ all)))) does_d);
      proper = untested d.region.somebody leaves_d.tested;
      fits = rw ends_d room_d;
    }))
    (λ s u c alike m. covers s u c m (somebody_or_nobody s Unregister held sender standing u c is_of_registrant m))
  where
    -- no single holder is treated apart
    everyones : (v : Option Held) (g r : ℕ) → is_held_by_all v ≡ true → left_to any (only 0) v g r ≡ only 0 r
    everyones (Some (One t h)) g r all = absurd (false≢true all)
    everyones _ g r all = refl

    not_registered : (r : ℕ) → only 0 r ≡ true → is_of_registrant r ≡ false
    not_registered r is = ap not is

    free : (r : ℕ) → is_of_registrant r ≡ false → only 0 r ≡ true
    free r is = not-false (only 0 r) is

    covers : (s : Scope) (u : UnitState) (c : Command) → Meets s Unregister held sender standing u c → HasSomebody s u sender (Some is_of_registrant) ⊎ HasNobody s u sender is_of_registrant → IsCovered s sender (b ∷ d ∷ []) u
    covers s u c m (inl there) = record {
      branch = b;
      listed = (0, omega arith, refl);
      inside = in_region s u sender b.region any any (Some is_of_registrant) (few_keys s.keys m.scope.keys) leaves_b (record { registrations = λ g r other so. everyone u.registry.held g r; somebody = there });
    }
    covers s u c m (inr nobody) = record {
      branch = d;
      listed = (1, omega arith, refl);
      inside = in_region s u sender d.region any (only 0) None (few_keys s.keys m.scope.keys) leaves_d
          (record { registrations = λ g r other so. everyones u.registry.held g r (ap is_held_by_all m.held ∙ all) ∙ free r (nobody g r other so); somebody = tt });
    }
