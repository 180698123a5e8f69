use Rattle.pr_verify.proofs.Common.{◌≡◌, ◌+◌, ◌<◌, [], ◌∷◌, ◌++◌, map, Some, None, Contains, AllPairs, sym, subst, All-contains, KeptView, Class, Landing, NoArm, class_number, IsInRange}
use Rattle.pr_verify.proofs.lemmas.Refusals.Classes.{all_past}
use Rattle.pr_verify.proofs.lemmas.Rooms.MappedLists.{unmapped}
use Rattle.pr_verify.proofs.lemmas.Tabling.Rows.{AreBefore, before_more, before_rise, all_before, class_alone}
use Rattle.pr_verify.proofs.tabling.unarmed.Goals as goal

pub loop-class-preserved : goal.loop-class-preserved
loop-class-preserved c =
    let xs = c.args.outcomes.now in
    let P = λ (class : Class). Contains (map (λ (o : Landing × KeptView). o.0) xs) (NoArm class) in
    let from = c.loop-class.from in
    let cs = c.loop-class.classes.items in
    let next = c.in-Some.class in
    let found = c.in-Some.ensures.1 in
    let first = all_past xs from (Some next) c.in-Some.ensures in
    let ranged = λ (class : Class) (listed : P class). let one = unmapped (λ (o : Landing × KeptView). o.0) xs (NoArm class) listed in All-contains (λ o. (k : Class) → o.0 ≡ NoArm k → IsInRange k) xs one.0 c.are_in_range.ensures one.1 class one.2 in
    let before = c.loop-class.invariant in
    let alone = λ (other : Class) (one : P other) (same : class_number other ≡ class_number next). class_alone other next (ranged other one) (ranged next found.0) same in
    let more = sym c.in_ok-push.ensures.items in
    record {
      each = subst (AreBefore class_number P (c.number_of-from.result + 1)) more
          (subst (λ m. AreBefore class_number P (m + 1) (cs ++ next ∷ [])) (sym c.number_of-from.ensures) (before_more class_number P from cs before.each next found.0 found.1 first alone));
      rise = subst (AllPairs (λ c d. class_number c < class_number d)) more (before_rise class_number P from cs before.each next found.0 found.1 first alone before.rise);
    }

pub returns-clause-each : goal.returns-clause-each
returns-clause-each c =
    let xs = c.args.outcomes.now in
    all_before (λ class. Contains (map (λ o. o.0) xs) (NoArm class)) c.loop-class.from c.loop-class.classes.items c.loop-class.invariant.each (all_past xs c.loop-class.from None c.in_default.ensures)
