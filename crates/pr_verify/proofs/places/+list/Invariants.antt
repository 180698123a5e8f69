-- The places so far and those of the statements or arms left are all of them.
use Rattle.pr_verify.proofs.Common.{◌≡◌, ◌++◌, map, drop, statements_in, arms_in, places, places_of_arms, place_of, AreInRange}
use Rattle.pr_verify.proofs.places.+list.Given as goal

abbrev pub invariant-list-loop-i : goal.invariant-list-loop-i
invariant-list-loop-i l = record {
  listed : map place_of l.spots.items ++ places (statements_in (drop l.i l.statements)) l.after l.broken
      ≡ map place_of l.initial.spots.items ++ places (statements_in l.statements) l.after l.broken;
  fields : AreInRange l.initial.spots.items → AreInRange l.spots.items;
}

abbrev pub invariant-list_arms-loop-arm : goal.invariant-list_arms-loop-arm
invariant-list_arms-loop-arm l = record {
  listed : map place_of l.spots.items ++ places_of_arms (arms_in (drop l.arm-index l.arms)) l.after l.broken
      ≡ map place_of l.initial.spots.items ++ places_of_arms (arms_in l.arms) l.after l.broken;
  fields : AreInRange l.initial.spots.items → AreInRange l.spots.items;
}
