-- The first class of replies without an arm.
use Rattle.pr_verify.proofs.Common.{◌≡◌, ℕ, ◌+◌, ◌<◌, ◌≤◌, List, map, length, slice_index_or, Some, None, Contains, Option, sym, ◌∙◌, subst, arith, AllWithin, at_read, AllWithin-more, All-contains, KeptView, Class, Landing, NoArm, class_number, IsFirstUnarmed}
use Rattle.std.specs.Option.{IfSome}
use Rattle.pr_verify.specs.inside.Reviewing.{IsBy}
use Rattle.pr_verify.proofs.lemmas.Rooms.MappedLists.{mapped, unmapped, read_there}

module _ (xs : List (Landing × KeptView)) (from : ℕ) where
  -- the class without an arm in which an outcome ends, if it counts, comes no earlier
  abbrev pub IsPast : Option Class → Landing × KeptView → Type 0
  IsPast first o = (class : Class) → o.0 ≡ NoArm class → from ≤ class_number class → IsBy first class

  -- it is that of an outcome, and counts
  abbrev pub IsFound : Class → Type 0
  IsFound class = Contains (map (λ o. o.0) xs) (NoArm class) × (from ≤ class_number class)

  -- no class comes before the first
  pub all_past : (first : Option Class) → IsFirstUnarmed from xs first → (class : Class) → Contains (map (λ o. o.0) xs) (NoArm class) → from ≤ class_number class → IsBy first class
  all_past first is class listed =
      let one = unmapped (λ (o : Landing × KeptView). o.0) xs (NoArm class) listed in
      All-contains (IsPast first) xs one.0 is.0 one.1 class one.2

  module _ (n : ℕ) (x : Landing × KeptView) (small : n < length xs) (read : x ≡ slice_index_or xs n x) where
    -- the outcomes up to this one
    pub past_more : (first : Option Class) → AllWithin (IsPast first) xs 0 n → IsPast first x → AllWithin (IsPast first) xs 0 (n + 1)
    past_more first before here = AllWithin-more (IsPast first) xs 0 n before (at_read xs (IsPast first) n x small read here)

    module _ (class : Class) (is : x.0 ≡ NoArm class) where
      -- of the class of this one
      past_here : (first : Option Class) → (from ≤ class_number class → IsBy first class) → IsPast first x
      past_here first by other here late = let same : NoArm class ≡ NoArm other = sym is ∙ here in let e : class ≡ other = cc in subst (IsBy first) e (by (subst (λ c. from ≤ class_number c) (sym e) late))

      pub found_here : from ≤ class_number class → IsFound class
      found_here late = (subst (Contains (map (λ (o : Landing × KeptView). o.0) xs)) is (mapped (λ (o : Landing × KeptView). o.0) xs x (read_there xs n x small read)), late)

      -- what it takes the place of comes later
      by_later : (first : Option Class) → IfSome first (λ f. class_number class < class_number f) → (other : Class) → IsBy first other → IsBy (Some class) other
      by_later None later other none = absurd none
      by_later (Some f) later other by = omega arith

      pub past_taken : (first : Option Class) → IfSome first (λ f. class_number class < class_number f) → AllWithin (IsPast first) xs 0 n → AllWithin (IsPast (Some class)) xs 0 (n + 1)
      past_taken first later before =
          past_more (Some class) (λ k d low less other here late. by_later first later other (before k d low less other here late)) (past_here (Some class) (λ late. omega arith))

      pub past_kept : (first : Option Class) → (from ≤ class_number class → IsBy first class) → AllWithin (IsPast first) xs 0 n → AllWithin (IsPast first) xs 0 (n + 1)
      past_kept first by before = past_more first before (past_here first by)
