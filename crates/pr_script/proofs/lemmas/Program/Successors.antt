-- Where a place leads.
use Rattle.pr_script.proofs.Common.{◌≡◌, ℕ, ◌-◌, ◌<◌, ◌≤◌, List, [], ◌∷◌, ◌++◌, length, get_or, Some, None, Option, sym, refl, ap, ◌∙◌, subst, arith, repeats, statement, mark, Configuration, before, turn, past_mark, becomes, LoopFrame, MOST_OPEN, Instruction, place, IsStep, open_configuration, configuration, deepest, AreLoops, IsPlaced, meanings}
use Rattle.std.proofs.Common.{rules, IfNone}
use Rattle.std.proofs.lemmas.List.{nil_from_length}
use Rattle.pr_script.specs.declared.rows.Operation.TheVariants.{Repeat, Break}
use Rattle.pr_script.specs.inside.Advances.{Leads}
use Rattle.pr_script.proofs.lemmas.Program.Places.{the_row, configuration-step, configuration-zero, opened-push}
use Rattle.pr_script.proofs.lemmas.Program.OpenRepeats.{opens_less, open_count-configuration, leads_turn, leads_mark, leads_break, past_mark-before}

pub if_none : {A : Type 0} {P : Type 0} (o : Option A) → P → IfNone o P
if_none None p = p
if_none (Some x) p = search rules

leads_alike : (l l' m m' : Configuration) → l' ≡ l → m' ≡ m → Leads l m → Leads l' m'
leads_alike l l' m m' old new leads = subst (λ k. Leads k m') (sym old) (subst (Leads l) (sym new) leads)

pub placed_on : (rows : List Instruction) (at to : ℕ) (opens next : List LoopFrame) → IsPlaced rows at opens
    → Leads (configuration (meanings rows) at opens) (configuration (meanings rows) to next)
    → (to ≤ length rows) × AreLoops (length rows) next → IsPlaced rows to next
placed_on rows at to opens next placed leads within = record {
  table = placed.table;
  within = within.0;
  repeats = within.1;
  room = omega (arith, placed.room, leads.room);
}

-- ---- at place 0

pub end_rests : (rows : List Instruction) (at : ℕ) (opens : List LoopFrame) → at ≡ 0 → (0 < length opens → ⊥)
    → becomes (configuration (meanings rows) at opens) ≡ configuration (meanings rows) at opens
end_rests rows at opens ends empty =
    let nothing = configuration-zero rows at opens ends ∙ ap (open_configuration (meanings rows)) (nil_from_length opens (omega arith)) in
    subst (λ l. becomes l ≡ l) (sym nothing) refl

popped : (rows : List Instruction) (at : ℕ) (opens os : List LoopFrame) (o : LoopFrame) → at ≡ 0 → opens ≡ os ++ o ∷ []
    → configuration (meanings rows) at opens
    ≡ mark ∷ statement (repeats o.left (place (meanings rows) o.body)) ∷ before (place (meanings rows) o.next) (open_configuration (meanings rows) os)
popped rows at opens os o ends were =
    configuration-zero rows at opens ends ∙ ap (open_configuration (meanings rows)) were ∙ opened-push (meanings rows) os o

pub room_again : (rows : List Instruction) (at : ℕ) (opens os : List LoopFrame) (o : LoopFrame) → IsPlaced rows at opens → at ≡ 0 → opens ≡ os ++ o ∷ []
    → length os < MOST_OPEN
room_again rows at opens os o placed ends were =
    let is = popped rows at opens os o ends were in
    let room = subst (λ l. deepest l ≤ MOST_OPEN) is placed.room in
    omega (arith, open_count-configuration (place (meanings rows) o.next) (meanings rows) os)

pub places_again : (rows : List Instruction) (at : ℕ) (opens os : List LoopFrame) (o : LoopFrame) → IsPlaced rows at opens → opens ≡ os ++ o ∷ []
    → AreLoops (length rows) os × (o.body ≤ length rows) × (o.next ≤ length rows)
places_again rows at opens os o placed were = opens_less (length rows) os o (subst (AreLoops (length rows)) were placed.repeats)

pub leads_again : (rows : List Instruction) (at to : ℕ) (opens os next : List LoopFrame) (o : LoopFrame) → at ≡ 0 → opens ≡ os ++ o ∷ []
    → configuration (meanings rows) to next ≡ turn o.left (place (meanings rows) o.body) (before (place (meanings rows) o.next) (open_configuration (meanings rows) os))
    → Leads (configuration (meanings rows) at opens) (configuration (meanings rows) to next)
leads_again rows at to opens os next o ends were to_is =
    leads_alike _ _ _ _ (popped rows at opens os o ends were) to_is
    (leads_mark o.left (place (meanings rows) o.body) (before (place (meanings rows) o.next) (open_configuration (meanings rows) os)))

-- ---- at a repeat

module _ (rows : List Instruction) (at : ℕ) (opens : List LoopFrame) (row : Instruction) (placed : IsPlaced rows at opens) (some : at ≡ 0 → ⊥) (is : row ≡ get_or rows (at - 1) row) where
  pub next_within : row.next ≤ length rows
  next_within = omega (arith, (the_row rows at row placed.table some placed.within is).next, placed.within)

  module _ (count body : ℕ) (same : row.step ≡ Repeat count body) where
    pub body_within : body ≤ length rows
    body_within = omega (arith, subst (IsStep (meanings rows) (at - 1) row.next) same (the_row rows at row placed.table some placed.within is).step, placed.within)

    pub room_in : length opens < MOST_OPEN
    room_in =
        let room = subst (λ l. deepest l ≤ MOST_OPEN) (configuration-step rows at opens row (Repeat count body) placed some is same) placed.room in
        omega (arith, open_count-configuration (place (meanings rows) row.next) (meanings rows) opens)

    pub leads_in : (to : ℕ) (next : List LoopFrame)
        → configuration (meanings rows) to next ≡ turn count (place (meanings rows) body) (before (place (meanings rows) row.next) (open_configuration (meanings rows) opens))
        → Leads (configuration (meanings rows) at opens) (configuration (meanings rows) to next)
    leads_in to next to_is = leads_alike _ _ _ _ (configuration-step rows at opens row (Repeat count body) placed some is same) to_is
        (leads_turn count (place (meanings rows) body) (before (place (meanings rows) row.next) (open_configuration (meanings rows) opens)))

  -- ---- at a break

  pub leads_out : (to : ℕ) (next : List LoopFrame) → row.step ≡ Break
      → configuration (meanings rows) to next ≡ past_mark (open_configuration (meanings rows) opens)
      → Leads (configuration (meanings rows) at opens) (configuration (meanings rows) to next)
  leads_out to next same to_is =
      let past = past_mark-before (place (meanings rows) row.next) (open_configuration (meanings rows) opens) in
      leads_alike _ _ _ _ (configuration-step rows at opens row Break placed some is same) (to_is ∙ sym past)
      (leads_break (before (place (meanings rows) row.next) (open_configuration (meanings rows) opens)))
