-- A host's end says whether it is trapped.
use Rattle.pr_world.proofs.Common.{◌≡◌, Bool, true, false, List, [], ◌∷◌, map, Some, None, Option, sym, refl, ap, ◌∙◌, Command, Standing, ready, stopped, Control, Going, is_trapped, ending_of, ending, Participant, participation_of}
use Rattle.std.proofs.Common.{◌||◌}
use Rattle.std.proofs.lemmas.Option.{same_Some}
use Rattle.std.specs.List.{list_any}
use Rattle.pr_script.specs.Scripts.{standing_of_items}
use Rattle.pr_audit.specs.declared.end.End.{End}
use Rattle.pr_audit.specs.declared.end.End.TheVariants as end
use Rattle.pr_audit.specs.Ends.{Ending, stops, waits, traps, ending_by, is_trapped_end}

abbrev is_trap : Ending → Bool
is_trap (traps line) = true
is_trap _ = false

trap_seen : (e : End) → is_trapped_end e ≡ is_trap (ending_of e)
trap_seen (end.Stopped word) = refl
trap_seen _ = refl

standing_untrapped : (o : Option Standing) (x : Ending) → ending_by o ≡ Some x → is_trap x ≡ false
standing_untrapped None x is = let bad : None ≡ Some x = is in cc
standing_untrapped (Some (ready line c)) x is = let same : waits line ≡ x = same_Some _ _ is in ap is_trap (sym same)
standing_untrapped (Some (stopped w)) x is = let same : stops w ≡ x = same_Some _ _ is in ap is_trap (sym same)

trap_of : (k : Control) (plan : List Command) (x : Ending) → ending k plan ≡ Some x → is_trap x ≡ is_trapped k
trap_of (Going l) plan x is = standing_untrapped (standing_of_items l) x is
trap_of _ plan x is = ap is_trap (sym (same_Some _ _ is))

-- some end is a trapped one just where some host is trapped
pub trapped_ends : (ps : List Participant) (es : List End) → map (λ e. Some (ending_of e)) es ≡ map (λ p. ending (participation_of p).control (participation_of p).plan) ps
    → list_any is_trapped_end es ≡ list_any is_trapped (map (λ x. x.control) (map participation_of ps))
trapped_ends [] [] same = refl
trapped_ends [] (e ∷ es) same = let bad : Some (ending_of e) ∷ map (λ e. Some (ending_of e)) es ≡ [] = same in cc
trapped_ends (p ∷ ps) [] same = let bad : [] ≡ ending (participation_of p).control (participation_of p).plan ∷ map (λ p. ending (participation_of p).control (participation_of p).plan) ps = same in cc
trapped_ends (p ∷ ps) (e ∷ es) same =
    let first : Some (ending_of e) ≡ ending (participation_of p).control (participation_of p).plan = cc in
    let rest : map (λ e. Some (ending_of e)) es ≡ map (λ p. ending (participation_of p).control (participation_of p).plan) ps = cc in
    let here = trap_seen e ∙ trap_of (participation_of p).control (participation_of p).plan (ending_of e) (sym first) in
    λ i. here i || trapped_ends ps es rest i
