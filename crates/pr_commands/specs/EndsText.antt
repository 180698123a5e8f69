-- Agrees with docs/FORMATS.md, 'Ends text'.
-- The lines of ends that come together, and the text of a run that ends in one way.
use Rattle.std.specs.Prelude.{ℕ, Bool, true, false, List, [], ◌∷◌, ◌++◌, codes, length, Option, None, Some}
use Rattle.std.specs.Fmt.{decimal}
use Rattle.std.specs.List.{flat_map, range_with_len, slice_get}
use Rattle.pr_audit.specs.declared.end.End.{End}
use Rattle.pr_audit.specs.declared.end.End.TheVariants as end
use Rattle.pr_output.specs.PrintedLines.{line}
use Rattle.pr_trace.specs.TraceText.{name_of}
use Rattle.pr_explore.specs.declared.endings.Together.{Together}
use Rattle.pr_explore.specs.declared.explorer.Bound.{Bound}
use Rattle.pr_explore.specs.declared.explorer.Bound.TheVariants.{Worlds, Depth, Memory}
use Rattle.pr_witness.specs.declared.breach.CertifiedRun.{CertifiedRun}
use Rattle.pr_witness.specs.declared.ending.Ends.{Ends}
use Rattle.pr_witness.specs.declared.ending.Sought.{Sought}
use Rattle.pr_witness.specs.declared.ending.Sought.TheVariants.{Found, Never, Nothing}
use Rattle.pr_commands.specs.WitnessText.{run_text_of}

-- a host and its word, or the line at which it is trapped; nothing of a guest
abbrev pub end_part : List ℕ → Option End → List ℕ
end_part name None = []
end_part name (Some (end.Stopped word)) = name ++ (codes " " ++ (word.bytes ++ codes " "))
end_part name (Some (end.Trapped at)) = name ++ (codes " trapped " ++ (decimal at ++ codes " "))
end_part name (Some (end.Ready at)) = []
end_part name (Some (end.Left planned)) = []

abbrev pub end_parts : List (List ℕ) → List End → List ℕ
end_parts names ends = flat_map (λ host. end_part (name_of names host) (slice_get ends host)) (range_with_len 0 (length ends))

-- each host with its end, and so many steps, as the search counted them
abbrev pub ends_line : List (List ℕ) → List End → ℕ → List ℕ
ends_line names ends steps = end_parts names ends ++ line (codes "after") (decimal steps ∷ [])

-- the bound that was met, if one was, and how many worlds were found
abbrev pub bound_line : ℕ → Option Bound → List ℕ
bound_line worlds None = line (codes "bound") (decimal worlds ∷ [])
bound_line worlds (Some Worlds) = line (codes "bound") (codes "worlds" ∷ decimal worlds ∷ [])
bound_line worlds (Some Depth) = line (codes "bound") (codes "depth" ∷ decimal worlds ∷ [])
bound_line worlds (Some Memory) = line (codes "bound") (codes "memory" ∷ decimal worlds ∷ [])

-- that there are no others, and how many worlds were found; or the bound
abbrev pub last_line : Bool → ℕ → Option Bound → List ℕ
last_line true worlds bound = line (codes "all") (decimal worlds ∷ codes "worlds" ∷ [])
last_line false worlds bound = bound_line worlds bound

abbrev pub ends_text : List (List ℕ) → Ends → List ℕ
ends_text names e =
    codes "fence-ends 1\n"
    ++ (flat_map (λ (t : Together). ends_line names t.ends.items t.steps) e.together.items
    ++ last_line e.are_all e.worlds e.bound)

-- a run in the manner of a witness
abbrev pub found_text : List (List ℕ) → CertifiedRun → ℕ → List ℕ
found_text names run steps = codes "fence-witness 1\nends " ++ (ends_line names run.ends.items steps ++ run_text_of names run)

-- that, or that there is none, or the bound
abbrev pub sought_text : List (List ℕ) → Sought → List ℕ
sought_text names (Found run steps) = found_text names run steps
sought_text names (Never worlds) = line (codes "never") (decimal worlds ∷ [])
sought_text names (Nothing worlds bound) = bound_line worlds bound
