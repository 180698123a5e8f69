-- Agrees with docs/FORMATS.md, 'Witness text'.
-- The text of a witness: what is broken, the state from which the run starts, and the run as a trace has it.
use Rattle.std.specs.Prelude.{ℕ, ◌==◌, Bool, true, false, if◌then◌else◌, List, [], ◌∷◌, ◌++◌, codes, map, slice_index, Option, None, Some}
use Rattle.std.specs.Fmt.{decimal}
use Rattle.std.specs.List.{flat_map, list_any, range_with_len}
use Rattle.pr_attention.specs.Attentions.{attentions, code_of, each_attention}
use Rattle.pr_registry.specs.Registrations.{State, key_of}
use Rattle.pr_registry.specs.declared.held.Held.{Held}
use Rattle.pr_unit.specs.UnitStates.{UnitState, is_pending}
use Rattle.pr_roles.specs.declared.item.Item.{Item}
use Rattle.pr_audit.specs.Ends.{ending_of}
use Rattle.pr_output.specs.PrintedLines.{line, attention_word, class_word, generation_word, key_word}
use Rattle.pr_trace.specs.TraceText.{held_word, name_of, trace_body}
use Rattle.pr_report.specs.Verdicts.{no_arm_words, place_words}
use Rattle.pr_witness.specs.declared.breach.Breach.{Breach}
use Rattle.pr_witness.specs.declared.breach.CertifiedRun.{CertifiedRun}
use Rattle.pr_explore.specs.declared.broken.Broken.{Broken as Told}
use Rattle.pr_explore.specs.declared.broken.Broken.TheVariants.{NoArm, OutOfRole, OverBudget}
use Rattle.pr_witness.specs.Classes.{last_class}

-- What is broken.

abbrev pub told_word : Bool → List ℕ
told_word true = codes "told"
told_word false = codes "other"

abbrev pub out_of_role_words : List ℕ → ℕ → List (List ℕ)
out_of_role_words name at = place_words (codes "OutOfRole") name at

-- of a budget, how many commands were sent
abbrev pub over_sent_words : List ℕ → ℕ → List (List ℕ)
over_sent_words name sent = codes "OverBudget" ∷ codes "host" ∷ name ∷ codes "sent" ∷ decimal sent ∷ []

-- in the words of a verdict, but for a budget
abbrev pub broken_words : List (List ℕ) → Told → List Item → List ℕ → List (List ℕ)
broken_words names (NoArm host at) history counts = no_arm_words (name_of names host) at (class_word (last_class history))
broken_words names (OutOfRole host at) history counts = out_of_role_words (name_of names host) at
broken_words names (OverBudget host) history counts = over_sent_words (name_of names host) (slice_index counts host)

abbrev pub broken_line : List (List ℕ) → Breach → Bool → List ℕ
broken_line names b told = line (told_word told) (broken_words names b.broken b.run.history.items b.run.counts.items)

-- The start, in the words of a scenario's own lines.

abbrev pub start_word : Option ℕ → List ℕ
start_word None = codes "free"
start_word (Some key) = key_word key

abbrev pub start_line : List (List ℕ) → State → ℕ → List ℕ
start_line names unit host = line (codes "start") (name_of names host ∷ start_word (key_of unit host) ∷ [])

-- a code that is pending, after a space
abbrev pub code_word : (ℕ → Bool) → ℕ → List ℕ
code_word pending code = if pending code then codes " " ++ attention_word code else []

-- the codes that are pending, the lowest first
abbrev pub code_words : (ℕ → Bool) → List ℕ
code_words pending = flat_map (λ a. code_word pending (code_of a)) each_attention

abbrev pub some_pending_line : List ℕ → (ℕ → Bool) → List ℕ
some_pending_line name pending = codes "pending " ++ (name ++ (code_words pending ++ codes "\n"))

-- there is no line where nothing is pending
abbrev pub pending_line : List ℕ → (ℕ → Bool) → List ℕ
pending_line name pending = if list_any pending attentions then some_pending_line name pending else []

abbrev pub held_line : List (List ℕ) → Option Held → List ℕ
held_line names held = line (codes "reservation") (held_word names held ∷ [])

abbrev pub generation_line : ℕ → List ℕ
generation_line generation = if generation == 0 then [] else line (codes "generation") (generation_word generation ∷ [])

abbrev pub start_lines : List (List ℕ) → UnitState → List ℕ
start_lines names u = flat_map (start_line names u.registry) (range_with_len 0 u.registry.hosts)

abbrev pub pending_lines : List (List ℕ) → UnitState → List ℕ
pending_lines names u = flat_map (λ host. pending_line (name_of names host) (is_pending u host)) (range_with_len 0 u.registry.hosts)

-- what stands of the start above the items
abbrev pub run_head : List (List ℕ) → UnitState → List ℕ
run_head names u = start_lines names u ++ (pending_lines names u ++ (held_line names u.registry.held ++ generation_line u.registry.generation))

-- the run: its start, and what happened
abbrev pub run_text_of : List (List ℕ) → CertifiedRun → List ℕ
run_text_of names c = run_head names c.start ++ trace_body names c.history.items c.unit.registry (map ending_of c.ends.items) c.counts.items

abbrev pub witness_text : List (List ℕ) → Breach → Bool → List ℕ
witness_text names b told = codes "fence-witness 1\n" ++ (broken_line names b told ++ run_text_of names b.run)
