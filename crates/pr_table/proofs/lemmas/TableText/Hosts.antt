-- The table of a host that has a script.
use Rattle.pr_table.proofs.Common.{◌≡◌, ℕ, List, [], ◌∷◌, ap, ◌∙◌, Stmts, table_rows}
use Rattle.std.proofs.Common.{zero, suc, map, Some, None}
use Rattle.std.specs.Prelude.{slice_index_or}
use Rattle.std.specs.List.{slice_get}
use Rattle.pr_roles.specs.Scenarios.{Nexus, Scenario, Scripted, nexus, task}
use Rattle.pr_trace.specs.TraceText.{name_of, names_in}
use Rattle.pr_table.specs.TableText.{host_table_text, table_text, task_table_text}

named : (ns : List Nexus) (h : ℕ) (m : Nexus) → slice_get ns h ≡ Some m → slice_index_or (map (λ n. n.name) ns) h [] ≡ m.name
named [] h m is = let bad : None ≡ Some m = is in absurd (cc)
named (n ∷ ns) zero m is = let same : n ≡ m = cc in ap (λ k. k.name) same
named (n ∷ ns) (suc h) m is = named ns h m is

pub scripted_text : (s : Scenario) (h : ℕ) (m : Nexus) (b : Stmts) (budget : ℕ) → nexus s h ≡ Some m → task s h ≡ Some (Scripted b budget)
    → host_table_text s h ≡ table_text s.version m.name budget (table_rows b)
scripted_text s h m b budget there scripted =
    ap (task_table_text s.version (name_of (names_in s) h)) scripted
    ∙ ap (λ name. table_text s.version name budget (table_rows b)) (named s.nexuses h m there)
