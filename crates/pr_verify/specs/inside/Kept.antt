-- Views and outlines as the program keeps them: by sets that take no memory.
use Rattle.std.specs.Prelude.{◌≡◌, ℕ, List, length}
use Rattle.pr_sets.specs.Kept.{numbers_of_bits}
use Rattle.pr_sets.specs.declared.word_set.WordSet.{WordSet}
use Rattle.pr_roles.specs.Scenarios.{Scenario}
use Rattle.pr_views.specs.declared.outline.OutlineBy.{OutlineBy}
use Rattle.pr_views.specs.declared.view.ViewOf.{ViewOf}

abbrev pub KeptView : Type 0
KeptView = ViewOf WordSet (record { members = λ s. numbers_of_bits s.bits; room = λ s. s.size })

abbrev pub KeptOutline : Type 0
KeptOutline = OutlineBy KeptView

-- a view with these keys, of so many nexuses; one that can be of this scenario
abbrev pub IsOf : List ℕ → ℕ → KeptView → Type 0
IsOf keys hosts v = (v.keys.items ≡ keys) × (v.hosts ≡ hosts)

abbrev pub IsMadeAs : Scenario → KeptView → Type 0
IsMadeAs s v = IsOf s.keys (length s.nexuses) v
