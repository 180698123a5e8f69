-- Agrees with docs/FORMATS.md, 'Statements'.
-- Where the next line stands: what is open there, and what may begin or end there.
use Rattle.std.specs.Prelude.{ℕ, List, [], ◌∷◌, Bool, ◌&&◌, false, ◌==◌, ◌||◌, not, true}
use Rattle.pr_cdb.specs.declared.command.Command.{Command}
use Rattle.pr_text.specs.Declarations.{OpenBlock, repeating, sending, OpenLines, Context, before_all, outside, in_script, in_plan}

-- this before the version, this outside, or what the script or the plan that is open gives
abbrev pub by_place : {A : Type 0} → A → A → (OpenLines → A) → (ℕ → List Command → A) → Context → A
by_place a b f g before_all = a
by_place a b f g outside = b
by_place a b f g (in_script o) = f o
by_place a b f g (in_plan h commands) = g h commands

abbrev pub is_before_all : Context → Bool
is_before_all p = by_place true false (λ o. false) (λ h commands. false) p

abbrev pub is_outside : Context → Bool
is_outside p = by_place false true (λ o. false) (λ h commands. false) p

-- what the script that is open gives, or this where none is
abbrev pub of_script : {A : Type 0} → A → (OpenLines → A) → Context → A
of_script a f p = by_place a a f (λ h commands. a) p

-- what the plan that is open gives by its guest and its commands, or this where none is
abbrev pub of_plan : {A : Type 0} → A → (ℕ → List Command → A) → Context → A
of_plan a f p = by_place a a (λ o. a) f p

-- ---- in a script

-- this where no block is open, this where the innermost is a repeat, or what a send gives by its command and
-- the number of its arms
abbrev pub by_innermost : {A : Type 0} → A → A → (Command → ℕ → A) → List OpenBlock → A
by_innermost a b f [] = a
by_innermost a b f (repeating ∷ bs) = b
by_innermost a b f ((sending c arms) ∷ bs) = f c arms

abbrev pub is_repeating : OpenBlock → Bool
is_repeating repeating = true
is_repeating (sending c n) = false

abbrev pub is_sending : OpenBlock → Bool
is_sending b = not (is_repeating b)

-- the innermost block is a send that has no arm yet, so that no statement may stand here
abbrev pub awaits_arm : List OpenBlock → Bool
awaits_arm bs = by_innermost false false (λ c arms. arms == 0) bs

-- the innermost block is a repeat
abbrev pub is_in_repeat : List OpenBlock → Bool
is_in_repeat bs = by_innermost false true (λ c arms. false) bs

-- neither a break nor a stop may stand here: they are no arm, and not the first statement of a repeat
abbrev pub awaits_more : OpenLines → Bool
awaits_more o = awaits_arm o.blocks || (is_in_repeat o.blocks && not o.begun)

-- a block is open; a repeat has a statement before it ends
abbrev pub may_close : List OpenBlock → Bool → Bool
may_close bs begun = by_innermost false begun (λ c arms. true) bs
