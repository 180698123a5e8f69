-- Agrees with docs/MODEL.md, 'Taking a reply'.
-- Which scripts are ready to send, and which replies trap one.
use Rattle.std.specs.Prelude.{◌≡◌, Bool, true, false, IsTrue, [], ◌∷◌, None}
use Rattle.pr_cdb.specs.declared.reply.Reply.{Reply}
use Rattle.pr_script.specs.Scripts.{sends, repeats, breaks, stops, statement, mark, Configuration}
use Rattle.pr_script.specs.Takes.{take}

-- a send comes first
abbrev pub is_ready : Configuration → Bool
is_ready [] = false
is_ready (mark ∷ l) = false
is_ready ((statement (sends n c a)) ∷ l) = true
is_ready ((statement (repeats n b)) ∷ l) = false
is_ready ((statement breaks) ∷ l) = false
is_ready ((statement (stops w)) ∷ l) = false

abbrev pub IsReady : Configuration → Type 0
IsReady l = IsTrue (is_ready l)

-- a script that is ready and has no arm for the reply
abbrev pub Traps : Configuration → Reply → Type 0
Traps l r = IsReady l × (take l r ≡ None)
