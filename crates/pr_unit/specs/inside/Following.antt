-- A reply by what it may report or do.
use Rattle.std.specs.Prelude.{◌≡◌, ℕ, Bool, true, false, IsTrue}
use Rattle.pr_cdb.specs.declared.command.Command.{Command}
use Rattle.pr_cdb.specs.declared.reply.Reply.{Reply}
use Rattle.pr_cdb.specs.declared.wire.Request.{Request}
use Rattle.pr_unit.specs.Attentions.{is_attention}
use Rattle.pr_unit.specs.UnitStates.{UnitState, is_pending, after_report, effect}
use Rattle.pr_unit.specs.Replies.{good, report, data_of}
use Rattle.pr_unit.specs.Steps.{Reports}

-- the attention is not pending, or the reply does not report it
abbrev pub IsUnreported : UnitState → ℕ → Request → Reply → ℕ → Type 0
IsUnreported u h q r code = is_pending u h code ≡ true → r ≡ report q code → ⊥

-- True: the reply reports this attention, which was pending and alone is no more. False: it does not, or
-- the attention is not pending, and nothing changes.
abbrev pub IsReported : UnitState → ℕ → Request → Reply → ℕ → Bool → UnitState → Type 0
IsReported u h q r code true u' = (is_pending u h code ≡ true) × (r ≡ report q code) × (u' ≡ after_report u h code)
IsReported u h q r code false u' = (u' ≡ u) × IsUnreported u h q r code

-- the same of some attention
abbrev pub IsAnyReported : UnitState → ℕ → Request → Reply → Bool → UnitState → Type 0
IsAnyReported u h q r true u' = Reports u h q r u'
IsAnyReported u h q r false u' = (u' ≡ u) × ((code : ℕ) → IsTrue (is_attention code) → IsUnreported u h q r code)

-- the same of the reply of a command that ends GOOD
abbrev pub IsDoneSo : UnitState → ℕ → Command → Reply → Bool → UnitState → Type 0
IsDoneSo u h c r true u' = (r ≡ good (data_of u.registry c)) × (u' ≡ effect u h c)
IsDoneSo u h c r false u' = (u' ≡ u) × (r ≡ good (data_of u.registry c) → ⊥)
