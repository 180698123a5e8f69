-- Agrees with SAM-5, 'Unit attention conditions'; docs/MODEL.md, 'Attentions'.
-- The attention of a code, and what is asked of a set of codes that are pending.
use Rattle.std.specs.Prelude.{◌≡◌, ℕ, ◌≤◌, ◌==◌, Bool, true, IsTrue, find, Option}
use Rattle.std.specs.FinSet as set
use Rattle.std.specs.List.{list_any}
use Rattle.pr_cdb.specs.declared.reply.Sense.{Sense}
use Rattle.pr_attention.specs.declared.attention.Attention.{Attention}
use Rattle.pr_attention.specs.Attentions.{code_of, each_attention, attentions, is_attention, attention_sense, Codes}

-- the one with this code
abbrev pub attention_with : ℕ → Option Attention
attention_with code = find (λ a. code == code_of a) each_attention

-- nothing is pending
abbrev pub no_code : Codes
no_code = set.empty

-- every member is one of the four codes
abbrev pub AreAttentions : Codes → Type 0
AreAttentions codes = (code : ℕ) → set.contains codes code ≡ true → IsTrue (is_attention code)

-- one of the four is there
abbrev pub has_any : Codes → Bool
has_any codes = list_any (set.contains codes) attentions

-- of the codes, this is the lowest
pub record IsLowest (codes : Codes) (code : ℕ) : Type 0 where
  pub pending : set.contains codes code ≡ true
  pub least : (other : ℕ) → set.contains codes other ≡ true → code ≤ other

-- The sense reports the lowest code, which alone is pending no more.
pub record ReportsLowest (codes : Codes) (sense : Sense) (after : Codes) : Type 0 where
  pub code : ℕ
  pub lowest : IsLowest codes code
  pub reported : sense ≡ attention_sense code
  pub removed : after ≡ set.remove codes code
