-- What sets of codes contain, and that they are equal where they contain the same.
use Rattle.std.proofs.Common.{◌≡◌, ℕ, Bool, true, false, ◌↔◌, not, IsTrue, refl, sym, ap, ◌∙◌, arith}
use Rattle.std.specs.FinSet as set
use Rattle.std.proofs.lemmas.Bool.{false≢true}
use Rattle.std.proofs.lemmas.Bool.Decides.{nat_tests}
use Rattle.std.proofs.lemmas.List.Folds.{list_any_none}
pub use Rattle.pr_sets.proofs.lemmas.Members.{same_numbers as same_codes, contains-empty as contains-no_code, contains-insert as contains-insert_code, contains-remove as contains-remove_code}
use Rattle.pr_attention.specs.declared.attention.Attention.{Attention}
use Rattle.pr_attention.specs.declared.attention.Attention.TheVariants.{PowerOn}
use Rattle.pr_attention.specs.Attentions.{attentions, is_attention, code_of, Codes}
use Rattle.pr_attention.specs.CodeSets.{has_any, no_code, AreAttentions}

-- what a set of codes contains after a change
pub ruleset code_reads = (contains-no_code, contains-insert_code, contains-remove_code)

-- ---- whether any of the four codes is there

pub any-no_code : has_any no_code ≡ false
any-no_code = list_any_none (λ code. set.contains no_code code) attentions (λ i d there. none _)
  where
    none : (code : ℕ) → set.contains no_code code ≡ false
    none code = contains-no_code code

pub any-from_member : (s : Codes) (code : ℕ) → AreAttentions s → set.contains s code ≡ true → has_any s ≡ true
any-from_member s code are there = let known = are code there in grind (arith, nat_tests)

-- a test that tells whether nothing is there tells whether none of the four is
pub any-decides : (s : Codes) (b : Bool) → AreAttentions s → (IsTrue b ↔ (s ≡ no_code)) → b ≡ not (has_any s)
any-decides s true are tells = ap not (sym (ap has_any (tells.0 refl) ∙ any-no_code))
any-decides s false are tells = at (has_any s) refl
  where
    nothing : has_any s ≡ false → (q : ℕ) (b : Bool) → set.contains s q ≡ b → b ≡ set.contains no_code q
    nothing none q true there = absurd (false≢true (sym none ∙ any-from_member s q are there))
    nothing none q false there = sym (contains-no_code q)

    at : (b : Bool) → has_any s ≡ b → false ≡ not (has_any s)
    at true some = ap not (sym some)
    at false none = absurd (false≢true (tells.1 (same_codes s no_code (λ q. nothing none q (set.contains s q) refl))))

-- ---- the members stay among the four codes

pub is_attention-code_of : (a : Attention) → IsTrue (is_attention (code_of a))
is_attention-code_of PowerOn = refl
is_attention-code_of _ = refl

pub AreAttentions-no_code : AreAttentions no_code
AreAttentions-no_code q there = let none = contains-no_code q in cc
