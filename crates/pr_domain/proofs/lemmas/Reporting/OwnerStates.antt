-- What is pending for the owner, and who is registered, after a command of the owner's.
use Rattle.pr_domain.proofs.Common.{◌≡◌, ℕ, suc, ◌≤◌, true, false, not, ◌&&◌, ◌⊎◌, List, [], ◌∷◌, length, ◌==◌, slice_get, Some, None, Option, sym, refl, ap, ◌∙◌, inl, inr, arith, lit<, list_any, false≢true, or_cases, nat_tests, slice_get_within, Command, code_of, codes_of, Attention, State, key_of, UnitState, is_pending, is_any_pending, effect, after_report, is_written, Scope, key_at, Attentions, IsSo, eq-eqb}
use Rattle.std.specs.FinSet as set
use Rattle.std.proofs.lemmas.List.Folds.{list_any_none}
use Rattle.pr_attention.specs.Attentions.{attentions}
use Rattle.std.proofs.lemmas.Bool.{false_from_ne_true}
use Rattle.pr_unit.specs.Demands.{demand_of}
use Rattle.pr_attention.proofs.lemmas.Sets.{same_codes, contains-no_code, contains-remove_code}
use Rattle.pr_attention.proofs.lemmas.Bits.{same_bits, codes_of-zero, AreAttentions-codes_of}
use Rattle.pr_attention.proofs.lemmas.FourCodes.{which}
use Rattle.pr_unit.specs.UnitStates.{registry_after}
use Rattle.pr_unit.proofs.lemmas.Attentions.Pairs.{contains-remove-pair}
use Rattle.pr_unit.proofs.lemmas.UnitStates.Effects.{own_pending, key_by}
use Rattle.pr_script.specs.Grammar.{is_declared}
use Rattle.std.specs.Option.{option_map_or}
use Rattle.pr_regions.proofs.lemmas.Purposes.Written.{written_declared}
use Rattle.pr_domain.specs.inside.Reporting.{IsAfter}
use Rattle.pr_domain.proofs.lemmas.Reporting.Ends.{any_pending}

-- ---- a report

left_after : (s : Scope) (u : UnitState) (a : Attention) (q : ℕ) → IsSo s u (Attentions q)
    → (code : ℕ) → is_pending (after_report u s.own (code_of a)) s.own code ≡ set.contains (set.remove (codes_of q) (code_of a)) code
left_after s u a q so code =
    contains-remove-pair u.pending (s.own, code_of a) (s.own, code)
    ∙ (λ i. not (eq-eqb s.own s.own refl i && code == code_of a) && so.1 code i)
    ∙ sym (contains-remove_code (codes_of q) (code_of a) code)

pub after_reported : (s : Scope) (u : UnitState) (a : Attention) (q n : ℕ) → IsSo s u (Attentions q) → IsAfter q a n → IsSo s (after_report u s.own (code_of a)) (Attentions n)
after_reported s u a q n so follows =
    (follows.0, λ code. left_after s u a q so code ∙ sym (ap (λ t. set.contains t code) follows.2))

pub reported_after : (s : Scope) (u : UnitState) (a : Attention) (q n : ℕ) → IsSo s u (Attentions q) → is_pending u s.own (code_of a) ≡ true
    → IsSo s (after_report u s.own (code_of a)) (Attentions n) → IsAfter q a n
reported_after s u a q n so there left =
    (left.0, sym (so.1 (code_of a)) ∙ there, same_codes _ _ (λ code. sym (left.1 code) ∙ left_after s u a q so code))

-- ---- nothing pending

pub none_of_zero : (code : ℕ) → set.contains (codes_of 0) code ≡ false
none_of_zero code = ap (λ (s : set.FinSet _). set.contains s code) codes_of-zero ∙ contains-no_code code

pub idle_from_zero : (s : Scope) (u : UnitState) → IsSo s u (Attentions 0) → is_any_pending u s.own ≡ false
idle_from_zero s u so = list_any_none (is_pending u s.own) attentions (λ i d there. none _)
  where
    none : (code : ℕ) → is_pending u s.own code ≡ false
    none code = so.1 code ∙ none_of_zero code

pub quiet_number : (s : Scope) (u : UnitState) (q : ℕ) → IsSo s u (Attentions q) → is_any_pending u s.own ≡ false → q ≡ 0
quiet_number s u q so quiet =
    same_bits q 0 so.0 (lit< tt) (same_codes _ _ (λ code. none code ∙ sym (contains-no_code code)) ∙ sym codes_of-zero)
  where
    none : (code : ℕ) → set.contains (codes_of q) code ≡ false
    none code = false_from_ne_true _ (λ there.
        let a = which code (AreAttentions-codes_of q code there) in
        false≢true (sym quiet ∙ any_pending u s.own a.0 (ap (is_pending u s.own) (sym a.1) ∙ so.1 code ∙ there)))

-- who ends GOOD is not told
pub untold_pending : (s : Scope) (u : UnitState) (c : Command) (q : ℕ) → IsSo s u (Attentions q) → IsSo s (effect u s.own c) (Attentions q)
untold_pending s u c q so = (so.0, λ code. own_pending u s.own c code ∙ so.1 code)

-- ---- registrations

-- a registration with a number
abbrev pub IsNumbered : List ℕ → Option ℕ → Type 0
IsNumbered keys key = (r : ℕ) × (r ≤ length keys) × (key ≡ key_at keys r)

numbered_none : (keys : List ℕ) → IsNumbered keys None
numbered_none keys = (0, omega arith, refl)

place_of_key : (keys : List ℕ) (k : ℕ) → list_any (λ key. key == k) keys ≡ true → (i : ℕ) × (slice_get keys i ≡ Some k)
place_of_key [] k is = absurd (false≢true is)
place_of_key (x ∷ xs) k is = at (or_cases (x == k) (list_any (λ key. key == k) xs) is) (place_of_key xs k)
  where
    at : ((x == k) ≡ true) ⊎ (list_any (λ key. key == k) xs ≡ true) → (list_any (λ key. key == k) xs ≡ true → (i : ℕ) × (slice_get xs i ≡ Some k))
        → (i : ℕ) × (slice_get (x ∷ xs) i ≡ Some k)
    at (inl here) rest = let same : x ≡ k = grind (arith, nat_tests) in (0, ap (λ n. Some n) same)
    at (inr later) rest = let found = rest later in (suc found.0, found.1)

numbered_key : (keys : List ℕ) (k : ℕ) → is_declared keys k ≡ true → IsNumbered keys (Some k)
numbered_key keys k is = let i = place_of_key keys k is in (suc i.0, slice_get_within keys i.0 k i.1, sym i.1)

-- what a text can write registers declared keys alone
pub numbered_after : (keys : List ℕ) (u : State) (h : ℕ) (c : Command) (g : ℕ) → is_written keys c ≡ true → IsNumbered keys (key_of u g) → IsNumbered keys (key_of (registry_after u h c) g)
numbered_after keys u h c g written is =
    key_by (IsNumbered keys) (numbered_none keys) u h g (demand_of c) is
    (λ k names. numbered_key keys k (sym (ap (λ (o : Option ℕ). option_map_or (is_declared keys) o true) names) ∙ written_declared keys c written))
