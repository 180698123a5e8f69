-- A trace is read in three steps: the first line, the entries, and the lines behind them.
use Rattle.pr_trace.proofs.Common.{◌≡◌, ℕ, ◌≤◌, List, [], length, IfSome, Some, None, Ok, Option, Result, sym, ap, ◌∙◌, subst, prepend_known, MOST_NEXUSES, scenario_of, Item, Parts, and_then, later_lines, items_of, trace_in, lines, names_in, names_of, Leads, Fits, trace_of}
use Rattle.std.proofs.KnownBytes.{prepend_known-nil}
use Rattle.pr_roles.specs.declared.parts.Nexus.{Nexus}
use Rattle.pr_roles.proofs.lemmas.Starts.AllowedStarts.{few_parts}
use Rattle.pr_trace.specs.declared.trace_error.TraceError.{TraceError}
use Rattle.pr_trace.specs.declared.trace_error.TraceError.TheVariants.{ReadFault, Memory}
use Rattle.pr_trace.specs.TraceReadings.{Faults}
use Rattle.pr_trace.specs.inside.LinesAhead.{Between, FirstRead, ItemsRead}
use Rattle.pr_trace.proofs.lemmas.TraceText.Lines.{names_of_scenario}

faults_along : {A : Type 0} (e : TraceError) (r s : Result A TraceError) → r ≡ s → Faults e s → Faults e r
faults_along e r s h f = rw h f

faults_then : {A B : Type 0} (e : TraceError) (r : Result A TraceError) (f : A → Result B TraceError) → Faults e r → Faults e (and_then r f)
faults_then ReadFault r f h = tt
faults_then Memory r f h = tt
faults_then _ r f h = ap (λ q. and_then q f) h

module _ (version : ℕ) (names : List (List ℕ)) where
  first_by : (start mid : Option (List ℕ)) (e : TraceError) → Between (FirstRead version names) start mid → IfSome mid (λ text. Faults e (items_of version names 0 (lines text)))
      → IfSome start (λ text. Faults e (trace_of version names text))
  unfolding trace_of
  first_by None mid e h k = tt
  first_by (Some old) None e h k = absurd h
  first_by (Some old) (Some new) e h k = faults_along e (trace_in version names (lines old)) _ h k

  entries_by : (es : List Item) (start mid : Option (List ℕ)) (e : TraceError) → Between (ItemsRead version names es) start mid → IfSome mid (λ text. Faults e (later_lines (length es) 0 (lines text)))
      → IfSome start (λ text. Faults e (items_of version names 0 (lines text)))
  entries_by es None mid e h k = tt
  entries_by es (Some old) None e h k = absurd h
  entries_by es (Some old) (Some new) e h k = faults_along e (items_of version names 0 (lines old)) _ h (faults_then e (later_lines (length es) 0 (lines new)) (λ _. Ok es) k)

  all_by : (es : List Item) (start mid last : Option (List ℕ)) → Between (FirstRead version names) start mid → Between (ItemsRead version names es) mid last
      → IfSome last (λ text. later_lines (length es) 0 (lines text) ≡ Ok tt) → IfSome start (λ text. trace_of version names text ≡ Ok es)
  unfolding trace_of
  all_by es None mid last h i k = tt
  all_by es (Some old) None last h i k = absurd h
  all_by es (Some old) (Some new) None h i k = absurd i
  all_by es (Some old) (Some new) (Some end) h i k = h ∙ (i ∙ ap (λ r. and_then r (λ _. Ok es)) k)

-- nothing was read ahead at the start
module _ {held : List ℕ} (known : Option (List ℕ)) (empty : held ≡ []) (version wanted : ℕ) (dated : version ≡ wanted) where
  nothing_held : prepend_known held known ≡ known
  nothing_held = ap (λ l. prepend_known l known) empty ∙ prepend_known-nil known

  -- the first line has a fault
  pub first_fault : (names : List (List ℕ)) (e : TraceError) → IfSome (prepend_known held known) (λ text. Faults e (trace_in version names (lines text))) → IfSome known (λ text. Faults e (trace_of wanted names text))
  unfolding trace_of
  first_fault names e h =
      subst (λ v. IfSome known (λ text. Faults e (trace_in v names (lines text)))) dated
      (subst (λ k. IfSome k (λ text. Faults e (trace_in version names (lines text)))) nothing_held h)

  module _ (names all : List (List ℕ)) (same : names ≡ all) {mid : Option (List ℕ)} (first : Leads (FirstRead version names) (prepend_known held known) mid) where
    fault_along : (e : TraceError) → IfSome (prepend_known held known) (λ text. Faults e (trace_of version names text)) → IfSome known (λ text. Faults e (trace_of wanted all text))
    fault_along e h =
        subst (λ v. IfSome known (λ text. Faults e (trace_of v all text))) dated
        (subst (λ ns. IfSome known (λ text. Faults e (trace_of version ns text))) same (subst (λ k. IfSome k (λ text. Faults e (trace_of version names text))) nothing_held h))

    -- an entry has a fault
    pub entry_fault : (e : TraceError) → IfSome mid (λ text. Faults e (items_of version names 0 (lines text))) → IfSome known (λ text. Faults e (trace_of wanted all text))
    entry_fault e h = fault_along e (first_by version names (prepend_known held known) mid e first.holds h)

    module _ (es : List Item) {last : Option (List ℕ)} (entries : Leads (ItemsRead version names es) mid last) where
      -- a later line has a fault
      pub later_fault : (e : TraceError) → IfSome last (λ text. Faults e (later_lines (length es) 0 (lines text))) → IfSome known (λ text. Faults e (trace_of wanted all text))
      later_fault e h = entry_fault e (entries_by version names es mid last e entries.holds h)

      -- nothing has a fault
      pub all_read : IfSome last (λ text. later_lines (length es) 0 (lines text) ≡ Ok tt) → IfSome known (λ text. trace_of wanted all text ≡ Ok es)
      all_read h =
          subst (λ v. IfSome known (λ text. trace_of v all text ≡ Ok es)) dated
          (subst (λ ns. IfSome known (λ text. trace_of version ns text ≡ Ok es)) same
          (subst (λ k. IfSome k (λ text. trace_of version names text ≡ Ok es)) nothing_held (all_by version names es (prepend_known held known) mid last first.holds entries.holds h)))

-- the names of the parts that were read out
pub names_read : (p q : Parts) (nexuses : List Nexus) → q ≡ p → nexuses ≡ q.nexuses.items → names_of nexuses ≡ names_in (scenario_of p)
names_read p q nexuses same items = ap names_of (items ∙ ap (λ o. o.nexuses.items) same) ∙ names_of_scenario p

pub few_nexuses : (p q : Parts) (nexuses : List Nexus) → q ≡ p → nexuses ≡ q.nexuses.items → Fits (scenario_of p) → length nexuses ≤ MOST_NEXUSES
few_nexuses p q nexuses same items fits = subst (λ ns. length ns ≤ MOST_NEXUSES) (sym (items ∙ ap (λ o. o.nexuses.items) same)) (few_parts p fits)
