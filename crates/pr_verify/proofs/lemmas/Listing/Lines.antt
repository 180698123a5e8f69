-- The lines of the places of a script: they are those of its sends, and lead to one another.
use Rattle.pr_verify.proofs.Common.{◌≡◌, ℕ, zero, suc, ◌<◌, true, ◌⊎◌, List, [], ◌∷◌, ◌++◌, map, length, nat_lt, nat_le, slice_index_or, Contains, sym, refl, ap, ◌∙◌, subst, inl, inr, arith, ltb-true, and_parts, Contains-append_left, Contains-append_right, Contains-append_cases, rise_above, script_fits, Stmt, sends, repeats, Stmts, none, more, Arms, no_arm, arm, out_of, head_of, head_of_all, first_of, round, Place, next_of, place, places_in, places, places_of_arms, places_of, first_lines}
use Rattle.std.proofs.lemmas.List.{map-append}
use Rattle.pr_script.specs.Grammar as grammar
use Rattle.pr_script.specs.Grammar.{lines_of_all, lines_of_arms, statements_fit, count_of_all}
use Rattle.pr_verify.specs.declared.head.Head.{Head}
use Rattle.pr_verify.specs.declared.head.Head.TheVariants.{Line, Falls, Breaks, Stops}
use Rattle.pr_verify.specs.Places.{then_head, lines_of}
use Rattle.pr_verify.proofs.lemmas.Places.Successors.{IsWithin}
use Rattle.pr_verify.proofs.lemmas.Listing.WrittenPlaces.{first_or_rest, nothing_in}

abbrev pub line_of : Place → ℕ
line_of p = p.line

-- ---- the lines of the places are those of the sends

mutual
  lines_in : (s : Stmt) (after broken : List ℕ) → map line_of (places_in s after broken) ≡ grammar.lines_of s
  lines_in (sends n c a) after broken = ap (λ ls. n ∷ ls) (lines_in_arms a after broken)
  lines_in (repeats n b) after broken = lines_among b (round n b after) after
  lines_in _ after broken = refl

  lines_among : (b : Stmts) (after broken : List ℕ) → map line_of (places b after broken) ≡ lines_of_all b
  lines_among none after broken = refl
  lines_among (more s rest) after broken =
      map-append line_of (places_in s (first_of rest after broken) broken) (places rest after broken)
      ∙ ap (λ ls. ls ++ map line_of (places rest after broken)) (lines_in s (first_of rest after broken) broken)
      ∙ ap (λ ls. grammar.lines_of s ++ ls) (lines_among rest after broken)

  lines_in_arms : (a : Arms) (after broken : List ℕ) → map line_of (places_of_arms a after broken) ≡ lines_of_arms a
  lines_in_arms no_arm after broken = refl
  lines_in_arms (arm t body rest) after broken =
      map-append line_of (places body after broken) (places_of_arms rest after broken)
      ∙ ap (λ ls. ls ++ map line_of (places_of_arms rest after broken)) (lines_among body after broken)
      ∙ ap (λ ls. lines_of_all body ++ ls) (lines_in_arms rest after broken)

pub lines_of-places_of : (b : Stmts) → map line_of (places_of b) ≡ lines_of_all b
lines_of-places_of b = lines_among b [] []

-- they rise
pub places_rise : (keys : List ℕ) (b : Stmts) → script_fits keys b ≡ true → rise_above 0 (map line_of (places_of b)) ≡ true
places_rise keys b fits =
    ap (rise_above 0) (lines_of-places_of b)
    ∙ (and_parts (nat_le (count_of_all b) 512) (rise_above 0 (lines_of_all b)) (and_parts (statements_fit keys 0 0 b) _ fits).1).1

above_all : (m : ℕ) (ls : List ℕ) (k d : ℕ) → rise_above m ls ≡ true → k < length ls → m < slice_index_or ls k d
above_all m [] k d rise small = absurd (omega arith)
above_all m (n ∷ ns) zero d rise small = ltb-true m n (and_parts (nat_lt m n) (rise_above n ns) rise).0
above_all m (n ∷ ns) (suc k) d rise small =
    let parts = and_parts (nat_lt m n) (rise_above n ns) rise in
    let first = ltb-true m n parts.0 in
    let rest = above_all n ns k d parts.1 (omega arith) in
    omega arith

-- so a later one is greater
pub later_line : (m : ℕ) (ls : List ℕ) (j k d e : ℕ) → rise_above m ls ≡ true → j < k → k < length ls → slice_index_or ls j d < slice_index_or ls k e
later_line m (n ∷ ns) zero (suc k) d e rise before small = above_all n ns k e (and_parts (nat_lt m n) (rise_above n ns) rise).1 (omega arith)
later_line m (n ∷ ns) (suc j) (suc k) d e rise before small =
    later_line n ns j k d e (and_parts (nat_lt m n) (rise_above n ns) rise).1 (omega arith) (omega arith)
later_line m _ _ _ d e rise before small = absurd (omega arith)

-- ---- the first line is one of them

line_before : (h k : Head) (n : ℕ) → then_head h k ≡ Line n → (h ≡ Line n) ⊎ (k ≡ Line n)
line_before (Line m) k n is = inl is
line_before Falls k n is = inr is
line_before _ k n is = cc

line_inside : (h : Head) (n : ℕ) → out_of h ≡ Line n → h ≡ Line n
line_inside (Line m) n is = is
line_inside _ n is = cc

same_line : (m n : ℕ) → Line m ≡ Line n → m ≡ n
same_line m n is = cc

at_first : (n : ℕ) (ls : List ℕ) (m : ℕ) → n ≡ m → Contains (n ∷ ls) m
at_first n ls m is = (0, omega arith, is)

mutual
  head_in_statement : (s : Stmt) (n : ℕ) → head_of s ≡ Line n → Contains (grammar.lines_of s) n
  head_in_statement (sends m c a) n is = at_first m (lines_of_arms a) n (same_line m n is)
  head_in_statement (repeats (suc k) b) n is = head_in_statements b n (line_inside (head_of_all b) n is)
  head_in_statement _ n is = cc

  head_in_statements : (b : Stmts) (n : ℕ) → head_of_all b ≡ Line n → Contains (lines_of_all b) n
  head_in_statements none n is = cc
  head_in_statements (more s rest) n is = elim (line_before (head_of s) (head_of_all rest) n is) [
    | inl here ↦ Contains-append_left (grammar.lines_of s) (lines_of_all rest) n (head_in_statement s n here)
    | inr later ↦ Contains-append_right (grammar.lines_of s) (lines_of_all rest) n (head_in_statements rest n later)
  ]

-- ---- where they lead

leads : (h : Head) (after broken all : List ℕ) → ((n : ℕ) → h ≡ Line n → Contains all n) → IsWithin after all → IsWithin broken all
    → IsWithin (lines_of h after broken) all
leads (Line m) after broken all line then_these or_those n there = elim (first_or_rest m [] n there) [
  | inl same ↦ line n (ap Line same)
  | inr never ↦ nothing_in n never
]
leads Falls after broken all line then_these or_those n there = then_these n there
leads Breaks after broken all line then_these or_those n there = or_those n there
leads Stops after broken all line then_these or_those n there = nothing_in n there

first_among : (b : Stmts) (after broken all : List ℕ) → IsWithin (lines_of_all b) all → IsWithin after all → IsWithin broken all
    → IsWithin (first_of b after broken) all
first_among b after broken all mine = leads (head_of_all b) after broken all (λ n is. mine n (head_in_statements b n is))

both_among : (ls ms all : List ℕ) → IsWithin ls all → IsWithin ms all → IsWithin (ls ++ ms) all
both_among ls ms all one two n there = elim (Contains-append_cases ls ms n there) [ inl here ↦ one n here | inr later ↦ two n later ]

round_among : (k : ℕ) (b : Stmts) (past all : List ℕ) → IsWithin (lines_of_all b) all → IsWithin past all → IsWithin (round k b past) all
round_among (suc (suc k)) b past all mine out = both_among (first_of b past past) past all (first_among b past past all mine out out) out
round_among _ b past all mine out = out

next_among : (a : Arms) (after broken all : List ℕ) → IsWithin (lines_of_arms a) all → IsWithin after all → IsWithin broken all
    → (ls : List ℕ) → Contains (next_of a after broken) ls → IsWithin ls all
next_among no_arm after broken all mine then_these or_those ls there = nothing_in ls there
next_among (arm t body rest) after broken all mine then_these or_those ls there =
    elim (first_or_rest (first_of body after broken) (next_of rest after broken) ls there) [
      | inl same ↦ subst (λ ms. IsWithin ms all) same
          (first_among body after broken all (λ n is. mine n (Contains-append_left (lines_of_all body) (lines_of_arms rest) n is)) then_these or_those)
      | inr later ↦ next_among rest after broken all (λ n is. mine n (Contains-append_right (lines_of_all body) (lines_of_arms rest) n is)) then_these or_those ls later
    ]

-- each arm of the place leads to some of these lines
abbrev pub LeadsTo : List ℕ → Place → Type 0
LeadsTo all p = (ls : List ℕ) → Contains p.next ls → IsWithin ls all

mutual
  from_statement : (s : Stmt) (after broken all : List ℕ) → IsWithin (grammar.lines_of s) all → IsWithin after all → IsWithin broken all
      → (p : Place) → Contains (places_in s after broken) p → LeadsTo all p
  from_statement (sends m c a) after broken all mine then_these or_those p there =
      let arms : IsWithin (lines_of_arms a) all = λ n is. mine n (Contains-append_right (m ∷ []) (lines_of_arms a) n is) in
      elim (first_or_rest (place m c a after broken) (places_of_arms a after broken) p there) [
        | inl same ↦ subst (LeadsTo all) same (next_among a after broken all arms then_these or_those)
        | inr among ↦ from_arms a after broken all arms then_these or_those p among
      ]
  from_statement (repeats k b) after broken all mine then_these or_those p there =
      from_statements b (round k b after) after all mine (round_among k b after all mine then_these) then_these p there
  from_statement _ after broken all mine then_these or_those p there = nothing_in p there

  from_statements : (b : Stmts) (after broken all : List ℕ) → IsWithin (lines_of_all b) all → IsWithin after all → IsWithin broken all
      → (p : Place) → Contains (places b after broken) p → LeadsTo all p
  from_statements none after broken all mine then_these or_those p there = nothing_in p there
  from_statements (more s rest) after broken all mine then_these or_those p there =
      let first : IsWithin (grammar.lines_of s) all = λ n is. mine n (Contains-append_left (grammar.lines_of s) (lines_of_all rest) n is) in
      let others : IsWithin (lines_of_all rest) all = λ n is. mine n (Contains-append_right (grammar.lines_of s) (lines_of_all rest) n is) in
      elim (Contains-append_cases (places_in s (first_of rest after broken) broken) (places rest after broken) p there) [
        | inl here ↦ from_statement s (first_of rest after broken) broken all first (first_among rest after broken all others then_these or_those) or_those p here
        | inr later ↦ from_statements rest after broken all others then_these or_those p later
      ]

  from_arms : (a : Arms) (after broken all : List ℕ) → IsWithin (lines_of_arms a) all → IsWithin after all → IsWithin broken all
      → (p : Place) → Contains (places_of_arms a after broken) p → LeadsTo all p
  from_arms no_arm after broken all mine then_these or_those p there = nothing_in p there
  from_arms (arm t body rest) after broken all mine then_these or_those p there =
      elim (Contains-append_cases (places body after broken) (places_of_arms rest after broken) p there) [
        | inl here ↦ from_statements body after broken all (λ n is. mine n (Contains-append_left (lines_of_all body) (lines_of_arms rest) n is)) then_these or_those p here
        | inr later ↦ from_arms rest after broken all (λ n is. mine n (Contains-append_right (lines_of_all body) (lines_of_arms rest) n is)) then_these or_those p later
      ]

-- The arms of each place lead to lines of places.
pub places_lead : (b : Stmts) (p : Place) → Contains (places_of b) p → LeadsTo (map line_of (places_of b)) p
places_lead b p there =
    subst (λ all. LeadsTo all p) (sym (lines_of-places_of b)) (from_statements b [] [] (lines_of_all b) (λ n is. is) (λ n is. nothing_in n is) (λ n is. nothing_in n is) p there)

-- So do the first lines.
pub first_lines_lead : (b : Stmts) → IsWithin (first_lines b) (map line_of (places_of b))
first_lines_lead b = subst (IsWithin (first_lines b)) (sym (lines_of-places_of b)) (first_among b [] [] (lines_of_all b) (λ n is. is) (λ n is. nothing_in n is) (λ n is. nothing_in n is))
