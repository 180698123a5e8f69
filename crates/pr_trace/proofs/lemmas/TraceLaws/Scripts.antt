-- All that is still to do of a script that fits can be written in a text: its commands, and the words that it stops with.
use Rattle.pr_trace.proofs.Common.{◌≡◌, ℕ, zero, suc, ◌+◌, Bool, true, false, ◌&&◌, List, [], ◌∷◌, nat_lt, Some, subst, list_all, option_map_or, and_parts, Command, Reply, is_name, Nexus}
use Rattle.std.specs.Prelude.{drop, map, option_map, slice_set, if◌then◌else◌}
use Rattle.std.specs.List.{slice_get}
use Rattle.std.proofs.lemmas.Option.{none-some}
use Rattle.pr_script.specs.declared.limits.TheConstants.{MOST_OPEN}
use Rattle.pr_script.specs.Scripts.{Stmt, sends, repeats, breaks, stops, Stmts, none, more, Arms, no_arm, arm, Configuration, statement, mark, before, turn, past_mark, becomes, settled_form, standing_of_items, ready, stopped}
use Rattle.pr_script.specs.Takes.{matches, first_match, take}
use Rattle.pr_script.specs.Grammar.{is_written, is_send_written, is_repeat_written, statement_fits, statements_fit, arms_fit, test_fits, script_fits}
use Rattle.pr_script.proofs.lemmas.Next.Settlement.{kept}
use Rattle.pr_roles.specs.Scenarios.{Task, Scripted, Planned}
use Rattle.pr_roles.specs.Fitting.{is_nexus, is_role, is_start, is_task}
use Rattle.pr_roles.specs.Worlds.{Control, Going, Trapped, Free, control_after, control_of, going_or_trapped, standing_of}

abbrev mutual
  pub IsWritten : List ℕ → Stmt → Type 0
  IsWritten keys (sends n c a) = (is_written keys c ≡ true) × ArmsWritten keys a
  IsWritten keys (repeats n b) = AreWritten keys b
  IsWritten keys breaks = Unit {0}
  IsWritten keys (stops w) = is_name w ≡ true

  pub AreWritten : List ℕ → Stmts → Type 0
  AreWritten keys none = Unit {0}
  AreWritten keys (more s rest) = IsWritten keys s × AreWritten keys rest

  pub ArmsWritten : List ℕ → Arms → Type 0
  ArmsWritten keys no_arm = Unit {0}
  ArmsWritten keys (arm t body rest) = AreWritten keys body × ArmsWritten keys rest

mutual
  statement_written : (keys : List ℕ) (r s : ℕ) (st : Stmt) → statement_fits keys r s st ≡ true → IsWritten keys st
  statement_written keys r s (sends n c a) fits =
      let parts = and_parts (is_send_written keys c a) _ fits in
      ((and_parts (is_written keys c) _ parts.0).0, arms_written keys r (s + 1) c a (and_parts (nat_lt s MOST_OPEN) (arms_fit keys r (s + 1) c a) parts.1).1)
  statement_written keys r s (repeats n b) fits =
      let parts = and_parts (is_repeat_written n b) _ fits in
      all_written keys (r + 1) s b (and_parts (nat_lt r MOST_OPEN) (statements_fit keys (r + 1) s b) parts.1).1
  statement_written keys r s breaks fits = tt
  statement_written keys r s (stops w) fits = fits

  all_written : (keys : List ℕ) (r s : ℕ) (b : Stmts) → statements_fit keys r s b ≡ true → AreWritten keys b
  all_written keys r s none fits = tt
  all_written keys r s (more st rest) fits =
      let parts = and_parts (statement_fits keys r s st) (statements_fit keys r s rest) fits in
      (statement_written keys r s st parts.0, all_written keys r s rest parts.1)

  arms_written : (keys : List ℕ) (r s : ℕ) (c : Command) (a : Arms) → arms_fit keys r s c a ≡ true → ArmsWritten keys a
  arms_written keys r s c no_arm fits = tt
  arms_written keys r s c (arm t body rest) fits =
      let parts = and_parts (test_fits keys c t && statements_fit keys r s body) (arms_fit keys r s c rest) fits in
      (all_written keys r s body (and_parts (test_fits keys c t) (statements_fit keys r s body) parts.0).1, arms_written keys r s c rest parts.1)

-- ---- what is still to do

abbrev pub RestWritten : List ℕ → Configuration → Type 0
RestWritten keys [] = Unit {0}
RestWritten keys (mark ∷ l) = RestWritten keys l
RestWritten keys ((statement st) ∷ l) = IsWritten keys st × RestWritten keys l

before_written : (keys : List ℕ) (b : Stmts) (l : Configuration) → AreWritten keys b → RestWritten keys l → RestWritten keys (before b l)
before_written keys none l all rest = rest
before_written keys (more s ss) l all rest = (all.0, before_written keys ss l all.1 rest)

turn_written : (keys : List ℕ) (n : ℕ) (b : Stmts) (l : Configuration) → AreWritten keys b → RestWritten keys l → RestWritten keys (turn n b l)
turn_written keys zero b l all rest = rest
turn_written keys (suc n) b l all rest = before_written keys b (mark ∷ statement (repeats n b) ∷ l) all (all, rest)

drop_written : (keys : List ℕ) (l : Configuration) → RestWritten keys l → RestWritten keys (drop 1 l)
drop_written keys [] rest = rest
drop_written keys (mark ∷ l) rest = rest
drop_written keys ((statement st) ∷ l) rest = rest.1

past_written : (keys : List ℕ) (l : Configuration) → RestWritten keys l → RestWritten keys (past_mark l)
past_written keys [] rest = rest
past_written keys ((statement st) ∷ l) rest = past_written keys l rest.1
past_written keys (mark ∷ l) rest = drop_written keys l rest

becomes_written : (keys : List ℕ) (l : Configuration) → RestWritten keys l → RestWritten keys (becomes l)
becomes_written keys [] rest = rest
becomes_written keys (mark ∷ l) rest = rest
becomes_written keys ((statement (sends n c a)) ∷ l) rest = rest
becomes_written keys ((statement (repeats n b)) ∷ l) rest = turn_written keys n b l rest.0 rest.1
becomes_written keys ((statement breaks) ∷ l) rest = past_written keys l rest.1
becomes_written keys ((statement (stops w)) ∷ l) rest = rest

settled_written : (keys : List ℕ) (l : Configuration) → RestWritten keys l → RestWritten keys (settled_form l)
settled_written keys l rest = kept (RestWritten keys) (becomes_written keys) l rest

-- ---- what a nexus does

abbrev pub ControlWritten : List ℕ → Control → Type 0
ControlWritten keys (Going l) = RestWritten keys l
ControlWritten keys (Trapped line) = Unit {0}
ControlWritten keys Free = Unit {0}

arm_written : (keys : List ℕ) (line : ℕ) (l : Configuration) (a : Arms) (r : Reply) → ArmsWritten keys a → RestWritten keys l
    → ControlWritten keys (going_or_trapped line (option_map (λ body. settled_form (before body l)) (first_match a r)))
arm_written keys line l no_arm r all rest = tt
arm_written keys line l (arm t body others) r all rest = at (matches t r) (arm_written keys line l others r all.1 rest)
  where
    at : (b : Bool) → ControlWritten keys (going_or_trapped line (option_map (λ it. settled_form (before it l)) (first_match others r)))
        → ControlWritten keys (going_or_trapped line (option_map (λ it. settled_form (before it l)) (if b then Some body else first_match others r)))
    at true later = settled_written keys (before body l) (before_written keys body l all.0 rest)
    at false later = later

taken_written : (keys : List ℕ) (line : ℕ) (l : Configuration) (r : Reply) → RestWritten keys l → ControlWritten keys (going_or_trapped line (take l r))
taken_written keys line [] r rest = tt
taken_written keys line (mark ∷ l) r rest = tt
taken_written keys line ((statement (sends n c a)) ∷ l) r rest = arm_written keys line l a r rest.0.1 rest.1
taken_written keys line ((statement (repeats n b)) ∷ l) r rest = tt
taken_written keys line ((statement breaks) ∷ l) r rest = tt
taken_written keys line ((statement (stops w)) ∷ l) r rest = tt

pub after_written : (keys : List ℕ) (line : ℕ) (k : Control) (r : Reply) → ControlWritten keys k → ControlWritten keys (control_after line k r)
after_written keys line (Going l) r is = taken_written keys line l r is
after_written keys line (Trapped at) r is = tt
after_written keys line Free r is = tt

-- the command that it is ready to send
pub ready_written : (keys : List ℕ) (k : Control) (line : ℕ) (c : Command) → ControlWritten keys k → standing_of k ≡ Some (ready line c) → is_written keys c ≡ true
ready_written keys (Going l) line c is stands = at l is stands
  where
    same : (n : ℕ) (d : Command) → Some (ready n d) ≡ Some (ready line c) → d ≡ c
    same n d e = cc

    at : (l : Configuration) → RestWritten keys l → standing_of_items l ≡ Some (ready line c) → is_written keys c ≡ true
    at [] rest e = let bad : Some (stopped _) ≡ Some (ready line c) = e in cc
    at (mark ∷ l) rest e = absurd (none-some (ready line c) e)
    at ((statement (sends n d a)) ∷ l) rest e = subst (λ x. is_written keys x ≡ true) (same n d e) rest.0.0
    at ((statement (repeats n b)) ∷ l) rest e = absurd (none-some (ready line c) e)
    at ((statement breaks) ∷ l) rest e = absurd (none-some (ready line c) e)
    at ((statement (stops w)) ∷ l) rest e = let bad : Some (stopped w) ≡ Some (ready line c) = e in cc
ready_written keys (Trapped at) line c is stands = absurd (none-some (ready line c) stands)
ready_written keys Free line c is stands = absurd (none-some (ready line c) stands)

-- ---- all of them

abbrev pub ControlsWritten : List ℕ → List Control → Type 0
ControlsWritten keys [] = Unit {0}
ControlsWritten keys (k ∷ ks) = ControlWritten keys k × ControlsWritten keys ks

pub one_written : (keys : List ℕ) (ks : List Control) (h : ℕ) → ControlsWritten keys ks → ControlWritten keys (option_map_or (λ c. c) (slice_get ks h) Free)
one_written keys [] h all = tt
one_written keys (k ∷ ks) zero all = all.0
one_written keys (k ∷ ks) (suc h) all = one_written keys ks h all.1

pub set_written : (keys : List ℕ) (ks : List Control) (h : ℕ) (k : Control) → ControlsWritten keys ks → ControlWritten keys k → ControlsWritten keys (slice_set ks h k)
set_written keys [] h k all is = tt
set_written keys (j ∷ ks) zero k all is = (is, all.1)
set_written keys (j ∷ ks) (suc h) k all is = (all.0, set_written keys ks h k all.1 is)

begun_written : (keys : List ℕ) (t : Task) → is_task keys t ≡ true → ControlWritten keys (control_of t)
begun_written keys (Scripted script budget) fits =
    let parts = and_parts (script_fits keys script) _ fits in
    let written = all_written keys 0 0 script (and_parts (statements_fit keys 0 0 script) _ parts.0).0 in
    settled_written keys (before script []) (before_written keys script [] written tt)
begun_written keys (Planned commands) fits = tt

pub all_begun : (keys : List ℕ) (ns : List Nexus) → list_all (is_nexus keys) ns ≡ true → ControlsWritten keys (map (λ n. control_of n.task) ns)
all_begun keys [] fit = tt
all_begun keys (n ∷ ns) fit =
    let parts = and_parts (is_nexus keys n) (list_all (is_nexus keys) ns) fit in
    let more = and_parts (is_role keys n.role) _ (and_parts (is_name n.name) _ parts.0).1 in
    (begun_written keys n.task (and_parts (is_start keys n.start) (is_task keys n.task) more.1).1, all_begun keys ns parts.1)
