-- One list of lines is written as one script, and one text as one scenario.
use Rattle.pr_text.proofs.Common.{◌≡◌, ℕ, Bool, true, false, List, [], ◌∷◌, ◌++◌, map, sym, refl, ap, ◌∙◌, subst, append_assoc, append-nil, false≢true, Stmt, Stmts, Arms, sends, repeats, none, more, no_arm, arm, breaks, stops, Scenario, Nexus, Task, Scripted, Planned, Declared, nexus_written, IsDeclaredBy, IsWrittenAs, task_written, ScriptLine, block_done, statement_lines, body_lines, arms_lines, is_statement}
use Rattle.pr_text.proofs.lemmas.Sound.Scripts.{ok_same}

-- the first of the lines begins a statement
abbrev leads : List ScriptLine → Bool
leads [] = false
leads (l ∷ ls) = is_statement l

statement_leads : (x : Stmt) (ls : List ScriptLine) → leads (statement_lines x ++ ls) ≡ true
statement_leads (sends n c a) ls = refl
statement_leads _ ls = refl

-- what stands behind the body of an arm begins no statement
arms_lead : (a : Arms) (ls : List ScriptLine) → leads (arms_lines a ++ block_done ∷ ls) ≡ false
arms_lead no_arm ls = refl
arms_lead (arm t b rest) ls = refl

record Same {A : Type 0} (x y : A) (u v : List ScriptLine) : Type 0 where
  first : x ≡ y
  rest : u ≡ v

pub tail_same : {A : Type 0} (k l : A) (u v : List A) → k ∷ u ≡ l ∷ v → u ≡ v
tail_same k l u v e = cc

assoc : (a b c d : List ScriptLine) (u v : List ScriptLine) → (a ++ b) ++ u ≡ (c ++ d) ++ v → a ++ (b ++ u) ≡ c ++ (d ++ v)
assoc a b c d u v e = sym (append_assoc a b u) ∙ (e ∙ append_assoc c d v)

pub head_same : {A : Type 0} (k l : A) (u v : List A) → k ∷ u ≡ l ∷ v → k ≡ l
head_same k l u v e = cc

mutual
  statement_same : (x y : Stmt) (u v : List ScriptLine) → statement_lines x ++ u ≡ statement_lines y ++ v → Same x y u v
  statement_same (sends n c a) (sends m d b) u v e =
      let inner = arms_same a b u v (assoc (arms_lines a) (block_done ∷ []) (arms_lines b) (block_done ∷ []) u v (tail_same _ _ _ _ e)) in
      record { first = cc; rest = inner.rest }
  statement_same (repeats n a) (repeats m b) u v e =
      let inner = body_same a b (block_done ∷ u) (block_done ∷ v) refl refl (assoc (body_lines a) (block_done ∷ []) (body_lines b) (block_done ∷ []) u v (tail_same _ _ _ _ e)) in
      record { first = cc; rest = cc }
  statement_same breaks breaks u v e = record { first = refl; rest = cc }
  statement_same (stops w) (stops z) u v e = record { first = cc; rest = cc }
  statement_same _ _ u v e = cc

  body_same : (a b : Stmts) (u v : List ScriptLine) → leads u ≡ false → leads v ≡ false → body_lines a ++ u ≡ body_lines b ++ v → Same a b u v
  body_same none none u v p q e = record { first = refl; rest = e }
  body_same none (more y b) u v p q e =
      absurd (false≢true (sym p ∙ (ap leads (e ∙ append_assoc (statement_lines y) (body_lines b) v) ∙ statement_leads y (body_lines b ++ v))))
  body_same (more x a) none u v p q e =
      absurd (false≢true (sym q ∙ (ap leads (sym e ∙ append_assoc (statement_lines x) (body_lines a) u) ∙ statement_leads x (body_lines a ++ u))))
  body_same (more x a) (more y b) u v p q e =
      let here = statement_same x y (body_lines a ++ u) (body_lines b ++ v) (assoc (statement_lines x) (body_lines a) (statement_lines y) (body_lines b) u v e) in
      let later = body_same a b u v p q here.rest in
      record { first = cc; rest = later.rest }

  arms_same : (a b : Arms) (u v : List ScriptLine) → arms_lines a ++ block_done ∷ u ≡ arms_lines b ++ block_done ∷ v → Same a b u v
  arms_same no_arm no_arm u v e = record { first = refl; rest = cc }
  arms_same (arm t c x) (arm s d y) u v e =
      let inner = body_same c d (arms_lines x ++ block_done ∷ u) (arms_lines y ++ block_done ∷ v) (arms_lead x u) (arms_lead y v)
      (assoc (body_lines c) (arms_lines x) (body_lines d) (arms_lines y) (block_done ∷ u) (block_done ∷ v) (tail_same _ _ _ _ e)) in
      let later = arms_same x y u v inner.rest in
      record { first = cc; rest = later.rest }
  arms_same _ _ u v e = cc

script_same : (a b : Stmts) → body_lines a ≡ body_lines b → a ≡ b
script_same a b e = (body_same a b [] [] refl refl (append-nil (body_lines a) ∙ (e ∙ sym (append-nil (body_lines b))))).first

-- ---- scenarios

task_same : (x y : Task) → task_written x ≡ task_written y → x ≡ y
task_same (Scripted a n) (Scripted b m) e = let same = script_same a b (cc) in cc
task_same (Scripted a n) (Planned cs) e = cc
task_same (Planned cs) (Scripted b m) e = cc
task_same (Planned cs) (Planned ds) e = cc

nexus_same : (m n : Nexus) → nexus_written m ≡ nexus_written n → m ≡ n
nexus_same m n e =
    ap (λ w. record { name = w.name; role = w.role; start = w.start; pending = w.pending; task = m.task; busy = w.busy; full = w.full }) e
    ∙ ap (λ t. record { name = n.name; role = n.role; start = n.start; pending = n.pending; task = t; busy = n.busy; full = n.full }) (task_same m.task n.task (ap (λ w. w.task) e))

nexuses_same : (ms ns : List Nexus) → map nexus_written ms ≡ map nexus_written ns → ms ≡ ns
nexuses_same [] [] e = refl
nexuses_same (m ∷ ms) (n ∷ ns) e = let first = nexus_same m n (head_same _ _ _ _ e) in let rest = nexuses_same ms ns (tail_same _ _ _ _ e) in cc
nexuses_same _ _ e = cc

scenario_same : (s t : Scenario) → s.version ≡ t.version → s.keys ≡ t.keys → s.reservations ≡ t.reservations → s.generation ≡ t.generation → s.resets ≡ t.resets
    → ((h : ℕ) → s.shared h ≡ t.shared h) → s.early ≡ t.early → s.nexuses ≡ t.nexuses → s ≡ t
scenario_same s t v a b c r f o d = λ i. record { version = v i; keys = a i; reservations = b i; generation = c i; resets = r i; shared = λ h. f h i; early = o i; nexuses = d i }

declared_same : (d : Declared) (s t : Scenario) → IsDeclaredBy d s → IsDeclaredBy d t → s ≡ t
declared_same d s t p q =
    scenario_same s t (p.version ∙ sym q.version) (p.keys ∙ sym q.keys) (p.reservations ∙ sym q.reservations) (p.generation ∙ sym q.generation) (p.resets ∙ sym q.resets)
    (λ h. p.paths h ∙ sym (q.paths h)) (p.order ∙ sym q.order) (nexuses_same s.nexuses t.nexuses (p.nexuses ∙ sym q.nexuses))

along : (d e : Declared) (s t : Scenario) → d ≡ e → IsDeclaredBy d s → IsDeclaredBy e t → s ≡ t
along d e s t same p q = declared_same d s t p (subst (λ x. IsDeclaredBy x t) (sym same) q)

pub written_once : (text : List ℕ) (s t : Scenario) → IsWrittenAs text s → IsWrittenAs text t → s ≡ t
written_once text s t p q = along p.declared q.declared s t (ok_same _ _ (sym p.faultless ∙ q.faultless)) p.kept q.kept
