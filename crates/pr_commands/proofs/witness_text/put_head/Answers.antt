use Rattle.pr_commands.proofs.Common.{◌≡◌, ℕ, Option, [], ◌∷◌, List, ap, ◌∙◌, subst, codes, Appends, State, names_of, FallsShort, Puts, front_first, front_then, puts_err, puts_last}
use Rattle.pr_registry.specs.declared.held.Held.{Held}
use Rattle.pr_output.specs.PrintedLines.{line}
use Rattle.pr_trace.specs.TraceText.{held_word}
use Rattle.pr_commands.specs.WitnessText.{generation_line, pending_lines, start_lines}
use Rattle.pr_commands.proofs.witness_text.put_head.Goals as goal

pub returns-in_err-put_starts : goal.returns-in_err-put_starts
returns-in_err-put_starts g c =
    let names = names_of c.args.nexuses.now in
    puts_err _ _ _ _ (front_first _ _ (start_lines names c.args.start.now) _ c.in_err-put_starts.ensures) c.from_residual.ensures.0

pub returns-in_err-put_pendings : goal.returns-in_err-put_pendings
returns-in_err-put_pendings g c =
    let names = names_of c.args.nexuses.now in
    puts_err _ _ _ _ (front_then _ _ _ (start_lines names c.args.start.now) _ c.in_ok-put_starts.ensures
    (front_first _ _ (pending_lines names c.args.start.now) _ c.in_err-put_pendings.ensures)) c.from_residual-in_err-put_pendings.ensures.0

pub returns-in_err-put_reservation : goal.returns-in_err-put_reservation
returns-in_err-put_reservation g c =
    let names = names_of c.args.nexuses.now in
    let u = c.args.start.now in
    let third : Option Held → List ℕ = λ h. line (codes "reservation") (held_word names h ∷ []) in
    let held : c.held.result ≡ u.registry.held = c.held.ensures ∙ ap (λ (r : State). r.held) c.registry-registry.ensures.value in
    let short = subst (λ (h : Option Held). FallsShort (g.W.Write.contents c.put_pendings.new.writer) (g.W.Write.contents c.put_reservation.new.writer) (third h)) held c.in_err-put_reservation.ensures in
    puts_err _ _ _ _ (front_then _ _ _ (start_lines names u) _ c.in_ok-put_starts.ensures
    (front_then _ _ _ (pending_lines names u) _ c.in_ok-put_pendings.ensures
    (front_first _ _ (third u.registry.held) _ short))) c.from_residual-in_err-put_reservation.ensures.0

pub returns : goal.returns
returns g c =
    let names = names_of c.args.nexuses.now in
    let u = c.args.start.now in
    let third : Option Held → List ℕ = λ h. line (codes "reservation") (held_word names h ∷ []) in
    let held : c.held.result ≡ u.registry.held = c.held.ensures ∙ ap (λ (r : State). r.held) c.registry-registry.ensures.value in
    let word = subst (λ (h : Option Held). Appends (g.W.Write.contents c.put_pendings.new.writer) (g.W.Write.contents c.put_reservation.new.writer) (third h)) held c.in_ok-put_reservation.ensures in
    let generation : c.generation.result ≡ u.registry.generation = c.generation.ensures ∙ ap (λ (r : State). r.generation) c.registry-registry.ensures.value in
    let last = subst (λ (n : ℕ). Puts (g.W.Write.contents c.put_reservation.new.writer) (g.W.Write.contents c.put_generation.new.writer) (generation_line n) c.put_generation.result) generation c.put_generation.ensures in
    puts_last _ _ _ (start_lines names u) _ _ c.in_ok-put_starts.ensures
    (puts_last _ _ _ (pending_lines names u) _ _ c.in_ok-put_pendings.ensures
    (puts_last _ _ _ (third u.registry.held) _ _ word last))
