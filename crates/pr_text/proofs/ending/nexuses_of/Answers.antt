use Rattle.pr_text.proofs.Common.{◌≡◌, ℕ, List, [], ◌∷◌, ◌++◌, map, sym, ap, ◌∙◌, nexus_written, nexus_declared, draft_seen}
use Rattle.std.proofs.lemmas.List.{map-append}
use Rattle.pr_text.specs.declared.draft.Draft.{Draft}
use Rattle.pr_roles.specs.Scenarios.{nexus_of}
use Rattle.pr_roles.specs.declared.parts.Nexus.{Nexus as NexusPart}
use Rattle.pr_text.specs.Reading.{is_shared_path}
use Rattle.pr_text.proofs.ending.nexuses_of.Goals as goal

-- whose path one more is
path_more : (version : ℕ) (ns : List NexusPart) (ds : List Draft) (n : NexusPart) (d : Draft) → map (λ m. m.shared) ns ≡ map (is_shared_path version) (map draft_seen ds) → n.shared ≡ is_shared_path version (draft_seen d)
    → map (λ m. m.shared) (ns ++ n ∷ []) ≡ map (is_shared_path version) (map draft_seen (ds ++ d ∷ []))
path_more version ns ds n d same one =
    map-append (λ m. m.shared) ns (n ∷ [])
    ∙ (λ i. same i ++ one i ∷ [])
    ∙ sym (map-append (is_shared_path version) (map draft_seen ds) (draft_seen d ∷ [])) ∙ ap (map (is_shared_path version)) (sym (map-append draft_seen ds (d ∷ [])))

-- and what is declared of one more
declared_more : (ns : List NexusPart) (ds : List Draft) (n : NexusPart) (d : Draft) → map nexus_written (map nexus_of ns) ≡ map nexus_declared (map draft_seen ds) → nexus_written (nexus_of n) ≡ nexus_declared (draft_seen d)
    → map nexus_written (map nexus_of (ns ++ n ∷ [])) ≡ map nexus_declared (map draft_seen (ds ++ d ∷ []))
declared_more ns ds n d same one =
    ap (map nexus_written) (map-append nexus_of ns (n ∷ [])) ∙ map-append nexus_written (map nexus_of ns) (nexus_of n ∷ [])
    ∙ (λ i. same i ++ one i ∷ [])
    ∙ sym (map-append nexus_declared (map draft_seen ds) (draft_seen d ∷ [])) ∙ ap (map nexus_declared) (sym (map-append draft_seen ds (d ∷ [])))

pub loop-draft-preserved : goal.loop-draft-preserved
loop-draft-preserved c =
    record {
      declared = ap (λ ns. map nexus_written (map nexus_of ns)) c.in_ok-push.ensures.items
          ∙ declared_more c.loop-draft.nexuses.items c.loop-draft.yielded c.in_ok-nexus_of.field-0 c.in-Some.draft c.loop-draft.invariant.declared c.in_ok-nexus_of.ensures.declared;
      paths = ap (map (λ n. n.shared)) c.in_ok-push.ensures.items
          ∙ path_more c.args.version c.loop-draft.nexuses.items c.loop-draft.yielded c.in_ok-nexus_of.field-0 c.in-Some.draft c.loop-draft.invariant.paths c.in_ok-nexus_of.ensures.path;
    }
