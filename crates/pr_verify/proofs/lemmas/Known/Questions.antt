-- What is asked of the sends in the views of an outline, and answered.
use Rattle.pr_verify.proofs.Common.{◌≡◌, ℕ, ◌<◌, true, List, map, length, get_or, Some, All, sym, refl, ap, ◌∙◌, subst, slice_get-get_or, slice_get_read, rise_above, refusals_of, view_of, AreAlike, KeptView, Landing, Answer, Spot, IsOf, IsMadeAs, asker_of, IsAnswerAt, place_of, IsPlaceWritten}
use Rattle.pr_verify.specs.declared.answers.Questions.{Questions}
use Rattle.pr_verify.specs.inside.Asked.{scenario_in, IsAnswered}
use Rattle.pr_verify.specs.inside.Known.{ComesTo}
use Rattle.pr_verify.proofs.lemmas.Rooms.MappedLists.{element}
use Rattle.pr_verify.proofs.lemmas.Known.Recollection.{read_is, is_read}
use Rattle.pr_verify.proofs.lemmas.Outlines.LineOrder.{as_many, view_at_same}
use Rattle.pr_verify.proofs.lemmas.Inferring.Sketches.{item_is}

-- ---- questions

-- the host is one of those of which a view speaks that can be one of the scenario
pub own_there : (q : Questions) (v : KeptView) → v.hosts ≡ length (scenario_in q).nexuses → q.outline.now.host < v.hosts
own_there q v same = subst (λ n. q.outline.now.host < n) (sym same) q.declared

-- there is a view for each send
each : (q : Questions) → length q.outline.now.views.items ≡ length q.spots.now
each q = as_many (λ (p : Spot). p.line) q.outline.now.views.items q.spots.now q.listed

pub has_view : (q : Questions) (place : ℕ) → place < length q.spots.now → place < length q.outline.now.views.items
has_view q place small = subst (λ n. place < n) (sym (each q)) small

-- the lines of the sends rise
pub sends_rise : (q : Questions) → rise_above 0 (map (λ p. p.line) q.spots.now) ≡ true
sends_rise q = ap (rise_above 0) (sym q.listed) ∙ q.rise

module _ (q : Questions) (place : ℕ) (small : place < length q.spots.now) where
  viewed : place < length q.outline.now.views.items
  viewed = has_view q place small

  pub kind_at : (e : ℕ × KeptView) → e ≡ get_or q.outline.now.views.items place e → IsMadeAs (scenario_in q) e.1
  kind_at e read = item_is (λ (x : ℕ × KeptView). IsMadeAs (scenario_in q) x.1) q.outline.now.views.items place e q.made viewed read

  -- in the words of the view there
  pub host_at : (e : ℕ × KeptView) → e ≡ get_or q.outline.now.views.items place e → q.outline.now.host < e.1.hosts
  host_at e read = own_there q e.1 (kind_at e read).1

  pub written_at : (p : Spot) (e : ℕ × KeptView) → p ≡ get_or q.spots.now place p → e ≡ get_or q.outline.now.views.items place e → IsPlaceWritten e.1.keys.items (place_of p)
  written_at p e read also =
      subst (λ keys. IsPlaceWritten keys (place_of p)) (sym (kind_at e also).0)
      (item_is (λ r. IsPlaceWritten (scenario_in q).keys (place_of r)) q.spots.now place p q.written small read)

  -- it is the only view that is seen there
  pub only_view : (e : ℕ × KeptView) → e ≡ get_or q.outline.now.views.items place e → (w : KeptView) → (asker_of q).sees place w → e.1 ≡ w
  only_view e read w sees = ap (λ (x : ℕ × KeptView). x.1) (is_read q.outline.now.views.items place e (sees.0, w) viewed read sees.1)

  pub seen : (v : KeptView) × (asker_of q).sees place v
  seen = let e = element q.outline.now.views.items place viewed in (e.0.1, (e.0.0, slice_get-get_or q.outline.now.views.items place e.0 viewed ∙ ap (λ x. Some x) e.1))

  -- the outcomes that are read where the answer is
  module _ (known : List Answer) (k : ℕ) (at : IsAnswerAt (asker_of q) place known k)
      (p : Spot) (e : ℕ × KeptView) (sent : p ≡ get_or q.spots.now place p) (shown : e ≡ get_or q.outline.now.views.items place e) (a : Answer) (read : a ≡ get_or known k a)
      (xs : List (Landing × KeptView)) (same : xs ≡ a.outcomes.items) where
    comes : All (λ o. IsOf e.1.keys.items e.1.hosts o.1) xs × ComesTo q.outline.now.host (refusals_of (scenario_in q) q.outline.now.host) e.1 p xs
    comes =
        subst (λ (ys : List (Landing × KeptView)). All (λ o. IsOf e.1.keys.items e.1.hosts o.1) ys × ComesTo q.outline.now.host (refusals_of (scenario_in q) q.outline.now.host) e.1 p ys)
        (sym (same ∙ ap (λ (b : Answer). b.outcomes.items) (read_is known k at.0 a at.1 read)))
        (at.2 p e.1 (slice_get_read q.spots.now (length q.spots.now) place p refl small sent)
        (e.0, slice_get_read q.outline.now.views.items (length q.outline.now.views.items) place e refl viewed shown))

    pub kind_read : All (λ o. AreAlike e.1 o.1) xs
    kind_read i x within = let of = comes.0 i x within in record { keys = sym of.0; hosts = sym of.1 }

    -- so the send is answered
    pub answered_here : IsAnswered q e.1 p xs
    answered_here = record {
      written = item_is (λ r. IsPlaceWritten (scenario_in q).keys (place_of r)) q.spots.now place p q.written small sent;
      view = kind_at e shown;
      here = view_at_same (λ (r : Spot). r.line) q.outline.now.views.items q.spots.now q.listed (view_of q.outline.now.host) 0 place e p q.rise small shown sent;
      outcomes = comes.1;
    }
