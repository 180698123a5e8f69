-- What a replay answers has the trace of its run.
use Rattle.pr_commands.proofs.Common.{Some, ◌∙◌, ending_of, names_in}
use Rattle.std.proofs.Common.{map}
use Rattle.std.proofs.lemmas.Simd.{map-map}
use Rattle.pr_trace.specs.TraceText.{trace_text}
use Rattle.pr_commands.specs.Replays.{ReplaysAreTraced}

pub replays_are_traced : ReplaysAreTraced
replays_are_traced s y r is = record {
  ends = map ending_of r.ends.items;
  standing = map-map (λ e. Some e) ending_of r.ends.items ∙ is.ends;
  text_is = λ i. trace_text s.version (names_in s) (is.history i) ((is.unit i).registry) (map ending_of r.ends.items) (is.counts i);
}
