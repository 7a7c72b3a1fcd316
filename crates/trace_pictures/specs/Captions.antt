-- What stands above a picture: the verdict, how many events are drawn, and what its colours say.
use Rattle.std.specs.Prelude.{ℕ, List, [], ◌∷◌, nat_lt, Option, None, Some, cond, codes}
use Rattle.std.specs.Fmt.{decimal}
use Rattle.tso_ops.specs.declared.settings.Order.{Order}
use Rattle.tso_cert.specs.declared.steps.Certificate.{Certificate}
use Rattle.tso_cert.specs.declared.steps.Certificate.TheVariants.{Unwritten as UnwrittenLoad, Cycle as CycleOf}
use Rattle.trace_explanation.specs.Explanations.{model_name}
use Rattle.trace_explanation.specs.JoinedTexts.{joined}
use Rattle.trace_pictures.specs.declared.captions.Caption.{Caption}
use Rattle.trace_pictures.specs.declared.captions.Caption.TheVariants.{NoViolation, Unwritten, Cycle, FieldCycle, Consistent, Refuted, Undecided}
use Rattle.trace_pictures.specs.declared.edge_names.EdgeNames.{EdgeNames}
use Rattle.trace_pictures.specs.declared.edge_names.EdgeNames.TheVariants.{Rules, Field}

-- how many of the events are drawn, where not all are
abbrev pub drawn_words : ℕ → ℕ → List ℕ
drawn_words drawn events = cond (nat_lt drawn events) (joined (decimal drawn ∷ codes " of " ∷ decimal events ∷ codes " events are drawn\\l" ∷ [])) []

-- the caption of a picture of a cycle whose edges have these names
abbrev pub cycle_caption : EdgeNames → Caption
cycle_caption Rules = Cycle
cycle_caption Field = FieldCycle

-- the caption of a picture by a certificate, or by none
abbrev pub caption_of : EdgeNames → Option Certificate → Caption
caption_of edges None = NoViolation
caption_of edges (Some (UnwrittenLoad n)) = Unwritten
caption_of edges (Some (CycleOf steps cycle)) = cycle_caption edges

-- the verdict, after the name of the memory model
abbrev pub verdict_words : Caption → List ℕ
verdict_words NoViolation = codes ", no violation found\\l"
verdict_words Unwritten = codes ", violation\\l"
verdict_words Cycle = codes ", violation\\l"
verdict_words FieldCycle = codes ", violation\\l"
verdict_words Consistent = codes ", consistent\\l"
verdict_words Refuted = codes ", violation\\lno memory order explains this trace: explain --decide has the cases\\l"
verdict_words Undecided = codes ", undecided\\lneither a memory order that explains this trace nor a refutation was found\\l"

-- what colours, dashed edges and small lines say, beside the blue ones
abbrev pub colour_words : Caption → List ℕ
colour_words Unwritten = codes "red box: a load of a value that nothing wrote to its address\\l"
colour_words Cycle =
    codes "red: the cycle, each event before the next, and the loads that its edges speak of\\lorange: the paths by which edges of the cycle are inferred, each event before the next\\ldashed: other derived edges, from an event to one that comes later\\lsmall lines in a box: the edges from it, by number and rule of the step in the explanation\\l"
colour_words FieldCycle =
    codes "red: a cycle, each event before the next, and the loads that its edges speak of\\lsmall lines in a box: the edges from it\\lpo: program order; in brackets the barrier or the swap that keeps it\\lrf (reads-from): from a store to a load that read it\\lco (coherence): from a store to a later one at its address\\lfr (from-read): from a load to a store at its address that is later than what it read\\lswap: no other store comes between a swap's load and its store\\l"
colour_words Consistent = codes "green number: the place of the event in a memory order that the model allows\\l"
colour_words _ = []

-- the captions, each of which ends its line at the left
unfoldable pub captions_text : Order → Caption → ℕ → ℕ → List ℕ
captions_text order caption drawn events = joined (
    codes "  label=\"" ∷ model_name order ∷ verdict_words caption ∷ drawn_words drawn events ∷ codes "blue edge: from a store to a load that read it\\lblue box: a load that read the first value of its address\\l" ∷ colour_words caption ∷ codes "\";\n" ∷ [])
