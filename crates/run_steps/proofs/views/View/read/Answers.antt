use Rattle.std.proofs.Common.{◌≡◌, ◌+◌, ◌∙◌, Some, None, refl, sym, ap, length, slice_get}
use Rattle.std.proofs.lemmas.Option.{slice_get_read}
use Rattle.run_steps.specs.Places.{is_place}
use Rattle.run_steps.specs.Reads.{memory_of_cells, newest_sharing}
use Rattle.run_steps.specs.Widths.{above_bytes}
use Rattle.run_steps.proofs.ReadFacts.{older_read, store_read}
use Rattle.run_steps.proofs.views.View.read.Goals as goal

pub returns-then-fits : goal.returns-then-fits
returns-then-fits c =
    let view = c.args.self.now in
    let waiting = view.waiting.now in
    let place = c.args.place in
    let k = c.in-Some-newest_sharing.k in
    let w = c.index-self-k.result in
    let at : slice_get waiting k ≡ Some w = slice_get_read waiting (length waiting) k w refl c.in-Some-newest_sharing.ensures.bound c.index-self-k.is in
    let newest : newest_sharing waiting place None ≡ Some w = c.in-Some-newest_sharing.ensures.is ∙ at in
    ap (λ v. Some v.value) (sym c.index-self-k.is)
    ∙ sym (store_read (memory_of_cells view.memory.now) waiting place w c.if-place-eq0.false newest (ap (λ v. is_place v.place place) c.index-self-k.is ∙ sym c.is.ensures ∙ c.if-is.true)
    (ap (λ v. above_bytes place.width v.value) c.index-self-k.is ∙ c.fits.ensures.0 c.if-fits.true))

pub returns : goal.returns
returns c =
    let view = c.args.self.now in
    c.read_bytes.ensures ∙ older_read (memory_of_cells view.memory.now) view.waiting.now c.args.place (c.in-Some-newest_sharing.k + 1) c.in-Some-newest_sharing.ensures.newer
