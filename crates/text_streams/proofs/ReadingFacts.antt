-- Lemmas on what holds of the bytes of a reader.
use Rattle.std.proofs.Common.{◌≡◌, ◌∙◌, ℕ, List, [], take, None, Some, IfSome, subst}
use Rattle.std.specs.Prelude.{Option}
use Rattle.text_streams.specs.Readings.{ReadsAs}

-- What holds of the bytes up to a limit, and then of all, holds of a reader's bytes.
pub reads_as : (Is : List ℕ → Type 0) (limit : ℕ) → ((all : List ℕ) → Is (take limit all) → Is all) → (remaining : Option (List ℕ)) (bytes seen : List ℕ) →
    IfSome remaining (λ all. bytes ≡ take limit all) → seen ≡ bytes → Is seen → ReadsAs remaining Is
reads_as Is limit whole None bytes seen prefix same is = record { bytes = seen; of_read = is; of_all = tt }
reads_as Is limit whole (Some all) bytes seen prefix same is = record { bytes = seen; of_read = is; of_all = whole all (subst Is (same ∙ prefix) is) }

-- What holds of bytes that are all of a reader's holds of these.
pub reads_whole : (Is : List ℕ → Type 0) (remaining : Option (List ℕ)) (bytes : List ℕ) → IfSome remaining (λ all. bytes ≡ all) → Is bytes → ReadsAs remaining Is
reads_whole Is None bytes all is = record { bytes = bytes; of_read = is; of_all = tt }
reads_whole Is (Some whole) bytes all is = record { bytes = bytes; of_read = is; of_all = subst Is all is }

-- What follows from what holds of bytes holds of them.
pub reads_more : {A B : List ℕ → Type 0} → ((bytes : List ℕ) → A bytes → B bytes) → (remaining : Option (List ℕ)) → ReadsAs remaining A → ReadsAs remaining B
reads_more implied None reads = record { bytes = reads.bytes; of_read = implied reads.bytes reads.of_read; of_all = tt }
reads_more implied (Some all) reads = record { bytes = reads.bytes; of_read = implied reads.bytes reads.of_read; of_all = implied all reads.of_all }

-- What holds of all bytes holds of a reader's, whatever they are.
pub reads_any : {Is : List ℕ → Type 0} → ((bytes : List ℕ) → Is bytes) → (remaining : Option (List ℕ)) → ReadsAs remaining Is
reads_any holds None = record { bytes = []; of_read = holds []; of_all = tt }
reads_any holds (Some all) = record { bytes = all; of_read = holds all; of_all = holds all }
