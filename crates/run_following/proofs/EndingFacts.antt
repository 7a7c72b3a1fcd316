-- Lemmas on how a run ends.
use Rattle.std.proofs.Common.{◌≡◌, ◌∙◌, refl, sym, ap, subst, inl, inr, ℕ, ◌==◌, ◌≤◌, true, false, List, [], ◌∷◌, ◌++◌, length, take, Option, None, Some, append_assoc}
use Rattle.std.specs.Io.KnownBytes.{Consumes, IsAtEnd}
use Rattle.std.proofs.KnownBytes.{Consumes-nil, Consumes-trans, Consumes-whole}
use Rattle.std.specs.List.{onto_first}
use Rattle.std.proofs.lemmas.Bool.{or_parts}
use Rattle.std.proofs.lemmas.List.{append-nil}
use Rattle.std.proofs.lemmas.List.Splits.{slice_split-cons_no}
use Rattle.line_text.specs.Lines.{parts_of}
use Rattle.line_text.proofs.CutFacts.{split_parts}
use Rattle.request_options.specs.declared.following.FollowOptions.{FollowOptions}
use Rattle.text_streams.specs.Readings.{ReadsAs}
use Rattle.text_streams.proofs.ReadingFacts.{reads_whole}
use Rattle.tso_text.specs.declared.faults.TextFault.{TextFault}
use Rattle.run_following.specs.Accounts.{Account, Follows}
use Rattle.run_following.specs.Internal.Endings.{EndsText, HasFollowed, refusal_of_stop}
use Rattle.run_following.specs.Internal.Streams.{EndsAt, IsCutOff, StandsAt, StopsAfter, has_line_end}
use Rattle.run_following.specs.Runs.{IsRunRefusal, IsTakenInTime}
use Rattle.run_following.specs.declared.streams.RunStream.{RunStream}
use Rattle.run_following.specs.declared.streams.Stop.{Stop}
use Rattle.run_following.specs.declared.streams.Stop.TheVariants.{Refused, Told}
use Rattle.run_following.proofs.StreamFacts.{accepted_texts, one_line}

-- ---- at the end of the bytes

no_bytes : parts_of [] ≡ [] ∷ []
unfolding parts_of
no_bytes = refl

one_part : (bytes : List ℕ) → has_line_end bytes ≡ false → parts_of bytes ≡ bytes ∷ []
unfolding parts_of
one_part [] none = refl
one_part (b ∷ bytes) none =
    let parts = or_parts (b == 10) (has_line_end bytes) none in
    slice_split-cons_no (λ c. c == 10) b bytes parts.0 ∙ ap (onto_first b) (one_part bytes parts.1)

module _ (options : FollowOptions) (stream : RunStream) (bytes : List ℕ) (stands : StandsAt stream bytes []) (fast : stream.is_fast ≡ options.is_fast) where
  cut_at_end : parts_of bytes ≡ stands.account.texts ++ stream.pending.items ∷ []
  cut_at_end =
      ap parts_of (stands.whole ∙ append-nil (stands.done ++ stream.pending.items)) ∙ stands.cut stream.pending.items
      ∙ ap (λ ps. stands.account.texts ++ ps) (one_part stream.pending.items stands.unended)

  clean_before : options.is_fast ≡ true → stands.account.refusals ≡ []
  clean_before is = stands.clean (fast ∙ is)

  pub ended : (fault : Option TextFault) → IsCutOff stream stands.account options.needs_end fault → EndsText options stream fault bytes
  ended None cut = (
    stands.account,
    stands.follows,
    inl (record { whole = cut_at_end ∙ ap (λ p. stands.account.texts ++ p ∷ []) cut.0; leads = stands.leads; ended = cut.1 }, clean_before),
  )
  ended (Some fault) cut = record {
    before = stands.account;
    part = stream.pending.items;
    after = [];
    whole = cut_at_end;
    leads = stands.leads;
    clean = clean_before;
    is = cut.2;
    fault = (cut.0, cut.1);
  }

-- ---- at a line

module _ (options : FollowOptions) (new : RunStream) (text later : List ℕ) (fast : new.is_fast ≡ options.is_fast) where
  line_cut : {stop : Stop} → (ends : EndsAt new text stop) → parts_of (text ++ later) ≡ ends.account.texts ++ ends.line ∷ parts_of (ends.rest ++ later)
  line_cut ends =
      ap parts_of (ap (λ t. t ++ later) ends.whole ∙ append_assoc (ends.done ++ ends.line) (10 ∷ ends.rest) later ∙ append_assoc ends.done ends.line (10 ∷ (ends.rest ++ later)))
      ∙ ends.cut (ends.line ++ 10 ∷ (ends.rest ++ later)) ∙ ap (λ ps. ends.account.texts ++ ps) (one_line ends.line (ends.rest ++ later) ends.unended)

  parts_there : (bytes : List ℕ) → (first : List ℕ) × (others : List (List ℕ)) × (parts_of bytes ≡ first ∷ others)
  unfolding parts_of
  parts_there bytes = split_parts (λ b. b == 10) bytes

  pub refused_there : (fault : TextFault) → EndsAt new text (Refused fault) → IsRunRefusal options.needs_end options.is_fast (text ++ later) fault.line fault.why
  refused_there fault ends =
      let p = parts_there (ends.rest ++ later) in
      record {
        before = ends.account;
        part = ends.line;
        after = p.0 ∷ p.1;
        whole = line_cut ends ∙ ap (λ ps. ends.account.texts ++ ends.line ∷ ps) p.2;
        leads = ends.leads;
        clean = λ is. ends.clean (fast ∙ is);
        is = ends.stops.1;
        fault = ends.stops.0;
      }

  pub told_there : EndsAt new text Told → EndsText options new None (text ++ later)
  told_there ends =
      let is = ends.stops.0 in
      let next = ends.stops.1.0 in
      let accepted = ends.stops.1.1 in
      let texts = accepted_texts ends.account next ends.line accepted in (
        next,
        ends.stops.1.2,
        inr (
          sym fast ∙ is,
          record {
            before = ends.account;
            line = ends.line;
            rest = ends.rest ++ later;
            whole = line_cut ends ∙ sym (append_assoc ends.account.texts (ends.line ∷ []) (parts_of (ends.rest ++ later))) ∙ ap (λ ts. ts ++ parts_of (ends.rest ++ later)) texts;
            leads = ends.leads;
            clean = ends.clean is;
            accepted = accepted;
            refused = ends.stops.1.3;
          },
        ),
      )

-- ---- the bytes of a reader

-- What holds of the bytes that were read, whatever follows them, holds of all.
pub reads_begun : (Is : List ℕ → Type 0) (remaining now : Option (List ℕ)) (bytes : List ℕ) → Consumes remaining now bytes → ((later : List ℕ) → Is (bytes ++ later)) → ReadsAs remaining Is
reads_begun Is None now bytes taken is = record { bytes = bytes ++ []; of_read = is []; of_all = tt }
reads_begun Is (Some all) None bytes taken is = absurd taken
reads_begun Is (Some all) (Some later) bytes taken is = record { bytes = bytes ++ []; of_read = is []; of_all = subst Is (sym taken) (is later) }

pub reads_ended : (Is : List ℕ → Type 0) (remaining now : Option (List ℕ)) (bytes : List ℕ) → Consumes remaining now bytes → IsAtEnd now → Is bytes → ReadsAs remaining Is
reads_ended Is remaining now bytes taken end is = reads_whole Is remaining bytes (Consumes-whole remaining now bytes (λ all. bytes ≡ all) taken end refl) is

-- ---- while bytes come

pub before_first : (options : FollowOptions) (remaining : Option (List ℕ)) (stream : RunStream) → StandsAt stream [] [] → stream.is_fast ≡ options.is_fast → stream.follower.noted.most ≡ options.most →
    HasFollowed options remaining remaining stream
before_first options remaining stream stands fast most = record { bytes = []; taken = Consumes-nil remaining; stands = stands; fast = fast; most = most }

module _ (options : FollowOptions) (remaining before now : Option (List ℕ)) (old new : RunStream) (chunk : List ℕ) (s : HasFollowed options remaining before old) (taken : Consumes before now chunk) where
  all_read : Consumes remaining now (s.bytes ++ chunk)
  all_read = Consumes-trans remaining before now s.bytes chunk s.taken taken

  pub followed_more : new.is_fast ≡ old.is_fast → new.follower.noted.most ≡ old.follower.noted.most → ((bytes : List ℕ) → StandsAt old bytes [] → StopsAfter new (bytes ++ chunk) None) → HasFollowed options remaining now new
  followed_more fast most stands = record { bytes = s.bytes ++ chunk; taken = all_read; stands = stands s.bytes s.stands; fast = fast ∙ s.fast; most = most ∙ s.most }

  pub line_ends : new.is_fast ≡ old.is_fast → (stop : Stop) → ((bytes : List ℕ) → StandsAt old bytes [] → StopsAfter new (bytes ++ chunk) (Some stop)) →
      ReadsAs remaining (EndsText options new (refusal_of_stop stop))
  line_ends fast (Refused fault) ends = reads_begun _ remaining now (s.bytes ++ chunk) all_read (λ later. refused_there options new (s.bytes ++ chunk) later (fast ∙ s.fast) fault (ends s.bytes s.stands))
  line_ends fast Told ends = reads_begun _ remaining now (s.bytes ++ chunk) all_read (λ later. told_there options new (s.bytes ++ chunk) later (fast ∙ s.fast) (ends s.bytes s.stands))

pub taken_more : (options : FollowOptions) (remaining before now : Option (List ℕ)) (stream : RunStream) (chunk : List ℕ) → HasFollowed options remaining before stream → Consumes before now chunk →
    length chunk ≤ 65536 → IsTakenInTime options.is_fast remaining now
taken_more options remaining before now stream chunk s taken few = (
  s.bytes,
  chunk,
  Consumes-trans remaining before now s.bytes chunk s.taken taken,
  record {
    account = s.stands.account;
    begun = stream.pending.items;
    whole = cut_at_end options stream s.bytes s.stands s.fast;
    leads = s.stands.leads;
    clean = clean_before options stream s.bytes s.stands s.fast;
  },
  few,
)

pub followed_to_end : (options : FollowOptions) (remaining before now : Option (List ℕ)) (stream : RunStream) (chunk : List ℕ) (count : ℕ) → count ≡ 0 → HasFollowed options remaining before stream →
    Consumes before now (take count chunk) → IsAtEnd now → (fault : Option TextFault) → ((account : Account) → Follows stream.follower account → IsCutOff stream account options.needs_end fault) →
    ReadsAs remaining (EndsText options stream fault)
followed_to_end options remaining before now stream chunk count none s taken end fault cut =
    let bytes = subst (Consumes remaining now) (ap (λ n. s.bytes ++ take n chunk) none ∙ append-nil s.bytes) (Consumes-trans remaining before now s.bytes (take count chunk) s.taken taken) in
    reads_ended (EndsText options stream fault) remaining now s.bytes bytes end (ended options stream s.bytes s.stands s.fast fault (cut s.stands.account s.stands.follows))
