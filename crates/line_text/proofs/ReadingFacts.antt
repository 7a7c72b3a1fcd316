-- Laws on texts that are read line by line: the outcome of a text is the value that it spells or its one refusal, and it is what a reader makes of the text.
use Rattle.std.proofs.Common.{◌≡◌, ℕ, zero, suc, ◌+◌, ◌≤◌, List, [], ◌∷◌, ◌++◌, length, Result, Ok, Err, refl, ap, sym, ◌∙◌, subst, arith, inl, inr, ⊎_elim, ◌⊎◌, append_assoc, length-append, eqb}
use Rattle.std.specs.Prelude.{All, IfOk, IfErr, MatchResult, ◌≢◌}
use Rattle.std.specs.List.{flat_map, join_with_byte}
use Rattle.std.proofs.lemmas.List.{append-nil}
use Rattle.std.proofs.lemmas.List.Concat.{flat_map-append}
use Rattle.std.proofs.lemmas.List.Elements.{All-nil, All-push}
use Rattle.std.proofs.lemmas.List.Splits.{join_with_byte-slice_split}
use Rattle.line_text.specs.Lines.{line_text, parts_of, tokens_of}
use Rattle.line_text.specs.Readings.{Said, element, whole, Reading, on_line, ended_with, after_line, read_parts}
use Rattle.line_text.specs.Refusals.{IsRefusedAfter}
use Rattle.line_text.proofs.CutFacts.{HasLine, first_line, split_parts}
use Rattle.line_text.proofs.SplitFacts.{IsCut}

-- ---- bytes

-- the bytes of one more line
lines_push : (prefix : List (List (List ℕ))) (tokens : List (List ℕ)) (rest : List ℕ) → flat_map line_text (prefix ++ tokens ∷ []) ++ rest ≡ flat_map line_text prefix ++ (line_text tokens ++ rest)
lines_push prefix tokens rest =
    ap (λ t. t ++ rest) (flat_map-append line_text prefix (tokens ∷ []) ∙ ap (λ t. flat_map line_text prefix ++ t) (append-nil (line_text tokens)))
    ∙ append_assoc (flat_map line_text prefix) (line_text tokens) rest

-- a line that stands in a text
bytes_push : (text rest line after : List ℕ) (prefix : List (List (List ℕ))) → text ≡ flat_map line_text prefix ++ rest → rest ≡ line ++ 10 ∷ after → text ≡ flat_map line_text (prefix ++ tokens_of line ∷ []) ++ after
unfolding tokens_of
bytes_push text rest line after prefix bytes is =
    bytes ∙ ap (λ r. flat_map line_text prefix ++ r) (is ∙ ap (λ l. l ++ 10 ∷ after) (sym (join_with_byte-slice_split 32 line)) ∙ sym (append_assoc (join_with_byte 32 (tokens_of line)) (10 ∷ []) after))
    ∙ sym (lines_push prefix (tokens_of line) after)

some_bytes : (text line rest : List ℕ) → text ≡ line ++ 10 ∷ rest → text ≢ []
some_bytes text [] rest is = λ none. absurd (let s : [] ≡ 10 ∷ rest = sym none ∙ is in cc)
some_bytes text (b ∷ line) rest is = λ none. absurd (let s : [] ≡ b ∷ (line ++ 10 ∷ rest) = sym none ∙ is in cc)

shorter : (text line rest : List ℕ) → text ≡ line ++ 10 ∷ rest → suc (length rest) ≤ length text
shorter text line rest is = omega (arith, ap length is, length-append line (10 ∷ rest))

no_parts : parts_of [] ≡ [] ∷ []
unfolding parts_of
no_parts = refl

-- ---- what is made of a text

-- of a line, by what it says
pub read_parts-line : {X V W : Type 0} (r : Reading X V W) (xs : List X) (rest line after : List ℕ) (said : Result (Said X V) W) → parts_of rest ≡ line ∷ parts_of after → r.said xs (tokens_of line) ≡ said →
    read_parts r xs (parts_of rest) ≡ after_line r.after_end xs (parts_of after) (λ more. read_parts r more (parts_of after)) said
unfolding read_parts parts_of
read_parts-line r xs rest line after said parts is = let p = split_parts (λ b. eqb b 10) after in rw (parts, p.2, is) refl

-- of what no line end follows
pub read_parts-unended : {X V W : Type 0} (r : Reading X V W) (xs : List X) (rest : List ℕ) → parts_of rest ≡ rest ∷ [] → read_parts r xs (parts_of rest) ≡ on_line (suc (length xs)) (r.unended xs rest)
unfolding read_parts
read_parts-unended r xs rest parts = rw parts refl

-- nothing stands after the last line
pub ended_with-none : {V W : Type 0} (after_end : W) (v : V) (line : ℕ) (rest : List ℕ) → length rest ≡ 0 → ended_with after_end v line (parts_of rest) ≡ Ok v
unfolding parts_of
ended_with-none after_end v line [] none = refl
ended_with-none after_end v line (b ∷ rest) none = absurd (omega arith)

-- bytes stand after it
pub ended_with-some : {V W : Type 0} (after_end : W) (v : V) (line : ℕ) (rest : List ℕ) → (length rest ≡ 0 → ⊥) → ended_with after_end v line (parts_of rest) ≡ Err (line, after_end)
unfolding parts_of
ended_with-some after_end v line rest some = by (parts_of rest) refl
  where
    by : (parts : List (List ℕ)) → parts_of rest ≡ parts → ended_with after_end v line (parts_of rest) ≡ Err (line, after_end)
    by [] is = rw is refl
    by ([] ∷ []) is = absurd (some (ap length (sym (join_with_byte-slice_split 10 rest) ∙ ap (join_with_byte 10) is)))
    by ((b ∷ part) ∷ []) is = rw is refl
    by ([] ∷ next ∷ parts) is = rw is refl
    by ((b ∷ part) ∷ next ∷ parts) is = rw is refl

-- ---- texts of a kind

-- Elements that have a line, and their lines, by their tokens; values that have a text, and those of them that a line of their own ends; and how what stands after
-- the lines of elements is refused, on the line of this number.
pub record TextsOf (X V W : Type 0) : Type 1 where
  pub Fits : X → Type 0
  pub lines : List X → List (List (List ℕ))
  pub Is : V → Type 0
  pub Ends : V → Type 0
  pub text : V → List ℕ
  pub Refused : List X → ℕ → List ℕ → W → Type 0

-- the refusal of a text
abbrev pub IsRefusal : {X V W : Type 0} → TextsOf X V W → W → List ℕ → ℕ → W → Type 0
IsRefusal {X} {V} k after_end text line why =
    ((xs : List X) × All k.Fits xs × IsRefusedAfter text (flat_map line_text (k.lines xs)) line (λ rest. k.Refused xs line rest why))
    ⊎ ((v : V) × k.Ends v × IsRefusedAfter text (k.text v) line (λ rest. (rest ≢ []) × (why ≡ after_end)))

abbrev pub Spells : {X V W : Type 0} → TextsOf X V W → List ℕ → V → Type 0
Spells k text v = k.Is v × (text ≡ k.text v)

-- the text spells the value, or has the refusal
abbrev pub IsRightFor : {X V W : Type 0} → TextsOf X V W → W → List ℕ → Result V (ℕ × W) → Type 0
IsRightFor k after_end text (Ok v) = Spells k text v
IsRightFor k after_end text (Err fault) = IsRefusal k after_end text fault.0 fault.1

-- What a line of these tokens says after those of elements is right: it is cut as it is printed, and written in one way; or it has a fault.
abbrev pub IsRightAfter : {X V W : Type 0} → TextsOf X V W → List X → List (List ℕ) → Result (Said X V) W → Type 0
IsRightAfter k xs tokens (Ok (element x)) = IsCut tokens × k.Fits x × (k.lines (xs ++ x ∷ []) ≡ k.lines xs ++ tokens ∷ [])
IsRightAfter k xs tokens (Ok (whole v)) = IsCut tokens × (All k.Fits xs → k.Is v × k.Ends v × (k.text v ≡ flat_map line_text (k.lines xs ++ tokens ∷ [])))
IsRightAfter k xs tokens (Err why) = (rest line after : List ℕ) → rest ≢ [] → parts_of rest ≡ line ∷ parts_of after → tokens_of line ≡ tokens → k.Refused xs (suc (length xs)) rest why

-- Texts of the kind are read so.
pub record AreReadBy {X V W : Type 0} (k : TextsOf X V W) (r : Reading X V W) : Type 0 where
  pub none : k.lines [] ≡ []
  pub line : (xs : List X) (tokens : List (List ℕ)) → IsRightAfter k xs tokens (r.said xs tokens)
  pub unended : (xs : List X) (rest : List ℕ) (v : V) → All k.Fits xs → r.unended xs rest ≡ Ok v → k.Is v × (k.text v ≡ flat_map line_text (k.lines xs) ++ rest)
  pub missing : (xs : List X) (rest : List ℕ) (why : W) → parts_of rest ≡ rest ∷ [] → r.unended xs rest ≡ Err why → k.Refused xs (suc (length xs)) rest why
  -- elements and values that have texts are read from them, and what is refused is
  pub said_one : (xs : List X) (x : X) → k.Fits x → (tokens : List (List ℕ)) × (r.said xs tokens ≡ Ok (element x))
  pub said_last : (v : V) → k.Ends v → (xs : List X) × (tokens : List (List ℕ)) × All k.Fits xs × (r.said xs tokens ≡ Ok (whole v))
  pub said_all : (v : V) → k.Is v → k.Ends v ⊎ ((xs : List X) × All k.Fits xs × (r.unended xs [] ≡ Ok v))
  pub refused : (xs : List X) (rest : List ℕ) (why : W) → k.Refused xs (suc (length xs)) rest why → read_parts r xs (parts_of rest) ≡ Err (suc (length xs), why)

-- only an element that is the first has line 1
pub none_before : {X : Type 0} (xs : List X) → suc (length xs) ≡ 1 → xs ≡ []
none_before [] one = refl
none_before (x ∷ xs) one = absurd (omega arith)

module _ {X V W : Type 0} (k : TextsOf X V W) (r : Reading X V W) (laws : AreReadBy k r) where
  line : (xs : List X) (tokens : List (List ℕ)) (said : Result (Said X V) W) → r.said xs tokens ≡ said → IsRightAfter k xs tokens said
  line xs tokens said is = subst (IsRightAfter k xs tokens) is (laws.line xs tokens)

  line_cut : (xs : List X) (tokens : List (List ℕ)) (said : Said X V) → r.said xs tokens ≡ Ok said → IsCut tokens
  line_cut xs tokens (element x) is = (line xs tokens (Ok (element x)) is).0
  line_cut xs tokens (whole v) is = (line xs tokens (Ok (whole v)) is).0

  -- ---- printed lines are read

  -- a printed line, before what follows it
  read_cut : (xs : List X) (tokens : List (List ℕ)) (rest : List ℕ) (said : Said X V) → r.said xs tokens ≡ Ok said →
      read_parts r xs (parts_of (line_text tokens ++ rest)) ≡ after_line r.after_end xs (parts_of rest) (λ more. read_parts r more (parts_of rest)) (Ok said)
  read_cut xs tokens rest said is =
      let c = line_cut xs tokens said is in
      read_parts-line r xs (line_text tokens ++ rest) (join_with_byte 32 tokens) rest (Ok said) (c.parts rest) (ap (r.said xs) c.cut ∙ is)

  -- printed elements are read, up to what stands after them, and have as many lines
  record AreRead (xs : List X) : Type 0 where
    reads : (rest : List ℕ) → read_parts r [] (parts_of (flat_map line_text (k.lines xs) ++ rest)) ≡ read_parts r xs (parts_of rest)
    count : (rest : List ℕ) → length (parts_of (flat_map line_text (k.lines xs) ++ rest)) ≡ length xs + length (parts_of rest)

  one_more : (xs : List X) (x : X) → k.Fits x → AreRead xs → AreRead (xs ++ x ∷ [])
  one_more xs x fits before =
      let s = laws.said_one xs x fits in
      let bytes : (rest : List ℕ) → flat_map line_text (k.lines (xs ++ x ∷ [])) ++ rest ≡ flat_map line_text (k.lines xs) ++ (line_text s.0 ++ rest)
      = (λ rest. ap (λ ls. flat_map line_text ls ++ rest) (line xs s.0 (Ok (element x)) s.1).2 ∙ lines_push (k.lines xs) s.0 rest) in
      record {
        reads = λ rest. ap (λ t. read_parts r [] (parts_of t)) (bytes rest) ∙ before.reads (line_text s.0 ++ rest) ∙ read_cut xs s.0 rest (element x) s.1;
        count = λ rest.
            let all = ap (λ t. length (parts_of t)) (bytes rest) ∙ before.count (line_text s.0 ++ rest) in
            omega (arith, all, ap length ((line_cut xs s.0 (element x) s.1).parts rest), length-append xs (x ∷ []));
      }

  all_more : (done xs : List X) → All k.Fits xs → AreRead done → AreRead (done ++ xs)
  all_more done [] fits before = subst AreRead (sym (append-nil done)) before
  all_more done (x ∷ xs) fits before = subst AreRead (append_assoc done (x ∷ []) xs) (all_more (done ++ x ∷ []) xs (λ j d low. fits (suc j) d (omega arith)) (one_more done x (fits 0 x (omega arith)) before))

  are_read : (xs : List X) → All k.Fits xs → AreRead xs
  are_read xs fits = all_more [] xs fits (record { reads = λ rest. ap (λ ls. read_parts r [] (parts_of (flat_map line_text ls ++ rest))) laws.none; count = λ rest. let same = ap (λ ls. length (parts_of (flat_map line_text ls ++ rest))) laws.none in omega (arith, same) })

  -- the number of the line after those of elements
  line_number : (xs : List X) → All k.Fits xs → suc (length xs) ≡ length (parts_of (flat_map line_text (k.lines xs)))
  line_number xs fits =
      let count = ap (λ t. length (parts_of t)) (sym (append-nil (flat_map line_text (k.lines xs)))) ∙ (are_read xs fits).count [] in
      omega (arith, count, ap length no_parts)

  -- and of the line after the last one
  last_number : (xs : List X) (v : V) (tokens : List (List ℕ)) → All k.Fits xs → r.said xs tokens ≡ Ok (whole v) → suc (suc (length xs)) ≡ length (parts_of (k.text v))
  last_number xs v tokens fits is =
      let text = ap (λ t. length (parts_of t)) (((line xs tokens (Ok (whole v)) is).1 fits).2 ∙ sym (append-nil (flat_map line_text (k.lines xs ++ tokens ∷ []))) ∙ lines_push (k.lines xs) tokens []) in
      omega (arith, text, (are_read xs fits).count (line_text tokens ++ []), ap length ((line_cut xs tokens (whole v) is).parts []), ap length no_parts)

  -- a printed value with a last line is read, up to what stands after it
  last_read : (v : V) (rest : List ℕ) → k.Ends v → read_parts r [] (parts_of (k.text v ++ rest)) ≡ ended_with r.after_end v (length (parts_of (k.text v))) (parts_of rest)
  last_read v rest ends =
      let s = laws.said_last v ends in
      ap (λ t. read_parts r [] (parts_of t)) (ap (λ t. t ++ rest) ((line s.0 s.1 (Ok (whole v)) s.3).1 s.2).2 ∙ lines_push (k.lines s.0) s.1 rest) ∙ (are_read s.0 s.2).reads (line_text s.1 ++ rest)
      ∙ read_cut s.0 s.1 rest (whole v) s.3 ∙ ap (λ n. ended_with r.after_end v n (parts_of rest)) (last_number s.0 v s.1 s.2 s.3)

  -- ---- the outcome is one of the text

  abbrev IsRight : List ℕ → Result V (ℕ × W) → Type 0
  IsRight text o = IsRightFor k r.after_end text o

  -- the text begins with the lines of these elements
  record Begins (text rest : List ℕ) (xs : List X) : Type 0 where
    bytes : text ≡ flat_map line_text (k.lines xs) ++ rest
    fits : All k.Fits xs

  read_refused : (text rest : List ℕ) (xs : List X) (why : W) → Begins text rest xs → k.Refused xs (suc (length xs)) rest why → IsRight text (Err (suc (length xs), why))
  read_refused text rest xs why b refused = inl (xs, b.fits, record { rest = rest; whole = b.bytes; at = line_number xs b.fits; refused = refused })

  read_end : (text rest : List ℕ) (xs : List X) → Begins text rest xs → parts_of rest ≡ rest ∷ [] → IsRight text (read_parts r xs (parts_of rest))
  read_end text rest xs b none = rw (read_parts-unended r xs rest none) (by (r.unended xs rest) refl)
    where
      by : (o : Result V W) → r.unended xs rest ≡ o → IsRight text (on_line (suc (length xs)) o)
      by (Ok v) is = let s = laws.unended xs rest v b.fits is in (s.0, b.bytes ∙ sym s.1)
      by (Err why) is = read_refused text rest xs why b (laws.missing xs rest why none is)

  -- the last line of a value, and what stands after it
  read_last : (text rest : List ℕ) (xs : List X) (v : V) (cut : HasLine rest) → Begins text rest xs → r.said xs (tokens_of cut.line) ≡ Ok (whole v) → IsRight text (ended_with r.after_end v (suc (suc (length xs))) (parts_of cut.rest))
  read_last text rest xs v cut b is = by cut.rest (bytes_push text rest cut.line cut.rest (k.lines xs) b.bytes cut.bytes ∙ ap (λ t. t ++ cut.rest) (sym last.2))
    where
      last : k.Is v × k.Ends v × (k.text v ≡ flat_map line_text (k.lines xs ++ tokens_of cut.line ∷ []))
      last = (line xs (tokens_of cut.line) (Ok (whole v)) is).1 b.fits

      number : suc (suc (length xs)) ≡ length (parts_of (k.text v))
      number = last_number xs v (tokens_of cut.line) b.fits is

      by : (after : List ℕ) → text ≡ k.text v ++ after → IsRight text (ended_with r.after_end v (suc (suc (length xs))) (parts_of after))
      by [] bytes = rw (ended_with-none r.after_end v (suc (suc (length xs))) [] refl) (last.0, bytes ∙ append-nil (k.text v))
      by (c ∷ after) bytes =
          rw (ended_with-some r.after_end v (suc (suc (length xs))) (c ∷ after) (λ none. omega (arith, none))) (inr (v, last.1, record { rest = c ∷ after; whole = bytes; at = number; refused = (λ none. absurd cc, refl) }))

  -- after one more element
  read_one : (text rest : List ℕ) (xs : List X) (x : X) (cut : HasLine rest) → Begins text rest xs → r.said xs (tokens_of cut.line) ≡ Ok (element x) → Begins text cut.rest (xs ++ x ∷ [])
  read_one text rest xs x cut b is =
      let s = line xs (tokens_of cut.line) (Ok (element x)) is in
      record { bytes = bytes_push text rest cut.line cut.rest (k.lines xs) b.bytes cut.bytes ∙ ap (λ ls. flat_map line_text ls ++ cut.rest) (sym s.2); fits = All-push k.Fits xs x b.fits s.1 }

  read_line : (text rest : List ℕ) (xs : List X) → Begins text rest xs → (cut : HasLine rest) → ((x : X) → Begins text cut.rest (xs ++ x ∷ []) → IsRight text (read_parts r (xs ++ x ∷ []) (parts_of cut.rest))) →
      (said : Result (Said X V) W) → r.said xs (tokens_of cut.line) ≡ said → IsRight text (after_line r.after_end xs (parts_of cut.rest) (λ more. read_parts r more (parts_of cut.rest)) said)
  read_line text rest xs b cut go (Err why) is = read_refused text rest xs why b (line xs (tokens_of cut.line) (Err why) is rest cut.line cut.rest (some_bytes rest cut.line cut.rest cut.bytes) cut.parts refl)
  read_line text rest xs b cut go (Ok (element x)) is = go x (read_one text rest xs x cut b is)
  read_line text rest xs b cut go (Ok (whole v)) is = read_last text rest xs v cut b is

  -- from a place on, with at most n bytes left
  read_on : (n : ℕ) (text rest : List ℕ) (xs : List X) → length rest ≤ n → Begins text rest xs → IsRight text (read_parts r xs (parts_of rest))
  read_on zero text rest xs few b =
      ⊎_elim (λ (none : parts_of rest ≡ rest ∷ []). read_end text rest xs b none) (λ (cut : HasLine rest). absurd (omega (arith, few, shorter rest cut.line cut.rest cut.bytes))) (first_line rest)
  read_on (suc n) text rest xs few b =
      ⊎_elim
      (λ (none : parts_of rest ≡ rest ∷ []). read_end text rest xs b none)
      (λ (cut : HasLine rest).
      rw (read_parts-line r xs rest cut.line cut.rest _ cut.parts refl)
      (read_line text rest xs b cut (λ x more. read_on n text cut.rest (xs ++ x ∷ []) (omega (arith, few, shorter rest cut.line cut.rest cut.bytes)) more) (r.said xs (tokens_of cut.line)) refl))
      (first_line rest)

  -- the text has its outcome
  pub has_read : (text : List ℕ) (o : Result V (ℕ × W)) → read_parts r [] (parts_of text) ≡ o → IsRight text o
  has_read text o is = subst (IsRight text) is (read_on (length text) text text [] (omega arith) (record { bytes = ap (λ ls. flat_map line_text ls ++ text) (sym laws.none); fits = All-nil k.Fits }))

  -- ---- the text has one outcome

  no_rest : (rest : List ℕ) → (rest ≢ []) → length rest ≡ 0 → ⊥
  no_rest [] some none = some refl
  no_rest (b ∷ rest) some none = absurd (omega arith)

  pub one_reading : (text : List ℕ) (o : Result V (ℕ × W)) → IsRight text o → read_parts r [] (parts_of text) ≡ o
  one_reading text (Ok v) spells =
      ⊎_elim
      (λ (ends : k.Ends v). ap (λ t. read_parts r [] (parts_of t)) (spells.1 ∙ sym (append-nil (k.text v))) ∙ last_read v [] ends ∙ ended_with-none r.after_end v _ [] refl)
      (λ (all : (xs : List X) × All k.Fits xs × (r.unended xs [] ≡ Ok v)).
      ap (λ t. read_parts r [] (parts_of t)) (spells.1 ∙ (laws.unended all.0 [] v all.1 all.2).1) ∙ (are_read all.0 all.1).reads [] ∙ read_parts-unended r all.0 [] no_parts ∙ ap (on_line (suc (length all.0))) all.2)
      (laws.said_all v spells.0)
  one_reading text (Err fault) refusal =
      ⊎_elim
      (λ (f : (xs : List X) × All k.Fits xs × IsRefusedAfter text (flat_map line_text (k.lines xs)) fault.0 (λ rest. k.Refused xs fault.0 rest fault.1)).
      let at : fault.0 ≡ suc (length f.0) = f.2.at ∙ sym (line_number f.0 f.1) in
      ap (λ t. read_parts r [] (parts_of t)) f.2.whole ∙ (are_read f.0 f.1).reads f.2.rest ∙ laws.refused f.0 f.2.rest fault.1 (subst (λ n. k.Refused f.0 n f.2.rest fault.1) at f.2.refused)
      ∙ ap (λ n. Err (n, fault.1)) (sym at))
      (λ (f : (v : V) × k.Ends v × IsRefusedAfter text (k.text v) fault.0 (λ rest. (rest ≢ []) × (fault.1 ≡ r.after_end))).
      ap (λ t. read_parts r [] (parts_of t)) f.2.whole ∙ last_read f.0 f.2.rest f.1 ∙ ended_with-some r.after_end f.0 _ f.2.rest (no_rest f.2.rest f.2.refused.0)
      ∙ ap (λ n. Err (n, r.after_end)) (sym f.2.at) ∙ ap (λ w. Err (fault.0, w)) (sym f.2.refused.1))
      refusal

  -- ---- laws

  pub spelled_or_refused : (text : List ℕ) → ((v : V) × Spells k text v) ⊎ ((line : ℕ) × (why : W) × IsRefusal k r.after_end text line why)
  spelled_or_refused text = by (read_parts r [] (parts_of text)) refl
    where
      by : (o : Result V (ℕ × W)) → read_parts r [] (parts_of text) ≡ o → ((v : V) × Spells k text v) ⊎ ((line : ℕ) × (why : W) × IsRefusal k r.after_end text line why)
      by (Ok v) is = inl (v, has_read text (Ok v) is)
      by (Err fault) is = inr (fault.0, fault.1, has_read text (Err fault) is)

  -- two outcomes of a text are the same
  same_reading : (text : List ℕ) (o p : Result V (ℕ × W)) → IsRight text o → IsRight text p → o ≡ p
  same_reading text o p one other = sym (one_reading text o one) ∙ one_reading text p other

  pub not_both : (text : List ℕ) (v : V) (line : ℕ) (why : W) → Spells k text v → IsRefusal k r.after_end text line why → ⊥
  not_both text v line why spells refusal = absurd (let s = same_reading text (Ok v) (Err (line, why)) spells refusal in cc)

  pub one_value : (text : List ℕ) (u v : V) → Spells k text u → Spells k text v → u ≡ v
  one_value text u v one other = let s = same_reading text (Ok u) (Ok v) one other in cc

  pub one_refusal : (text : List ℕ) (i j : ℕ) (v w : W) → IsRefusal k r.after_end text i v → IsRefusal k r.after_end text j w → (i ≡ j) × (v ≡ w)
  one_refusal text i j v w one other = let same = same_reading text (Err (i, v)) (Err (j, w)) one other in (ap line_of same, ap why_of same)
    where
      line_of : Result V (ℕ × W) → ℕ
      line_of (Ok u) = 0
      line_of (Err fault) = fault.0

      why_of : Result V (ℕ × W) → W
      why_of (Ok u) = r.after_end
      why_of (Err fault) = fault.1

-- ---- a reader's answers, whose faults each have a line and a reason

pub record ReaderOf (X V W F : Type 0) : Type 1 where
  pub texts : TextsOf X V W
  pub reading : Reading X V W
  pub laws : AreReadBy texts reading
  pub at : F → ℕ × W
  pub memory : W
  pub or_memory : (why : W) → (why ≡ memory) ⊎ (why ≢ memory)

module _ {X V W F : Type 0} (r : ReaderOf X V W F) where
  -- the answer is what the text is read as, unless memory ran out
  abbrev pub IsFound : List ℕ → Result V F → Type 0
  IsFound text answer = IfOk answer (λ v. read_parts r.reading [] (parts_of text) ≡ Ok v)

  abbrev pub IsRefused : List ℕ → Result V F → Type 0
  IsRefused text answer = IfErr answer (λ fault. (r.at fault).1 ≢ r.memory → read_parts r.reading [] (parts_of text) ≡ Err (r.at fault))

  -- at a line
  pub refused_at : (text : List ℕ) (line : ℕ) (why : W) (fault : F) → (r.at fault).1 ≡ why → (why ≢ r.memory → (r.at fault).0 ≡ line) → (why ≢ r.memory → read_parts r.reading [] (parts_of text) ≡ Err (line, why)) →
      (r.at fault).1 ≢ r.memory → read_parts r.reading [] (parts_of text) ≡ Err (r.at fault)
  refused_at text line why fault is at refusal other =
      let so : why ≢ r.memory = (λ e. other (is ∙ e)) in
      refusal so ∙ ap (λ w. Err (line, w)) (sym is) ∙ ap (λ n. Err (n, (r.at fault).1)) (sym (at so))

  -- after the last line
  pub ended_found : (text : List ℕ) (answer : Result V F) (v : V) (line : ℕ) (rest : List ℕ) → IfOk answer (λ d. (d ≡ v) × (length rest ≡ 0)) → read_parts r.reading [] (parts_of text) ≡ ended_with r.reading.after_end v line (parts_of rest) → IsFound text answer
  ended_found text (Ok d) v line rest found is = is ∙ ended_with-none r.reading.after_end v line rest found.1 ∙ ap Ok (sym found.0)
  ended_found text (Err fault) v line rest found is = tt

  pub ended_not : (text : List ℕ) (answer : Result V F) (v : V) (line : ℕ) (refusal : F) (rest : List ℕ) → IfErr answer (λ fault. (fault ≡ refusal) × (length rest ≡ 0 → ⊥)) → r.at refusal ≡ (line, r.reading.after_end) →
      read_parts r.reading [] (parts_of text) ≡ ended_with r.reading.after_end v line (parts_of rest) → IsRefused text answer
  ended_not text (Ok d) v line refusal rest refused at is = tt
  ended_not text (Err fault) v line refusal rest refused at is = λ _. is ∙ ended_with-some r.reading.after_end v line rest refused.1 ∙ ap Err (sym (ap r.at refused.0 ∙ at))

  -- what a text spells is read, unless memory ran out
  pub only_spelled : (text : List ℕ) (answer : Result V F) → IsFound text answer → IsRefused text answer → (v : V) → Spells r.texts text v → MatchResult answer (λ d. d ≡ v) (λ fault. (r.at fault).1 ≡ r.memory)
  only_spelled text (Ok d) found refusal v spells = let s : Ok d ≡ Ok v = sym found ∙ one_reading r.texts r.reading r.laws text (Ok v) spells in cc
  only_spelled text (Err fault) found refusal v spells =
      ⊎_elim
      (λ (out : (r.at fault).1 ≡ r.memory). out)
      (λ (other : (r.at fault).1 ≢ r.memory). absurd (let s : Ok v ≡ Err (r.at fault) = sym (one_reading r.texts r.reading r.laws text (Ok v) spells) ∙ refusal other in cc))
      (r.or_memory (r.at fault).1)

  pub found_spelled : (text : List ℕ) (answer : Result V F) → IsFound text answer → IfOk answer (Spells r.texts text)
  found_spelled text (Ok v) found = has_read r.texts r.reading r.laws text (Ok v) found
  found_spelled text (Err fault) found = tt

  pub found_refused : (text : List ℕ) (answer : Result V F) → IsRefused text answer → IfErr answer (λ fault. (r.at fault).1 ≢ r.memory → IsRefusal r.texts r.reading.after_end text (r.at fault).0 (r.at fault).1)
  found_refused text (Ok v) refusal = tt
  found_refused text (Err fault) refusal = λ other. has_read r.texts r.reading r.laws text (Err (r.at fault)) (refusal other)
