-- Lemmas on the lines of a run whose bytes come one after the other.
use Rattle.std.proofs.Common.{◌≡◌, ◌≢◌, ◌∙◌, refl, sym, ap, subst, ℕ, ◌+◌, ◌==◌, true, false, List, [], ◌∷◌, ◌++◌, drop, get_or, length, None, Some, arith, append_assoc, ⊎_elim}
use Rattle.std.specs.List.{count_by, join_with_byte, onto_first, slice_split}
use Rattle.std.proofs.lemmas.Bool.{or_parts}
use Rattle.std.proofs.lemmas.Bool.Decides.{eqb_tells}
use Rattle.std.proofs.lemmas.List.{append-nil}
use Rattle.std.proofs.lemmas.List.Splits.{join_with_byte-slice_split, length-slice_split}
use Rattle.line_text.specs.Lines.{parts_of}
use Rattle.line_text.proofs.CutFacts.{HasLine, first_line}
use Rattle.line_text.proofs.SplitFacts.{split_part}
use Rattle.run_lines.specs.declared.lines.RunText.{RunText}
use Rattle.run_lines.specs.declared.lines.RunText.TheVariants as text
use Rattle.run_following.specs.Accounts.{Account, Follows, IsAccepted, account_at_start, with_said, with_text}
use Rattle.run_following.specs.Internal.Streams.{AreCut, EndsAt, IsTaken, StandsAt, has_line_end}
use Rattle.run_following.specs.Runs.{IsOfLines, LeadsTo}
use Rattle.run_following.specs.declared.streams.RunStream.{RunStream}
use Rattle.run_following.specs.declared.streams.Stop.{Stop}

-- ---- bytes

no_more : (xs ys : List ℕ) → has_line_end xs ≡ false → has_line_end ys ≡ false → has_line_end (xs ++ ys) ≡ false
no_more [] ys none others = others
no_more (x ∷ xs) ys none others =
    let parts = or_parts (x == 10) (has_line_end xs) none in
    rw parts.0 (no_more xs ys parts.1 others)

-- no line ends within the first part
first_unended : (parts : List (List ℕ)) (x : ℕ) → (x == 10) ≡ false → has_line_end (get_or parts 0 []) ≡ false → has_line_end (get_or (onto_first x parts) 0 []) ≡ false
first_unended [] x other none = rw other refl
first_unended (part ∷ parts) x other none = rw other none

unended : (text : List ℕ) → has_line_end (get_or (parts_of text) 0 []) ≡ false
unfolding parts_of
unended [] = refl
unended (x ∷ text) =
    ⊎_elim
    (λ (yes : ((x == 10) ≡ true) × (x ≡ 10)). rw yes.0 refl)
    (λ (no : ((x == 10) ≡ false) × (x ≢ 10)). rw no.0 (first_unended (slice_split (λ b. b == 10) text) x no.0 (unended text)))
    (eqb_tells x 10)

line_unended : (text line after : List ℕ) → parts_of text ≡ line ∷ parts_of after → has_line_end line ≡ false
line_unended text line after parts = ap (λ ps. has_line_end (get_or ps 0 [])) (sym parts) ∙ unended text

some_parts : (text : List ℕ) → parts_of text ≡ [] → ⊥
unfolding parts_of
some_parts text none = absurd (let count : 0 ≡ count_by (λ b. b == 10) text + 1 = ap length (sym none) ∙ length-slice_split (λ b. b == 10) text in omega (arith, count))

same_text : (a b : List ℕ) → parts_of a ≡ parts_of b → a ≡ b
unfolding parts_of
same_text a b same = sym (join_with_byte-slice_split 10 a) ∙ ap (join_with_byte 10) same ∙ join_with_byte-slice_split 10 b

-- the bytes of a line, its line end, and what follows it
joined : (text line after : List ℕ) → parts_of text ≡ line ∷ parts_of after → text ≡ line ++ 10 ∷ after
joined text line after parts =
    ⊎_elim
    (λ (one : parts_of text ≡ text ∷ []). absurd (some_parts after (ap (drop 1) (sym parts ∙ one))))
    (λ (has : HasLine text).
    let both : has.line ∷ parts_of has.rest ≡ line ∷ parts_of after = sym has.parts ∙ parts in
    has.bytes ∙ ap (λ l. l ++ 10 ∷ has.rest) (ap (λ ps. get_or ps 0 []) both) ∙ ap (λ r. line ++ 10 ∷ r) (same_text has.rest after (ap (drop 1) both)))
    (first_line text)

pub one_line : (line more : List ℕ) → has_line_end line ≡ false → parts_of (line ++ 10 ∷ more) ≡ line ∷ parts_of more
unfolding parts_of
one_line line more none = split_part 10 line more none

-- one more line is cut
cut_more : (done line : List ℕ) (lines : List (List ℕ)) → AreCut done lines → has_line_end line ≡ false → AreCut (done ++ line ++ 10 ∷ []) (lines ++ line ∷ [])
cut_more done line lines cut none more =
    ap parts_of (append_assoc (done ++ line) (10 ∷ []) more ∙ append_assoc done line (10 ∷ more))
    ∙ cut (line ++ 10 ∷ more) ∙ ap (λ ps. lines ++ ps) (one_line line more none) ∙ sym (append_assoc lines (line ∷ []) (parts_of more))

-- ---- accounts

pub leads_more : (from mid to : Account) (lines : List (List ℕ)) (line : List ℕ) → LeadsTo from lines mid → IsAccepted mid line to → LeadsTo from (lines ++ line ∷ []) to
leads_more from mid to [] line leads accepted = (to, subst (λ a. IsAccepted a line to) (sym leads) accepted, refl)
leads_more from mid to (first ∷ lines) line leads accepted = (leads.0, leads.1, leads_more leads.0 mid to lines line leads.2 accepted)

said_texts : (account : Account) (said : RunText) → (with_said account said).texts ≡ account.texts
said_texts account text.Note = refl
said_texts account text.Pso = refl
said_texts account (text.First place v) = refl
said_texts account (text.Step p step) = refl
said_texts account text.End = refl

-- the lines with one more
pub accepted_texts : (account next : Account) (line : List ℕ) → IsAccepted account line next → account.texts ++ line ∷ [] ≡ next.texts
accepted_texts account next line accepted = sym (said_texts (with_text account line accepted.said) accepted.said) ∙ ap (λ a. a.texts) (sym accepted.is)

-- an account of lines, with one more
pub of_lines : (account next : Account) (line : List ℕ) → IsOfLines account → IsAccepted account line next → IsOfLines next
of_lines account next line leads accepted =
    subst (λ ts. LeadsTo account_at_start ts next) (accepted_texts account next line accepted) (leads_more account_at_start account next account.texts line leads accepted)

-- ---- what a stream has followed

module _ (old new : RunStream) (bytes rest line after : List ℕ) (stands : StandsAt old bytes rest) (parts : parts_of rest ≡ line ∷ parts_of after) (fast : new.is_fast ≡ old.is_fast) where
  abbrev whole_line : List ℕ
  whole_line = old.pending.items ++ line

  none_within : has_line_end whole_line ≡ false
  none_within = no_more old.pending.items line stands.unended (line_unended rest line after parts)

  told : bytes ≡ stands.done ++ whole_line ++ 10 ∷ after
  told =
      stands.whole ∙ ap (λ r. (stands.done ++ old.pending.items) ++ r) (joined rest line after parts)
      ∙ sym (append_assoc (stands.done ++ old.pending.items) line (10 ∷ after))
      ∙ ap (λ t. t ++ 10 ∷ after) (append_assoc stands.done old.pending.items line)

  -- a line that is followed
  pub line_taken : ((account : Account) → Follows old.follower account → IsTaken new account whole_line None) → StandsAt new bytes after
  line_taken taken =
      let t = taken stands.account stands.follows in
      let next = t.0 in
      let accepted = t.1 in
      record {
        account = next;
        done = stands.done ++ whole_line ++ 10 ∷ [];
        follows = t.2;
        leads = of_lines stands.account next whole_line stands.leads accepted;
        cut = subst (AreCut (stands.done ++ whole_line ++ 10 ∷ [])) (accepted_texts stands.account next whole_line accepted) (cut_more stands.done whole_line stands.account.texts stands.cut none_within);
        whole = told ∙ sym (append_assoc (stands.done ++ whole_line) (10 ∷ []) after)
            ∙ ap (λ p. p ++ after) (sym (append-nil (stands.done ++ whole_line ++ 10 ∷ [])))
            ∙ ap (λ p. (stands.done ++ whole_line ++ 10 ∷ []) ++ p ++ after) (sym t.3);
        unended = ap has_line_end t.3;
        clean = t.4;
      }

  -- a line that ends the run
  pub line_stops : (stop : Stop) → ((account : Account) → Follows old.follower account → IsTaken new account whole_line (Some stop)) → EndsAt new bytes stop
  line_stops stop taken = record {
    account = stands.account;
    done = stands.done;
    line = whole_line;
    rest = after;
    leads = stands.leads;
    cut = stands.cut;
    whole = told;
    unended = none_within;
    clean = λ is. stands.clean (sym fast ∙ is);
    stops = taken stands.account stands.follows;
  }

-- bytes in which no line ends
pub all_taken : (old new : RunStream) (bytes rest : List ℕ) → StandsAt old bytes rest → parts_of rest ≡ rest ∷ [] → new ≡ record old { pending = new.pending } → new.pending.items ≡ old.pending.items ++ rest → StandsAt new bytes []
all_taken old new bytes rest stands parts same pending = record {
  account = stands.account;
  done = stands.done;
  follows = subst (λ f. Follows f stands.account) (ap (λ s. s.follower) (sym same)) stands.follows;
  leads = stands.leads;
  cut = stands.cut;
  whole = stands.whole ∙ append_assoc stands.done old.pending.items rest ∙ ap (λ p. stands.done ++ p) (sym pending) ∙ sym (append-nil (stands.done ++ new.pending.items));
  unended = ap has_line_end pending ∙ no_more old.pending.items rest stands.unended (ap (λ ps. has_line_end (get_or ps 0 [])) (sym parts) ∙ unended rest);
  clean = λ is. stands.clean (ap (λ s. s.is_fast) (sym same) ∙ is);
}

-- the next bytes, none of which is followed yet
pub begun : (stream : RunStream) (bytes chunk : List ℕ) → StandsAt stream bytes [] → StandsAt stream (bytes ++ chunk) chunk
begun stream bytes chunk stands = record {
  account = stands.account;
  done = stands.done;
  follows = stands.follows;
  leads = stands.leads;
  cut = stands.cut;
  whole = ap (λ t. t ++ chunk) (stands.whole ∙ append-nil (stands.done ++ stream.pending.items));
  unended = stands.unended;
  clean = stands.clean;
}
