-- Lemmas on what reading and writing do to known bytes.
use Rattle.std.proofs.Common.{◌++◌, ◌≡◌, ℕ, ◌+◌, ◌-◌, ◌≤◌, List, length, take, drop, None, Some, Ok, Err, Result, IfOk, IfErr, IfSome, refl, sym, ap, ◌∙◌, subst, arith, length-drop}
use Rattle.std.specs.Prelude.{Option}
use Rattle.std.specs.Io.KnownBytes.{Appends, Consumes, IsAtEnd}
use Rattle.std.proofs.KnownBytes.{Appends-nil, Appends-trans, Consumes-trans}
use Rattle.std.proofs.lemmas.List.{append-nil, drop_at, length-append, take_all, take-append-le, take_at}
use Rattle.std.proofs.Math.Seq.{take-add}
use Rattle.text_streams.specs.Streams.{AppendsPrefix, LosesPrefix}
use Rattle.text_streams.specs.WrittenTexts.{LeavesAtFault, WritesWhole}
use Rattle.text_streams.specs.declared.faults.Fault.{Fault}
use Rattle.text_streams.specs.declared.faults.Fault.TheVariants.{Write}

-- how often an interrupted write is tried again at most
abbrev pub interrupt_limit : ℕ
interrupt_limit = 1048576

-- what was read up to the end is all there was, where it keeps the limit
pub read_whole : (old mid new : Option (List ℕ)) (bytes chunk : List ℕ) (limit : ℕ) → Consumes old mid bytes → Consumes mid new (take 0 chunk) → IsAtEnd new → length bytes ≤ limit →
    IfSome old (λ all. bytes ≡ take (limit + 1) all)
read_whole None mid new bytes chunk limit before now end within = tt
read_whole (Some all) None new bytes chunk limit before now end within = absurd before
read_whole (Some all) (Some rest) None bytes chunk limit before now end within = absurd now
read_whole (Some all) (Some rest) (Some left) bytes chunk limit before now end within =
    let same : all ≡ bytes = before ∙ ap (λ l. bytes ++ l) (now ∙ end) ∙ append-nil bytes in
    sym (ap (take (limit + 1)) same ∙ take_all (limit + 1) bytes (omega (arith, within)))

-- what was read without passing the limit, up to the end, and what was read past it, are the first bytes of what there was
pub loses_prefix : (old new : Option (List ℕ)) (bytes : List ℕ) (limit : ℕ) → IfSome old (λ all. bytes ≡ take limit all) → Consumes old new bytes → LosesPrefix limit old new
loses_prefix None new bytes limit is consumed = tt
loses_prefix (Some all) new bytes limit is consumed = subst (Consumes (Some all) new) is consumed

-- what one more call of read gave, put after what was read
pub read_more : (old mid new : Option (List ℕ)) (bytes more chunk rest : List ℕ) (count : ℕ) → Consumes old mid bytes → Consumes mid new (take count chunk) → count ≤ length chunk →
    more ≡ bytes ++ take count (chunk ++ rest) → Consumes old new more
read_more old mid new bytes more chunk rest count before now within grown =
    subst (Consumes old new) (sym (grown ∙ ap (λ l. bytes ++ l) (take-append-le count chunk rest within))) (Consumes-trans old mid new bytes (take count chunk) before now)

-- a prefix of the text grows by what the writer took of the rest
pub written_more : (first old new : Option (List ℕ)) (text : List ℕ) (m n : ℕ) → Appends first old (take m text) →
    Appends old new (take n (take (length text - m) (drop m text))) → Appends first new (take (m + n) text)
written_more first old new text m n before added =
    let rest : take (length text - m) (drop m text) ≡ drop m text = take_all (length text - m) (drop m text) (omega (arith, length-drop m text)) in
    subst (Appends first new) (sym (take-add m n text)) (Appends-trans first old new _ _ before (subst (λ l. Appends old new (take n l)) rest added))

-- nothing of a text was written
pub none_written : (a : Option (List ℕ)) (text : List ℕ) → AppendsPrefix a a text
none_written a text = (0, omega arith, Appends-nil a)

-- all of it was
pub whole_written : (a b : Option (List ℕ)) (text : List ℕ) → Appends a b text → AppendsPrefix a b text
whole_written a b text appends = (length text, omega arith, subst (Appends a b) (sym (take_all (length text) text (omega arith))) appends)

-- a prefix of the beginning of a text is one of the text
pub prefix_of_more : (a b : Option (List ℕ)) (text more : List ℕ) → AppendsPrefix a b text → AppendsPrefix a b (text ++ more)
prefix_of_more a b text more written =
    let count = length-append text more in
    let within = written.1 in
    (written.0, omega (arith, count, within), subst (Appends a b) (sym (take-append-le written.0 text more within)) written.2)

-- a prefix of what follows was written after a text
pub prefix_after : (a b c : Option (List ℕ)) (text more : List ℕ) → Appends a b text → AppendsPrefix b c more → AppendsPrefix a c (text ++ more)
prefix_after a b c text more first second =
    let count = length-append text more in
    let within = second.1 in (
      length text + second.0,
      omega (arith, count, within),
      subst (Appends a c) (sym (take_append text more second.0)) (Appends-trans a b c text (take second.0 more) first second.2),
    )
  where
    take_append : (text more : List ℕ) (n : ℕ) → take (length text + n) (text ++ more) ≡ text ++ take n more
    take_append text more n = take-add (length text) n (text ++ more) ∙ ap (λ l. l ++ take n (drop (length text) (text ++ more))) (take_at text more (length text) refl) ∙ ap (λ l. text ++ take n l) (drop_at text more (length text) refl)

-- ---- texts of one kind that are of another

-- what is written of one kind of text is written of any kind that it is
pub writes_as : {X E : Type 0} (A B : List ℕ → X → Type 0) → ((text : List ℕ) (said : X) → A text said → B text said) → (old new : Option (List ℕ)) (outcome : Result X E) →
    IfOk outcome (WritesWhole A old new) → IfOk outcome (WritesWhole B old new)
writes_as A B implied old new (Ok said) writes = (writes.0, implied writes.0 said writes.1, writes.2)
writes_as A B implied old new (Err fault) writes = tt

pub leaves_as : {X : Type 0} (A B : List ℕ → X → Type 0) → ((text : List ℕ) (said : X) → A text said → B text said) → (old new : Option (List ℕ)) (fault : Fault) →
    LeavesAtFault A old new fault → LeavesAtFault B old new fault
leaves_as A B implied old new Write leaves = (leaves.0, leaves.1, implied leaves.1 leaves.0 leaves.2, leaves.3)
leaves_as A B implied old new fault leaves = leaves

pub faults_as : {X : Type 0} (A B : List ℕ → X → Type 0) → ((text : List ℕ) (said : X) → A text said → B text said) → (old new : Option (List ℕ)) (outcome : Result X Fault) →
    IfErr outcome (LeavesAtFault A old new) → IfErr outcome (LeavesAtFault B old new)
faults_as A B implied old new (Ok said) leaves = tt
faults_as A B implied old new (Err fault) leaves = leaves_as A B implied old new fault leaves

-- ---- what is left by a fault

-- that of a writer leaves a prefix of the text
pub leaves_prefix : {X : Type 0} (is_text : List ℕ → X → Type 0) (old new : Option (List ℕ)) (text written : List ℕ) (v : X) (fault : Fault) → is_text text v → written ≡ text →
    AppendsPrefix old new written → fault ≡ Write → LeavesAtFault is_text old new fault
leaves_prefix is_text old new text written v fault is same prefix e =
    subst (LeavesAtFault is_text old new) (sym e) (v, text, is, subst (AppendsPrefix old new) same prefix)
