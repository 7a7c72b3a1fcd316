-- Lemmas on lines that are written in parts.
use Rattle.std.proofs.Common.{◌∙◌, ℕ, ◌+◌, List, ◌++◌, Option, None, Some, append_assoc, arith, length, take, ap, subst, sym}
use Rattle.std.proofs.lemmas.List.{length-append, take-append-le}
use Rattle.std.proofs.Math.Seq.{take-append-add}
use Rattle.std.specs.Io.KnownBytes.{Appends}
use Rattle.text_streams.specs.Streams.{AppendsPrefix}

-- one text after the other
pub appends_both : (old mid new : Option (List ℕ)) (a b : List ℕ) → Appends old mid a → Appends mid new b → Appends old new (a ++ b)
appends_both None mid new a b first second = tt
appends_both (Some xs) None new a b first second = absurd first
appends_both (Some xs) (Some ys) None a b first second = absurd second
appends_both (Some xs) (Some ys) (Some zs) a b first second = second ∙ ap (λ y. y ++ b) first ∙ append_assoc xs a b

-- a prefix of the next text
pub appends_next : (old mid new : Option (List ℕ)) (a b : List ℕ) → Appends old mid a → AppendsPrefix mid new b → AppendsPrefix old new (a ++ b)
appends_next old mid new a b first next = (
  length a + next.0,
  (let whole = length-append a b in omega (arith, next.1)),
  subst (Appends old new) (sym (take-append-add a b next.0)) (appends_both old mid new a (take next.0 b) first next.2),
)

-- a prefix of the first text alone
pub prefix_longer : (old new : Option (List ℕ)) (a b : List ℕ) → AppendsPrefix old new a → AppendsPrefix old new (a ++ b)
prefix_longer old new a b prefix = (
  prefix.0,
  (let whole = length-append a b in omega (arith, prefix.1)),
  subst (Appends old new) (sym (take-append-le prefix.0 a b prefix.1)) prefix.2,
)
