-- A text that is refused as that of a log has one refusal.
use Rattle.std.proofs.Common.{◌≡◌, ◌⊎◌, ◌∙◌, ℕ, suc, Bool, List, [], ◌∷◌, ◌++◌, length, map, None, Some, Result, Ok, refl, ap, sym, subst, inl, inr}
use Rattle.std.proofs.lemmas.Option.{same_Some}
use Rattle.tso_text.specs.declared.faults.Why.{Why}
use Rattle.run_lines.specs.declared.arguments.Widths.{Widths}
use Rattle.log_text.specs.declared.lines.SaidLine.{SaidLine}
use Rattle.log_text.specs.LogLines.{line_said}
use Rattle.log_text.specs.LogTexts.{fault_after, fault_of_said, lines_told, places_of_text, AreSaid, IsLogRefusal, IsPartRefused}
use Rattle.log_text.proofs.TextFacts.{said_ok, same_said}

-- a list goes on after another and one element more
record GoesOn {X : Type 0} (xs : List X) (x : X) (ys : List X) (after : List X) (y : X) (rest : List X) : Type 0 where
  between : List X
  longer : ys ≡ xs ++ x ∷ between
  left : after ≡ between ++ y ∷ rest

-- two ways to part a list at an element: at one place, or the one before the other
parted : {X : Type 0} (xs ys after rest : List X) (x y : X) → xs ++ x ∷ after ≡ ys ++ y ∷ rest →
    ((xs ≡ ys) × (x ≡ y) × (after ≡ rest)) ⊎ (GoesOn xs x ys after y rest ⊎ GoesOn ys y xs rest x after)
parted [] [] after rest x y e = inl (refl, cc, cc)
parted [] (z ∷ ys) after rest x y e = inr (inl (record { between = ys; longer = cc; left = cc }))
parted (z ∷ xs) [] after rest x y e = inr (inr (record { between = xs; longer = cc; left = cc }))
parted (z ∷ xs) (w ∷ ys) after rest x y e = elim (parted xs ys after rest x y cc) [
  | inl same ↦ inl ((let tail = same.0 in cc), same.1, same.2)
  | inr (inl on) ↦ inr (inl (record { between = on.between; longer = (let tail = on.longer in cc); left = on.left }))
  | inr (inr on) ↦ inr (inr (record { between = on.between; longer = (let tail = on.longer in cc); left = on.left }))
]

-- what a text says among others stands in its place among the lines
said_at : (places : Widths) (texts : List (List ℕ)) (text : List ℕ) (after : List (List ℕ)) (lines all : List SaidLine) → map (line_said places) texts ≡ map Ok lines →
    map (line_said places) (texts ++ text ∷ after) ≡ map Ok all → (line : SaidLine) × (rest : List SaidLine) × (line_said places text ≡ Ok line) × (all ≡ lines ++ line ∷ rest)
said_at places [] text after [] (line ∷ all) said whole = (line, all, cc, refl)
said_at places (before ∷ texts) text after (line ∷ lines) (first ∷ all) said whole =
    let here : said_ok line ≡ said_ok first = cc in
    let head : first ≡ line = cc in
    let some : map (line_said places) texts ≡ map Ok lines = cc in
    let others : map (line_said places) (texts ++ text ∷ after) ≡ map Ok all = cc in
    let more = said_at places texts text after lines all some others in
    (more.0, more.1, more.2, (let tail = more.3 in cc))
said_at places texts text after lines all said whole = absurd cc

-- a line of those without a fault has none
never_on : (needs_end : Bool) (places : Widths) (texts others : List (List ℕ)) (lines all : List SaidLine) (part : List ℕ) (after rest : List (List ℕ)) (other : List ℕ) (why : Why) →
    AreSaid places texts lines → AreSaid places others all → GoesOn texts part others after other rest → IsPartRefused needs_end places lines part after why → ⊥
never_on needs_end places texts others lines all part after rest other why said also on fault =
    let line = said_at places texts part on.between lines all said.said (ap (map (line_said places)) (sym on.longer) ∙ also.said) in
    let clean : fault_after (lines_told lines) line.0.line ≡ None = also.clean lines line.0 line.1 line.3 in
    let refused = faulty after on.between on.left fault in
    let none : None ≡ Some why = sym clean ∙ sym (ap (fault_of_said (lines_told lines)) line.2) ∙ refused in
    absurd cc
  where
    faulty : (after between : List (List ℕ)) → after ≡ between ++ other ∷ rest → IsPartRefused needs_end places lines part after why →
        fault_of_said (lines_told lines) (line_said places part) ≡ Some why
    faulty [] [] e fault = absurd cc
    faulty [] (b ∷ between) e fault = absurd cc
    faulty (next ∷ after) between e fault = fault

one_fault : (needs_end : Bool) (places : Widths) (lines : List SaidLine) (part : List ℕ) (after : List (List ℕ)) (v w : Why) → IsPartRefused needs_end places lines part after v →
    IsPartRefused needs_end places lines part after w → v ≡ w
one_fault needs_end places lines part [] v w one other = one.1 ∙ sym other.1
one_fault needs_end places lines part (next ∷ after) v w one other = same_Some v w (sym one ∙ other)

-- a text has one refusal at most
pub one_log_refusal : (needs_end : Bool) (text : List ℕ) (j k : ℕ) (v w : Why) → IsLogRefusal needs_end text j v → IsLogRefusal needs_end text k w → (j ≡ k) × (v ≡ w)
one_log_refusal needs_end text j k v w r s =
    let places = places_of_text text in
    elim (parted r.texts s.texts r.after s.after r.part s.part (sym r.whole ∙ s.whole)) [
      | inl same ↦ (
          let lines : r.lines ≡ s.lines = same_said r.lines s.lines (sym r.said.said ∙ ap (map (line_said places)) same.0 ∙ s.said.said) in
          let fault : IsPartRefused needs_end places s.lines s.part s.after v =
          subst (λ a. IsPartRefused needs_end places s.lines s.part a v) same.2
          (subst (λ p. IsPartRefused needs_end places s.lines p r.after v) same.1 (subst (λ l. IsPartRefused needs_end places l r.part r.after v) lines r.fault)) in
          (r.is ∙ ap (λ (texts : List (List ℕ)). suc (length texts)) same.0 ∙ sym s.is, one_fault needs_end places s.lines s.part s.after v w fault s.fault))
      | inr (inl on) ↦ absurd (never_on needs_end places r.texts s.texts r.lines s.lines r.part r.after s.after s.part v r.said s.said on r.fault)
      | inr (inr on) ↦ absurd (never_on needs_end places s.texts r.texts s.lines r.lines s.part s.after r.after r.part w s.said r.said on s.fault)
    ]
