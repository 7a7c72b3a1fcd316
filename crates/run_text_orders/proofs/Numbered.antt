-- What a line says is known from its words and numbers, so that lines have one account.
use Rattle.std.proofs.Common.{◌≡◌, ◌∙◌, sym, ap, refl, subst, inl, inr, ◌⊎◌, ℕ, ◌+◌, ◌^◌, ◌<◌, ◌≤◌, if◌then◌else◌, arith, Option, None, Some, Result, Ok, List, [], ◌∷◌, codes}
use Rattle.std.specs.Str.{bytes_eq}
use Rattle.std.proofs.Math.Bridge.{le_prop}
use Rattle.std.proofs.lemmas.Bool.{cases_lt}
use Rattle.tso_text.specs.declared.faults.Why.{Why}
use Rattle.run_steps.specs.Widths.{cells_of}
use Rattle.run_steps.specs.declared.places.Place.{Place}
use Rattle.run_steps.specs.declared.steps.RunStep.{RunStep}
use Rattle.run_steps.specs.declared.steps.RunStep.TheVariants.{Load, Store, Drain, Write, Swap, Reserve, StoreReserved, Membar, Stbar, Unknown, Last}
use Rattle.run_lines.specs.declared.lines.RunText.{RunText}
use Rattle.run_lines.specs.declared.lines.RunText.TheVariants as text
use Rattle.run_lines.specs.Lines.{LineNumbers, note, pso, first, step, finish, line_read, numbers_of_step, step_word, text_numbers}
use Rattle.run_following.specs.Accounts.{Account, IsAccepted, account_at_start, with_line}
use Rattle.run_following.specs.Runs.{IsOfLines, LeadsTo}

-- ---- places

-- a place is known from its address and width
place_once : (p q : Place) → p.address ≡ q.address → p.width ≡ q.width → p ≡ q
place_once p q address width =
    subst (λ a. (within : a + cells_of q.width ≤ 2 ^ 64) → p ≡ record { address = a; width = q.width; few = q.few; within = within }) address
    (subst (λ w. (few : cells_of w ≤ 8) (within : p.address + cells_of w ≤ 2 ^ 64) → p ≡ record { address = p.address; width = w; few = few; within = within }) width
    (λ few within. λ i. record { address = p.address; width = p.width; few = le_prop p.few few i; within = le_prop p.within within i }) q.few) q.within

-- the place of this address and width, where these are one's
abbrev place_made : (a w : ℕ) → (8 < cells_of w) ⊎ (cells_of w ≤ 8) → (2 ^ 64 < a + cells_of w) ⊎ (a + cells_of w ≤ 2 ^ 64) → Option Place
place_made a w (inl many) past = None
place_made a w (inr few) (inl past) = None
place_made a w (inr few) (inr within) = Some (record { address = a; width = w; few = few; within = within })

abbrev place_at : ℕ → ℕ → Option Place
place_at a w = place_made a w (cases_lt 8 (cells_of w)) (cases_lt (2 ^ 64) (a + cells_of w))

made_back : (p : Place) (few : (8 < cells_of p.width) ⊎ (cells_of p.width ≤ 8)) (within : (2 ^ 64 < p.address + cells_of p.width) ⊎ (p.address + cells_of p.width ≤ 2 ^ 64)) →
    place_made p.address p.width few within ≡ Some p
made_back p (inl many) past = let few = p.few in absurd (omega (arith, many, few))
made_back p (inr few) (inl past) = let within = p.within in absurd (omega (arith, past, within))
made_back p (inr few) (inr within) = ap Some (place_once (record { address = p.address; width = p.width; few = few; within = within }) p refl refl)

place_back : (p : Place) → place_at p.address p.width ≡ Some p
place_back p = made_back p (cases_lt 8 (cells_of p.width)) (cases_lt (2 ^ 64) (p.address + cells_of p.width))

-- ---- steps

-- what this makes of a place, where there is one
abbrev of_place : {X : Type 0} → (Place → X) → Option Place → Option X
of_place make None = None
of_place make (Some place) = Some (make place)

-- what this makes of a place and a value
abbrev accessed : {X : Type 0} → (Place → ℕ → X) → List ℕ → Option X
accessed make [] = None
accessed make (a ∷ []) = None
accessed make (a ∷ w ∷ []) = None
accessed make (a ∷ w ∷ v ∷ numbers) = of_place (λ place. make place v) (place_at a w)

abbrev drained : List ℕ → Option RunStep
drained [] = Some (Drain None None)
drained (v ∷ []) = Some (Drain None (Some v))
drained (a ∷ w ∷ []) = of_place (λ place. Drain (Some place) None) (place_at a w)
drained (a ∷ w ∷ v ∷ numbers) = of_place (λ place. Drain (Some place) (Some v)) (place_at a w)

abbrev swapped : List ℕ → Option RunStep
swapped [] = None
swapped (a ∷ []) = None
swapped (a ∷ w ∷ []) = None
swapped (a ∷ w ∷ r ∷ []) = None
swapped (a ∷ w ∷ r ∷ v ∷ numbers) = of_place (λ place. Swap place r v) (place_at a w)

abbrev alone : List ℕ → Option RunStep
alone [] = None
alone (a ∷ []) = None
alone (a ∷ w ∷ numbers) = of_place Unknown (place_at a w)

-- the step of this keyword and these numbers
abbrev step_of : List ℕ → List ℕ → Option RunStep
step_of word numbers =
    if bytes_eq word (codes "ld") then accessed Load numbers
    else if bytes_eq word (codes "st") then accessed Store numbers
    else if bytes_eq word (codes "dr") then drained numbers
    else if bytes_eq word (codes "wr") then accessed Write numbers
    else if bytes_eq word (codes "sw") then swapped numbers
    else if bytes_eq word (codes "lr") then accessed Reserve numbers
    else if bytes_eq word (codes "sc") then accessed StoreReserved numbers
    else if bytes_eq word (codes "mb") then Some Membar
    else if bytes_eq word (codes "stbar") then Some Stbar
    else if bytes_eq word (codes "un") then alone numbers
    else accessed Last numbers

step_back : (s : RunStep) → step_of (step_word s) (numbers_of_step s) ≡ Some s
step_back (Load place v) = ap (of_place (λ p. Load p v)) (place_back place)
step_back (Store place v) = ap (of_place (λ p. Store p v)) (place_back place)
step_back (Drain None None) = refl
step_back (Drain None (Some v)) = refl
step_back (Drain (Some place) None) = ap (of_place (λ p. Drain (Some p) None)) (place_back place)
step_back (Drain (Some place) (Some v)) = ap (of_place (λ p. Drain (Some p) (Some v))) (place_back place)
step_back (Write place v) = ap (of_place (λ p. Write p v)) (place_back place)
step_back (Swap place r v) = ap (of_place (λ p. Swap p r v)) (place_back place)
step_back (Reserve place v) = ap (of_place (λ p. Reserve p v)) (place_back place)
step_back (StoreReserved place v) = ap (of_place (λ p. StoreReserved p v)) (place_back place)
step_back Membar = refl
step_back Stbar = refl
step_back (Unknown place) = ap (of_place Unknown) (place_back place)
step_back (Last place v) = ap (of_place (λ p. Last p v)) (place_back place)

-- ---- lines

abbrev stepped : ℕ → Option RunStep → Option RunText
stepped p None = None
stepped p (Some s) = Some (text.Step p s)

-- what a line of these words and numbers says
abbrev text_of : LineNumbers → Option RunText
text_of note = Some text.Note
text_of pso = Some text.Pso
text_of (first numbers) = accessed text.First numbers
text_of (step p word numbers) = stepped p (step_of word numbers)
text_of finish = Some text.End

text_back : (said : RunText) → text_of (text_numbers said) ≡ Some said
text_back text.Note = refl
text_back text.Pso = refl
text_back (text.First place v) = ap (of_place (λ p. text.First p v)) (place_back place)
text_back (text.Step p s) = ap (stepped p) (step_back s)
text_back text.End = refl

-- what lines say is the same where their words and numbers are
pub said_once : (s t : RunText) → text_numbers s ≡ text_numbers t → s ≡ t
said_once s t same = let both : ◌≡◌ {A = Option RunText} (Some s) (Some t) = sym (text_back s) ∙ ap text_of same ∙ text_back t in cc

-- two readings of a line are one
pub read_once : (r : Result LineNumbers Why) (s t : RunText) → r ≡ Ok (text_numbers s) → r ≡ Ok (text_numbers t) → s ≡ t
read_once r s t one two =
    let both : ◌≡◌ {A = Result LineNumbers Why} (Ok (text_numbers s)) (Ok (text_numbers t)) = sym one ∙ two in
    let same : text_numbers s ≡ text_numbers t = cc in
    said_once s t same

-- ---- accounts

-- a line leads to one account
pub accepted_once : (from : Account) (line : List ℕ) (a b : Account) → IsAccepted from line a → IsAccepted from line b → a ≡ b
accepted_once from line a b one two = one.is ∙ ap (with_line from line) (read_once (line_read from.widths line) one.said two.said one.read two.read) ∙ sym two.is

-- lines lead to one account
pub leads_once : (from : Account) (lines : List (List ℕ)) (a b : Account) → LeadsTo from lines a → LeadsTo from lines b → a ≡ b
leads_once from [] a b one two = sym one ∙ two
leads_once from (line ∷ lines) a b one two =
    leads_once one.0 lines a b one.2 (subst (λ from. LeadsTo from lines b) (accepted_once from line two.0 one.0 two.1 one.1) two.2)

-- two accounts of the same lines are one
pub account_once : (a b : Account) → IsOfLines a → IsOfLines b → a.texts ≡ b.texts → a ≡ b
account_once a b one two same = leads_once account_at_start a.texts a b one (subst (λ texts. LeadsTo account_at_start texts b) (sym same) two)
