-- Where the lines of a text stop, and with what: a text is followed to one account, or refused at one line for one fault.
use Rattle.std.proofs.Common.{◌≡◌, ◌≢◌, ◌∙◌, sym, ap, refl, subst, inl, inr, ◌⊎◌, ℕ, suc, Bool, true, ◌==◌, Option, None, Some, Result, Ok, Err, List, [], ◌∷◌, ◌++◌, length, append_assoc}
use Rattle.std.proofs.lemmas.List.{append_cancel_left}
use Rattle.line_text.specs.Lines.{parts_of}
use Rattle.line_text.proofs.CutFacts.{split_parts}
use Rattle.tso_text.specs.declared.faults.Why.{Why}
use Rattle.run_lines.specs.declared.lines.RunText.{RunText}
use Rattle.run_lines.specs.declared.lines.RunText.TheVariants as text
use Rattle.run_lines.specs.Lines.{LineNumbers, line_read, text_numbers}
use Rattle.run_following.specs.Accounts.{Account, IsAccepted, IsRefusedFor, account_at_start, said_fault, with_said, with_text}
use Rattle.run_following.specs.Runs.{IsFollowed, IsOfLines, IsRunPartRefused, IsRunRefusal, LeadsTo}
use Rattle.run_following.specs.declared.stages.Stage.TheVariants.{Ended}
use Rattle.run_following.proofs.StreamFacts.{accepted_texts}
use Rattle.run_text_orders.proofs.Numbered.{account_once, accepted_once, leads_once, read_once}

-- ---- refusals stay

none_left : {X : Type 0} (xs ys : List X) → xs ++ ys ≡ [] → xs ≡ []
none_left [] ys none = refl
none_left (x ∷ xs) ys none = absurd cc

said_clean : (account : Account) (said : RunText) → (with_said account said).refusals ≡ [] → account.refusals ≡ []
said_clean account text.Note none = none
said_clean account text.Pso none = none
said_clean account (text.First place v) none = none
said_clean account (text.Step p step) none = none_left account.refusals _ none
said_clean account text.End none = none

accepted_clean : (account next : Account) (line : List ℕ) → IsAccepted account line next → next.refusals ≡ [] → account.refusals ≡ []
accepted_clean account next line accepted none =
    said_clean (with_text account line accepted.said) accepted.said (subst (λ a. a.refusals ≡ []) accepted.is none)

-- where nothing is told of the last lines, nothing is told of those before
leads_clean : (lines : List (List ℕ)) (from to : Account) → LeadsTo from lines to → to.refusals ≡ [] → from.refusals ≡ []
leads_clean [] from to leads none = subst (λ a. a.refusals ≡ []) (sym leads) none
leads_clean (line ∷ lines) from to leads none = accepted_clean from leads.0 line leads.1 (leads_clean lines leads.0 to leads.2 none)

-- ---- a line is accepted, or refused for one fault

ended_twice : (r : Result LineNumbers Why) (why : Why) (n : LineNumbers) → r ≡ Ok n → r ≡ Err why → ⊥
ended_twice r why n one two = let both : ◌≡◌ {A = Result LineNumbers Why} (Ok n) (Err why) = sym one ∙ two in absurd cc

why_once : (o : Option Why) (v w : Why) → o ≡ Some v → o ≡ Some w → v ≡ w
why_once o v w one two = let both : ◌≡◌ {A = Option Why} (Some v) (Some w) = sym one ∙ two in cc

err_once : (r : Result LineNumbers Why) (v w : Why) → r ≡ Err v → r ≡ Err w → v ≡ w
err_once r v w one two = let both : ◌≡◌ {A = Result LineNumbers Why} (Err v) (Err w) = sym one ∙ two in cc

none_some : (o : Option Why) (why : Why) → o ≡ None → o ≡ Some why → ⊥
none_some o why one two = let both : ◌≡◌ {A = Option Why} None (Some why) = sym one ∙ two in absurd cc

not_both : (account next : Account) (line : List ℕ) (why : Why) → IsAccepted account line next → IsRefusedFor account line why → ⊥
not_both account next line why accepted (inl ended) = accepted.unended ended.0
not_both account next line why accepted (inr (unended, inl unread)) =
    ended_twice (line_read account.widths line) why (text_numbers accepted.said) accepted.read unread
not_both account next line why accepted (inr (unended, inr (said, read, fault))) =
    let same = read_once (line_read account.widths line) said accepted.said read accepted.read in
    none_some (said_fault account accepted.said) why accepted.follows (subst (λ s. said_fault account s ≡ Some why) same fault)

one_fault : (account : Account) (line : List ℕ) (v w : Why) → IsRefusedFor account line v → IsRefusedFor account line w → v ≡ w
one_fault account line v w (inl one) (inl two) = one.1 ∙ sym two.1
one_fault account line v w (inl one) (inr two) = absurd (two.0 one.0)
one_fault account line v w (inr one) (inl two) = absurd (one.0 two.0)
one_fault account line v w (inr (unended, inl one)) (inr (other, inl two)) = err_once (line_read account.widths line) v w one two
one_fault account line v w (inr (unended, inl one)) (inr (other, inr (said, read, fault))) =
    absurd (ended_twice (line_read account.widths line) v (text_numbers said) read one)
one_fault account line v w (inr (unended, inr (said, read, fault))) (inr (other, inl two)) =
    absurd (ended_twice (line_read account.widths line) w (text_numbers said) read two)
one_fault account line v w (inr (unended, inr (said, read, fault))) (inr (other, inr (also, again, twice))) =
    let same = read_once (line_read account.widths line) also said again read in
    why_once (said_fault account said) v w fault (subst (λ s. said_fault account s ≡ Some w) same twice)

-- ---- what a text stops with

-- a text is followed to this account, or refused at this line for this fault
data Outcome : Type 0 where
  followed : Account → Outcome
  refused : ℕ → Why → Outcome

module _ (needs_end is_fast : Bool) where
  -- the lines stop after this account, at this part, after which these stand
  abbrev StopsWith : Account → List ℕ → List (List ℕ) → Outcome → Type 0
  StopsWith at part [] (followed a) = (part ≡ []) × (needs_end ≡ true → at.stage ≡ Ended) × (at ≡ a)
  StopsWith at part (next ∷ after) (followed a) = (is_fast ≡ true) × IsAccepted at part a × (a.refusals ≢ [])
  StopsWith at part [] (refused line why) = (line ≡ suc (length at.texts)) × IsRunPartRefused needs_end at part [] why
  StopsWith at part (next ∷ after) (refused line why) = (line ≡ suc (length at.texts)) × IsRefusedFor at part why

  record Stops (parts : List (List ℕ)) (outcome : Outcome) : Type 0 where
    at : Account
    part : List ℕ
    after : List (List ℕ)
    whole : parts ≡ at.texts ++ part ∷ after
    leads : IsOfLines at
    clean : is_fast ≡ true → at.refusals ≡ []
    stops : StopsWith at part after outcome

  not_ended : (at : Account) (part : List ℕ) → (part ≡ []) → (needs_end ≡ true → at.stage ≡ Ended) → ((part ≢ []) ⊎ ((needs_end ≡ true) × (at.stage ≢ Ended))) → ⊥
  not_ended at part empty ended (inl some) = some empty
  not_ended at part empty ended (inr missing) = missing.1 (ended missing.0)

  -- at one part it stops with one outcome
  stops_once : (at : Account) (part : List ℕ) (after : List (List ℕ)) (o p : Outcome) → StopsWith at part after o → StopsWith at part after p → o ≡ p
  stops_once at part [] (followed a) (followed b) one two = ap followed (sym one.2 ∙ two.2)
  stops_once at part [] (followed a) (refused line why) one two = absurd (not_ended at part one.0 one.1 two.1.0)
  stops_once at part [] (refused line why) (followed b) one two = absurd (not_ended at part two.0 two.1 one.1.0)
  stops_once at part [] (refused line why) (refused line2 why2) one two =
      let lines : line ≡ line2 = one.0 ∙ sym two.0 in let whys : why ≡ why2 = one.1.1 ∙ sym two.1.1 in cc
  stops_once at part (next ∷ after) (followed a) (followed b) one two = ap followed (accepted_once at part a b one.1 two.1)
  stops_once at part (next ∷ after) (followed a) (refused line why) one two = absurd (not_both at a part why one.1 two.1)
  stops_once at part (next ∷ after) (refused line why) (followed b) one two = absurd (not_both at b part why two.1 one.1)
  stops_once at part (next ∷ after) (refused line why) (refused line2 why2) one two =
      let lines : line ≡ line2 = one.0 ∙ sym two.0 in let whys : why ≡ why2 = one_fault at part why why2 one.1 two.1 in cc

  -- no lines go on past a part where it stops
  not_past : (at to : Account) (part : List ℕ) (more : List (List ℕ)) (next : List ℕ) (after : List (List ℕ)) (o : Outcome) → StopsWith at part (next ∷ after) o →
      LeadsTo at (part ∷ more) to → (is_fast ≡ true → to.refusals ≡ []) → ⊥
  not_past at to part more next after (followed a) stops leads clean =
      let same = accepted_once at part leads.0 a leads.1 stops.1 in
      stops.2 (subst (λ b. b.refusals ≡ []) same (leads_clean more leads.0 to leads.2 (clean stops.0)))
  not_past at to part more next after (refused line why) stops leads clean = not_both at leads.0 part why leads.1 stops.1

-- ---- texts in two parts

split_leads : (from to : Account) (lines more : List (List ℕ)) → LeadsTo from (lines ++ more) to → (between : Account) × LeadsTo from lines between × LeadsTo between more to
split_leads from to [] more leads = (from, refl, leads)
split_leads from to (line ∷ lines) more leads =
    let rest = split_leads leads.0 to lines more leads.2 in (rest.0, (leads.0, leads.1, rest.1), rest.2)

-- A list with this part and those after it goes on past them: it has the part and these more, and some part stands after it.
record GoesPast (lines : List (List ℕ)) (part : List ℕ) (after : List (List ℕ)) (all : List (List ℕ)) : Type 0 where
  more : List (List ℕ)
  is : all ≡ lines ++ part ∷ more
  next : List ℕ
  others : List (List ℕ)
  rest : after ≡ next ∷ others

some_first : (ys : List (List ℕ)) (q : List ℕ) (qs : List (List ℕ)) → (next : List ℕ) × (others : List (List ℕ)) × (ys ++ q ∷ qs ≡ next ∷ others)
some_first [] q qs = (q, qs, refl)
some_first (y ∷ ys) q qs = (y, ys ++ q ∷ qs, refl)

past_more : (x y : List ℕ) (xs : List (List ℕ)) (p : List ℕ) (ps ys : List (List ℕ)) → x ≡ y → GoesPast xs p ps ys → GoesPast (x ∷ xs) p ps (y ∷ ys)
past_more x y xs p ps ys same past = record {
  more = past.more;
  is = ap (λ z. z ∷ ys) (sym same) ∙ ap (λ zs. x ∷ zs) past.is;
  next = past.next;
  others = past.others;
  rest = past.rest;
}

past_first : (p y : List ℕ) (ps ys : List (List ℕ)) (q : List ℕ) (qs : List (List ℕ)) → p ≡ y → ps ≡ ys ++ q ∷ qs → GoesPast [] p ps (y ∷ ys)
past_first p y ps ys q qs same is =
    let first = some_first ys q qs in
    record { more = ys; is = ap (λ z. z ∷ ys) (sym same); next = first.0; others = first.1; rest = is ∙ first.2 }

-- of two lists that begin one, the two are one, or one goes on past the other
begun : (xs : List (List ℕ)) (p : List ℕ) (ps ys : List (List ℕ)) (q : List ℕ) (qs : List (List ℕ)) → xs ++ p ∷ ps ≡ ys ++ q ∷ qs →
    (xs ≡ ys) ⊎ GoesPast xs p ps ys ⊎ GoesPast ys q qs xs
begun [] p ps [] q qs is = inl refl
begun [] p ps (y ∷ ys) q qs is = let here : p ≡ y = cc in let rest : ps ≡ ys ++ q ∷ qs = cc in inr (inl (past_first p y ps ys q qs here rest))
begun (x ∷ xs) p ps [] q qs is = let here : q ≡ x = cc in let rest : qs ≡ xs ++ p ∷ ps = cc in inr (inr (past_first q x qs xs p ps here rest))
begun (x ∷ xs) p ps (y ∷ ys) q qs is =
    let here : x ≡ y = cc in
    let rest : xs ++ p ∷ ps ≡ ys ++ q ∷ qs = cc in
    elim (begun xs p ps ys q qs rest) [
      | inl same ↦ inl (ap (λ z. z ∷ xs) here ∙ ap (λ zs. y ∷ zs) same)
      | inr (inl past) ↦ inr (inl (past_more x y xs p ps ys here past))
      | inr (inr past) ↦ inr (inr (past_more y x ys q qs xs (sym here) past))
    ]

-- ---- a text stops once

module _ (needs_end is_fast : Bool) where
  past_none : (at to : Account) (part : List ℕ) (after : List (List ℕ)) (o : Outcome) → StopsWith needs_end is_fast at part after o → GoesPast at.texts part after to.texts →
      IsOfLines at → IsOfLines to → (is_fast ≡ true → to.refusals ≡ []) → ⊥
  past_none at to part after o stops past at_leads to_leads clean =
      let parts = split_leads account_at_start to at.texts (part ∷ past.more) (subst (λ ts. LeadsTo account_at_start ts to) past.is to_leads) in
      let same = leads_once account_at_start at.texts parts.0 at parts.1 at_leads in
      not_past needs_end is_fast at to part past.more past.next past.others o (subst (λ ps. StopsWith needs_end is_fast at part ps o) past.rest stops)
      (subst (λ from. LeadsTo from (part ∷ past.more) to) same parts.2) clean

  stops_here : (parts : List (List ℕ)) (o p : Outcome) (s : Stops needs_end is_fast parts o) (t : Stops needs_end is_fast parts p) → s.at.texts ≡ t.at.texts → o ≡ p
  stops_here parts o p s t texts =
      let at : t.at ≡ s.at = account_once t.at s.at t.leads s.leads (sym texts) in
      let left : t.part ∷ t.after ≡ s.part ∷ s.after =
      append_cancel_left s.at.texts (t.part ∷ t.after) (s.part ∷ s.after) (ap (λ ts. ts ++ t.part ∷ t.after) texts ∙ sym t.whole ∙ s.whole) in
      let part : t.part ≡ s.part = cc in
      let after : t.after ≡ s.after = cc in
      stops_once needs_end is_fast s.at s.part s.after o p s.stops
      (subst (λ ps. StopsWith needs_end is_fast s.at s.part ps p) after
      (subst (λ q. StopsWith needs_end is_fast s.at q t.after p) part
      (subst (λ a. StopsWith needs_end is_fast a t.part t.after p) at t.stops)))

  stop_once : (parts : List (List ℕ)) (o p : Outcome) → Stops needs_end is_fast parts o → Stops needs_end is_fast parts p → o ≡ p
  stop_once parts o p s t =
      elim (begun s.at.texts s.part s.after t.at.texts t.part t.after (sym s.whole ∙ t.whole)) [
        | inl same ↦ stops_here parts o p s t same
        | inr (inl past) ↦ absurd (past_none s.at t.at s.part s.after o s.stops past s.leads t.leads t.clean)
        | inr (inr past) ↦ absurd (past_none t.at s.at t.part t.after p t.stops past t.leads s.leads s.clean)
      ]

  -- ---- what is followed and what is refused

  parts_there : (bytes : List ℕ) → (first : List ℕ) × (others : List (List ℕ)) × (parts_of bytes ≡ first ∷ others)
  unfolding parts_of
  parts_there bytes = split_parts (λ b. b == 10) bytes

  followed_stops : (text : List ℕ) (account : Account) → IsFollowed needs_end is_fast text account → Stops needs_end is_fast (parts_of text) (followed account)
  followed_stops text account (inl (spells, clean)) =
      record { at = account; part = []; after = []; whole = spells.whole; leads = spells.leads; clean = clean; stops = (refl, spells.ended, refl) }
  followed_stops text account (inr (fast, begins)) =
      let left = parts_there begins.rest in
      record {
        at = begins.before;
        part = begins.line;
        after = left.0 ∷ left.1;
        whole = begins.whole ∙ ap (λ ts. ts ++ parts_of begins.rest) (sym (accepted_texts begins.before account begins.line begins.accepted))
            ∙ append_assoc begins.before.texts (begins.line ∷ []) (parts_of begins.rest) ∙ ap (λ ps. begins.before.texts ++ begins.line ∷ ps) left.2;
        leads = begins.leads;
        clean = λ is. begins.clean;
        stops = (fast, begins.accepted, begins.refused);
      }

  refused_with : (at : Account) (part : List ℕ) (after : List (List ℕ)) (line : ℕ) (why : Why) → line ≡ suc (length at.texts) → IsRunPartRefused needs_end at part after why →
      StopsWith needs_end is_fast at part after (refused line why)
  refused_with at part [] line why is fault = (is, fault)
  refused_with at part (next ∷ after) line why is fault = (is, fault)

  refused_stops : (text : List ℕ) (line : ℕ) (why : Why) → IsRunRefusal needs_end is_fast text line why → Stops needs_end is_fast (parts_of text) (refused line why)
  refused_stops text line why refusal = record {
    at = refusal.before;
    part = refusal.part;
    after = refusal.after;
    whole = refusal.whole;
    leads = refusal.leads;
    clean = refusal.clean;
    stops = refused_with refusal.before refusal.part refusal.after line why refusal.is refusal.fault;
  }

-- one account is followed of a text
pub followed_once : (needs_end is_fast : Bool) (text : List ℕ) (a b : Account) → IsFollowed needs_end is_fast text a → IsFollowed needs_end is_fast text b → a ≡ b
followed_once needs_end is_fast text a b one two =
    let same : followed a ≡ followed b =
    stop_once needs_end is_fast (parts_of text) (followed a) (followed b) (followed_stops needs_end is_fast text a one) (followed_stops needs_end is_fast text b two) in cc

-- a text that is followed is not refused
pub followed_or_refused : (needs_end is_fast : Bool) (text : List ℕ) (account : Account) (line : ℕ) (why : Why) → IsFollowed needs_end is_fast text account →
    IsRunRefusal needs_end is_fast text line why → ⊥
followed_or_refused needs_end is_fast text account line why one two =
    let same : followed account ≡ refused line why =
    stop_once needs_end is_fast (parts_of text) (followed account) (refused line why) (followed_stops needs_end is_fast text account one)
    (refused_stops needs_end is_fast text line why two) in
    absurd cc

-- a text is refused at one line for one fault
pub refusal_once : (needs_end is_fast : Bool) (text : List ℕ) (line other_line : ℕ) (why other_why : Why) → IsRunRefusal needs_end is_fast text line why →
    IsRunRefusal needs_end is_fast text other_line other_why → (line ≡ other_line) × (why ≡ other_why)
refusal_once needs_end is_fast text line other_line why other_why one two =
    let same : refused line why ≡ refused other_line other_why =
    stop_once needs_end is_fast (parts_of text) (refused line why) (refused other_line other_why) (refused_stops needs_end is_fast text line why one)
    (refused_stops needs_end is_fast text other_line other_why two) in
    (cc, cc)
