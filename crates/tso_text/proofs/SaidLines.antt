-- What the readers find that tokens say: the lines that can stand in a text, and the faults among them.
use Rattle.std.proofs.Common.{◌≡◌, ◌⊎◌, ℕ, zero, suc, map, ◌<◌, ◌≤◌, ◌^◌, ◌&&◌, Bool, true, false, cond, not, ltb, List, [], ◌∷◌, length, Option, Some, None, Result, Ok, Err, refl, ap, sym, ◌∙◌, subst, arith, inl, inr, ⊎_elim}
use Rattle.std.specs.Prelude.{codes, replicate}
use Rattle.std.specs.Fmt.{decimal}
use Rattle.std.specs.List.{flat_map, AllByRecursion}
use Rattle.std.specs.Str.{bytes_eq}
use Rattle.std.proofs.lemmas.Bool.{false≢true}
use Rattle.std.proofs.lemmas.Bool.Decides.{nat_tests}
use Rattle.std.proofs.lemmas.List.{nil_from_length, length-map, length-replicate}
use Rattle.std.proofs.lemmas.Slice.Eq.{bytes_eq-Decides}
use Rattle.line_text.specs.Lines.{is_empty}
use Rattle.line_text.specs.Results.{◌>>=◌}
use Rattle.line_text.proofs.NumberFacts.{and_parts}
use Rattle.tso_ops.specs.declared.ops.Op.TheVariants.{Sb as OpSb}
use Rattle.tso_ops.specs.declared.settings.Order.{Order}
use Rattle.tso_ops.specs.declared.settings.Order.TheVariants.{Tso, Pso}
use Rattle.tso_ops.specs.declared.settings.Version.TheVariants.{Two}
use Rattle.tso_ops.specs.Limits.{is_stbar_in_tso}
use Rattle.tso_ops.specs.Settings.{SettingValue}
use Rattle.tso_text.specs.declared.faults.Why.{Why}
use Rattle.tso_text.specs.declared.faults.Why.TheVariants.{BadLine, BadNumber, BadModel, BeforeProc}
use Rattle.tso_text.specs.declared.lines.Line.{Line}
use Rattle.tso_text.specs.declared.lines.Line.TheVariants.{Proc, Item, End}
use Rattle.tso_text.specs.Numbers.{numbers, number_at}
use Rattle.tso_text.specs.Printed.{entry_tokens}
use Rattle.tso_text.specs.Refusals.{StandsAfterLists, HasShape}
use Rattle.tso_text.specs.Internal.LineReadings.{Keyword, said_after, line_of, proc_keyword, end_keyword, address, has_stbar, has_entries, model_said, entry_by, fault_of, line_fault_after, fault_in_lists, entry_fault_after}
use Rattle.tso_text.proofs.CanonicalFacts.{Fits, bind_err, numbers_is, numbers_err, other_count, two_is, word_is, no_first, two, two-decimal}
use Rattle.tso_text.proofs.PrintedSetting.{model_name}
use Rattle.tso_text.proofs.LineFaults.{shape_fault, shape_self, word_shape, Classified, standing, Faults}

-- ---- what the tokens of a line say

-- they are those of an item that can be said, of which an address past the range counts as the greatest; or `proc`, or `end`
abbrev pub IsSaid : {X : Type 0} → (X → List (List ℕ)) → (X → Type 0) → (X → X) → List (List ℕ) → Line X → Type 0
IsSaid tokens Can short ps Proc = ps ≡ codes "proc" ∷ []
IsSaid {X} tokens Can short ps (Item x) = (y : X) × Can y × (ps ≡ tokens y) × (x ≡ short y)
IsSaid tokens Can short ps End = ps ≡ codes "end" ∷ []

abbrev pub IsTold : {X : Type 0} → (X → List (List ℕ)) → (X → Type 0) → (X → X) → List (List ℕ) → Result (Line X) Why → Type 0
IsTold tokens Can short ps (Ok l) = IsSaid tokens Can short ps l
IsTold {X} tokens Can short ps (Err w) = (w ≡ BadLine) ⊎ ((w ≡ BadNumber) × ((y : X) × Can y × HasShape ps (tokens y)))

-- How the lines of items are read.
pub record Reads {X : Type 0} (said : List (List ℕ) → Result (Line X) Why) (tokens : X → List (List ℕ)) (Can : X → Type 0) (short : X → X) : Type 0 where
  pub told : (ps : List (List ℕ)) → IsTold tokens Can short ps (said ps)
  pub item : (y : X) → Can y → said (tokens y) ≡ Ok (Item (short y))
  pub shape : (y : X) (ps : List (List ℕ)) → Can y → HasShape ps (tokens y) → said ps ≡ Err BadLine → ⊥
  pub end : said (codes "end" ∷ []) ≡ Ok End
  pub keyword : (y : X) → (word : List ℕ) × (others : List (List ℕ)) × (tokens y ≡ word ∷ others) × (bytes_eq word (codes "model") ≡ false) × (bytes_eq word (codes "init") ≡ false)

-- ---- lines by their keywords

-- the tokens after a word of the same number are a bad line as well
bad_numbers : (count : ℕ) (ps qs : List (List ℕ)) → length ps ≡ length qs → numbers count ps ≡ Err BadLine → numbers count qs ≡ Err BadLine
bad_numbers count ps qs same bad =
    ⊎_elim (λ line. other_count count qs (λ count_is. line.1 (same ∙ count_is))) (λ number. absurd (let s = number.0 in cc)) (numbers_err count ps BadLine bad)

bad_after : {X : Type 0} (ks : List (Keyword X)) (word : List ℕ) (ps qs : List (List ℕ)) → length ps ≡ length qs → said_after ks word ps ≡ Err BadLine → said_after ks word qs ≡ Err BadLine
bad_after [] word ps qs same bad = refl
bad_after {X} (k ∷ ks) word ps qs same bad = by (k.known && bytes_eq word k.word) bad (bad_after ks word ps qs same)
  where
    by : (b : Bool) → cond b (numbers k.count ps >>= λ ns. Ok (k.says ns)) (said_after ks word ps) ≡ Err BadLine → (said_after ks word ps ≡ Err BadLine → said_after ks word qs ≡ Err BadLine) → cond b (numbers k.count qs >>= λ ns. Ok (k.says ns)) (said_after ks word qs) ≡ Err BadLine
    by true is others = ⊎_elim (λ err. rw (bad_numbers k.count ps qs same err) refl) (λ ok. absurd (let s = ok.2 in cc)) (bind_err (numbers k.count ps) _ BadLine is)
    by false is others = others is

module _ {X : Type 0} (tokens : X → List (List ℕ)) (Can : X → Type 0) (short : X → X) where
  -- a line of the keyword has the tokens of what it says
  pub record Tells (k : Keyword X) : Type 0 where
    pub tells : k.known ≡ true → (ns : List ℕ) → length ns ≡ k.count → AllByRecursion Fits ns → IsSaid tokens Can short (k.word ∷ map decimal ns) (k.says ns)

  -- an item of the keyword: that of zeros
  example : (ps : List (List ℕ)) (k : Keyword X) (l : Line X) → length ps ≡ k.count → 0 < length ps → IsSaid tokens Can short (k.word ∷ map decimal (replicate k.count 0)) l → (y : X) × Can y × HasShape (k.word ∷ ps) (tokens y)
  example ps k l count some said = by l said
    where
      zeros : length (map decimal (replicate k.count 0)) ≡ length ps
      zeros = length-map (replicate k.count 0) decimal ∙ length-replicate k.count 0 ∙ sym count

      by : (l : Line X) → IsSaid tokens Can short (k.word ∷ map decimal (replicate k.count 0)) l → (y : X) × Can y × HasShape (k.word ∷ ps) (tokens y)
      by Proc is = absurd (let e = ap length is in omega (arith, e, zeros, some))
      by (Item x) is = (is.0, is.1, subst (HasShape (k.word ∷ ps)) is.2 (refl, sym zeros))
      by End is = absurd (let e = ap length is in omega (arith, e, zeros, some))

  zeros_fit : (n : ℕ) → AllByRecursion Fits (replicate n 0)
  zeros_fit zero = tt
  zeros_fit (suc n) = (omega arith, zeros_fit n)

  told_numbers : (k : Keyword X) → k.known ≡ true → Tells k → (ps : List (List ℕ)) → IsTold tokens Can short (k.word ∷ ps) (numbers k.count ps >>= λ ns. Ok (k.says ns))
  told_numbers k known t ps = by (numbers k.count ps) refl
    where
      by : (r : Result (List ℕ) Why) → numbers k.count ps ≡ r → IsTold tokens Can short (k.word ∷ ps) (r >>= λ ns. Ok (k.says ns))
      by (Ok ns) is = let are = numbers_is k.count ps ns is in subst (λ qs. IsSaid tokens Can short (k.word ∷ qs) (k.says ns)) (sym are.tokens) (t.tells known ns are.count are.fit)
      by (Err w) is =
          ⊎_elim (λ line. inl line.0)
          (λ number. inr (number.0, example ps k (k.says (replicate k.count 0)) number.1 number.2 (t.tells known (replicate k.count 0) (length-replicate k.count 0) (zeros_fit k.count))))
          (numbers_err k.count ps w is)

  told_after : (ks : List (Keyword X)) → AllByRecursion Tells ks → (word : List ℕ) (ps : List (List ℕ)) → IsTold tokens Can short (word ∷ ps) (said_after ks word ps)
  told_after [] tell word ps = inl refl
  told_after (k ∷ ks) tell word ps = by (k.known && bytes_eq word k.word) refl (told_after ks tell.1 word ps)
    where
      by : (b : Bool) → (k.known && bytes_eq word k.word) ≡ b → IsTold tokens Can short (word ∷ ps) (said_after ks word ps) → IsTold tokens Can short (word ∷ ps) (cond b (numbers k.count ps >>= λ ns. Ok (k.says ns)) (said_after ks word ps))
      by true is others =
          let both = and_parts k.known (bytes_eq word k.word) is in
          subst (λ w. IsTold tokens Can short (w ∷ ps) (numbers k.count ps >>= λ ns. Ok (k.says ns))) (sym (word_is word k.word both.1)) (told_numbers k both.0 tell.0 ps)
      by false is others = others

  line_told : (ks : List (Keyword X)) → AllByRecursion Tells ks → (ps : List (List ℕ)) → IsTold tokens Can short ps (line_of ks ps)
  line_told ks tell [] = inl refl
  line_told ks tell (word ∷ ps) = told_after ks tell word ps

  -- lines of these keywords are read so
  pub reads_by : (ks : List (Keyword X)) → AllByRecursion Tells ks → ((y : X) → Can y → line_of ks (tokens y) ≡ Ok (Item (short y))) → line_of ks (codes "end" ∷ []) ≡ Ok End →
      ((y : X) → (word : List ℕ) × (others : List (List ℕ)) × (tokens y ≡ word ∷ others) × (bytes_eq word (codes "model") ≡ false) × (bytes_eq word (codes "init") ≡ false)) → Reads (line_of ks) tokens Can short
  reads_by ks tell item end keyword = record { told = line_told ks tell; item = item; shape = shape; end = end; keyword = keyword }
    where
      shape : (y : X) (ps : List (List ℕ)) → Can y → HasShape ps (tokens y) → line_of ks ps ≡ Err BadLine → ⊥
      shape y [] can has bad = absurd has
      shape y (word ∷ ps) can has bad =
          let k = keyword y in
          let same = subst (HasShape (word ∷ ps)) k.2 has in
          absurd (let s : Ok (Item (short y)) ≡ Err BadLine = sym (item y can) ∙ ap (line_of ks) (k.2 ∙ ap (λ w. w ∷ k.1) (sym same.0)) ∙ bad_after ks word ps k.1 same.1 bad in cc)

  pub proc_tells : Tells proc_keyword
  proc_tells = record { tells = λ known ns count fit. ap (λ ms. codes "proc" ∷ map decimal ms) (nil_from_length ns count) }

  pub end_tells : Tells end_keyword
  end_tells = record { tells = λ known ns count fit. ap (λ ms. codes "end" ∷ map decimal ms) (nil_from_length ns count) }

-- ---- traces and programs

-- the shape of a line without a number
no_tokens : {X : Type 0} (said : List (List ℕ) → Result (Line X) Why) (ps : List (List ℕ)) (word : List ℕ) (l : Line X) (w : Why) → said (word ∷ []) ≡ Ok l → said ps ≡ Err w → HasShape ps (word ∷ []) → ⊥
no_tokens said ps word l w reads is shape = let s : Ok l ≡ Err w = sym reads ∙ ap said (sym (word_shape ps word shape)) ∙ is in absurd cc

entry_short : (first : List (ℕ × ℕ)) (e : ℕ × ℕ) → entry_fault_after first (address e.0, e.1) ≡ entry_fault_after first e
entry_short first e = by (ltb 255 e.0) refl
  where
    by : (b : Bool) → ltb 255 e.0 ≡ b → entry_fault_after first (address e.0, e.1) ≡ entry_fault_after first e
    by true high = let also : ltb 255 (address e.0) ≡ true = grind (arith, nat_tests) in rw (high, also) refl
    by false low = let same : address e.0 ≡ e.0 = (let t : e.0 ≤ 255 = grind (arith, nat_tests) in omega arith) in rw same refl

tso_of : (order : Order) → is_stbar_in_tso order OpSb ≡ true → has_stbar order ≡ false
tso_of Tso e = refl
tso_of Pso e = absurd cc

tso_stbar : (order : Order) → not (has_stbar order) ≡ true → is_stbar_in_tso order OpSb ≡ true
tso_stbar Tso e = refl
tso_stbar Pso e = absurd cc

model_err : (ps : List (List ℕ)) (w : Why) → model_said ps ≡ Err w → ((w ≡ BadLine) × (length ps ≡ 1 → ⊥)) ⊎ ((w ≡ BadModel) × (length ps ≡ 1) × (ps ≡ codes "pso" ∷ [] → ⊥))
unfolding model_said
model_err [] w e = inl (cc, λ n. omega (arith, n))
model_err (name ∷ []) w e = by tt (bytes_eq name (codes "pso")) refl e
  where
    by : (u : Unit {0}) (b : Bool) → bytes_eq name (codes "pso") ≡ b → cond b (Ok u) (Err BadModel) ≡ Err w → ((w ≡ BadLine) × (length (name ∷ []) ≡ 1 → ⊥)) ⊎ ((w ≡ BadModel) × (length (name ∷ []) ≡ 1) × (name ∷ [] ≡ codes "pso" ∷ [] → ⊥))
    by u true is bad = absurd cc
    by u false is bad = inr (cc, refl, λ same. let head : name ≡ codes "pso" = cc in false≢true (sym is ∙ (bytes_eq-Decides name (codes "pso")).1 head))
model_err (name ∷ next ∷ ps) w e = inl (cc, λ n. omega (arith, n))

module _ {X : Type 0} (said : List (List ℕ) → Result (Line X) Why) (tokens : X → List (List ℕ)) (Can : X → Type 0) (short : X → X) (reads : Reads said tokens Can short) (proc : said (codes "proc" ∷ []) ≡ Ok Proc)
    (setting : SettingValue) (item_fault : List X → X → Option Why) (same : (before : List X) (y : X) → item_fault before (short y) ≡ item_fault before y) where
  abbrev pub Stands : List (List X) → List (List ℕ) → Option Why → Type 0
  Stands lists = StandsAfterLists tokens Can item_fault setting lists

  -- the fault of a line, as the readers find it
  abbrev pub found : List (List X) → List (List ℕ) → Option Why
  found lists ps = fault_in_lists setting lists ps (fault_of (said ps) (line_fault_after item_fault lists))

  item_same : (lists : List (List X)) (y : X) → line_fault_after item_fault lists (Item (short y)) ≡ line_fault_after item_fault lists (Item y)
  item_same [] y = refl
  item_same (row ∷ lists) y = same _ y

  -- before the first processor a line of a list is read as one
  item_found : (lists : List (List X)) (y : X) (other : Option Why) → fault_in_lists setting lists (tokens y) other ≡ other
  item_found (row ∷ lists) y other = refl
  item_found [] y other = let k = reads.keyword y in rw (k.2, k.3, k.4) refl

  shape_number : (y : X) → shape_fault (tokens y) ≡ BadNumber
  shape_number y = let k = reads.keyword y in rw (k.2, k.3) refl

  -- the lines before those of lists
  abbrev Leads : List (List X) → List (List ℕ) → Type 0
  Leads lists line = ((lists ≡ []) × (setting.first ≡ []) × (is_stbar_in_tso setting.order OpSb ≡ true) × (line ≡ codes "model" ∷ codes "pso" ∷ [])) ⊎ ((e : ℕ × ℕ) × (lists ≡ []) × (setting.version ≡ Two) × (line ≡ entry_tokens e))

  -- a line that stands is one of these, or it is read without a fault of its tokens
  read_or : (lists : List (List X)) (line : List (List ℕ)) (o : Option Why) → Stands lists line o → Leads lists line ⊎ ((l : Line X) × (said line ≡ Ok l))
  read_or lists line o (inl model) = inl (inl (model.0, model.1, model.2, model.3))
  read_or lists line o (inr (inl entry)) = inl (inr (entry.0, entry.1, entry.2, entry.5))
  read_or lists line o (inr (inr (inl is))) = inr (Proc, ap said is.0 ∙ proc)
  read_or lists line o (inr (inr (inr (inl item)))) = inr (Item (short item.0), ap said item.2 ∙ reads.item item.0 item.1)
  read_or lists line o (inr (inr (inr (inr is)))) = inr (End, ap said is.0 ∙ reads.end)

  -- tokens of the shape of a line that stands are of the shape of one of these, or they are no bad line
  shape_or : (lists : List (List X)) (ps line : List (List ℕ)) (o : Option Why) → Stands lists line o → HasShape ps line → said ps ≡ Err BadLine → Leads lists line
  shape_or lists ps line o (inl model) shape bad = inl (model.0, model.1, model.2, model.3)
  shape_or lists ps line o (inr (inl entry)) shape bad = inr (entry.0, entry.1, entry.2, entry.5)
  shape_or lists ps line o (inr (inr (inl is))) shape bad = absurd (no_tokens said ps (codes "proc") Proc BadLine proc bad (subst (HasShape ps) is.0 shape))
  shape_or lists ps line o (inr (inr (inr (inl item)))) shape bad = absurd (reads.shape item.0 ps item.1 (subst (HasShape ps) item.2 shape) bad)
  shape_or lists ps line o (inr (inr (inr (inr is)))) shape bad = absurd (no_tokens said ps (codes "end") End BadLine reads.end bad (subst (HasShape ps) is.0 shape))

  stands_self : (lists : List (List X)) (ps : List (List ℕ)) (o : Option Why) → Stands lists ps o → HasShape ps ps
  stands_self lists ps o (inl model) = rw model.3 (refl, refl)
  stands_self lists ps o (inr (inl entry)) = rw entry.5 (refl, refl)
  stands_self lists ps o (inr (inr (inl is))) = rw is.0 (refl, refl)
  stands_self lists ps o (inr (inr (inr (inl item)))) = let k = reads.keyword item.0 in rw (item.2, k.2) (refl, refl)
  stands_self lists ps o (inr (inr (inr (inr is)))) = rw is.0 (refl, refl)

  -- lines of lists, where the tokens have the shape of no line before them
  in_lists : (lists : List (List X)) (ps : List (List ℕ)) → ((line : List (List ℕ)) → Leads lists line → HasShape ps line → ⊥) → Classified (Stands lists) ps (fault_of (said ps) (line_fault_after item_fault lists))
  in_lists lists ps alone = by (said ps) refl (reads.told ps)
    where
      by : (r : Result (Line X) Why) → said ps ≡ r → IsTold tokens Can short ps r → Classified (Stands lists) ps (fault_of r (line_fault_after item_fault lists))
      by (Ok Proc) is told = standing (Stands lists) ps _ (inr (inr (inl (told, refl))))
      by (Ok (Item x)) is told = standing (Stands lists) ps _ (inr (inr (inr (inl (told.0, told.1, told.2, ap (λ y. line_fault_after item_fault lists (Item y)) told.3 ∙ item_same lists told.0 ∙ item_fault_is lists told.0)))))
        where
          item_fault_is : (lists : List (List X)) (y : X) → line_fault_after item_fault lists (Item y) ≡ cond (is_empty lists) (Some BeforeProc) (item_fault (flat_map (λ row. row) lists) y)
          item_fault_is lists y = refl
      by (Ok End) is told = standing (Stands lists) ps _ (inr (inr (inr (inr (told, refl)))))
      by (Err w) is (inl line) = inr (inr (λ other o st shape. alone other (shape_or lists ps other o st shape (is ∙ ap Err line)) shape, line))
      by (Err w) is (inr number) =
          let y = number.1.0 in
          inr (inl (
            λ o st. ⊎_elim (λ leads. alone ps leads (shape_self ps (tokens y) number.1.2)) (λ read. absurd (let s : Ok read.0 ≡ Err w = sym read.1 ∙ is in cc)) (read_or lists ps o st),
            (tokens y, _, inr (inr (inr (inl (y, number.1.1, refl, refl)))), number.1.2, number.0 ∙ sym (shape_number y)),
          ))

  -- a line of the shape of these words
  word_of : (word keyword : List ℕ) (ps others line : List (List ℕ)) → line ≡ keyword ∷ others → HasShape (word ∷ ps) line → word ≡ keyword
  word_of word keyword ps others line is shape = (subst (HasShape (word ∷ ps)) is shape).0

  differ : (word keyword other : List ℕ) → word ≡ keyword → bytes_eq word other ≡ true → bytes_eq keyword other ≡ false → ⊥
  differ word keyword other is same off = false≢true (sym off ∙ ap (λ w. bytes_eq w other) (sym is) ∙ same)

  -- a line that begins with `model` is that of the memory model
  only_model : (ps line : List (List ℕ)) (word : List ℕ) (o : Option Why) → bytes_eq word (codes "model") ≡ true → Stands [] line o → HasShape (word ∷ ps) line → line ≡ codes "model" ∷ codes "pso" ∷ []
  only_model ps line word o same (inl model) shape = model.3
  only_model ps line word o same (inr (inl entry)) shape = absurd (differ word (codes "init") (codes "model") (word_of word (codes "init") ps _ line entry.5 shape) same refl)
  only_model ps line word o same (inr (inr (inl is))) shape = absurd (differ word (codes "proc") (codes "model") (word_of word (codes "proc") ps _ line is.0 shape) same refl)
  only_model ps line word o same (inr (inr (inr (inl item)))) shape = let k = reads.keyword item.0 in absurd (differ word k.0 (codes "model") (word_of word k.0 ps k.1 line (item.2 ∙ k.2) shape) same k.3)
  only_model ps line word o same (inr (inr (inr (inr is)))) shape = absurd (differ word (codes "end") (codes "model") (word_of word (codes "end") ps _ line is.0 shape) same refl)

  -- one that begins with `init` is that of a first value
  only_entry : (ps line : List (List ℕ)) (word : List ℕ) (o : Option Why) → bytes_eq word (codes "init") ≡ true → Stands [] line o → HasShape (word ∷ ps) line → (e : ℕ × ℕ) × (e.0 < 2 ^ 64) × (e.1 < 2 ^ 64) × (line ≡ entry_tokens e)
  only_entry ps line word o same (inl model) shape = absurd (differ word (codes "model") (codes "init") (word_of word (codes "model") ps _ line model.3 shape) same refl)
  only_entry ps line word o same (inr (inl entry)) shape = (entry.0, entry.3, entry.4, entry.5)
  only_entry ps line word o same (inr (inr (inl is))) shape = absurd (differ word (codes "proc") (codes "init") (word_of word (codes "proc") ps _ line is.0 shape) same refl)
  only_entry ps line word o same (inr (inr (inr (inl item)))) shape = let k = reads.keyword item.0 in absurd (differ word k.0 (codes "init") (word_of word k.0 ps k.1 line (item.2 ∙ k.2) shape) same k.4)
  only_entry ps line word o same (inr (inr (inr (inr is)))) shape = absurd (differ word (codes "end") (codes "init") (word_of word (codes "end") ps _ line is.0 shape) same refl)

  model_line : (word : List ℕ) (ps : List (List ℕ)) → setting.first ≡ [] → is_stbar_in_tso setting.order OpSb ≡ true → bytes_eq word (codes "model") ≡ true → Classified (Stands []) (word ∷ ps) (fault_of (model_said ps) (λ _. None))
  model_line word ps none tso same = by (model_said ps) refl
    where
      head : word ≡ codes "model"
      head = word_is word (codes "model") same

      stands : Stands [] (codes "model" ∷ codes "pso" ∷ []) None
      stands = inl (refl, none, tso, refl, refl)

      by : (r : Result (Unit {0}) Why) → model_said ps ≡ r → Classified (Stands []) (word ∷ ps) (fault_of r (λ _. None))
      by (Ok u) is = inl (refl, none, tso, ap (λ w. w ∷ ps) head ∙ ap (λ qs. codes "model" ∷ qs) (model_name ps u is), refl)
      by (Err w) is =
          ⊎_elim
          (λ bad. inr (inr (λ line o st shape. bad.1 (let s = subst (HasShape (word ∷ ps)) (only_model ps line word o same st shape) shape in omega (arith, s.1)), bad.0)))
          (λ bad. inr (inl (
            λ o st. let s = only_model ps (word ∷ ps) word o same st (refl, refl) in bad.2 (ap (λ qs. tail qs) s),
            (codes "model" ∷ codes "pso" ∷ [], None, stands, (head, omega (arith, bad.1)), bad.0),
          )))
          (model_err ps w is)
        where
          tail : List (List ℕ) → List (List ℕ)
          tail [] = []
          tail (q ∷ qs) = qs

  entry_line : (word : List ℕ) (ps : List (List ℕ)) → setting.version ≡ Two → bytes_eq word (codes "init") ≡ true → Classified (Stands []) (word ∷ ps) (fault_of (entry_by ps) (entry_fault_after setting.first))
  entry_line word ps version same = by (numbers 2 ps) refl
    where
      head : word ≡ codes "init"
      head = word_is word (codes "init") same

      by : (r : Result (List ℕ) Why) → numbers 2 ps ≡ r → Classified (Stands []) (word ∷ ps) (fault_of (r >>= λ ns. Ok (address (number_at ns 0), number_at ns 1)) (entry_fault_after setting.first))
      by (Ok ns) is =
          let fits = two_is ps ns is in
          let n : ℕ × ℕ = (number_at ns 0, number_at ns 1) in
          standing (Stands []) (word ∷ ps) _ (inr (inl (n, refl, version, fits.1, fits.2, ap (λ w. w ∷ ps) head ∙ ap (λ qs. codes "init" ∷ qs) fits.0, entry_short setting.first n)))
      by (Err w) is =
          ⊎_elim
          (λ bad. inr (inr (
            λ line o st shape.
                let e = only_entry ps line word o same st shape in
                bad.1 (let s = subst (HasShape (word ∷ ps)) e.3 shape in omega (arith, s.1)),
            bad.0,
          )))
          (λ bad. inr (inl (
            λ o st.
                let e = only_entry ps (word ∷ ps) word o same st (refl, refl) in
                absurd (let s : Ok (e.0.0 ∷ e.0.1 ∷ []) ≡ Err w = sym (two-decimal e.0.0 e.0.1 e.1 e.2) ∙ ap (numbers 2) (sym (ap (λ qs. tail qs) e.3)) ∙ is in cc),
            (entry_tokens (0, 0), _, inr (inl ((0, 0), refl, version, omega arith, omega arith, refl, refl)), (head, omega (arith, bad.1)), bad.0),
          )))
          (numbers_err 2 ps w is)
        where
          tail : List (List ℕ) → List (List ℕ)
          tail [] = []
          tail (q ∷ qs) = qs

  before_lists : (word : List ℕ) (ps : List (List ℕ)) → Classified (Stands []) (word ∷ ps) (found [] (word ∷ ps))
  before_lists word ps = by_model (bytes_eq word (codes "model") && (not (has_stbar setting.order) && is_empty setting.first)) refl
    where
      other : Option Why
      other = fault_of (said (word ∷ ps)) (line_fault_after item_fault [])

      no_leads : (bytes_eq word (codes "model") && (not (has_stbar setting.order) && is_empty setting.first)) ≡ false → (bytes_eq word (codes "init") && has_entries setting.version) ≡ false → (line : List (List ℕ)) → Leads [] line → HasShape (word ∷ ps) line → ⊥
      no_leads no_model no_init line (inl model) shape =
          let head : bytes_eq word (codes "model") ≡ true = (bytes_eq-Decides word (codes "model")).1 (word_of word (codes "model") ps _ line model.3 shape) in
          false≢true (sym no_model ∙ rw (head, tso_of setting.order model.2, model.1) refl)
      no_leads no_model no_init line (inr entry) shape =
          let head : bytes_eq word (codes "init") ≡ true = (bytes_eq-Decides word (codes "init")).1 (word_of word (codes "init") ps _ line entry.3 shape) in
          false≢true (sym no_init ∙ rw (head, entry.2) refl)

      by_init : (bytes_eq word (codes "model") && (not (has_stbar setting.order) && is_empty setting.first)) ≡ false → (b : Bool) → (bytes_eq word (codes "init") && has_entries setting.version) ≡ b →
          Classified (Stands []) (word ∷ ps) (cond b (fault_of (entry_by ps) (entry_fault_after setting.first)) other)
      by_init no_model true on = let both = and_parts (bytes_eq word (codes "init")) (has_entries setting.version) on in entry_line word ps (two setting.version both.1) both.0
      by_init no_model false off = in_lists [] (word ∷ ps) (no_leads no_model off)

      by_model : (b : Bool) → (bytes_eq word (codes "model") && (not (has_stbar setting.order) && is_empty setting.first)) ≡ b →
          Classified (Stands []) (word ∷ ps) (cond b (fault_of (model_said ps) (λ _. None)) (cond (bytes_eq word (codes "init") && has_entries setting.version) (fault_of (entry_by ps) (entry_fault_after setting.first)) other))
      by_model true on =
          let both = and_parts (bytes_eq word (codes "model")) (not (has_stbar setting.order) && is_empty setting.first) on in
          let where_it_can = and_parts (not (has_stbar setting.order)) (is_empty setting.first) both.1 in
          model_line word ps (no_first setting.first where_it_can.1) (tso_stbar setting.order where_it_can.0) both.0
      by_model false off = by_init off (bytes_eq word (codes "init") && has_entries setting.version) refl

  classified : (lists : List (List X)) (ps : List (List ℕ)) → Classified (Stands lists) ps (found lists ps)
  classified (row ∷ lists) ps = in_lists (row ∷ lists) ps (λ line leads shape. ⊎_elim (λ model. absurd (let e = model.0 in cc)) (λ entry. absurd (let e = entry.1 in cc)) leads)
  classified [] [] = in_lists [] [] (λ line leads shape. absurd shape)
  classified [] (word ∷ ps) = before_lists word ps

  stands_found : (lists : List (List X)) (ps : List (List ℕ)) (o : Option Why) → Stands lists ps o → found lists ps ≡ o
  unfolding model_said
  stands_found lists ps o (inl model) = rw (model.4, model.0, model.3, tso_of setting.order model.2, model.1) refl
  stands_found lists ps o (inr (inl entry)) = rw (entry.6, entry.1, entry.5, entry.2, two-decimal entry.0.0 entry.0.1 entry.3 entry.4) (entry_short setting.first entry.0)
  stands_found lists ps o (inr (inr (inl is))) = rw (is.0, is.1, proc) (proc_found lists _)
    where
      proc_found : (lists : List (List X)) (other : Option Why) → fault_in_lists setting lists (codes "proc" ∷ []) other ≡ other
      proc_found [] other = refl
      proc_found (row ∷ lists) other = refl
  stands_found lists ps o (inr (inr (inr (inl item)))) =
      ap (found lists) item.2 ∙ item_found lists item.0 _ ∙ ap (λ r. fault_of r (line_fault_after item_fault lists)) (reads.item item.0 item.1) ∙ item_same lists item.0 ∙ sym item.3
  stands_found lists ps o (inr (inr (inr (inr is)))) = rw (is.0, is.1, reads.end) (end_found lists _)
    where
      end_found : (lists : List (List X)) (other : Option Why) → fault_in_lists setting lists (codes "end" ∷ []) other ≡ other
      end_found [] other = refl
      end_found (row ∷ lists) other = refl

  -- the readers find the faults of lines among lists
  pub faults_of_lists : (lists : List (List X)) → Faults (Stands lists) (found lists)
  faults_of_lists lists = record { classified = classified lists; stands = stands_found lists; self = stands_self lists }
