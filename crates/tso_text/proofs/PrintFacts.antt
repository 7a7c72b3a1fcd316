-- Lemmas on printing: one more line, and one more processor.
use Rattle.std.proofs.Common.{◌≡◌, ℕ, ◌+◌, ◌<◌, ◌≤◌, List, [], ◌∷◌, ◌++◌, length, get_or, take, Result, Ok, Err, refl, ap, sym, ◌∙◌, arith, append_assoc}
use Rattle.tso_ops.specs.Settings.{SettingValue}
use Rattle.tso_ops.specs.declared.acts.Act.{Act}
use Rattle.std.specs.List.{flat_map}
use Rattle.std.specs.Result.{OnOk}
use Rattle.std.proofs.lemmas.List.{append-nil, take_all}
use Rattle.line_text.specs.Lines.{line_text}
use Rattle.line_text.proofs.PrintFacts.{flat_map-take_more}
use Rattle.tso_text.specs.Printed.{schedule_header, items_text, processor_text, entry_tokens, model_text, setting_text, whole_text, act_tokens, schedule_text}

-- the text after one more item
pub items_text-more : {X : Type 0} (tokens : X → List (List ℕ)) (start old new : List ℕ) (items : List X) (i : ℕ) (x d : X) → i < length items → x ≡ get_or items i d →
    old ≡ start ++ items_text tokens (take i items) → new ≡ old ++ line_text (tokens x) → new ≡ start ++ items_text tokens (take (i + 1) items)
unfolding items_text
items_text-more tokens start old new items i x d inside is before added =
    added ∙ ap (λ t. t ++ line_text (tokens x)) before ∙ append_assoc start _ (line_text (tokens x))
    ∙ ap (λ t. start ++ t) (ap (λ y. flat_map (λ z. line_text (tokens z)) (take i items) ++ line_text (tokens y)) is ∙ sym (flat_map-take_more (λ z. line_text (tokens z)) items i d inside))

pub items_text-none : {X : Type 0} (tokens : X → List (List ℕ)) (start : List ℕ) (items : List X) → start ≡ start ++ items_text tokens (take 0 items)
unfolding items_text
items_text-none tokens start items = sym (append-nil start)

-- the text after one more processor
pub processors-more : {X : Type 0} (tokens : X → List (List ℕ)) (start old new : List ℕ) (lists : List (List X)) (i : ℕ) (row : List X) → i < length lists → row ≡ get_or lists i [] →
    old ≡ start ++ flat_map (processor_text tokens) (take i lists) → new ≡ old ++ processor_text tokens row → new ≡ start ++ flat_map (processor_text tokens) (take (i + 1) lists)
processors-more tokens start old new lists i row inside is before added =
    added ∙ ap (λ t. t ++ processor_text tokens row) before ∙ append_assoc start _ (processor_text tokens row)
    ∙ ap (λ t. start ++ t) (ap (λ y. flat_map (processor_text tokens) (take i lists) ++ processor_text tokens y) is ∙ sym (flat_map-take_more (processor_text tokens) lists i [] inside))

-- the whole text, by its parts
pub whole_text-parts : (header lines : List ℕ) (text : List ℕ) (start : List ℕ) → start ≡ header ++ 10 ∷ [] → text ≡ start ++ lines ++ 101 ∷ 110 ∷ 100 ∷ 10 ∷ [] → text ≡ whole_text header lines
unfolding whole_text
whole_text-parts header lines text start is parts = parts ∙ ap (λ s. s ++ lines ++ 101 ∷ 110 ∷ 100 ∷ 10 ∷ []) is ∙ ap (λ t. t ++ 101 ∷ 110 ∷ 100 ∷ 10 ∷ []) (append_assoc header (10 ∷ []) lines)

-- the same after the lines of a setting
whole_text-after : (header setting lines : List ℕ) (text : List ℕ) → text ≡ ((header ++ 10 ∷ setting) ++ lines) ++ 101 ∷ 110 ∷ 100 ∷ 10 ∷ [] → text ≡ whole_text header (setting ++ lines)
unfolding whole_text
whole_text-after header setting lines text is = is ∙ ap (λ t. t ++ 101 ∷ 110 ∷ 100 ∷ 10 ∷ []) (append_assoc header (10 ∷ setting) lines)

-- the lines of a setting, by their parts
pub setting_text-parts : {E : Type 0} (setting : SettingValue) (r : Result (Unit {0}) E) (old mid new : List ℕ) (first : List (ℕ × ℕ)) → first ≡ setting.first → mid ≡ old ++ model_text setting.order →
    OnOk r (new ≡ mid ++ items_text entry_tokens first) → OnOk r (new ≡ old ++ setting_text setting)
unfolding setting_text
setting_text-parts setting (Ok u) old mid new first same is parts =
    parts ∙ ap (λ t. t ++ items_text entry_tokens first) is ∙ append_assoc old (model_text setting.order) (items_text entry_tokens first) ∙ ap (λ f. old ++ (model_text setting.order ++ items_text entry_tokens f)) same
setting_text-parts setting (Err e) old mid new first same is parts = tt

-- the lines of a processor, by their parts
pub processor_text-parts : {X E : Type 0} (tokens : X → List (List ℕ)) (r : Result (Unit {0}) E) (old mid new : List ℕ) (items : List X) → mid ≡ old ++ 112 ∷ 114 ∷ 111 ∷ 99 ∷ 10 ∷ [] →
    OnOk r (new ≡ mid ++ items_text tokens items) → OnOk r (new ≡ old ++ processor_text tokens items)
unfolding processor_text
processor_text-parts tokens (Ok u) old mid new items is parts = parts ∙ ap (λ t. t ++ items_text tokens items) is ∙ append_assoc old _ (items_text tokens items)
processor_text-parts tokens (Err e) old mid new items is parts = tt

-- the text of a trace or a program, after all its processors
pub lists_text-parts : {X : Type 0} (tokens : X → List (List ℕ)) (header setting : List ℕ) (lists : List (List X)) (p end : ℕ) (mid text : List ℕ) → end ≡ length lists → end ≤ p →
    mid ≡ (header ++ 10 ∷ setting) ++ flat_map (processor_text tokens) (take p lists) → text ≡ mid ++ 101 ∷ 110 ∷ 100 ∷ 10 ∷ [] → text ≡ whole_text header (setting ++ flat_map (processor_text tokens) lists)
lists_text-parts tokens header setting lists p end mid text count past is added =
    whole_text-after header setting (flat_map (processor_text tokens) lists) text
    (added ∙ ap (λ m. m ++ 101 ∷ 110 ∷ 100 ∷ 10 ∷ []) (is ∙ ap (λ l. (header ++ 10 ∷ setting) ++ flat_map (processor_text tokens) l) (take_all p lists (omega arith))))

-- the text of a schedule, after all its acts
pub schedule_text-parts : (acts : List Act) (mid text : List ℕ) → mid ≡ (schedule_header ++ 10 ∷ []) ++ items_text act_tokens acts → text ≡ mid ++ 101 ∷ 110 ∷ 100 ∷ 10 ∷ [] → text ≡ schedule_text acts
unfolding schedule_text
schedule_text-parts acts mid text is added =
    whole_text-parts schedule_header (items_text act_tokens acts) text (schedule_header ++ 10 ∷ []) refl (added ∙ ap (λ m. m ++ 101 ∷ 110 ∷ 100 ∷ 10 ∷ []) is)
