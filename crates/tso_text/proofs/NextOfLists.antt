-- A line without a fault after the lines of a trace, a program or a schedule ends its text, or it makes a longer one.
use Rattle.std.specs.Str.{bytes_eq}
use Rattle.std.proofs.Common.{◌≡◌, ◌⊎◌, ℕ, ◌&&◌, Bool, true, false, not, cond, List, [], ◌∷◌, ◌++◌, Option, None, Result, Ok, Err, refl, ap, sym, ◌∙◌, subst, append_assoc, inl, inr}
use Rattle.std.specs.Prelude.{codes}
use Rattle.std.specs.List.{flat_map, join_with_byte}
use Rattle.std.proofs.lemmas.List.{append-nil}
use Rattle.std.proofs.lemmas.List.Concat.{flat_map-append}
use Rattle.line_text.specs.Lines.{tokens_of, is_empty, line_text}
use Rattle.line_text.proofs.NumberFacts.{and_parts}
use Rattle.tso_ops.specs.declared.settings.Order.TheVariants.{Tso, Pso}
use Rattle.tso_ops.specs.declared.settings.Version.{Version}
use Rattle.tso_ops.specs.declared.settings.Version.TheVariants.{One, Two}
use Rattle.tso_ops.specs.Settings.{SettingValue, with_entry}
use Rattle.tso_ops.proofs.EntryFacts.{KeepsEntries-clean}
use Rattle.tso_text.specs.declared.faults.Why.{Why}
use Rattle.tso_text.specs.declared.lines.Line.{Line}
use Rattle.tso_text.specs.declared.lines.Line.TheVariants.{Proc, Item, End}
use Rattle.tso_text.specs.Internal.LineReadings.{has_stbar, model_said, entry_by, line_fault_after, fault_in_lists, fault_of, has_entries, entry_fault_after}
use Rattle.tso_text.specs.Printed.{items_text, processor_text, setting_text, model_text, entry_tokens}
use Rattle.tso_text.specs.Internal.Begun.{IsSetting}
use Rattle.tso_text.specs.Internal.Preambles.{entry_said, said_entry_fault}
use Rattle.tso_text.specs.Internal.Spelling.{Grammar, said, line_fault, with_line, is_end}
use Rattle.tso_text.proofs.CanonicalFacts.{no_stbar, no_first, two, tokens_by, word_is}
use Rattle.tso_text.proofs.FaultFacts.{entry_clean_back}
use Rattle.tso_text.proofs.OneTextFacts.{made_by, made_by-text, Prints, part_text}
use Rattle.tso_text.proofs.PreambleFacts.{keyword_is, after_keyword-is}
use Rattle.tso_text.proofs.PrintedSetting.{entry_read, model_name, line_is}

-- ---- the lines of lists

-- what a line among those of lists says, where it has no fault
pub record SaysLine {X : Type 0} (g : Grammar X) (tokens : X → List (List ℕ)) (lists : List (List X)) (line : List ℕ) : Type 0 where
  pub said_line : Line X
  pub says : said g line ≡ Ok said_line
  pub clean : line_fault g lists said_line ≡ None
  pub bytes : line ≡ join_with_byte 32 (tokens_by tokens said_line)

-- what a grammar says of a line, by the faults of its items
pub fault_same : {X : Type 0} (g : Grammar X) (after : List X → X → Option Why) → ((items : List X) (x : X) → g.item_fault items x ≡ after items x) → (lists : List (List X)) (l : Line X) → line_fault g lists l ≡ line_fault_after after lists l
fault_same g after tells lists Proc = refl
fault_same g after tells [] (Item x) = refl
fault_same g after tells (row ∷ lists) (Item x) = tells _ x
fault_same g after tells lists End = refl

pub line_says : {X : Type 0} (g : Grammar X) (after : List X → X → Option Why) → ((items : List X) (x : X) → g.item_fault items x ≡ after items x) → (made : List (List X) → List (Line X)) (tokens : X → List (List ℕ)) → Prints g made (tokens_by tokens) →
    (lists : List (List X)) (line : List ℕ) → fault_of (said g line) (line_fault_after after lists) ≡ None → SaysLine g tokens lists line
line_says {X} g after tells made tokens prints lists line none = by (said g line) refl none
  where
    by : (r : Result (Line X) Why) → said g line ≡ r → fault_of r (line_fault_after after lists) ≡ None → SaysLine g tokens lists line
    by (Err why) says fault = absurd cc
    by (Ok l) says fault =
        let clean = fault_same g after tells lists l ∙ fault in
        record { said_line = l; says = says; clean = clean; bytes = part_text (tokens_by tokens) line l (prints.canonical lists (tokens_of line) l says clean) }

-- ---- traces and programs

-- the lines of a setting and of lists
abbrev pub lists_text : {X : Type 0} → (X → List (List ℕ)) → SettingValue → List (List X) → List ℕ
lists_text tokens setting lists = setting_text setting ++ flat_map (processor_text tokens) lists

-- What is said of a trace or a program: its lines are printed in one way, and it goes on within its limits.
pub record IsListKind {X : Type 0} (grammar : SettingValue → Grammar X) (tokens : X → List (List ℕ)) (after : SettingValue → List X → X → Option Why) (Is : SettingValue → List (List X) → Type 0) : Type 0 where
  pub tells : (setting : SettingValue) (items : List X) (x : X) → (grammar setting).item_fault items x ≡ after setting items x
  pub prints : (setting : SettingValue) → Prints (grammar setting) made_by (tokens_by tokens)
  pub grows : (setting : SettingValue) (lists : List (List X)) (ps : List (List ℕ)) (l : Line X) → (grammar setting).said_by ps ≡ Ok l → line_fault (grammar setting) lists l ≡ None → Is setting lists → Is setting (with_line lists l)
  pub begins : (setting : SettingValue) → IsSetting setting → Is setting []
  pub setting : (setting : SettingValue) (lists : List (List X)) → Is setting lists → IsSetting setting

-- the text with one more line
pub record IsLonger {X : Type 0} (tokens : X → List (List ℕ)) (Is : SettingValue → List (List X) → Type 0) (setting : SettingValue) (lists : List (List X)) (line : List ℕ) : Type 0 where
  pub new : SettingValue
  pub made : List (List X)
  pub version : new.version ≡ setting.version
  pub is : Is new made
  pub text : lists_text tokens new made ≡ lists_text tokens setting lists ++ (line ++ 10 ∷ [])

-- one more line in the text of lists
more_text : {X : Type 0} (g : Grammar X) (tokens : X → List (List ℕ)) → Prints g made_by (tokens_by tokens) → (lists : List (List X)) (line : List ℕ) → (s : SaysLine g tokens lists line) → is_end (Ok s.said_line) ≡ false →
    flat_map (processor_text tokens) (with_line lists s.said_line) ≡ flat_map (processor_text tokens) lists ++ (line ++ 10 ∷ [])
more_text {X} g tokens prints lists line s running =
    let text : Line X → List ℕ = λ l. line_text (tokens_by tokens l) in
    sym (made_by-text tokens (with_line lists s.said_line))
    ∙ ap (flat_map text) (prints.more lists (tokens_of line) s.said_line s.says s.clean running)
    ∙ flat_map-append text (made_by lists) (s.said_line ∷ [])
    ∙ ap (λ t. t ++ flat_map text (s.said_line ∷ [])) (made_by-text tokens lists)
    ∙ ap (λ t. flat_map (processor_text tokens) lists ++ t) (append-nil (text s.said_line) ∙ ap (λ b. b ++ 10 ∷ []) (sym s.bytes))

-- ---- lines before the first `proc`

pub no_model_fault : (r : Result (Unit {0}) Why) → fault_of r (λ _. None) ≡ None → r ≡ Ok tt
no_model_fault (Err why) e = absurd cc
no_model_fault (Ok tt) e = refl

module _ {X : Type 0} (grammar : SettingValue → Grammar X) (tokens : X → List (List ℕ)) (after : SettingValue → List X → X → Option Why) (Is : SettingValue → List (List X) → Type 0) (kind : IsListKind grammar tokens after Is) where
  longer_lists : (setting : SettingValue) (lists : List (List X)) (line : List ℕ) → Is setting lists → (s : SaysLine (grammar setting) tokens lists line) → is_end (Ok s.said_line) ≡ false → IsLonger tokens Is setting lists line
  longer_lists setting lists line is s running = record {
    new = setting;
    made = with_line lists s.said_line;
    version = refl;
    is = kind.grows setting lists (tokens_of line) s.said_line s.says s.clean is;
    text =
        ap (λ t. setting_text setting ++ t) (more_text (grammar setting) tokens (kind.prints setting) lists line s running)
        ∙ sym (append_assoc (setting_text setting) (flat_map (processor_text tokens) lists) (line ++ 10 ∷ []));
  }

  next_in_lists : (setting : SettingValue) (lists : List (List X)) (line : List ℕ) → Is setting lists → fault_of (said (grammar setting) line) (line_fault_after (after setting) lists) ≡ None → (line ≡ codes "end") ⊎ IsLonger tokens Is setting lists line
  next_in_lists setting lists line is none = by (line_says (grammar setting) (after setting) (kind.tells setting) made_by tokens (kind.prints setting) lists line none)
    where
      by_end : (s : SaysLine (grammar setting) tokens lists line) (b : Bool) → is_end (Ok s.said_line) ≡ b → (line ≡ codes "end") ⊎ IsLonger tokens Is setting lists line
      by_end s false running = inr (longer_lists setting lists line is s running)
      by_end s true ends = inl (s.bytes ∙ ap (λ l. join_with_byte 32 (tokens_by tokens l)) (end_is s.said_line ends))
        where
          end_is : (l : Line X) → is_end (Ok l) ≡ true → l ≡ End
          end_is Proc e = absurd cc
          end_is (Item x) e = absurd cc
          end_is End e = refl

      by : SaysLine (grammar setting) tokens lists line → (line ≡ codes "end") ⊎ IsLonger tokens Is setting lists line
      by s = by_end s (is_end (Ok s.said_line)) refl

  longer_model : (version : Version) (line word : List ℕ) (others : List (List ℕ)) → Is (record { version = version; order = Tso; first = [] }) [] → tokens_of line ≡ word ∷ others → bytes_eq word (codes "model") ≡ true →
      fault_of (model_said others) (λ _. None) ≡ None → IsLonger tokens Is (record { version = version; order = Tso; first = [] }) [] line
  unfolding setting_text items_text
  longer_model version line word others is cut word_model none =
      let name : others ≡ codes "pso" ∷ [] = model_name others tt (no_model_fault (model_said others) none) in
      let old : SettingValue = record { version = version; order = Tso; first = [] } in
      let keeps = kind.setting old [] is in
      record {
        new = record { version = version; order = Pso; first = [] };
        made = [];
        version = refl;
        is = kind.begins (record { version = version; order = Pso; first = [] }) (record { entries = keeps.entries; version_one = keeps.version_one });
        text = ap (λ b. b ++ 10 ∷ []) (sym (line_is line (codes "model" ∷ codes "pso" ∷ []) (cut ∙ ap (λ w. w ∷ others) (word_is word (codes "model") word_model) ∙ ap (λ ps. codes "model" ∷ ps) name)));
      }

  longer_entry : (setting : SettingValue) (line word : List ℕ) (others : List (List ℕ)) → Is setting [] → setting.version ≡ Two → tokens_of line ≡ word ∷ others → bytes_eq word (codes "init") ≡ true →
      fault_of (entry_by others) (entry_fault_after setting.first) ≡ None → IsLonger tokens Is setting [] line
  unfolding setting_text items_text
  longer_entry setting line word others is version_two cut word_init none =
      let after_word : entry_said line ≡ entry_by others = ap entry_by (after_keyword-is line word others cut) in
      let clean : said_entry_fault setting.first (entry_said line) ≡ None = ap (λ r. said_entry_fault setting.first r) after_word ∙ none in
      let says = entry_read setting.first line (keyword_is (codes "init") line word others cut ∙ word_init) clean in
      let keeps = kind.setting setting [] is in
      let model = model_text setting.order in
      let text_of : ℕ × ℕ → List ℕ = λ entry. line_text (entry_tokens entry) in
      let entries = flat_map text_of setting.first in
      record {
        new = with_entry setting says.entry;
        made = [];
        version = refl;
        is = kind.begins (with_entry setting says.entry) (record {
          entries = KeepsEntries-clean setting.first says.entry keeps.entries (entry_clean_back setting.first says.entry says.clean) says.fits;
          version_one = λ one. absurd (let same : Two ≡ One = sym version_two ∙ one in cc);
        });
        text =
            append-nil (model ++ flat_map text_of (setting.first ++ says.entry ∷ []))
            ∙ ap (λ t. model ++ t) (flat_map-append text_of setting.first (says.entry ∷ []) ∙ ap (λ t. entries ++ t) (append-nil (text_of says.entry) ∙ ap (λ b. b ++ 10 ∷ []) (sym says.bytes)))
            ∙ sym (append_assoc model entries (line ++ 10 ∷ [])) ∙ ap (λ t. t ++ (line ++ 10 ∷ [])) (sym (append-nil (model ++ entries)));
      }

  pub next_line : (setting : SettingValue) (lists : List (List X)) (line : List ℕ) → Is setting lists → fault_in_lists setting lists (tokens_of line) (fault_of (said (grammar setting) line) (line_fault_after (after setting) lists)) ≡ None →
      (line ≡ codes "end") ⊎ IsLonger tokens Is setting lists line
  next_line setting (row ∷ lists) line is none = next_in_lists setting (row ∷ lists) line is none
  next_line setting [] line is none = by_tokens (tokens_of line) refl none
    where
      by_entry : (word : List ℕ) (others : List (List ℕ)) → tokens_of line ≡ word ∷ others → (b : Bool) → (bytes_eq word (codes "init") && has_entries setting.version) ≡ b →
          cond b (fault_of (entry_by others) (entry_fault_after setting.first)) (fault_of (said (grammar setting) line) (line_fault_after (after setting) [])) ≡ None → (line ≡ codes "end") ⊎ IsLonger tokens Is setting [] line
      by_entry word others cut true on fault = let both = and_parts (bytes_eq word (codes "init")) (has_entries setting.version) on in inr (longer_entry setting line word others is (two setting.version both.1) cut both.0 fault)
      by_entry word others cut false off fault = next_in_lists setting [] line is fault

      by_model : (word : List ℕ) (others : List (List ℕ)) → tokens_of line ≡ word ∷ others → (b : Bool) → (bytes_eq word (codes "model") && (not (has_stbar setting.order) && is_empty setting.first)) ≡ b →
          cond b (fault_of (model_said others) (λ _. None)) (cond (bytes_eq word (codes "init") && has_entries setting.version) (fault_of (entry_by others) (entry_fault_after setting.first)) (fault_of (said (grammar setting) line) (line_fault_after (after setting) []))) ≡ None →
          (line ≡ codes "end") ⊎ IsLonger tokens Is setting [] line
      by_model word others cut true on fault =
          let both = and_parts (bytes_eq word (codes "model")) (not (has_stbar setting.order) && is_empty setting.first) on in
          let where_it_can = and_parts (not (has_stbar setting.order)) (is_empty setting.first) both.1 in
          let same : setting ≡ record { version = setting.version; order = Tso; first = [] } = rw (no_stbar setting.order where_it_can.0, no_first setting.first where_it_can.1) refl in
          inr (subst (λ s. IsLonger tokens Is s [] line) (sym same) (longer_model setting.version line word others (subst (λ s. Is s []) same is) cut both.0 fault))
      by_model word others cut false off fault = by_entry word others cut (bytes_eq word (codes "init") && has_entries setting.version) refl fault

      by_tokens : (ps : List (List ℕ)) → tokens_of line ≡ ps → fault_in_lists {X = X} setting [] ps (fault_of (said (grammar setting) line) (line_fault_after (after setting) [])) ≡ None → (line ≡ codes "end") ⊎ IsLonger tokens Is setting [] line
      by_tokens [] cut fault = next_in_lists setting [] line is fault
      by_tokens (word ∷ others) cut fault = by_model word others cut (bytes_eq word (codes "model") && (not (has_stbar setting.order) && is_empty setting.first)) refl fault
