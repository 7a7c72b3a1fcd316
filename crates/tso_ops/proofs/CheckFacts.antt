-- Lemmas on the check of whole lists, over whatever gives the operations.
use Rattle.std.proofs.Common.{◌≡◌, ◌≢◌, ◌∙◌, ⊎_elim, inl, inr, sym, ap, refl, ℕ, ◌+◌, ◌<◌, ◌≤◌, List, [], ◌∷◌, ◌++◌, length, get_or, take, drop, map, arith, append_assoc}
use Rattle.std.specs.List.{flat_map}
use Rattle.std.specs.Global.{Vec}
use Rattle.std.proofs.lemmas.List.{append-nil, map-append, map_more, take_all, drop_more, take-append-drop, take_more, length-map, take-map}
use Rattle.std.proofs.lemmas.List.Concat.{flat_map-append}
use Rattle.tso_ops.specs.declared.ops.Op.{Op}
use Rattle.tso_ops.specs.declared.faults.ValueFault.{ValueFault}
use Rattle.tso_ops.specs.declared.faults.ValueFault.TheVariants.{OutOfMemory, TooManyProcessors}
use Rattle.tso_ops.specs.declared.limits.Tally.{Tally}
use Rattle.tso_ops.specs.Values.{program_by, program_of_lists, in_file_order, list_count, rows}
use Rattle.tso_ops.specs.declared.settings.Version.TheVariants.{One}
use Rattle.tso_ops.specs.Settings.{SettingValue}
use Rattle.tso_ops.specs.Limits.{has_fault, has_entry_fault, IsFaultOf, IsFaultless, KeepsEntries, IsProgram, IsValueRefusal}
use Rattle.tso_ops.specs.Tally.{Admitted, IsAdmitRefusal}
use Rattle.tso_ops.proofs.LimitFacts.{IsFaultOf-next, IsFaultOf-append, not_refused}

-- the new tally has admitted these operations after those that the old one had
abbrev pub AdmitsMore : Tally → Tally → List Op → Type 0
AdmitsMore old new more = (setting : SettingValue) (ops : List Op) → Admitted setting old ops → Admitted setting new (ops ++ more)

pub AdmitsMore-none : (tally : Tally) → AdmitsMore tally tally []
AdmitsMore-none tally setting ops was = rw append-nil was

-- a list is a prefix, the element after it, and the rest
split_at : {X : Type 0} → (xs : List X) (i : ℕ) (x : X) → i < length xs → x ≡ get_or xs i x → xs ≡ take i xs ++ x ∷ drop (i + 1) xs
split_at xs i x within at = sym (take-append-drop i xs) ∙ ap (λ rest. take i xs ++ rest) (drop_more xs i x within ∙ ap (λ y. y ∷ drop (i + 1) xs) (sym at))

-- one more element admitted
pub AdmitsMore-next : {X : Type 0} (op : X → Op) → (old between new : Tally) (xs : List X) (i : ℕ) (x : X) (o : Op) → i < length xs → x ≡ get_or xs i x → o ≡ op x →
    AdmitsMore old between (map op (take i xs)) → ((setting : SettingValue) (ops : List Op) → Admitted setting between ops → Admitted setting new (ops ++ o ∷ [])) → AdmitsMore old new (map op (take (i + 1) xs))
AdmitsMore-next op old between new xs i x o within at is before step setting ops was =
    let prefix = map op (take i xs) in
    let more : map op (take (i + 1) xs) ≡ prefix ++ o ∷ [] = map_more op xs i x within ∙ ap (λ y. prefix ++ op y ∷ []) (sym at) ∙ ap (λ y. prefix ++ y ∷ []) (sym is) in
    rw (more, ← append_assoc) (step setting (ops ++ prefix) (before setting ops was))

-- the refusal of an element is that of the whole list
pub refused_at : {X : Type 0} (op : X → Op) → (old tally : Tally) (xs : List X) (i : ℕ) (x : X) (o : Op) (why : ValueFault) → i < length xs → x ≡ get_or xs i x → o ≡ op x →
    AdmitsMore old tally (map op (take i xs)) → ((setting : SettingValue) (ops : List Op) → Admitted setting tally ops → IsAdmitRefusal setting ops o why) →
    (setting : SettingValue) (ops : List Op) → Admitted setting old ops → why ≢ OutOfMemory → IsFaultOf (has_fault setting) (ops ++ map op xs) why
refused_at op old tally xs i x o why within at is before refusal setting ops was other =
    let prefix = map op (take i xs) in
    let rest = map op (drop (i + 1) xs) in
    let parts : ops ++ map op xs ≡ (ops ++ prefix) ++ o ∷ rest =
    ap (λ ys. ops ++ map op ys) (split_at xs i x within at) ∙ ap (λ ys. ops ++ ys) (map-append op (take i xs) (x ∷ drop (i + 1) xs))
    ∙ ap (λ y. ops ++ (prefix ++ y ∷ rest)) (sym is) ∙ sym (append_assoc ops prefix (o ∷ rest)) in
    let admitted = before setting ops was in
    ⊎_elim (λ memory. absurd (other memory)) (λ first. rw parts (IsFaultOf-next (has_fault setting) (ops ++ prefix) o rest why admitted.faultless first)) (refusal setting (ops ++ prefix) admitted)

-- ---- lists of lists, joined in file order

-- what f gives of each element that g gives
pub flat_map-map : {X Y Z : Type 0} (f : Y → List Z) (g : X → Y) → (xs : List X) → flat_map f (map g xs) ≡ flat_map (λ x. f (g x)) xs
flat_map-map f g [] = refl
flat_map-map f g (x ∷ xs) = ap (λ rest. f (g x) ++ rest) (flat_map-map f g xs)

pub flat_map-next : {X Y : Type 0} (f : X → List Y) → (xs : List X) (i : ℕ) (x : X) → i < length xs → x ≡ get_or xs i x →
    flat_map f (take (i + 1) xs) ≡ flat_map f (take i xs) ++ f x
flat_map-next f xs i x within at =
    let more : take (i + 1) xs ≡ take i xs ++ x ∷ [] = take_more xs i x within ∙ ap (λ y. take i xs ++ y ∷ []) (sym at) in
    ap (flat_map f) more ∙ flat_map-append f (take i xs) (x ∷ []) ∙ ap (λ rest. flat_map f (take i xs) ++ rest) (append-nil (f x))

flat_map-split : {X Y : Type 0} (f : X → List Y) → (xs : List X) (i : ℕ) → flat_map f xs ≡ flat_map f (take i xs) ++ flat_map f (drop i xs)
flat_map-split f xs i = ap (flat_map f) (sym (take-append-drop i xs)) ∙ flat_map-append f (take i xs) (drop i xs)

-- one more list admitted
pub Admitted-row : {X : Type 0} (f : X → List Op) → (setting : SettingValue) (old new : Tally) (xs : List X) (i : ℕ) (x : X) → i < length xs → x ≡ get_or xs i x →
    Admitted setting old (flat_map f (take i xs)) → ((setting : SettingValue) (ops : List Op) → Admitted setting old ops → Admitted setting new (ops ++ f x)) →
    Admitted setting new (flat_map f (take (i + 1) xs))
Admitted-row f setting old new xs i x within at was step = rw (flat_map-next f xs i x within at) (step setting (flat_map f (take i xs)) was)

-- the refusal of a list is that of all lists
pub row_refused : {X : Type 0} (f : X → List Op) → (setting : SettingValue) (xs : List X) (i : ℕ) (x : X) (why : ValueFault) → i < length xs → x ≡ get_or xs i x →
    IsFaultOf (has_fault setting) (flat_map f (take i xs) ++ f x) why → IsFaultOf (has_fault setting) (flat_map f xs) why
row_refused f setting xs i x why within at fault =
    rw (flat_map-split f xs (i + 1), flat_map-next f xs i x within at) (IsFaultOf-append (has_fault setting) (flat_map f (take i xs) ++ f x) (flat_map f (drop (i + 1) xs)) why fault)

-- the operations of a program in file order, list by list
in_file_order-program_by : {X : Type 0} (op : X → Op) (setting : SettingValue) (lists : List (Vec X)) → in_file_order (program_by op setting (rows lists)) ≡ flat_map (λ (row : Vec X). map op row.items) lists
in_file_order-program_by {X} op setting lists =
    flat_map-map (λ ops. ops) (map op) (rows lists) ∙ flat_map-map (map op) (λ (row : Vec X). row.items) lists

pub flat_map-rows : {X : Type 0} (lists : List (Vec X)) → flat_map (λ (row : List X). row) (rows lists) ≡ flat_map (λ (row : Vec X). row.items) lists
flat_map-rows {X} lists = flat_map-map (λ (row : List X). row) (λ (row : Vec X). row.items) lists

list_count-program_by : {X : Type 0} (op : X → Op) (setting : SettingValue) (lists : List (Vec X)) → list_count (program_by op setting (rows lists)) ≡ length lists
list_count-program_by {X} op setting lists = length-map (rows lists) (map op) ∙ length-map lists (λ (row : Vec X). row.items)

-- the setting that a tally may begin with
pub record IsSetting (setting : SettingValue) : Type 0 where
  pub version_one : setting.version ≡ One → setting.first ≡ []
  pub entries : KeepsEntries setting.first

-- lists that a tally has admitted are those of a program
pub program_admitted : {X : Type 0} (op : X → Op) (setting : SettingValue) (lists : List (Vec X)) (tally : Tally) → length lists ≤ 16 → IsSetting setting →
    Admitted setting tally (flat_map (λ (row : Vec X). map op row.items) lists) → IsProgram (program_by op setting (rows lists))
program_admitted op setting lists tally few is admitted = record {
  processors = omega (arith, list_count-program_by op setting lists);
  version_one = is.version_one;
  entries = is.entries;
  limits = rw in_file_order-program_by admitted.limits;
}

-- they are refused for nothing
pub program_accepted : {X : Type 0} (op : X → Op) (setting : SettingValue) (lists : List (Vec X)) (tally : Tally) → length lists ≤ 16 → IsFaultless has_entry_fault setting.first →
    Admitted setting tally (flat_map (λ (row : Vec X). map op row.items) lists) → (why : ValueFault) → IsValueRefusal (program_by op setting (rows lists)) why → ⊥
program_accepted op setting lists tally few faultless admitted why (inl many) = absurd (omega (arith, many.0, list_count-program_by op setting lists))
program_accepted op setting lists tally few faultless admitted why (inr (inl fault)) = not_refused has_entry_fault setting.first why faultless fault.1
program_accepted op setting lists tally few faultless admitted why (inr (inr fault)) =
    not_refused (has_fault setting) _ why admitted.faultless (rw (in_file_order-program_by op setting lists) at fault.2)

-- the refusal of an entry of first values is that of the program
pub entry_refused : {X : Type 0} (op : X → Op) (setting : SettingValue) (lists : List (Vec X)) (why : ValueFault) → length lists ≤ 16 →
    IsFaultOf has_entry_fault setting.first why → IsValueRefusal (program_by op setting (rows lists)) why
entry_refused op setting lists why few fault = inr (inl (omega (arith, list_count-program_by op setting lists), fault))

-- the refusal of an operation is that of the program
pub program_refused : {X : Type 0} (op : X → Op) (setting : SettingValue) (lists : List (Vec X)) (why : ValueFault) → length lists ≤ 16 → IsFaultless has_entry_fault setting.first →
    IsFaultOf (has_fault setting) (flat_map (λ (row : Vec X). map op row.items) lists) why → IsValueRefusal (program_by op setting (rows lists)) why
program_refused op setting lists why few faultless fault =
    inr (inr (omega (arith, list_count-program_by op setting lists), faultless, rw in_file_order-program_by fault))

-- more than 16 lists are refused before all else
pub processors_refused : {X : Type 0} (op : X → Op) (setting : SettingValue) (lists : List (Vec X)) → 16 < length lists →
    IsValueRefusal (program_by op setting (rows lists)) TooManyProcessors
processors_refused op setting lists many = inl (omega (arith, list_count-program_by op setting lists), refl)

map-same : {X : Type 0} (f : X → X) → ((x : X) → f x ≡ x) → (xs : List X) → map f xs ≡ xs
map-same f same [] = refl
map-same f same (x ∷ xs) = ap (λ y. y ∷ map f xs) (same x) ∙ ap (λ rest. x ∷ rest) (map-same f same xs)

-- operations stand for themselves
pub program_by-same : (f : Op → Op) → ((op : Op) → f op ≡ op) → (setting : SettingValue) (lists : List (List Op)) → program_by f setting lists ≡ program_of_lists setting lists
program_by-same f same setting lists = ap (program_of_lists setting) (map-same (map f) (map-same f same) lists)

-- one more copied list
pub rows-next : {X : Type 0} (old new : List (Vec X)) (copied : Vec X) (lists : List (Vec X)) (i : ℕ) (x : Vec X) → i < length lists → x ≡ get_or lists i x →
    rows old ≡ take i (rows lists) → copied.items ≡ x.items → new ≡ old ++ copied ∷ [] → rows new ≡ take (i + 1) (rows lists)
rows-next {X} old new copied lists i x within at before same pushed =
    ap rows pushed ∙ map-append (λ (row : Vec X). row.items) old (copied ∷ []) ∙ ap (λ prefix. prefix ++ copied.items ∷ []) before
    ∙ ap (λ row. take i (rows lists) ++ row ∷ []) (same ∙ ap (λ (row : Vec X). row.items) at)
    ∙ ap (λ prefix. prefix ++ (get_or lists i x).items ∷ []) (take-map (λ (row : Vec X). row.items) i lists)
    ∙ sym (take-map (λ (row : Vec X). row.items) (i + 1) lists ∙ map_more (λ (row : Vec X). row.items) lists i x within)

-- all lists are copied
pub rows-all : {X : Type 0} (copied lists : List (Vec X)) (i : ℕ) → length lists ≤ i → rows copied ≡ take i (rows lists) → rows copied ≡ rows lists
rows-all {X} copied lists i all same = same ∙ take_all i (rows lists) (omega (arith, length-map lists (λ (row : Vec X). row.items)))
